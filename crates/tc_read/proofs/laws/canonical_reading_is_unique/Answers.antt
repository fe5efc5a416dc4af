use Rattle.tc_read.proofs.AtFront.{IsCanonicalAt-same, IsLongestCanonicalAt-same}
use Rattle.tc_read.proofs.laws.canonical_reading_is_unique.Goals as goal

pub returns-clause-same : goal.returns-clause-same
returns-clause-same c = IsCanonicalAt-same

pub returns-clause-longest : goal.returns-clause-longest
returns-clause-longest c = IsLongestCanonicalAt-same
