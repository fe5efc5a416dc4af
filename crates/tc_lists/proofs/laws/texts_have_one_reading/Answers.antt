use Rattle.std.proofs.Common.{IsTrue}
use Rattle.tc_lists.proofs.OneReading.{one_at_front, one_list}
use Rattle.tc_lists.proofs.laws.texts_have_one_reading.Goals as goal

pub returns-clause-front : goal.returns-clause-front
returns-clause-front g c good text read again = one_at_front (λ x. IsTrue (good x)) text read again

pub returns-clause-list : goal.returns-clause-list
returns-clause-list g c good text read again = one_list (λ x. IsTrue (good x)) text read again
