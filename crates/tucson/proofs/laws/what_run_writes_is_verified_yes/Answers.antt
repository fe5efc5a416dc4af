use Rattle.tucson.proofs.Verified.{verified-yes}
use Rattle.tucson.proofs.laws.what_run_writes_is_verified_yes.Goals as goal

pub returns : goal.returns
returns c = verified-yes
