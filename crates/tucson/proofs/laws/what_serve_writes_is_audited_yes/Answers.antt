use Rattle.tucson.proofs.Audited.{audited-yes}
use Rattle.tucson.proofs.laws.what_serve_writes_is_audited_yes.Goals as goal

pub returns : goal.returns
returns c = audited-yes
