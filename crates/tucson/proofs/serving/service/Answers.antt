use Rattle.std.proofs.Common.{refl, inl}
use Rattle.tc_lists.proofs.Results.{OnErr-always}
use Rattle.tucson.proofs.serving.service.Goals as goal

pub returns-in_err-opened-clause-door : goal.returns-in_err-opened-clause-door
returns-in_err-opened-clause-door g c = OnErr-always _ _ (inl refl)
