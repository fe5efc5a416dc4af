use Rattle.std.proofs.Common.{sym}
use Rattle.std.proofs.lemmas.Bool.{true≢false}
use Rattle.tc_pending.proofs.Wanting.{found-not_free}
use Rattle.tc_pending.proofs.asking.is_free.Goals as goal

pub returns-in-Some-clause-exact : goal.returns-in-Some-clause-exact
returns-in-Some-clause-exact g c = (
  λ yes. absurd (true≢false (sym yes)),
  λ free. absurd
      (found-not_free c.args.bag.now.now c.args.request.now c.in-Some.field-0.0 c.in-Some.field-0.1.now c.in-Some.ensures.found free),
)
