use Rattle.std.proofs.Common.{sym}
use Rattle.std.proofs.lemmas.Bool.{true≢false}
use Rattle.tc_audit.proofs.Resting.{next-answerable}
use Rattle.tc_audit.proofs.reached.is_quiet.Goals as goal

pub returns-in-Some : goal.returns-in-Some
returns-in-Some g c =
    let r = c.args.reached.now in (
      λ yes. absurd (true≢false (sym yes)),
      λ quiet. absurd (next-answerable r.bag.now r.pending.now c.in-Some.field-0.0 c.in-Some.field-0.1 c.in-Some.ensures.found quiet),
    )
