use Rattle.std.proofs.Common.{IsTrue, rules, arith}
use Rattle.std.proofs.lemmas.Option.{slice_get_within}
use Rattle.tc_session.proofs.Pending.{behind_more, none_pending}
use Rattle.tc_session.proofs.answering.pending_place.Goals as goal

pub loop-behind-init : goal.loop-behind-init
loop-behind-init c k row at pending = let within = slice_get_within c.args.log.now k row at in omega (arith, within)

pub loop-behind-preserved : goal.loop-behind-preserved
loop-behind-preserved c =
    let no : IsTrue c.is_pending_at.result → ⊥ = search rules in
    behind_more c.args.log.now c.loop-behind.behind _ c.is_pending_at.result (omega arith) c.is_pending_at.ensures.told no c.loop-behind.invariant

pub returns : goal.returns
returns c = none_pending c.args.log.now (λ k row at pending. let low = c.loop-behind.invariant k row at pending in omega (arith, low))
