use Rattle.std.proofs.Common.{◌≡◌, ◌∙◌, ap, sym, true}
use Rattle.tc_desk.specs.Logs.{any_pending}
use Rattle.tucson.proofs.Runs.{blocked_at}
use Rattle.tucson.proofs.writing.is_blocked.Goals as goal

pub returns-then-has_pending : goal.returns-then-has_pending
returns-then-has_pending c =
    let pending : any_pending c.log-item.result.items ≡ true =
    ap any_pending (sym c.deref.ensures.value) ∙ sym c.has_pending.ensures ∙ c.if-has_pending.true in
    blocked_at c.args.logs.now c.loop-log.log-index c.log-item.result c.loop-log-test.true c.log-item.is pending
