use Rattle.std.proofs.Common.{sym, ◌∙◌}
use Rattle.tc_runner.proofs.Left.{IsWaiting-last}
use Rattle.tc_runner.proofs.clients.waits.Goals as goal

pub returns : goal.returns
returns c =
    IsWaiting-last c.args.scripts.now c.args.log.now c.centre_of.result c.requires
    (sym c.has_pending.ensures ∙ c.if-not-has_pending.false) c.centre_of.ensures
