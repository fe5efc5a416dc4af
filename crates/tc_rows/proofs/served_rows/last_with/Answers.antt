use Rattle.std.proofs.Common.{sym, ap, ◌∙◌}
use Rattle.tc_desk.specs.Logs.{is_served}
use Rattle.tc_rows.proofs.Polling.{last-other, last-served}
use Rattle.tc_rows.proofs.served_rows.last_with.Goals as goal

pub returns-then-is_served : goal.returns-then-is_served
returns-then-is_served c = λ rows row at is last.
    last-served rows c.args.place row at (ap is_served is ∙ (sym c.is_served.ensures ∙ c.if-is_served.true))

pub returns-else-is_served : goal.returns-else-is_served
returns-else-is_served c = λ rows row at is last.
    last-other rows c.args.place row at (ap is_served is ∙ (sym c.is_served.ensures ∙ c.if-is_served.false)) c.args.last last
