use Rattle.std.proofs.Common.{◌≡◌, ◌∙◌, ◌-◌, length, sym, ap, subst, arith}
use Rattle.tc_desk.specs.Logs.{any_pending}
use Rattle.tc_sched.specs.Clients.{Client, IsOfScripts}
use Rattle.tc_sched.proofs.Rows.{last-pending}
use Rattle.tc_sched.proofs.actor.Actor.is_waiting.Goals as goal

pub returns-then-count-gt0 : goal.returns-then-count-gt0
returns-then-count-gt0 g c =
    let desk = g.D.Desk.state c.self.inside.desk in
    let scripts = c.self.inside.scripts.now in
    let log = c.log-log.result.now in
    let same : log ≡ desk.log = c.log-log.ensures in
    let of : IsOfScripts desk.names scripts log = subst (IsOfScripts desk.names scripts) (sym same) c.self.invariant.rows in
    c.is_pending.ensures
    ∙ last-pending desk.names scripts log (length log - 1) c.index-log-count.result of (omega (arith, c.if-count-gt0.true)) c.index-log-count.is
    ∙ ap any_pending same
    ∙ ap (λ (v : Client g.row.D.Denot). any_pending (g.D.Desk.state v.desk).log) c.self.view_is
