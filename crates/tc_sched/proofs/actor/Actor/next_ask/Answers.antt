use Rattle.std.proofs.Common.{◌≡◌, ◌≤◌, IfNone, IfOk, List, length, subst}
use Rattle.tc_desk.specs.Asks.{steps_of}
use Rattle.tc_desk.specs.declared.rows.LogRow.{LogRow}
use Rattle.tc_sched.specs.Clients.{Client}
use Rattle.tc_sched.proofs.Rows.{none-left, rows-within}
use Rattle.tc_sched.proofs.actor.Actor.next_ask.Goals as goal

pub returns-clause-none : goal.returns-clause-none
returns-clause-none g c =
    let desk = g.D.Desk.state c.self.inside.desk in
    let scripts = c.self.inside.scripts.now in
    let found = c.next_ask-next.result in
    let none : IfOk found (λ next. IfNone next (length (steps_of scripts) ≤ length desk.log)) =
    subst (λ (l : List LogRow). IfOk found (λ next. IfNone next (length (steps_of scripts) ≤ length l))) c.log.ensures c.next_ask-next.ensures.none in
    subst (λ (v : Client g.row.D.Denot). IfOk found (λ next. IfNone next (length (g.D.Desk.state v.desk).log ≡ length (steps_of v.scripts)))) c.self.view_is
    (none-left found (length desk.log) (length (steps_of scripts)) (rows-within desk.names scripts desk.log c.self.invariant.rows) none)
