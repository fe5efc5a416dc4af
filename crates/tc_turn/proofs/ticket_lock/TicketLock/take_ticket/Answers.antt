use Rattle.std.proofs.Common.{rules}
use Rattle.tc_turn.proofs.TurnSteps.{takes_ticket}
use Rattle.tc_turn.proofs.ticket_lock.TicketLock.take_ticket.Goals as goal

pub fetch_add-requires : goal.fetch_add-requires
fetch_add-requires g c =
    let key = c.args.self.now.table.shared.key in
    let idle = c.requires.idle in
    (search rules, search rules, takes_ticket g.C.Chronicle.history g.C.Chronicle.origin g.C.Chronicle.owner (g.C.Chronicle.origin key.first.value) key.passes key.turns _ _ _ idle.0 idle.1 idle.2 idle.3)
