use Rattle.std.proofs.Common.{rules}
use Rattle.tc_turn.proofs.SeatSteps.{gathers}
use Rattle.tc_turn.proofs.ticket_lock.TicketLock.gather.Goals as goal

pub load_new_seat-seat-requires : goal.load_new_seat-seat-requires
load_new_seat-seat-requires g c =
    let key = c.args.self.now.table.shared.key in
    (search rules, gathers g.C.Chronicle.history g.C.Chronicle.origin g.C.Chronicle.owner (g.C.Chronicle.origin key.first.value) key.passes key.turns _)
