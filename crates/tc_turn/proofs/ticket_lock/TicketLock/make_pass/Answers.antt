use Rattle.std.proofs.Common.{rules}
use Rattle.tc_turn.proofs.SeatSteps.{splits}
use Rattle.tc_turn.proofs.ticket_lock.TicketLock.make_pass.Goals as goal

pub split_seat-requires : goal.split_seat-requires
split_seat-requires g c =
    let key = c.args.self.now.table.shared.key in
    let r = c.requires.left in
    (search rules, search rules, splits g.C.Chronicle.history g.C.Chronicle.origin g.C.Chronicle.owner (g.C.Chronicle.origin key.first.value) key.passes key.turns _ _ r.0 r.1 r.2 r.3)
