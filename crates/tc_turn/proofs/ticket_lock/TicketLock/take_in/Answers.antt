use Rattle.std.proofs.Common.{rules}
use Rattle.tc_turn.proofs.SeatSteps.{joins}
use Rattle.tc_turn.proofs.ticket_lock.TicketLock.take_in.Goals as goal

pub join_seat-requires : goal.join_seat-requires
join_seat-requires g c =
    let key = c.args.self.now.table.shared.key in
    let r = c.requires.other in
    (search rules, search rules, r.empty, search rules, joins g.C.Chronicle.history g.C.Chronicle.origin g.C.Chronicle.owner (g.C.Chronicle.origin key.first.value) key.passes key.turns _ _ _ _ r.number r.ticket r.off r.no_next r.none_ended)
