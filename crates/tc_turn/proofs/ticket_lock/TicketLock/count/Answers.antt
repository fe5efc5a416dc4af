use Rattle.std.proofs.Common.{rules}
use Rattle.tc_turn.proofs.TurnSteps.{reads_count}
use Rattle.tc_turn.proofs.ticket_lock.TicketLock.count.Goals as goal

pub load-requires : goal.load-requires
load-requires g c =
    let key = c.args.self.now.table.shared.key in
    (search rules, search rules, reads_count g.C.Chronicle.history g.C.Chronicle.origin g.C.Chronicle.owner (g.C.Chronicle.origin key.first.value) key.passes key.turns _ _ _)
