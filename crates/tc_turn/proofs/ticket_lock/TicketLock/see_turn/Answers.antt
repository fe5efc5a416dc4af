use Rattle.std.proofs.Common.{rules}
use Rattle.tc_turn.proofs.TurnSteps.{sees_turn}
use Rattle.tc_turn.proofs.ticket_lock.TicketLock.see_turn.Goals as goal

pub load-requires : goal.load-requires
load-requires g c =
    let key = c.args.self.now.table.shared.key in
    (search rules, search rules, sees_turn g.C.Chronicle.history g.C.Chronicle.origin g.C.Chronicle.owner (g.C.Chronicle.origin key.first.value) key.passes key.turns _ _ _ c.args.ticket c.requires.waits.0 c.requires.waits.1)
