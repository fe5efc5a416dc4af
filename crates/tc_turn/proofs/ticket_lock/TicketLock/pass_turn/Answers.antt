use Rattle.std.proofs.Common.{rules, []}
use Rattle.tc_turn.proofs.TurnSteps.{passes_turn}
use Rattle.tc_turn.proofs.ticket_lock.TicketLock.pass_turn.Goals as goal

pub fetch_add-turn-requires : goal.fetch_add-turn-requires
fetch_add-turn-requires g c =
    let key = c.args.self.now.table.shared.key in
    let r = c.requires.known in
    (search rules, search rules, passes_turn g.C.Chronicle.history g.C.Chronicle.origin g.C.Chronicle.owner (g.C.Chronicle.origin key.first.value) key.passes key.turns _ _ _ r.0 [] r.3 r.2 r.4 r.1 r.5 r.6)
