use Rattle.std.proofs.Common.{rules, []}
use Rattle.tc_turn.proofs.TurnSteps.{publishes}
use Rattle.tc_turn.proofs.ticket_lock.TicketLock.publish.Goals as goal

pub fetch_add-requires : goal.fetch_add-requires
fetch_add-requires g c =
    let key = c.args.self.now.table.shared.key in
    let r = c.requires.grown in
    (search rules, search rules, publishes g.C.Chronicle.history g.C.Chronicle.origin g.C.Chronicle.owner (g.C.Chronicle.origin key.first.value) key.passes key.turns _ _ _ r.1 [] r.0 r.2 c.args.count r.5 r.3 r.4 r.6 r.7 r.8 r.9)
