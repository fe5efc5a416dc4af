use Rattle.tc_turn.proofs.SeatSteps.{taken_some, taken_none}
use Rattle.tc_turn.proofs.ticket_lock.TicketLock.close.Goals as goal

pub unreachable-requires : goal.unreachable-requires
unreachable-requires g c =
    let key = c.args.self.table.shared.key in
    taken_none g.C.Chronicle.history g.C.Chronicle.origin g.C.Chronicle.owner (g.C.Chronicle.origin key.first.value) key.passes key.turns _ _ _ _ c.close_with-closed.ensures.values.2 c.requires.whole _ c.take-held.ensures.value c.in_default.is

pub returns-clause-origin : goal.returns-clause-origin
returns-clause-origin g c =
    let key = c.args.self.table.shared.key in
    (taken_some g.C.Chronicle.history g.C.Chronicle.origin g.C.Chronicle.owner (g.C.Chronicle.origin key.first.value) key.passes key.turns _ _ _ _ c.close_with-closed.ensures.values.2 c.requires.whole _ c.take-held.ensures.value _ c.in-Some.is).from

pub returns-clause-kept : goal.returns-clause-kept
returns-clause-kept g c =
    let key = c.args.self.table.shared.key in
    (taken_some g.C.Chronicle.history g.C.Chronicle.origin g.C.Chronicle.owner (g.C.Chronicle.origin key.first.value) key.passes key.turns _ _ _ _ c.close_with-closed.ensures.values.2 c.requires.whole _ c.take-held.ensures.value _ c.in-Some.is).all

pub returns-clause-others : goal.returns-clause-others
returns-clause-others g c =
    let key = c.args.self.table.shared.key in
    (taken_some g.C.Chronicle.history g.C.Chronicle.origin g.C.Chronicle.owner (g.C.Chronicle.origin key.first.value) key.passes key.turns _ _ _ _ c.close_with-closed.ensures.values.2 c.requires.whole _ c.take-held.ensures.value _ c.in-Some.is).unowned
