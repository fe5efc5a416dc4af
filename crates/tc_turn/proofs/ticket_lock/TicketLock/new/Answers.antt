use Rattle.std.proofs.Common.{◌∷◌, [], List, Option, sym, subst}
use Rattle.atomic_table.specs.Table.{opening}
use Rattle.tc_turn.specs.Order.{IsOrderly}
use Rattle.tc_turn.specs.Views.{maker_view}
use Rattle.tc_turn.proofs.SeatSteps.{opens}
use Rattle.tc_turn.proofs.ticket_lock.TicketLock.new.Goals as goal

pub new-requires-2 : goal.new-requires-2
new-requires-2 g c =
    let key = c.args.founding.now in
    let H = g.C.Chronicle.history in
    let O = g.C.Chronicle.origin in
    let W = g.C.Chronicle.owner in
    let first = O key.first.value in
    let s = c.requires.slots in
    subst (λ (xs : List (Option g.row.C.Denot)). IsOrderly H O W first key.passes key.turns (opening (0 ∷ 0 ∷ 0 ∷ []) xs (maker_view first key.passes key.turns))) (sym s.1) (opens H O W first key.passes key.turns s.0 s.2 s.3 c.requires.fit)
