use Rattle.std.proofs.Common.{rules}
use Rattle.tc_turn.proofs.PassSeats.{value_to_publish, own_after_put}
use Rattle.tc_turn.proofs.turnstile.Turnstile.leave.Goals as goal

pub publish-requires-clause-grown : goal.publish-requires-clause-grown
publish-requires-clause-grown g c =
    let grown = c.requires.grown in
    let seat = c.pass.inside.seat in
    value_to_publish {O = g.row.C-Origin.Denot} g.C.Chronicle.history g.C.Chronicle.owner seat.table_id seat.me c.put_value.new.seat.me c.args.pass.now c.args.held.value _ _ _ c.entries-entries.result c.pass.invariant c.pass.view_is c.requires.held c.put_value.ensures.seat grown.0 grown.1 grown.2 c.entries-entries.ensures (search rules)

pub publish-requires-clause-mine : goal.publish-requires-clause-mine
publish-requires-clause-mine g c =
    let seat = c.pass.inside.seat in
    own_after_put {O = g.row.C-Origin.Denot} g.C.Chronicle.owner seat.me c.put_value.new.seat.me c.args.held.value _ _ _ c.pass.invariant c.put_value.ensures.seat
