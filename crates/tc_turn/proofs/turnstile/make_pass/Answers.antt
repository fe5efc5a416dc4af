use Rattle.tc_turn.proofs.PassLists.{turns_for_one}
use Rattle.tc_turn.proofs.turnstile.make_pass.Goals as goal

pub make_pass-seat-requires-clause-left : goal.make_pass-seat-requires-clause-left
make_pass-seat-requires-clause-left g c =
    let maker = c.requires.left.0 in
    let more = c.requires.left.1 in
    (c.args.number, maker.next, more, turns_for_one _ _ _ _ _ maker more)
