use Rattle.std.proofs.Common.{◌+◌, refl, arith}
use Rattle.tc_calls.proofs.Noting.{answer-behind, run-front}
use Rattle.tc_calls.proofs.places.note_turn.Goals as goal

pub note_call-requires-clause-run : goal.note_call-requires-clause-run
note_call-requires-clause-run c = run-front c.args.history.now (c.args.before + 1) c.requires.run

pub loop-place-init : goal.loop-place-init
loop-place-init c = record {
  behind = omega arith;
  places = c.note_call.ensures.places;
  agents = refl;
}

pub note_answer-requires-clause-run : goal.note_answer-requires-clause-run
note_answer-requires-clause-run c = run-front c.args.history.now (c.loop-place.place + 1) c.requires.run

pub note_answer-requires-clause-answer : goal.note_answer-requires-clause-answer
note_answer-requires-clause-answer c = λ e at.
    answer-behind c.args.history.now (c.args.before + 1) c.loop-place.place e c.requires.answers
    c.loop-place.invariant.behind at
