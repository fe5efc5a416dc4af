use Rattle.std.proofs.Common.{◌≡◌, ◌<◌, false}
use Rattle.tc_model.specs.Run.{HasCall}
use Rattle.tc_model.specs.Calls.{call_of}
use Rattle.tc_shared.specs.Passes.{IsPassOf}
use Rattle.tc_shared.proofs.Waiting.{HasWaited}
use Rattle.tc_shared.proofs.centre.SharedCentre.wait.Given as goal

abbrev pub invariant-loop : goal.invariant-loop
invariant-loop g l = record {
  can : (goal.iterator-loop g).can_next l.iterator';
  finite : (goal.iterator-loop g).is_finite l.iterator';
  own : IsPassOf l.self l.pass;
  free : l.pass.holds ≡ false;
  called : HasCall (call_of l.pass.number l.number) l.pass.seen;
  waited : HasWaited l.self l.fn.pass l.pass;
  spent : l.fn.pass.turns ≡ 0 → l.pass ≡ l.fn.pass;
  left : 0 < l.fn.pass.turns → 0 < l.pass.turns;
}
