use Rattle.std.proofs.Common.{map, take}
use Rattle.tc_model.specs.Events.{event_of}
use Rattle.tc_replay.specs.Replays.{Raises}
use Rattle.tc_replay.proofs.trying.raise_all.Given as goal

abbrev pub invariant-loop-effect : goal.invariant-loop-effect
invariant-loop-effect l = Raises l.spec (map event_of (take l.effect-index l.effects)) l.initial.triggered l.triggered

abbrev pub ghosts-add : goal.ghosts-add
ghosts-add a = record { name = a.blank.name; parts = 1 }
