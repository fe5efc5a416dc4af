use Rattle.std.proofs.Common.{◌≡◌, ◌≤◌, ◌+◌, ◌*◌, take}
use Rattle.tc_model.specs.declared.limits.TheConstants.{MOST_GOALS}
use Rattle.tc_bag.specs.Stock.{AddsYounger, tuples_of}
use Rattle.tc_model.specs.Choices.{AnyOne}
use Rattle.tc_model.specs.Cascades.{Begins}
use Rattle.tc_replay.specs.Replays.{wave_of}
use Rattle.tc_replay.proofs.cascade.is_cascade.Given as goal

-- the items before this one begin the cascade
abbrev pub invariant-loop-item : goal.invariant-loop-item
invariant-loop-item l = record {
  begins : Begins AnyOne l.spec l.context l.e (tuples_of l.initial.bag.now) (take l.item-index l.items) (wave_of l.bag l.triggered);
  saved : l.bag.saved ≡ l.initial.bag.saved;
  next : l.bag.next ≤ l.initial.bag.next + MOST_GOALS * l.item-index;
  adds : AddsYounger l.initial.bag l.bag;
}

abbrev pub ghosts-add : goal.ghosts-add
ghosts-add a = record { name = a.blank.name; parts = 1 }
