-- Triggered reactions, in parts that follow one another: batches that share their event, and groups of these.
use Rattle.std.specs.Prelude.{◌≡◌, ◌<◌, ◌+◌, ℕ, List, Some, length, slice_get, take}
use Rattle.std.specs.List.{flat_map}
use Rattle.tc_model.specs.Triggers.{Member, members}
use Rattle.tc_replay.specs.declared.group.Batch.{Batch}

abbrev pub members_of : Batch → List Member
members_of b = members b.event b.numbers.items

-- the place lies in the part at `at`, so far behind its first member
pub record LiesAt {X : Type 0} (left : X → List Member) (parts : List X) (place at offset : ℕ) : Type 0 where
  pub part : X
  pub stands : slice_get parts at ≡ Some part
  pub inside : offset < length (left part)
  pub counted : place ≡ length (flat_map left (take at parts)) + offset
