-- Triggered reactions, in batches that share their event.
use Rattle.std.specs.Prelude.{◌≡◌, ◌<◌, ℕ, All, List, [], ◌∷◌, length, drop}
use Rattle.std.specs.List.{flat_map}
use Rattle.tc_model.specs.Triggers.{Member, members}
use Rattle.tc_cascade.specs.declared.queue.Batch.{Batch}

abbrev pub members_of : Batch → List Member
members_of b = members b.event b.numbers.items

-- the members of the batches, in order, without so many of the first
abbrev pub triggered_in : List Batch → ℕ → List Member
triggered_in batches place = drop place (flat_map members_of batches)

-- a batch has a clause
abbrev pub HasSome : Batch → Type 0
HasSome b = 0 < length b.numbers.items

-- the place is one of the first batch, if there is one
abbrev pub IsInFirst : List Batch → ℕ → Type 0
IsInFirst [] place = place ≡ 0
IsInFirst (b ∷ bs) place = place < length b.numbers.items

pub record IsQueue (batches : List Batch) (place len : ℕ) : Type 0 where
  pub some : All HasSome batches
  pub inside : IsInFirst batches place
  pub count : len ≡ length (triggered_in batches place)
