-- Rows in places, as slots.
use Rattle.std.specs.Prelude.{ℕ, ◌≡◌, ◌<◌, ◌≤◌, ◌==◌, ◌++◌, nat_lt, if◌then◌else◌, Bool, IsTrue}
use Rattle.std.specs.Prelude.{List, [], ◌∷◌, length, filter_map, All, Option, Some, None, is_some}
use Rattle.std.specs.Prelude.{IsSome}
use Rattle.std.specs.Option.{option_map}
use Rattle.tc_term.specs.Tree.{Tree}
use Rattle.tc_bag.specs.declared.index.Index.{Index}
use Rattle.tc_bag.specs.declared.slots.Place.{Place}
use Rattle.tc_bag.specs.Ages.{HasRow}
use Rattle.tc_bag.specs.Rows.{tuple_in, no_row}
use Rattle.tc_bag.specs.Slots.{Slot, is_there}

-- the slot of a row by its age, its number among those taken, and its tuple
abbrev pub slot_taken : ℕ → ℕ → Tree → Slot
slot_taken age taken tuple = record { age = age; tuple = tuple; taken = taken }

-- the number of a place's tuple, where it is no gap
abbrev pub row_in : Place → Option ℕ
row_in p = if p.row == no_row then None else Some p.row

-- the number of a place's tuple, where the row is there
abbrev pub row_there : Place → Option ℕ
row_there p = if p.taken == 0 then row_in p else None

-- the tuple at a number that may be given
abbrev pub tuple_by : List (Option Tree) → Option ℕ → Option Tree
tuple_by rows None = None
tuple_by rows (Some row) = tuple_in row rows

-- the tuple of a place, where it is no gap
abbrev pub tuple_of : List (Option Tree) → Place → Option Tree
tuple_of rows p = tuple_by rows (row_in p)

-- the slot of the row in a place, where it is no gap
abbrev pub slot_in : List (Option Tree) → Place → Option Slot
slot_in rows p = option_map (slot_taken p.age p.taken) (tuple_of rows p)

abbrev pub slot_if : List (Option Tree) → Option Place → Option Slot
slot_if rows None = None
slot_if rows (Some p) = slot_in rows p

-- the slots of the rows in these places
abbrev pub slots_of : List (Option Tree) → List Place → List Slot
slots_of rows places = filter_map (slot_in rows) places

-- the tuple of a place whose row is there
abbrev pub there_in : List (Option Tree) → Place → Option Tree
there_in rows p = if p.taken == 0 then tuple_of rows p else None

-- the first slot of this age
abbrev pub slot_at : ℕ → List Slot → Option Slot
slot_at age [] = None
slot_at age (s ∷ ss) = if s.age == age then Some s else slot_at age ss

-- the tuple of the first slot of this age, where that is below the next age
abbrev pub tuple_older : ℕ → ℕ → List Slot → Option Tree
tuple_older next age slots =
    if nat_lt age next then option_map (λ s. s.tuple) (slot_at age slots) else None

-- the ages of places rise
abbrev pub AgesRise : List Place → Type 0
AgesRise [] = Unit {0}
AgesRise (p ∷ ps) = All (λ q. p.age < q.age) ps × AgesRise ps

-- the last place is no gap
abbrev pub EndsFilled : List Place → Type 0
EndsFilled [] = Unit {0}
EndsFilled (p ∷ ps) = (ps ≡ [] → IsTrue (is_some (row_in p))) × EndsFilled ps

-- a place that is no gap has a tuple at its number
abbrev pub HasTuple : List (Option Tree) → Place → Type 0
HasTuple rows p = (row : ℕ) → row_in p ≡ Some row → IsSome (tuple_in row rows)

-- a place's number is no other age's
abbrev pub IsOwn : (ℕ → ℕ) → Place → Type 0
IsOwn age_of p = (row : ℕ) → row_in p ≡ Some row → age_of row ≡ p.age

-- what a list of places keeps: ages rise, the last place is no gap, the rows are counted, and each
-- has a tuple of its own
pub record AreRowPlaces (rows : List (Option Tree)) (places : List Place) (filled : ℕ) : Type 0 where
  pub rise : AgesRise places
  pub ends : EndsFilled places
  pub count : filled ≡ length (slots_of rows places)
  pub full : All (HasTuple rows) places
  pub age_of : ℕ → ℕ
  pub own : All (IsOwn age_of) places

-- a place once its row is gone
abbrev pub gap_of : Place → Place
gap_of p = record { age = p.age; taken = p.taken; row = no_row }

-- the row of this age, with this number, is gone from its place
pub record IsCleared (age : ℕ) (old new : List Place) (row : ℕ) : Type 0 where
  pub before : List Place
  pub place : Place
  pub behind : List Place
  pub was : old ≡ before ++ place ∷ behind
  pub is : new ≡ before ++ gap_of place ∷ behind
  pub same : place.age ≡ age
  pub had : row_in place ≡ Some row

-- the first place that is no gap
abbrev pub IsFirstFilled : Option Place → List Place → Type 0
IsFirstFilled None places = (rows : List (Option Tree)) → slots_of rows places ≡ []
IsFirstFilled (Some p) places = (before : List Place) × (behind : List Place)
    × (places ≡ before ++ p ∷ behind)
    × ((rows : List (Option Tree)) → slots_of rows before ≡ [])

-- the index has the row, where it is there
abbrev pub IsEntered : Index → Slot → Type 0
IsEntered index s = IsTrue (is_there s) → HasRow index s.age s.tuple

-- a search finds the row: it isn't there, or it is not older than the start, and in the index where
-- that is whole
abbrev pub IsFindable : ℕ → Bool → Index → Slot → Type 0
IsFindable start whole index s =
    IsTrue (is_there s) → (start ≤ s.age) × (IsTrue whole → HasRow index s.age s.tuple)
