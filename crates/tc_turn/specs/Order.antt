-- The rule of the turnstile's table: what holds of its words, its slot and all views between steps.
-- Word 0 counts the tickets, word 1 the turns that were passed on, word 2 the known entries.
use Rattle.std.specs.Prelude.{◌≡◌, ℕ, ◌+◌, ◌*◌, ◌<◌, ◌≤◌, ◌⊎◌, List, [], true, Option, None}
use Rattle.std.specs.Prelude.{Some, length, slice_index, cond, ◌==◌, nat_lt, sum_by, All}
use mathlib.Core.Option.{some, none}
use mathlib.Core.List.{IsPrefix}
use lib.ListN.{get_elem?}
use Rattle.atomic_table.specs.Table.{State}
use Rattle.tc_turn.specs.declared.view.View.{View}
use Rattle.tc_turn.specs.declared.view.PassRecord.{PassRecord}
use Rattle.tc_turn.specs.Owners.{entries_of}

-- 1 where x is n, else 0
abbrev pub one_if_same : ℕ → ℕ → ℕ
one_if_same n x = cond (n == x) 1 0

-- 1 where x is below n, else 0
abbrev pub one_if_below : ℕ → ℕ → ℕ
one_if_below n x = cond (nat_lt x n) 1 0

-- 1 where the option has x, else 0
abbrev pub one_if_in : ℕ → Option ℕ → ℕ
one_if_in x None = 0
one_if_in x (Some n) = one_if_same n x

-- 1 where the record is that of the number n, else 0
abbrev pub one_if_record : {E : Type 0} → ℕ → PassRecord E → ℕ
one_if_record n e = one_if_same e.number n

module _ {E O : Type 0} where
  -- how often the view has the ticket x
  abbrev pub ticket_count : ℕ → View E O → ℕ
  ticket_count x v = one_if_in x v.ticket

  -- how often the number n stands in the view, as its own or as that of a pass that has ended
  abbrev pub number_count : ℕ → View E O → ℕ
  number_count n v = one_if_in n v.number + sum_by (one_if_record n) v.ended

  -- how many turns the view has left
  abbrev pub turns_left : View E O → ℕ
  turns_left v = v.turns

-- some view is on turn
abbrev pub SomeOnTurn : {E O : Type 0} → List (View E O) → Type 0
SomeOnTurn {E} {O} views =
    (id : ℕ) × (v : View E O) × (get_elem? views id ≡ some v) × (v.on_turn ≡ true)

-- the slot has a value
abbrev pub IsStored : {C : Type 0} → List (mathlib.Core.Option.Option (Option C)) → Type 0
IsStored {C} homes = (value : C) × (get_elem? homes 0 ≡ some (some (Some value)))

module _ {E : Type 0} (owner : E → Option ℕ) (known : List E) where
  -- a pass that has ended knew a beginning of the known list, and has its number's entries of it
  pub record FitsRecord (e : PassRecord E) : Type 0 where
    pub seen : IsPrefix e.seen known
    pub mine : entries_of owner e.number known ≡ e.mine

  -- a view agrees with the known list, the turnstile's origin, the word of turns and the next number
  pub record Fits {O : Type 0} (first : O) (turn next : ℕ) (id : ℕ) (v : View E O) : Type 0 where
    -- its origin is the turnstile's
    pub origin : (o : O) → v.origin ≡ Some o → o ≡ first
    -- it knows a beginning of the list, and has read no greater count
    pub seen : IsPrefix v.seen known
    pub floor : v.floor ≤ length known
    -- its entries are those that its number owns
    pub mine : (n : ℕ) → v.number ≡ Some n → entries_of owner n known ≡ v.mine
    -- on turn it has the ticket whose turn it is, and knows the whole list
    pub on_turn : v.on_turn ≡ true → (v.ticket ≡ Some turn) × (v.seen ≡ known)
    -- only a pass has a ticket, and only the maker the next number
    pub holder : (t : ℕ) → v.ticket ≡ Some t → (n : ℕ) × (v.number ≡ Some n)
    pub maker : (n : ℕ) → v.next ≡ Some n → (id ≡ 0) × (n ≡ next)
    -- the passes that it has taken in fit too
    pub ended : All FitsRecord v.ended

module _ {C E O : Type 0} (history : C → List E) (origin : C → O) (owner : E → Option ℕ) where
  -- the rule, for a turnstile with this origin and this many passes of so many turns each
  pub record IsOrderly (first : O) (passes share : ℕ) (s : State (Option C) (View E O))
      : Type 0 where
    pub known : List E
    pub next : ℕ
    pub wide : length s.words ≡ 3
    -- the tickets in the views are those taken whose turn was not passed on, each once
    pub passed : slice_index s.words 1 ≤ slice_index s.words 0
    pub tickets : (x : ℕ) → sum_by (ticket_count x) s.views + one_if_below (slice_index s.words 1) x
        ≡ one_if_below (slice_index s.words 0) x
    -- the value is stored in the slot exactly while no view is on turn
    pub place : SomeOnTurn s.views ⊎ IsStored s.homes
    pub empty : SomeOnTurn s.views → get_elem? s.homes 0 ≡ some none
    -- there is one known list, for which the stored value stands
    pub count : slice_index s.words 2 ≡ length known
    pub slot : (value : C) → get_elem? s.homes 0 ≡ some (some (Some value))
        → (history value ≡ known) × (origin value ≡ first)
    -- each view agrees with it, and a number that was not given yet owns none of its entries
    pub each : (id : ℕ) (v : View E O) → get_elem? s.views id ≡ some v
        → Fits owner known first (slice_index s.words 1) next id v
    pub unowned : (n : ℕ) → next ≤ n → entries_of owner n known ≡ []
    -- the maker has the next number, and each number that was given stands in one place
    pub maker : (v : View E O) × (get_elem? s.views 0 ≡ some v) × (v.next ≡ Some next)
    pub once : (n : ℕ) → sum_by (number_count n) s.views ≡ one_if_below next n
    pub few : next ≤ passes
    -- no more tickets are taken than there are turns
    pub bounded : slice_index s.words 0 + sum_by turns_left s.views ≤ passes * share
    pub fit : passes * share < 18446744073709551616
