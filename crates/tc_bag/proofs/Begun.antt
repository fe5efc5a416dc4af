-- The rows at the first mark, and those of them that went since.
use Rattle.std.proofs.Common.{◌≡◌, ◌≢◌, ◌<◌, ◌-◌, ◌==◌, ◌||◌, ◌&&◌, ◌⊎◌, Option, nat_lt, ℕ, Bool, true, false, cond, inl, inr, Some, None, List, [], ◌∷◌, get_or, slice_get, map, filter, All, Contains, refl, ap, sym, ◌∙◌, arith}
use Rattle.std.proofs.lemmas.Bool.{cases_Bool, cases_eq, eqb-true, eq-eqb}
use Rattle.std.proofs.lemmas.Bool.Decides.{nat_tests}
use Rattle.std.proofs.lemmas.List.Elements.{All-head, All-tail, All-map, All-filter, All-contains}
use Rattle.std.specs.Option.{option_map}
use Rattle.std.proofs.lemmas.List.{get_or-map, length-map}
use Rattle.std.proofs.lemmas.Option.{same_Some}
use Rattle.tc_lists.proofs.Filters.{All-filter_each, map-filter_alike}
use Rattle.tc_lists.proofs.Places.{Contains-slice_get}
use Rattle.tc_bag.specs.declared.slots.Mark.{Mark}
use Rattle.tc_bag.specs.Places.{slot_at, tuple_older}
use Rattle.tc_bag.specs.Stock.{Row, AgesRiseBelow, tuple_at, begun, HasGone}
use Rattle.tc_bag.specs.Slots.{Slot, row_of, is_there, is_older, was_there, rows_now, rows_then, stock_of, InOrder, IsLogged, IsSound, tuple_there}
use Rattle.tc_bag.proofs.Ages.{IsOther}
use Rattle.tc_bag.proofs.ByAge.{behind_others}
use Rattle.tc_bag.proofs.Stocks.{front_row, at-first, at-later, rows-at, sound-rises}

-- the rows of slots that pass a test
abbrev pub rows_of : (Slot → Bool) → List Slot → List Row
rows_of p ss = map row_of (filter p ss)

module _ (p : Slot → Bool) where
  rows_of-cons : (s : Slot) (ss : List Slot) → rows_of p (s ∷ ss) ≡ front_row (p s) (row_of s) (rows_of p ss)
  rows_of-cons s ss = go (p s)
    where
      go : (b : Bool) → map row_of (cond b (s ∷ filter p ss) (filter p ss)) ≡ front_row b (row_of s) (rows_of p ss)
      go true = refl
      go false = refl

  -- their ages rise
  pub rows_of-rise : (next : ℕ) (ss : List Slot) → InOrder ss → All (λ s. s.age < next) ss → AgesRiseBelow (rows_of p ss) next
  rows_of-rise next [] order below = tt
  rows_of-rise next (s ∷ ss) order below =
      let rest = rows_of-rise next ss order.1 (All-tail (λ t. t.age < next) s ss below) in
      let above : All (λ r. s.age < r.age) (rows_of p ss) =
      All-map (λ r. s.age < r.age) row_of (filter p ss) (All-filter p (λ t. s.age < t.age) ss order.0) in
      elim (p s) as (λ b. AgesRiseBelow (map row_of (cond b (s ∷ filter p ss) (filter p ss))) next) [
        | true ↦ (All-head (λ t. t.age < next) s ss below, above, rest)
        | false ↦ rest
      ]

  -- the row of a slot that passes is among them
  pub rows_of-has : (ss : List Slot) → All (λ s. p s ≡ true → Contains (rows_of p ss) (row_of s)) ss
  rows_of-has ss =
      All-filter_each p (λ s. Contains (rows_of p ss) (row_of s)) ss
      (λ k d inside.
      let s = get_or (filter p ss) k d in (
        k,
        omega (arith, inside, length-map (filter p ss) row_of),
        get_or-map row_of (filter p ss) k d (row_of s) inside,
      ))

-- the tuple of an age, of the rows below another
pub older-at : (age next : ℕ) (ss : List Slot) → InOrder ss → tuple_older next age ss ≡ tuple_at age (rows_of (is_older next) ss)
older-at age next [] order = none (nat_lt age next)
  where
    none : (b : Bool) → cond b (option_map (λ (s : Slot). s.tuple) None) None ≡ None
    none true = refl
    none false = refl
older-at age next (s ∷ ss) order =
    elim (cases_Bool (s.age == age)) [
      | inl same ↦
          let is : s.age ≡ age = eqb-true s.age age same in
          let others = behind_others age s ss is order.0 in
          ap (λ b. cond (nat_lt age next) (option_map (λ (t : Slot). t.tuple) (cond b (Some s) (slot_at age ss))) None) same
          ∙ ap (λ a. cond (nat_lt a next) (Some s.tuple) None) (sym is)
          ∙ sym (ap (tuple_at age) (rows_of-cons (is_older next) s ss)
          ∙ at-first age (is_older next s) (row_of s) (rows_of (is_older next) ss) same
          (All-map (IsOther age) row_of (filter (is_older next) ss) (All-filter (is_older next) (λ t. t.age ≢ age) ss others)))
      | inr other ↦
          ap (λ b. cond (nat_lt age next) (option_map (λ (t : Slot). t.tuple) (cond b (Some s) (slot_at age ss))) None) other
          ∙ older-at age next ss order.1
          ∙ sym (ap (tuple_at age) (rows_of-cons (is_older next) s ss)
          ∙ at-later age (is_older next s) (row_of s) (rows_of (is_older next) ss) other)
    ]

abbrev no_mark : Option Mark
no_mark = None

-- at a first mark all rows were there that are older
was_older : (count next age taken : ℕ) → count ≡ 0 → (nat_lt age next && ((taken == 0) || nat_lt count taken)) ≡ nat_lt age next
was_older count next age taken none = grind (arith, nat_tests)

module _ (slots : List Slot) (next : ℕ) (log : List ℕ) (room : ℕ) where
  pub begun-older : (m : Mark) (ms : List Mark) → IsSound slots next log room (m ∷ ms)
      → begun (stock_of slots next (m ∷ ms)) ≡ rows_of (is_older m.next) slots
  begun-older m ms sound =
      map-filter_alike row_of (was_there m.taken m.next) (is_older m.next) slots
      (λ k d inside. was_older m.taken m.next (get_or slots k d).age (get_or slots k d).taken sound.starts)

  pub begun-rises : (marks : List Mark) → IsSound slots next log room marks → AgesRiseBelow (begun (stock_of slots next marks)) next
  begun-rises [] sound = sound-rises slots next log room [] sound
  begun-rises (m ∷ ms) sound = rows_of-rise (was_there m.taken m.next) next slots sound.order sound.below

  -- a row is there, or its age is in the list
  there_or_gone : All (IsLogged log) slots → All (λ s. Contains (rows_now slots) (row_of s) ⊎ Contains log s.age) slots
  there_or_gone logged k d inside =
      let s = get_or slots k d in
      elim (cases_eq s.taken 0) [
        | inl none ↦ inl (rows_of-has is_there slots k d inside (eq-eqb s.taken 0 none))
        | inr some ↦ inr (Contains-slice_get log (s.taken - 1) s.age (logged k d inside (omega (arith, some))))
      ]

  pub begun-gone : (marks : List Mark) → IsSound slots next log room marks → HasGone log (stock_of slots next marks)
  begun-gone [] sound row has = inl has
  begun-gone (m ∷ ms) sound row has =
      let P : Row → Type 0 = λ r. Contains (rows_now slots) r ⊎ Contains log r.age in
      All-contains P (rows_then m.taken m.next slots) row
      (All-map P row_of (filter (was_there m.taken m.next) slots)
      (All-filter (was_there m.taken m.next) (λ s. P (row_of s)) slots (there_or_gone sound.logged)))
      has

  -- the tuple of an age, by the first mark
  pub begun-marked : (marks : List Mark) (m : Mark) (age : ℕ) → IsSound slots next log room marks → slice_get marks 0 ≡ Some m
      → tuple_older m.next age slots ≡ tuple_at age (begun (stock_of slots next marks))
  begun-marked [] m age sound at =
      let none : no_mark ≡ Some m = at in
      absurd (cc)
  begun-marked (n ∷ ns) m age sound at =
      ap (λ (k : Mark). tuple_older k.next age slots) (sym (same_Some n m at))
      ∙ older-at age n.next slots sound.order ∙ ap (tuple_at age) (sym (begun-older n ns sound))

  pub begun-unmarked : (marks : List Mark) (age : ℕ) → IsSound slots next log room marks → slice_get marks 0 ≡ None
      → tuple_there age slots ≡ tuple_at age (begun (stock_of slots next marks))
  begun-unmarked [] age sound at = rows-at age slots sound.order
  begun-unmarked (n ∷ ns) age sound at =
      let none : Some n ≡ None = at in
      absurd (cc)
