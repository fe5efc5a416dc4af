-- The places at which an entry that an agent hasn't made could stand.
use Rattle.std.proofs.Common.{◌≡◌, ℕ, ◌+◌, ◌-◌, ◌<◌, ◌≤◌, true, List, ◌++◌, Contains}
use Rattle.std.proofs.Common.{Some, length, get_or, slice_get, take, drop, sym, ap, subst, ◌∙◌, ⊎_elim, arith}
use Rattle.std.specs.List.Sorted.{IsPartitionPoint}
use Rattle.std.proofs.lemmas.Bool.{cases_lt}
use Rattle.std.proofs.lemmas.List.{get_or_default, length-take-le, take-append-drop}
use Rattle.std.proofs.lemmas.Option.{slice_get-get_or, slice_get_within}
use Rattle.tc_lists.proofs.Places.{slice_get-take, slice_get_behind, slice_get_longer}
use Rattle.tc_model.specs.Calls.{id_of, is_call_of}
use Rattle.tc_model.specs.declared.entries.Entry.{Entry}
use Rattle.tc_rows.specs.Gaps.{IsBehind, IsBetween, IsNextPlace}
use Rattle.tc_rows.specs.Made.{AreMade, HasNoEntry, IsMadeAt}
use Rattle.tc_rows.specs.declared.made.Made.{Made}
use Rattle.tc_rows.proofs.Calls.{All-filter_at, All-filter_from}

module _ (agent number : ℕ) (history : List Entry) (made : List Made) (are : AreMade agent history made)
    (never : HasNoEntry agent number history) (first : ℕ) (inside : first ≤ length made)
    (point : IsPartitionPoint (λ (m : Made). m.number < number) (λ (m : Made). number ≤ m.number) made first)
    (place : ℕ) (within : place ≤ length history) where
  abbrev d : Made
  d = record { number = 0; place = 0 }

  abbrev at : ℕ → Made
  at i = get_or made i d

  front : length (take place history) ≡ place
  front = length-take-le place history within

  whole : take place history ++ drop place history ≡ history
  whole = take-append-drop place history

  -- an entry that the agent made, by its place among them
  found : (k : ℕ) (e : Entry) → slice_get history k ≡ Some e → is_call_of agent e ≡ true
      → (j : ℕ) × (j < length made) × ((at j).place ≡ k) × ((at j).number ≡ (id_of e).number)
  found k e stands by =
      let m : Made = record { number = (id_of e).number; place = k } in
      let has : Contains made m = are.all k e stands by in
      let is : at has.0 ≡ m = get_or_default made has.0 d m has.1 ∙ has.2 in
      (has.0, has.1, ap (λ (x : Made). x.place) is, ap (λ (x : Made). x.number) is)

  -- places rise
  rises : (i j : ℕ) → i ≤ j → j < length made → (at i).place ≤ (at j).place
  rises i j up below =
      ⊎_elim (λ (less : i < j). omega (arith, (are.rise i j d less below).1))
      (λ (from : j ≤ i). let same : i ≡ j = omega (arith, up, from) in omega (arith, ap (λ n. (at n).place) same))
      (cases_lt i j)

  -- between the two places, an entry could stand
  pub between-from : (low high : ℕ) → IsBehind made first low → IsNextPlace made first (length history) high
      → low ≤ place → place ≤ high → IsBetween agent number history place
  between-from low high lower upper over under = record {
    before = All-filter_from (is_call_of agent) (λ e. (id_of e).number < number) (take place history)
        (λ k e stands by.
        let below : k < place = omega (arith, slice_get_within (take place history) k e stands, front) in
        let own : slice_get history k ≡ Some e =
        subst (λ es. slice_get es k ≡ Some e) whole (slice_get_longer (take place history) (drop place history) k e stands) in
        let j = found k e own by in
        ⊎_elim (λ (less : j.0 < first). omega (arith, point.0 j.0 d (omega arith) less, j.3))
        (λ (from : first ≤ j.0).
        let next : slice_get made first ≡ Some (at first) = slice_get-get_or made first d (omega (arith, from, j.1)) in
        absurd (omega (arith, rises first j.0 from j.1, j.2, below, under, upper.some (at first) next)))
        (cases_lt j.0 first));
    behind = All-filter_from (is_call_of agent) (λ e. number < (id_of e).number) (drop place history)
        (λ k e stands by.
        let own : slice_get history (place + k) ≡ Some e =
        subst (λ es. slice_get es (place + k) ≡ Some e) whole
        (slice_get_behind (take place history) (drop place history) (place + k) k (omega (arith, front)) ∙ stands) in
        let other : (id_of e).number ≡ number → ⊥ = All-filter_at (is_call_of agent) (λ x. (id_of x).number ≡ number → ⊥) history (place + k) e never own by in
        let j = found (place + k) e own by in
        ⊎_elim
        (λ (less : j.0 < first).
        let last : ℕ = first - 1 in
        let stands : slice_get made last ≡ Some (at last) = slice_get-get_or made last d (omega (arith, less, inside)) in
        absurd (omega (
          arith,
          rises j.0 last (omega (arith, less)) (omega (arith, less, inside)),
          j.2,
          over,
          lower.some last (at last) (omega (arith, less)) stands,
        )))
        (λ (from : first ≤ j.0).
        let least : number ≤ (id_of e).number = omega (arith, point.1 j.0 d from j.1, j.3) in
        ⊎_elim (λ (more : number < (id_of e).number). more)
        (λ (most : (id_of e).number ≤ number). absurd (other (omega (arith, least, most))))
        (cases_lt number (id_of e).number))
        (cases_lt j.0 first));
  }

  -- and nowhere else
  pub between-low : (low : ℕ) → IsBehind made first low → IsBetween agent number history place → low ≤ place
  between-low low lower is =
      ⊎_elim
      (λ (some : 0 < first).
      let last : ℕ = first - 1 in
      let stands : slice_get made last ≡ Some (at last) = slice_get-get_or made last d (omega (arith, some, inside)) in
      let here : IsMadeAt agent history (at last) = are.each last d (omega (arith, some, inside)) in
      ⊎_elim (λ (before : (at last).place < place). omega (arith, before, lower.some last (at last) (omega (arith, some)) stands))
      (λ (from : place ≤ (at last).place).
      let k : ℕ = (at last).place - place in
      let entry : slice_get (drop place history) k ≡ Some here.entry =
      sym (slice_get_behind (take place history) (drop place history) (at last).place k (omega (arith, front, from)))
      ∙ (ap (λ es. slice_get es (at last).place) whole ∙ here.stands) in
      let above = All-filter_at (is_call_of agent) (λ e. number < (id_of e).number) (drop place history) k here.entry is.behind entry here.by in
      absurd (omega (arith, above, here.number, point.0 last d (omega arith) (omega (arith, some)))))
      (cases_lt (at last).place place))
      (λ (none : first ≤ 0). omega (arith, lower.none (omega (arith, none))))
      (cases_lt 0 first)

  pub between-high : (high : ℕ) → IsNextPlace made first (length history) high → IsBetween agent number history place
      → place ≤ high
  between-high high upper is =
      ⊎_elim
      (λ (some : first < length made).
      let stands : slice_get made first ≡ Some (at first) = slice_get-get_or made first d some in
      let here : IsMadeAt agent history (at first) = are.each first d some in
      ⊎_elim
      (λ (before : (at first).place < place).
      let entry : slice_get (take place history) (at first).place ≡ Some here.entry =
      slice_get-take history place (at first).place here.entry before here.stands in
      let below = All-filter_at (is_call_of agent) (λ e. (id_of e).number < number) (take place history) (at first).place here.entry is.before entry here.by in
      absurd (omega (arith, below, here.number, point.1 first d (omega arith) some)))
      (λ (from : place ≤ (at first).place). omega (arith, from, upper.some (at first) stands))
      (cases_lt (at first).place place))
      (λ (none : length made ≤ first). omega (arith, upper.none none, within))
      (cases_lt first (length made))
