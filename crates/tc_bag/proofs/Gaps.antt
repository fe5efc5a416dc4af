-- Rows in places, and the slots that they give.
use Rattle.std.proofs.Common.{◌≡◌, ◌≢◌, ◌<◌, ◌≤◌, ◌-◌, ◌+◌, length, slice_get, length-append, nat_lt, is_some, inl, inr, not, ℕ, zero, suc, Bool, true, false, cond, IsTrue, Option, Some, None, List, [], ◌∷◌, ◌++◌, get_or, set, take, drop, map, filter, All, refl, ap, sym, subst, ◌∙◌, arith}
use Rattle.std.proofs.lemmas.Bool.{eq-eqb, true≢false, cases_lt, ltb-true, lt-ltb, ltb-false}
use Rattle.std.proofs.lemmas.List.{map-append, take-append-drop, append_assoc, get_or-take, get_or-drop, length-take-le, length-drop, take_all}
use Rattle.std.proofs.lemmas.List.Elements.{All-head, All-tail, All-weaker, All-cons, All-nil, All-append, All-filter, filter-append, filter_map-append}
use Rattle.std.specs.List.Sorted.{IsPartitionPoint, IsPartitionedBy}
use Rattle.std.specs.List.{cons_option, HoldsAt}
use Rattle.std.specs.Option.{option_map}
use Rattle.std.proofs.Math.Seq.{take-append_seam}
use Rattle.tc_term.specs.Tree.{Tree}
use Rattle.tc_bag.specs.declared.slots.Place.{Place}
use Rattle.tc_bag.specs.Places.{slot_taken, slot_in, slots_of, slot_at, row_in, tuple_of, tuple_by, HasTuple, AgesRise, EndsFilled}
use Rattle.tc_bag.specs.Slots.{Slot, InOrder, IsYoungest, is_not_of, with_taken}
use Rattle.tc_bag.proofs.ByAge.{filter-others, map-others, with_taken-other, slot_at-pass, slot_at-others, slot_at-none, slot_at-all}
use Rattle.tc_lists.proofs.Elements.{All-append_left, All-append_right}
use Rattle.tc_lists.proofs.Parts.{nil_or_push, split_read}
use Rattle.tc_lists.proofs.Sets.{set_parts}
use Rattle.tc_lists.proofs.Places.{push_from_last}

not_nil : {X : Type 0} (xs ys : List X) (x : X) → xs ++ x ∷ ys ≡ [] → ⊥
not_nil xs ys x none = absurd (omega (arith, ap length none, length-append xs (x ∷ ys)))

-- slots have the ages of their places
pub slots-All : (rows : List (Option Tree)) (P : ℕ → Type 0) (ps : List Place) → All (λ p. P p.age) ps → All (λ s. P s.age) (slots_of rows ps)
slots-All rows P [] has = All-nil (λ s. P s.age)
slots-All rows P (p ∷ ps) has = go (tuple_of rows p) (All-head (λ q. P q.age) p ps has) (slots-All rows P ps (All-tail (λ q. P q.age) p ps has))
  where
    go : (o : Option Tree) → P p.age → All (λ s. P s.age) (slots_of rows ps)
        → All (λ s. P s.age) (cons_option (option_map (slot_taken p.age p.taken) o) (slots_of rows ps))
    go None here rest = rest
    go (Some t) here rest = All-cons (λ s. P s.age) (slot_taken p.age p.taken t) (slots_of rows ps) here rest

pub slots-append : (rows : List (Option Tree)) (ps qs : List Place) → slots_of rows (ps ++ qs) ≡ slots_of rows ps ++ slots_of rows qs
slots-append rows ps qs = filter_map-append (slot_in rows) ps qs

pub slots-others : (rows : List (Option Tree)) (age : ℕ) (ps : List Place) → All (λ p. p.age ≢ age) ps → All (λ s. s.age ≢ age) (slots_of rows ps)
slots-others rows age ps others = slots-All rows (λ a. a ≢ age) ps others

-- there are no more rows than places
pub slots_most : (rows : List (Option Tree)) (ps : List Place) → length (slots_of rows ps) ≤ length ps
slots_most rows [] = omega arith
slots_most rows (p ∷ ps) = go (tuple_of rows p) (slots_most rows ps)
  where
    go : (o : Option Tree) → length (slots_of rows ps) ≤ length ps
        → length (cons_option (option_map (slot_taken p.age p.taken) o) (slots_of rows ps)) ≤ length (p ∷ ps)
    go None most = omega (arith, most)
    go (Some t) most = omega (arith, most)

-- slots are in the order of places
pub rise-order : (rows : List (Option Tree)) (ps : List Place) → AgesRise ps → InOrder (slots_of rows ps)
rise-order rows [] rise = tt
rise-order rows (p ∷ ps) rise = go (tuple_of rows p) (slots-All rows (λ age. p.age < age) ps rise.0) (rise-order rows ps rise.1)
  where
    go : (o : Option Tree) → All (λ s. p.age < s.age) (slots_of rows ps) → InOrder (slots_of rows ps)
        → InOrder (cons_option (option_map (slot_taken p.age p.taken) o) (slots_of rows ps))
    go None above order = order
    go (Some t) above order = (above, order)

-- those before a place are older, and those behind it younger
pub rise-before : (ps : List Place) (p : Place) (qs : List Place) → AgesRise (ps ++ p ∷ qs) → All (λ q. q.age < p.age) ps
rise-before [] p qs rise = All-nil (λ q. q.age < p.age)
rise-before (r ∷ ps) p qs rise =
    All-cons (λ q. q.age < p.age) r ps
    (All-head (λ q. r.age < q.age) p qs (All-append_right (λ q. r.age < q.age) ps (p ∷ qs) rise.0))
    (rise-before ps p qs rise.1)

pub rise-back : (ps qs : List Place) → AgesRise (ps ++ qs) → AgesRise qs
rise-back [] qs rise = rise
rise-back (r ∷ ps) qs rise = rise-back ps qs rise.1

pub rise-front : (ps qs : List Place) → AgesRise (ps ++ qs) → AgesRise ps
rise-front [] qs rise = tt
rise-front (r ∷ ps) qs rise = (All-append_left (λ q. r.age < q.age) ps qs rise.0, rise-front ps qs rise.1)

-- they still do where a place is exchanged for another of its age
pub rise-again : (ps : List Place) (p q : Place) (qs : List Place) → p.age ≡ q.age → AgesRise (ps ++ p ∷ qs) → AgesRise (ps ++ q ∷ qs)
rise-again [] p q qs same rise = (subst (λ age. All (λ r. age < r.age) qs) same rise.0, rise.1)
rise-again (o ∷ ps) p q qs same rise =
    let behind = All-append_right (λ r. o.age < r.age) ps (p ∷ qs) rise.0 in
    let here : o.age < q.age = subst (λ age. o.age < age) same (All-head (λ r. o.age < r.age) p qs behind) in (
      All-append (λ r. o.age < r.age) ps (q ∷ qs) (All-append_left (λ r. o.age < r.age) ps (p ∷ qs) rise.0)
          (All-cons (λ r. o.age < r.age) q qs here (All-tail (λ r. o.age < r.age) p qs behind)),
      rise-again ps p q qs same rise.1,
    )

-- and where a place is put behind them
pub rise-push : (ps : List Place) (p : Place) → AgesRise ps → All (λ q. q.age < p.age) ps → AgesRise (ps ++ p ∷ [])
rise-push [] p rise below = (All-nil (λ q. p.age < q.age), tt)
rise-push (r ∷ ps) p rise below = (
  All-append (λ q. r.age < q.age) ps (p ∷ []) rise.0
      (All-cons (λ q. r.age < q.age) p [] (All-head (λ q. q.age < p.age) r ps below) (All-nil (λ q. r.age < q.age))),
  rise-push ps p rise.1 (All-tail (λ q. q.age < p.age) r ps below),
)

module _ (rows : List (Option Tree)) (ps : List Place) (p : Place) (qs : List Place) (rise : AgesRise (ps ++ p ∷ qs)) where
  -- the places about one have other ages
  pub others_before : All (λ q. q.age ≢ p.age) ps
  others_before = All-weaker (λ q. q.age < p.age) (λ q. q.age ≢ p.age) (λ q older same. absurd (omega (arith, older, same))) ps
      (rise-before ps p qs rise)

  pub others_behind : All (λ q. q.age ≢ p.age) qs
  others_behind = All-weaker (λ q. p.age < q.age) (λ q. q.age ≢ p.age) (λ q younger same. absurd (omega (arith, younger, same))) qs
      (rise-back ps (p ∷ qs) rise).0

  before : All (λ s. s.age ≢ p.age) (slots_of rows ps)
  before = slots-others rows p.age ps others_before

  behind : All (λ s. s.age ≢ p.age) (slots_of rows qs)
  behind = slots-others rows p.age qs others_behind

  -- the slot of an age is that in its place
  pub slot_placed : slot_at p.age (slots_of rows (ps ++ p ∷ qs)) ≡ slot_in rows p
  slot_placed =
      ap (slot_at p.age) (slots-append rows ps (p ∷ qs))
      ∙ slot_at-pass p.age (slots_of rows ps) (slots_of rows (p ∷ qs)) before
      ∙ go (tuple_of rows p)
    where
      go : (o : Option Tree) → slot_at p.age (cons_option (option_map (slot_taken p.age p.taken) o) (slots_of rows qs))
          ≡ option_map (slot_taken p.age p.taken) o
      go None = slot_at-others p.age (slots_of rows qs) behind
      go (Some t) =
          ap (λ b. cond b (Some (slot_taken p.age p.taken t)) (slot_at p.age (slots_of rows qs))) (eq-eqb p.age p.age refl)

  -- a place whose row goes
  pub slots-cleared : (q : Place) → (tuple_of rows q) ≡ None → slots_of rows (ps ++ q ∷ qs) ≡ filter (is_not_of p.age) (slots_of rows (ps ++ p ∷ qs))
  slots-cleared q gone =
      slots-append rows ps (q ∷ qs)
      ∙ ap (λ o. slots_of rows ps ++ cons_option (option_map (slot_taken q.age q.taken) o) (slots_of rows qs)) gone
      ∙ sym (ap (filter (is_not_of p.age)) (slots-append rows ps (p ∷ qs))
      ∙ filter-append (is_not_of p.age) (slots_of rows ps) (slots_of rows (p ∷ qs))
      ∙ ap (λ ss. ss ++ filter (is_not_of p.age) (slots_of rows (p ∷ qs))) (filter-others p.age (slots_of rows ps) before)
      ∙ ap (λ ss. slots_of rows ps ++ ss) (go (tuple_of rows p)))
    where
      go : (o : Option Tree) → filter (is_not_of p.age) (cons_option (option_map (slot_taken p.age p.taken) o) (slots_of rows qs)) ≡ slots_of rows qs
      go None = filter-others p.age (slots_of rows qs) behind
      go (Some t) =
          ap (λ b. cond (not b) (slot_taken p.age p.taken t ∷ filter (is_not_of p.age) (slots_of rows qs)) (filter (is_not_of p.age) (slots_of rows qs)))
          (eq-eqb p.age p.age refl)
          ∙ filter-others p.age (slots_of rows qs) behind

  -- a place whose row is taken, or there again
  pub slots-noted : (q : Place) (n : ℕ) → q.age ≡ p.age → q.taken ≡ n → (tuple_of rows q) ≡ (tuple_of rows p)
      → slots_of rows (ps ++ q ∷ qs) ≡ map (with_taken p.age n) (slots_of rows (ps ++ p ∷ qs))
  slots-noted q n same_age is same_tuple =
      slots-append rows ps (q ∷ qs)
      ∙ ap (λ o. slots_of rows ps ++ cons_option o (slots_of rows qs)) noted
      ∙ sym (ap (map (with_taken p.age n)) (slots-append rows ps (p ∷ qs))
      ∙ map-append (with_taken p.age n) (slots_of rows ps) (slots_of rows (p ∷ qs))
      ∙ ap (λ ss. ss ++ map (with_taken p.age n) (slots_of rows (p ∷ qs)))
      (map-others (with_taken p.age n) p.age (slots_of rows ps) (with_taken-other p.age n) before)
      ∙ ap (λ ss. slots_of rows ps ++ ss) (go (tuple_of rows p)))
    where
      noted : slot_in rows q ≡ option_map (slot_taken p.age n) (tuple_of rows p)
      noted = ap (λ a. option_map (slot_taken a q.taken) (tuple_of rows q)) same_age
          ∙ ap (λ k. option_map (slot_taken p.age k) (tuple_of rows q)) is
          ∙ ap (option_map (slot_taken p.age n)) same_tuple

      go : (o : Option Tree) → map (with_taken p.age n) (cons_option (option_map (slot_taken p.age p.taken) o) (slots_of rows qs))
          ≡ cons_option (option_map (slot_taken p.age n) o) (slots_of rows qs)
      go None = map-others (with_taken p.age n) p.age (slots_of rows qs) (with_taken-other p.age n) behind
      go (Some t) =
          ap (λ b. slot_taken p.age (cond b n p.taken) t ∷ map (with_taken p.age n) (slots_of rows qs)) (eq-eqb p.age p.age refl)
          ∙ ap (λ ss. slot_taken p.age n t ∷ ss)
          (map-others (with_taken p.age n) p.age (slots_of rows qs) (with_taken-other p.age n) behind)

-- a gap in place of a row is one row less
pub fewer : (rows : List (Option Tree)) (ps : List Place) (p q : Place) (qs : List Place) (t : Tree) → (tuple_of rows p) ≡ Some t → (tuple_of rows q) ≡ None
    → length (slots_of rows (ps ++ p ∷ qs)) ≡ length (slots_of rows (ps ++ q ∷ qs)) + 1
fewer rows ps p q qs t some gone =
    let with_row : length (slots_of rows (p ∷ qs)) ≡ suc (length (slots_of rows qs)) = ap (λ o. length (cons_option (option_map (slot_taken p.age p.taken) o) (slots_of rows qs))) some in
    let without : length (slots_of rows (q ∷ qs)) ≡ length (slots_of rows qs) = ap (λ o. length (cons_option (option_map (slot_taken q.age q.taken) o) (slots_of rows qs))) gone in
    let old = ap length (slots-append rows ps (p ∷ qs)) ∙ length-append (slots_of rows ps) (slots_of rows (p ∷ qs)) in
    let new = ap length (slots-append rows ps (q ∷ qs)) ∙ length-append (slots_of rows ps) (slots_of rows (q ∷ qs)) in
    omega (arith, with_row, without, old, new)

-- gaps give no slots
pub slots-gap : (rows : List (Option Tree)) (ps : List Place) (p : Place) → row_in p ≡ None → slots_of rows (ps ++ p ∷ []) ≡ slots_of rows ps
slots-gap rows [] p gone = ap (λ o. cons_option (option_map (slot_taken p.age p.taken) (tuple_by rows o)) []) gone
slots-gap rows (q ∷ ps) p gone = ap (cons_option (slot_in rows q)) (slots-gap rows ps p gone)

abbrev pub is_filled : Place → Bool
is_filled p = is_some (row_in p)

pub slots-together : (rows : List (Option Tree)) (ps : List Place) → slots_of rows (filter is_filled ps) ≡ slots_of rows ps
slots-together rows [] = refl
slots-together rows (p ∷ ps) = go (row_in p) refl (slots-together rows ps)
  where
    go : (o : Option ℕ) → row_in p ≡ o → slots_of rows (filter is_filled ps) ≡ slots_of rows ps
        → slots_of rows (cond (is_some o) (p ∷ filter is_filled ps) (filter is_filled ps))
        ≡ cons_option (option_map (slot_taken p.age p.taken) (tuple_by rows o)) (slots_of rows ps)
    go None is rest = rest
    go (Some row) is rest =
        ap (λ o. cons_option (option_map (slot_taken p.age p.taken) (tuple_by rows o)) (slots_of rows (filter is_filled ps))) is
        ∙ ap (cons_option (option_map (slot_taken p.age p.taken) (tuple_by rows (Some row)))) rest

-- what a place tells of the slots of its age
pub placed_taken : (rows : List (Option Tree)) (age : ℕ) (ss : List Slot) (p : Place) → InOrder ss → slot_at age ss ≡ slot_in rows p → All (λ s. s.age ≡ age → s.taken ≡ p.taken) ss
placed_taken rows age ss p order = go (tuple_of rows p)
  where
    go : (o : Option Tree) → slot_at age ss ≡ option_map (slot_taken p.age p.taken) o → All (λ s. s.age ≡ age → s.taken ≡ p.taken) ss
    go None found = All-weaker (λ s. s.age ≢ age) (λ s. s.age ≡ age → s.taken ≡ p.taken) (λ s other same. absurd (other same)) ss
        (slot_at-none age ss found)
    go (Some t) found = All-weaker (λ s. s.age ≡ age → s ≡ slot_taken p.age p.taken t) (λ s. s.age ≡ age → s.taken ≡ p.taken)
        (λ s is same. ap (λ (r : Slot). r.taken) (is same)) ss (slot_at-all age ss (slot_taken p.age p.taken t) order found)

-- ages rise from place to place
pub rise_at : (ps : List Place) (j k : ℕ) (d : Place) → AgesRise ps → j < k → k < length ps → (get_or ps j d).age < (get_or ps k d).age
rise_at [] j k d rise less inside = absurd (omega (arith, inside))
rise_at (p ∷ ps) zero zero d rise less inside = absurd (omega (arith, less))
rise_at (p ∷ ps) zero (suc k) d rise less inside = rise.0 k d (omega (arith, inside))
rise_at (p ∷ ps) (suc j) zero d rise less inside = absurd (omega (arith, less))
rise_at (p ∷ ps) (suc j) (suc k) d rise less inside = rise_at ps j k d rise.1 (omega (arith, less)) (omega (arith, inside))

pub rise-filter : (f : Place → Bool) (ps : List Place) → AgesRise ps → AgesRise (filter f ps)
rise-filter f [] rise = tt
rise-filter f (p ∷ ps) rise = go (f p) (All-filter f (λ q. p.age < q.age) ps rise.0) (rise-filter f ps rise.1)
  where
    go : (b : Bool) → All (λ q. p.age < q.age) (filter f ps) → AgesRise (filter f ps)
        → AgesRise (cond b (p ∷ filter f ps) (filter f ps))
    go true above rest = (above, rest)
    go false above rest = rest

-- where the ages before and behind a place are
abbrev pub IsPointOf : ℕ → List Place → ℕ → Type 0
IsPointOf age ps i = IsPartitionPoint (λ p. p.age < age) (λ p. age ≤ p.age) ps i

module _ (ps : List Place) (age i : ℕ) (rise : AgesRise ps) where
  -- a place of this age is one
  pub point_found : i < length ps → HoldsAt (λ p. p.age ≡ age) ps i → IsPointOf age ps i
  point_found inside at = (
    λ k d from below. omega (arith, rise_at ps k i d rise below inside, at d),
    λ k d from below.
        elim (cases_lt i k) [
          | inl less ↦ omega (arith, rise_at ps i k d rise less below, at d)
          | inr up ↦
              let same : k ≡ i = omega (arith, from, up) in
              let equal : (get_or ps k d).age ≡ age = subst (λ j. (get_or ps j d).age ≡ age) (sym same) (at d) in
              omega (arith, equal)
        ],
  )

  -- where it has another age, none has this one
  pub point_none : IsPointOf age ps i → ((d : Place) → i < length ps → (get_or ps i d).age ≢ age) → All (λ p. p.age ≢ age) ps
  point_none point other k d inside same =
      elim (cases_lt k i) [
        | inl below ↦ absurd (omega (arith, point.0 k d (omega arith) below, same))
        | inr from ↦
            elim (cases_lt i k) [
              | inl less ↦
                  let bounds = point.1 i d (omega arith) (omega (arith, less, inside)) in
                  absurd (omega (arith, rise_at ps i k d rise less inside, bounds, same))
              | inr up ↦
                  let at : k ≡ i = omega (arith, from, up) in
                  other d (omega (arith, at, inside)) (subst (λ j. (get_or ps j d).age ≡ age) at same)
            ]
      ]

  -- those below an age come first
  pub parted : IsPartitionedBy (λ p. nat_lt p.age age) ps
  parted j k d up inside passes =
      elim (cases_lt j k) [
        | inl less ↦
            let below : (get_or ps k d).age < age = ltb-true (get_or ps k d).age age passes in
            lt-ltb (get_or ps j d).age age (omega (arith, rise_at ps j k d rise less inside, below))
        | inr from ↦
            let same : j ≡ k = omega (arith, up, from) in
            subst (λ n. nat_lt (get_or ps n d).age age ≡ true) (sym same) passes
      ]

-- by the test that a bisection makes
pub point_of_test : (age : ℕ) (ps : List Place) (i : ℕ)
    → IsPartitionPoint (λ p. nat_lt p.age age ≡ true) (λ p. nat_lt p.age age ≡ false) ps i → IsPointOf age ps i
point_of_test age ps i point = (
  λ k d from below. ltb-true (get_or ps k d).age age (point.0 k d from below),
  λ k d from below. ltb-false (get_or ps k d).age age (point.1 k d from below),
)

-- the last place of a list that ends with a row
pub ends-last : (ps : List Place) (p : Place) → EndsFilled (ps ++ p ∷ []) → IsTrue (is_some (row_in p))
ends-last [] p ends = ends.0 refl
ends-last (q ∷ ps) p ends = ends-last ps p ends.1

pub ends-push : (ps : List Place) (p : Place) → IsTrue (is_some (row_in p)) → EndsFilled (ps ++ p ∷ [])
ends-push [] p filled = (λ none. filled, tt)
ends-push (q ∷ ps) p filled = (λ none. absurd (not_nil ps [] p none), ends-push ps p filled)

pub ends-again : (ps : List Place) (p q : Place) (qs : List Place) → row_in q ≡ row_in p → EndsFilled (ps ++ p ∷ qs) → EndsFilled (ps ++ q ∷ qs)
ends-again [] p q qs same ends = (λ none. ap is_some same ∙ ends.0 none, ends.1)
ends-again (o ∷ ps) p q qs same ends = (λ none. absurd (not_nil ps qs q none), ends-again ps p q qs same ends.1)

pub ends-all : (ps : List Place) → All (λ p. is_filled p ≡ true) ps → EndsFilled ps
ends-all [] filled = tt
ends-all (p ∷ ps) filled = (
  λ none. All-head (λ q. is_filled q ≡ true) p ps filled,
  ends-all ps (All-tail (λ q. is_filled q ≡ true) p ps filled),
)

-- a place that is no gap has a tuple
pub has_tuple : (rows : List (Option Tree)) (p : Place) → HasTuple rows p → IsTrue (is_some (row_in p)) → IsTrue (is_some (tuple_of rows p))
has_tuple rows p full = go (row_in p) refl
  where
    go : (o : Option ℕ) → row_in p ≡ o → IsTrue (is_some o) → IsTrue (is_some (tuple_by rows o))
    go None is filled = absurd (true≢false (sym filled))
    go (Some row) is filled = full row is

-- an age's place
abbrev pub IsPlaceOf : ℕ → List Place → ℕ → Type 0
IsPlaceOf age ps i = (i < length ps) × HoldsAt (λ p. p.age ≡ age) ps i

module _ (rows : List (Option Tree)) (age i : ℕ) (ps : List Place) (p : Place) (rise : AgesRise ps) (at : IsPlaceOf age ps i) (read : p ≡ get_or ps i p) where
  pub placed : ps ≡ take i ps ++ p ∷ drop (i + 1) ps
  placed = split_read ps i p at.0 read

  rise_placed : AgesRise (take i ps ++ p ∷ drop (i + 1) ps)
  rise_placed = subst AgesRise placed rise

  pub same_age : p.age ≡ age
  same_age = ap (λ (q : Place). q.age) read ∙ at.1 p

  -- the slot of an age is that of its place
  pub slot_found : slot_in rows p ≡ slot_at age (slots_of rows ps)
  slot_found =
      sym (slot_placed rows (take i ps) p (drop (i + 1) ps) rise_placed)
      ∙ ap (λ qs. slot_at p.age (slots_of rows qs)) (sym placed)
      ∙ ap (λ a. slot_at a (slots_of rows ps)) same_age

  -- its row is taken, or there again
  pub slots-set_taken : (n : ℕ) → slots_of rows (set ps i (record { age = p.age; taken = n; row = p.row })) ≡ map (with_taken age n) (slots_of rows ps)
  slots-set_taken n =
      let q : Place = record { age = p.age; taken = n; row = p.row } in
      ap (slots_of rows) (set_parts ps i q at.0)
      ∙ slots-noted rows (take i ps) p (drop (i + 1) ps) rise_placed q n refl refl refl
      ∙ ap (λ qs. map (with_taken p.age n) (slots_of rows qs)) (sym placed)
      ∙ ap (λ a. map (with_taken a n) (slots_of rows ps)) same_age

-- the first row from an age on
module _ (rows : List (Option Tree)) (from i : ℕ) (ps : List Place) (rise : AgesRise ps) (inside : i ≤ length ps) (point : IsPointOf from ps i) where
  older : All (λ p. p.age < from) (take i ps)
  older k d within =
      let below : k < i = omega (arith, within, length-take-le i ps inside) in
      subst (λ q. q.age < from) (sym (get_or-take i ps k d below)) (point.0 k d (omega arith) below)

  younger : All (λ p. from ≤ p.age) (drop i ps)
  younger k d within =
      let below : i + k < length ps = omega (arith, within, length-drop i ps) in
      subst (λ q. from ≤ q.age) (sym (get_or-drop i ps k d)) (point.1 (i + k) d (omega arith) below)

  parts : slots_of rows ps ≡ slots_of rows (take i ps) ++ slots_of rows (drop i ps)
  parts = ap (slots_of rows) (sym (take-append-drop i ps)) ∙ slots-append rows (take i ps) (drop i ps)

  pub none_behind : slots_of rows (drop i ps) ≡ [] → All (λ s. from ≤ s.age → ⊥) (slots_of rows ps)
  none_behind none =
      subst (All (λ s. from ≤ s.age → ⊥)) (sym (parts ∙ ap (λ ss. slots_of rows (take i ps) ++ ss) none))
      (All-append (λ s. from ≤ s.age → ⊥) (slots_of rows (take i ps)) []
      (slots-All rows (λ a. from ≤ a → ⊥) (take i ps)
      (All-weaker (λ p. p.age < from) (λ p. from ≤ p.age → ⊥) (λ p less up. absurd (omega (arith, less, up))) (take i ps) older))
      (All-nil (λ s. from ≤ s.age → ⊥)))

module _ (rows : List (Option Tree)) (from i : ℕ) (ps : List Place) (rise : AgesRise ps) (inside : i ≤ length ps) (point : IsPointOf from ps i)
    (p : Place) (gaps rest : List Place) (split : drop i ps ≡ gaps ++ p ∷ rest) (none : slots_of rows gaps ≡ []) where
  whole : ps ≡ (take i ps ++ gaps) ++ p ∷ rest
  whole =
      sym (take-append-drop i ps) ∙ ap (λ qs. take i ps ++ qs) split ∙ sym (append_assoc (take i ps) gaps (p ∷ rest))

  pub first_least : (from ≤ p.age) × All (λ s. from ≤ s.age → s.age < p.age → ⊥) (slots_of rows ps)
  first_least =
      let Not : Slot → Type 0 = λ s. from ≤ s.age → s.age < p.age → ⊥ in
      let above : All (λ q. p.age ≤ q.age) (p ∷ rest) =
      All-cons (λ q. p.age ≤ q.age) p rest (omega arith)
      (All-weaker (λ q. p.age < q.age) (λ q. p.age ≤ q.age) (λ q less. omega (arith, less)) rest
      (rise-back (take i ps ++ gaps) (p ∷ rest) (subst AgesRise whole rise)).0) in
      let before : All Not (slots_of rows (take i ps)) =
      slots-All rows (λ a. from ≤ a → a < p.age → ⊥) (take i ps)
      (All-weaker (λ q. q.age < from) (λ q. from ≤ q.age → q.age < p.age → ⊥) (λ q less up below. absurd (omega (arith, less, up))) (take i ps) (older rows from i ps rise inside point)) in
      let behind : All Not (slots_of rows (p ∷ rest)) =
      slots-All rows (λ a. from ≤ a → a < p.age → ⊥) (p ∷ rest)
      (All-weaker (λ q. p.age ≤ q.age) (λ q. from ≤ q.age → q.age < p.age → ⊥) (λ q up_to up below. absurd (omega (arith, up_to, below))) (p ∷ rest) above) in
      let back : slots_of rows (drop i ps) ≡ slots_of rows (p ∷ rest) =
      ap (slots_of rows) split ∙ slots-append rows gaps (p ∷ rest) ∙ ap (λ ss. ss ++ slots_of rows (p ∷ rest)) none in (
        All-head (λ q. from ≤ q.age) p rest (All-append_right (λ q. from ≤ q.age) gaps (p ∷ rest) (subst (All (λ q. from ≤ q.age)) split (younger rows from i ps rise inside point))),
        subst (All Not) (sym (parts rows from i ps rise inside point ∙ ap (λ ss. slots_of rows (take i ps) ++ ss) back))
            (All-append Not (slots_of rows (take i ps)) (slots_of rows (p ∷ rest)) before behind),
      )

  pub first_taken : All (λ s. s.age ≡ p.age → s.taken ≡ p.taken) (slots_of rows ps)
  first_taken =
      placed_taken rows p.age (slots_of rows ps) p (rise-order rows ps rise)
      (ap (λ qs. slot_at p.age (slots_of rows qs)) whole ∙ slot_placed rows (take i ps ++ gaps) p rest (subst AgesRise whole rise))

last_of : (P : Place → Type 0) (ps : List Place) (p : Place) → All P (ps ++ p ∷ []) → P p
last_of P ps p all = All-head P p [] (All-append_right P ps (p ∷ []) all)

-- the row in the last place is the youngest
pub last_youngest : (rows : List (Option Tree)) (ps : List Place) (p : Place) → All (HasTuple rows) ps → EndsFilled ps → slice_get ps (length ps - 1) ≡ Some p → IsYoungest (slots_of rows ps) p.age
last_youngest rows ps p full ends read =
    let last = push_from_last ps p read in
    let before = last.0 in
    go before (tuple_of rows p) (ap (slots_of rows) last.1 ∙ slots-append rows before (p ∷ []))
    (has_tuple rows p (last_of (HasTuple rows) before p (subst (All (HasTuple rows)) last.1 full)) (ends-last before p (subst EndsFilled last.1 ends)))
  where
    go : (front : List Place) (o : Option Tree) → slots_of rows ps ≡ slots_of rows front ++ cons_option (option_map (slot_taken p.age p.taken) o) []
        → IsTrue (is_some o) → IsYoungest (slots_of rows ps) p.age
    go front None split filled = absurd (true≢false (sym filled))
    go front (Some t) split filled = record {
      before = slots_of rows front;
      last = slot_taken p.age p.taken t;
      split = split;
      same = refl;
    }

top_below : (rows : List (Option Tree)) (age : ℕ) (before : List Place) (top : Place) → IsTrue (is_some (tuple_of rows top)) → All (λ s. s.age < age) (slots_of rows (before ++ top ∷ []))
    → top.age < age
top_below rows age before top filled below =
    go (tuple_of rows top) filled (All-append_right (λ s. s.age < age) (slots_of rows before) (slots_of rows (top ∷ []))
    (subst (All (λ s. s.age < age)) (slots-append rows before (top ∷ [])) below))
  where
    go : (o : Option Tree) → IsTrue (is_some o) → All (λ s. s.age < age) (cons_option (option_map (slot_taken top.age top.taken) o) [])
        → top.age < age
    go None filled below = absurd (true≢false (sym filled))
    go (Some t) filled below = All-head (λ s. s.age < age) (slot_taken top.age top.taken t) [] below

-- what is older than all rows is so of all places
pub places_below : (rows : List (Option Tree)) (age : ℕ) (ps : List Place) → AgesRise ps → All (HasTuple rows) ps → EndsFilled ps → All (λ s. s.age < age) (slots_of rows ps) → All (λ p. p.age < age) ps
places_below rows age ps rise full filled below =
    elim (nil_or_push ps) [
      | inl none ↦ subst (All (λ p. p.age < age)) (sym none) (All-nil (λ p. p.age < age))
      | inr (before, top, split) ↦
          let here : top.age < age =
          top_below rows age before top
          (has_tuple rows top (last_of (HasTuple rows) before top (subst (All (HasTuple rows)) split full)) (ends-last before top (subst EndsFilled split filled)))
          (subst (λ qs. All (λ s. s.age < age) (slots_of rows qs)) split below) in
          subst (All (λ p. p.age < age)) (sym split)
          (All-append (λ p. p.age < age) before (top ∷ [])
          (All-weaker (λ p. p.age < top.age) (λ p. p.age < age) (λ p less. omega (arith, less, here)) before
          (rise-before before top [] (subst AgesRise split rise)))
          (All-cons (λ p. p.age < age) top [] here (All-nil (λ p. p.age < age))))
    ]

-- a row is put behind the others
pub slots-push : (rows : List (Option Tree)) (ps : List Place) (p : Place) (t : Tree) → (tuple_of rows p) ≡ Some t → slots_of rows (ps ++ p ∷ []) ≡ slots_of rows ps ++ slot_taken p.age p.taken t ∷ []
slots-push rows ps p t some =
    slots-append rows ps (p ∷ []) ∙ ap (λ o. slots_of rows ps ++ cons_option (option_map (slot_taken p.age p.taken) o) []) some

-- a slice to the end
pub sliced : (i : ℕ) (ps : List Place) → take (length ps - i) (drop i ps) ≡ drop i ps
sliced i ps = take_all (length ps - i) (drop i ps) (omega (arith, length-drop i ps))

-- the last place is a gap
pub gap-read : (rows : List (Option Tree)) (ps before : List Place) (p : Place) → ps ≡ before ++ p ∷ [] → row_in p ≡ None → slots_of rows before ≡ slots_of rows ps
gap-read rows ps before p split gone = sym (ap (slots_of rows) split ∙ slots-gap rows before p gone)

-- without a gap at the end
pub popped : (ps new : List Place) (p : Place) (n : ℕ) → slice_get ps (length ps - 1) ≡ Some p → n ≡ length ps → new ≡ take (n - 1) ps
    → row_in p ≡ None → AgesRise ps → ((rows : List (Option Tree)) → slots_of rows new ≡ slots_of rows ps) × AgesRise new
popped ps new p n read many is gone rise =
    let last = push_from_last ps p read in
    let before = last.0 in
    let place : n - 1 ≡ length before = omega (arith, many, ap length last.1, length-append before (p ∷ [])) in
    let left : new ≡ before =
    is ∙ ap (take (n - 1)) last.1 ∙ ap (λ k. take k (before ++ p ∷ [])) place ∙ take-append_seam before (p ∷ []) in (
      λ rows. ap (slots_of rows) left ∙ gap-read rows ps before p last.1 gone,
      subst AgesRise (sym left) (rise-front before (p ∷ []) (subst AgesRise last.1 rise)),
    )

-- the last place is a row
pub ends-read : (ps : List Place) (p : Place) → slice_get ps (length ps - 1) ≡ Some p → IsTrue (is_some (row_in p)) → EndsFilled ps
ends-read ps p read filled =
    let last = push_from_last ps p read in
    subst EndsFilled (sym last.1) (ends-push last.0 p filled)
