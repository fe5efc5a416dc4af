-- Places and the tuples at their rows.
use Rattle.std.proofs.Common.{◌≡◌, ◌≢◌, ◌<◌, ◌+◌, ◌-◌, ◌==◌, length, length-append, is_some, ℕ, cond, IsSome, Option, Some, None, List, [], ◌∷◌, ◌++◌, get_or, set, take, drop, filter, All, Contains, refl, ap, sym, subst, ◌∙◌, arith}
use Rattle.std.proofs.lemmas.Bool.{true≢false, eq-eqb, ne_eqb}
use Rattle.std.proofs.lemmas.List.{length-map, get_or_default}
use Rattle.std.proofs.lemmas.List.Elements.{All-head, All-tail, All-weaker, All-cons, All-nil, All-append, All-contains}
use Rattle.std.specs.List.{cons_option}
use Rattle.std.specs.Option.{option_map}
use Rattle.tc_term.specs.Tree.{Tree}
use Rattle.tc_bag.specs.declared.slots.Place.{Place}
use Rattle.tc_bag.specs.Places.{slot_taken, slot_in, slots_of, row_in, tuple_of, tuple_by, AgesRise, EndsFilled, HasTuple, IsOwn, AreRowPlaces, gap_of, IsCleared}
use Rattle.tc_bag.specs.Rows.{tuple_in, no_row, Updates}
use Rattle.tc_bag.specs.Slots.{is_not_of, with_taken}
use Rattle.tc_bag.proofs.Gaps.{IsPlaceOf, slots-cleared, slots-push, slots-set_taken, fewer, rise-again, rise-push, ends-again, ends-push, places_below, placed, same_age, others_before, others_behind}
use Rattle.tc_lists.proofs.Elements.{All-append_left, All-append_right}
use Rattle.tc_lists.proofs.Sets.{set_parts}

-- the row isn't that of a place
abbrev pub IsNotRow : ℕ → Place → Type 0
IsNotRow row p = row_in p ≡ Some row → ⊥

-- an element, read with itself in place of what is not there
pub own_read : (ps : List Place) (i : ℕ) (d : Place) → i < length ps → get_or ps i d ≡ get_or ps i (get_or ps i d)
own_read ps i d inside = get_or_default ps i d (get_or ps i d) inside

pub kept-none : (rows : List (Option Tree)) → AreRowPlaces rows [] 0
kept-none rows = record {
  rise = tt;
  ends = tt;
  count = refl;
  full = All-nil (HasTuple rows);
  age_of = λ row. 0;
  own = All-nil (IsOwn (λ row. 0));
}

-- a gap of an age is no row
pub slots-gap_gone : (rows : List (Option Tree)) (age i : ℕ) (ps : List Place) (p : Place) (rise : AgesRise ps) (at : IsPlaceOf age ps i)
    → p ≡ get_or ps i p → row_in p ≡ None → slots_of rows ps ≡ filter (is_not_of age) (slots_of rows ps)
slots-gap_gone rows age i ps p rise at read none =
    let split = placed rows age i ps p rise at read in
    ap (slots_of rows) split
    ∙ slots-cleared rows (take i ps) p (drop (i + 1) ps) (subst AgesRise split rise) p (ap (tuple_by rows) none)
    ∙ ap (λ qs. filter (is_not_of p.age) (slots_of rows qs)) (sym split)
    ∙ ap (λ a. filter (is_not_of a) (slots_of rows ps)) (same_age rows age i ps p rise at read)

-- what is so of all is so of those that are left
pub within_All : (P : Place → Type 0) (ps qs : List Place) → All (Contains ps) qs → All P ps → All P qs
within_All P ps qs within all = All-weaker (Contains ps) P (λ p has. All-contains P ps p all has) qs within

-- a place of another row has its tuple as before
tuple_elsewhere : (row : ℕ) (t : Option Tree) (old new : List (Option Tree)) (p : Place) → Updates row t old new → IsNotRow row p
    → tuple_of new p ≡ tuple_of old p
tuple_elsewhere row t old new p up other = go (row_in p) refl
  where
    go : (o : Option ℕ) → row_in p ≡ o → tuple_by new o ≡ tuple_by old o
    go None is = refl
    go (Some r) is = up.others r (λ same. other (is ∙ ap (λ n. Some n) same))

pub slots_elsewhere : (row : ℕ) (t : Option Tree) (old new : List (Option Tree)) (ps : List Place) → Updates row t old new
    → All (IsNotRow row) ps → slots_of new ps ≡ slots_of old ps
slots_elsewhere row t old new [] up others = refl
slots_elsewhere row t old new (p ∷ ps) up others =
    ap (λ o. cons_option (option_map (slot_taken p.age p.taken) o) (slots_of new ps))
    (tuple_elsewhere row t old new p up (All-head (IsNotRow row) p ps others))
    ∙ ap (cons_option (slot_in old p)) (slots_elsewhere row t old new ps up (All-tail (IsNotRow row) p ps others))

pub full_elsewhere : (row : ℕ) (t : Option Tree) (old new : List (Option Tree)) (ps : List Place) → Updates row t old new
    → All (IsNotRow row) ps → All (HasTuple old) ps → All (HasTuple new) ps
full_elsewhere row t old new ps up others full k d inside r is =
    ap is_some (up.others r (λ same. others k d inside (is ∙ ap (λ n. Some n) same))) ∙ full k d inside r is

-- a row that has no tuple is that of no place
pub free_row : (row : ℕ) (rows : List (Option Tree)) (ps : List Place) → tuple_in row rows ≡ None → All (HasTuple rows) ps → All (IsNotRow row) ps
free_row row rows ps free full k d inside is =
    true≢false (sym (full k d inside row is) ∙ ap is_some free)

-- a place of a row below that of gaps
pub row_below : (p : Place) → p.row < no_row → row_in p ≡ Some p.row
row_below p less = ap (λ b. cond b None (Some p.row)) (ne_eqb p.row no_row (λ same. absurd (omega (arith, less, same))))

-- the age of a row, where one more has this one
abbrev with_age : ℕ → ℕ → (ℕ → ℕ) → ℕ → ℕ
with_age row age age_of r = cond (r == row) age (age_of r)

-- a row is put behind the others
module _ (old new : List (Option Tree)) (ps : List Place) (filled : ℕ) (age row : ℕ) (t : Tree) (kept : AreRowPlaces old ps filled)
    (free : tuple_in row old ≡ None) (up : Updates row (Some t) old new) (below : row < no_row)
    (older : All (λ s. s.age < age) (slots_of old ps)) where
  abbrev p : Place
  p = record { age = age; taken = 0; row = row }

  others : All (IsNotRow row) ps
  others = free_row row old ps free kept.full

  has : tuple_of new p ≡ Some t
  has = ap (tuple_by new) (row_below p below) ∙ up.changed

  pub slots-put : slots_of new (ps ++ p ∷ []) ≡ slots_of old ps ++ slot_taken age 0 t ∷ []
  slots-put = slots-push new ps p t has ∙ ap (λ ss. ss ++ slot_taken age 0 t ∷ []) (slots_elsewhere row (Some t) old new ps up others)

  own_before : All (IsOwn (with_age row age kept.age_of)) ps
  own_before k d inside r is =
      let other : r ≢ row = λ same. others k d inside (is ∙ ap (λ n. Some n) same) in
      ap (λ b. cond b age (kept.age_of r)) (ne_eqb r row other) ∙ kept.own k d inside r is

  own_here : IsOwn (with_age row age kept.age_of) p
  own_here r is = ap (λ b. cond b age (kept.age_of r)) (eq-eqb r row (same_some r row (sym is ∙ row_below p below)))
    where
      same_some : (a b : ℕ) → Some a ≡ Some b → a ≡ b
      same_some a b same = cc

  full_here : HasTuple new p
  full_here r is = ap is_some (ap (tuple_by new) (sym is) ∙ has)

  pub kept-put : AreRowPlaces new (ps ++ p ∷ []) (filled + 1)
  kept-put = record {
    rise = rise-push ps p kept.rise (places_below old age ps kept.rise kept.full kept.ends older);
    ends = ends-push ps p (ap is_some (row_below p below));
    count = omega (arith, kept.count, ap length slots-put, length-append (slots_of old ps) (slot_taken age 0 t ∷ []));
    full =
        All-append (HasTuple new) ps (p ∷ []) (full_elsewhere row (Some t) old new ps up others kept.full)
        (All-cons (HasTuple new) p [] full_here (All-nil (HasTuple new)));
    age_of = with_age row age kept.age_of;
    own =
        All-append (IsOwn (with_age row age kept.age_of)) ps (p ∷ []) own_before
        (All-cons (IsOwn (with_age row age kept.age_of)) p [] own_here (All-nil (IsOwn (with_age row age kept.age_of))));
  }

-- all of a list, with one place exchanged
All_again : (P : Place → Type 0) (ps : List Place) (p q : Place) (qs : List Place) → P q → All P (ps ++ p ∷ qs) → All P (ps ++ q ∷ qs)
All_again P ps p q qs here all =
    All-append P ps (q ∷ qs) (All-append_left P ps (p ∷ qs) all)
    (All-cons P q qs here (All-tail P p qs (All-append_right P ps (p ∷ qs) all)))

All_at : (P : Place → Type 0) (ps : List Place) (p : Place) (qs : List Place) → All P (ps ++ p ∷ qs) → P p
All_at P ps p qs all = All-head P p qs (All-append_right P ps (p ∷ qs) all)

-- the row of an age is taken, or there again
module _ (rows : List (Option Tree)) (age i : ℕ) (ps : List Place) (p : Place) (n filled : ℕ) (at : IsPlaceOf age ps i) (read : p ≡ get_or ps i p)
    (kept : AreRowPlaces rows ps filled) where
  abbrev q : Place
  q = record { age = p.age; taken = n; row = p.row }

  split : ps ≡ take i ps ++ p ∷ drop (i + 1) ps
  split = placed rows age i ps p kept.rise at read

  again : (P : Place → Type 0) → (P p → P q) → All P ps → All P (set ps i q)
  again P same all =
      let parts : All P (take i ps ++ p ∷ drop (i + 1) ps) = subst (All P) split all in
      subst (All P) (sym (set_parts ps i q at.0))
      (All_again P (take i ps) p q (drop (i + 1) ps) (same (All_at P (take i ps) p (drop (i + 1) ps) parts)) parts)

  pub kept-set_taken : AreRowPlaces rows (set ps i q) filled
  kept-set_taken =
      let is : set ps i q ≡ take i ps ++ q ∷ drop (i + 1) ps = set_parts ps i q at.0 in
      record {
        rise = subst AgesRise (sym is) (rise-again (take i ps) p q (drop (i + 1) ps) refl (subst AgesRise split kept.rise));
        ends = subst EndsFilled (sym is) (ends-again (take i ps) p q (drop (i + 1) ps) refl (subst EndsFilled split kept.ends));
        count = kept.count ∙ sym (ap length (slots-set_taken rows age i ps p kept.rise at read n) ∙ length-map (slots_of rows ps) (with_taken age n));
        full = again (HasTuple rows) (λ has. has) kept.full;
        age_of = kept.age_of;
        own = again (IsOwn kept.age_of) (λ has. has) kept.own;
      }

-- the row of an age goes
module _ (rows : List (Option Tree)) (age row : ℕ) (ps left : List Place) (filled : ℕ) (cleared : IsCleared age ps left row)
    (kept : AreRowPlaces rows ps filled) where
  abbrev gap : Place
  gap = gap_of cleared.place

  rise : AgesRise (cleared.before ++ cleared.place ∷ cleared.behind)
  rise = subst AgesRise cleared.was kept.rise

  pub rise-cleared : AgesRise left
  rise-cleared = subst AgesRise (sym cleared.is) (rise-again cleared.before cleared.place gap cleared.behind refl rise)

  pub slots-gone : slots_of rows left ≡ filter (is_not_of age) (slots_of rows ps)
  slots-gone =
      ap (slots_of rows) cleared.is
      ∙ slots-cleared rows cleared.before cleared.place cleared.behind rise gap refl
      ∙ ap (λ qs. filter (is_not_of cleared.place.age) (slots_of rows qs)) (sym cleared.was)
      ∙ ap (λ a. filter (is_not_of a) (slots_of rows ps)) cleared.same

  -- it had a tuple
  pub had_tuple : IsSome (tuple_in row rows)
  had_tuple =
      All_at (HasTuple rows) cleared.before cleared.place cleared.behind (subst (All (HasTuple rows)) cleared.was kept.full) row cleared.had

  pub one_fewer : length (slots_of rows ps) ≡ length (slots_of rows left) + 1
  one_fewer = go (tuple_in row rows) refl had_tuple
    where
      go : (o : Option Tree) → tuple_in row rows ≡ o → IsSome o → length (slots_of rows ps) ≡ length (slots_of rows left) + 1
      go None is some = absurd (true≢false (sym some))
      go (Some t) is some =
          ap (λ qs. length (slots_of rows qs)) cleared.was
          ∙ fewer rows cleared.before cleared.place gap cleared.behind t (ap (tuple_by rows) cleared.had ∙ is) refl
          ∙ ap (λ qs. length (slots_of rows qs) + 1) (sym cleared.is)

  left_All : (P : Place → Type 0) → P gap → All P ps → All P left
  left_All P here all =
      subst (All P) (sym cleared.is) (All_again P cleared.before cleared.place gap cleared.behind here (subst (All P) cleared.was all))

  gap_none : (r : ℕ) → row_in gap ≡ Some r → ⊥
  gap_none r is = go is
    where
      go : None ≡ Some r → ⊥
      go never = absurd (cc)

  full_left : All (HasTuple rows) left
  full_left = left_All (HasTuple rows) (λ r is. absurd (gap_none r is)) kept.full

  own_left : All (IsOwn kept.age_of) left
  own_left = left_All (IsOwn kept.age_of) (λ r is. absurd (gap_none r is)) kept.own

  -- no place has its row any more
  alone : All (IsNotRow row) left
  alone =
      let own : kept.age_of row ≡ cleared.place.age =
      All_at (IsOwn kept.age_of) cleared.before cleared.place cleared.behind (subst (All (IsOwn kept.age_of)) cleared.was kept.own) row cleared.had in
      let Apart : Place → Type 0 = λ q. q.age ≢ cleared.place.age in
      let apart : (q : Place) → IsOwn kept.age_of q → Apart q → IsNotRow row q = λ q owns other is. other (sym (owns row is) ∙ own) in
      subst (All (IsNotRow row)) (sym cleared.is)
      (All-append (IsNotRow row) cleared.before (gap ∷ cleared.behind)
      (λ k d inside. apart (get_or cleared.before k d)
      (All-append_left (IsOwn kept.age_of) cleared.before (cleared.place ∷ cleared.behind) owned k d inside)
      (others_before rows cleared.before cleared.place cleared.behind rise k d inside))
      (All-cons (IsNotRow row) gap cleared.behind (gap_none row)
      (λ k d inside. apart (get_or cleared.behind k d)
      (All-tail (IsOwn kept.age_of) cleared.place cleared.behind (All-append_right (IsOwn kept.age_of) cleared.before (cleared.place ∷ cleared.behind) owned) k d inside)
      (others_behind rows cleared.before cleared.place cleared.behind rise k d inside))))
    where
      owned : All (IsOwn kept.age_of) (cleared.before ++ cleared.place ∷ cleared.behind)
      owned = subst (All (IsOwn kept.age_of)) cleared.was kept.own

  module _ (new : List (Option Tree)) (end : List Place) (up : Updates row None rows new)
      (slots : (table : List (Option Tree)) → slots_of table end ≡ slots_of table left) (rises : AgesRise end) (ends : EndsFilled end)
      (within : All (Contains left) end) where
    pub slots-removed : slots_of new end ≡ filter (is_not_of age) (slots_of rows ps)
    slots-removed = slots new ∙ slots_elsewhere row None rows new left up alone ∙ slots-gone

    pub kept-removed : AreRowPlaces new end (filled - 1)
    kept-removed = record {
      rise = rises;
      ends = ends;
      count = omega (arith, kept.count, one_fewer, ap length (slots new), ap length (slots_elsewhere row None rows new left up alone));
      full = within_All (HasTuple new) left end within (full_elsewhere row None rows new left up alone full_left);
      age_of = kept.age_of;
      own = within_All (IsOwn kept.age_of) left end within own_left;
    }
