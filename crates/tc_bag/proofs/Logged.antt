-- The list of the rows that were taken, and bringing them back.
use Rattle.std.proofs.Common.{◌≡◌, ◌≢◌, ◌<◌, ◌≤◌, ◌+◌, ◌-◌, ◌==◌, ◌&&◌, ◌||◌, not, nat_lt, inl, inr, ℕ, Bool, true, false, cond, Some, List, [], ◌∷◌, ◌++◌, length, get_or, slice_get, map, filter, All, refl, ap, sym, subst, ◌∙◌, arith}
use Rattle.std.proofs.lemmas.Bool.{cases_Bool, eqb-true, eq-eqb, ne_eqb, true≢false, cases_lt}
use Rattle.std.proofs.lemmas.Bool.Decides.{nat_tests}
use Rattle.std.proofs.lemmas.List.Elements.{All-weaker, All-map, All-filter, filter_passes}
use Rattle.tc_bag.specs.Slots.{Slot, InOrder, IsLogged, is_there, stays, revived_at, revived}
use Rattle.tc_bag.proofs.ByAge.{slot_with, behind_others, map-others, map-alike}
use Rattle.tc_lists.proofs.Filters.{filter_all}
use Rattle.tc_lists.proofs.Places.{slice_get_push}
use Rattle.std.proofs.lemmas.List.Folds.{map_fixed}
use Rattle.std.proofs.lemmas.Option.{slice_get_within}

-- no row was taken after more than the list has
pub taken_within : (log : List ℕ) (ss : List Slot) → All (IsLogged log) ss → All (λ s. s.taken ≤ length log) ss
taken_within log ss logged k d inside =
    let s = get_or ss k d in
    elim (cases_lt 0 s.taken) [
      | inl some ↦ omega (arith, some, slice_get_within log (s.taken - 1) s.age (logged k d inside some))
      | inr none ↦ omega (arith, none)
    ]

-- order, where ages stay
pub InOrder-map : (f : Slot → Slot) (ss : List Slot) → ((s : Slot) → (f s).age ≡ s.age) → InOrder ss → InOrder (map f ss)
InOrder-map f [] same order = tt
InOrder-map f (s ∷ ss) same order = (
  All-map (λ t. (f s).age < t.age) f ss
      (All-weaker (λ t. s.age < t.age) (λ t. (f s).age < (f t).age) (λ t up. omega (arith, up, same s, same t)) ss order.0),
  InOrder-map f ss same order.1,
)

pub InOrder-filter : (p : Slot → Bool) (ss : List Slot) → InOrder ss → InOrder (filter p ss)
InOrder-filter p [] order = tt
InOrder-filter p (s ∷ ss) order =
    elim (p s) as (λ b. InOrder (cond b (s ∷ filter p ss) (filter p ss))) [
      | true ↦ (All-filter p (λ t. s.age < t.age) ss order.0, InOrder-filter p ss order.1)
      | false ↦ InOrder-filter p ss order.1
    ]

-- numbers of taken rows that are brought back
twice : (b : Bool) (n t : ℕ) → cond (nat_lt n (cond (b && nat_lt n t) 0 t)) 0 (cond (b && nat_lt n t) 0 t) ≡ cond (nat_lt n t) 0 t
twice b n t = grind (arith, nat_tests)

back : (b : Bool) (n t : ℕ) → 0 < cond (b && nat_lt n t) 0 t → cond (b && nat_lt n t) 0 t ≡ t
back b n t some = grind (arith, nat_tests)

gone : (a age n t : ℕ) → a ≡ age → n < t → 0 < cond ((a == age) && nat_lt n t) 0 t → ⊥
gone a age n t same more some = grind (arith, nat_tests)

few : (n t : ℕ) → t ≤ n → cond (nat_lt n t) 0 t ≡ t
few n t below = grind (arith, nat_tests)

map-map : (f g : Slot → Slot) (ss : List Slot) → map f (map g ss) ≡ map (λ s. f (g s)) ss
map-map f g [] = refl
map-map f g (s ∷ ss) = ap (λ ts. f (g s) ∷ ts) (map-map f g ss)

pub revived-twice : (age n : ℕ) (ss : List Slot) → map (revived n) (map (revived_at age n) ss) ≡ map (revived n) ss
revived-twice age n ss =
    map-map (revived n) (revived_at age n) ss
    ∙ map-alike (λ s. revived n (revived_at age n s)) (revived n) ss
    (λ k d inside.
    let s = get_or ss k d in
    ap (slot_with s) (twice (s.age == age) n s.taken))

pub revived-all : (n : ℕ) (ss : List Slot) → All (λ s. s.taken ≤ n) ss → ss ≡ map (revived n) ss
revived-all n ss below =
    sym (map_fixed (revived n) ss
    (All-weaker (λ s. s.taken ≤ n) (λ s. revived n s ≡ s) (λ s down. ap (slot_with s) (few n s.taken down)) ss below))

-- the last of the list is brought back
pub logged_back : (front : List ℕ) (age n : ℕ) (ss : List Slot) → n ≤ length front → All (IsLogged (front ++ age ∷ [])) ss
    → All (IsLogged front) (map (revived_at age n) ss)
logged_back front age n ss within logged =
    All-map (IsLogged front) (revived_at age n) ss
    (λ k d inside some.
    let s = get_or ss k d in
    let same = back (s.age == age) n s.taken some in
    let positive : 0 < s.taken = omega (arith, some, same) in
    let place : slice_get front (s.taken - 1) ≡ Some s.age =
    elim (slice_get_push front age (s.taken - 1) s.age (logged k d inside positive)) [
      | inl (before, read) ↦ read
      | inr (at, is) ↦ absurd (gone s.age age n s.taken is (omega (arith, at, within, positive)) some)
    ] in
    ap (λ t. slice_get front (t - 1)) same ∙ place)

-- at most one more is there
cond_most : (b : Bool) (s : Slot) (xs : List Slot) → length (cond b (s ∷ xs) xs) ≤ length xs + 1
cond_most true s xs = omega arith
cond_most false s xs = omega arith

cond_least : (b : Bool) (s : Slot) (xs : List Slot) → length xs ≤ length (cond b (s ∷ xs) xs)
cond_least true s xs = omega arith
cond_least false s xs = omega arith

cond_both : (b : Bool) (s t : Slot) (xs ys : List Slot) → length xs ≤ length ys + 1
    → length (cond b (s ∷ xs) xs) ≤ length (cond b (t ∷ ys) ys) + 1
cond_both true s t xs ys few = omega (arith, few)
cond_both false s t xs ys few = few

pub revived_at-other : (age n : ℕ) (s : Slot) → s.age ≢ age → revived_at age n s ≡ s
revived_at-other age n s other = ap (λ b. slot_with s (cond (b && nat_lt n s.taken) 0 s.taken)) (ne_eqb s.age age other)

pub revived-count : (age n : ℕ) (ss : List Slot) → InOrder ss
    → length (filter is_there (map (revived_at age n) ss)) ≤ length (filter is_there ss) + 1
revived-count age n [] order = omega arith
revived-count age n (s ∷ ss) order =
    let f = revived_at age n in
    elim (cases_Bool (s.age == age)) [
      | inl same ↦
          let rest : map f ss ≡ ss =
          map-others f age ss (revived_at-other age n) (behind_others age s ss (eqb-true s.age age same) order.0) in
          let most = cond_most (is_there (f s)) (f s) (filter is_there ss) in
          let least = cond_least (is_there s) s (filter is_there ss) in
          subst (λ ts. length (cond (is_there (f s)) (f s ∷ filter is_there ts) (filter is_there ts)) ≤ length (filter is_there (s ∷ ss)) + 1)
          (sym rest) (omega (arith, most, least))
      | inr other ↦
          let head : f s ≡ s = revived_at-other age n s (λ same. true≢false (sym (eq-eqb s.age age same) ∙ other)) in
          subst (λ (t : Slot). length (cond (is_there t) (t ∷ filter is_there (map f ss)) (filter is_there (map f ss))) ≤ length (filter is_there (s ∷ ss)) + 1)
          (sym head) (cond_both (is_there s) s s (filter is_there (map f ss)) (filter is_there ss) (revived-count age n ss order.1))
    ]

pub filter-there-stays : (age : ℕ) (ss : List Slot) → filter is_there (filter (stays age) ss) ≡ filter is_there ss
filter-there-stays age [] = refl
filter-there-stays age (s ∷ ss) =
    elim (cases_Bool (stays age s)) [
      | inl stay ↦
          ap (λ b. filter is_there (cond b (s ∷ filter (stays age) ss) (filter (stays age) ss))) stay
          ∙ ap (λ ts. cond (is_there s) (s ∷ ts) ts) (filter-there-stays age ss)
      | inr go ↦
          ap (λ b. filter is_there (cond b (s ∷ filter (stays age) ss) (filter (stays age) ss))) go
          ∙ filter-there-stays age ss
          ∙ sym (ap (λ b. cond b (s ∷ filter is_there ss) (filter is_there ss)) (not_there (is_there s) (s.age == age) go))
    ]
  where
    not_there : (b c : Bool) → (b || not c) ≡ false → b ≡ false
    not_there true c fails = fails
    not_there false c fails = refl

pub logged_less : (front : List ℕ) (age : ℕ) (ss : List Slot) → All (IsLogged (front ++ age ∷ [])) ss
    → All (IsLogged front) (filter (stays age) ss)
logged_less front age ss logged k d inside some =
    let s = get_or (filter (stays age) ss) k d in
    let was : IsLogged (front ++ age ∷ []) s = All-filter (stays age) (IsLogged (front ++ age ∷ [])) ss logged k d inside in
    elim (slice_get_push front age (s.taken - 1) s.age (was some)) [
      | inl (before, read) ↦ read
      | inr (at, is) ↦
          absurd (true≢false (sym (filter_passes (stays age) ss k d inside)
          ∙ ap (λ b. b || not (s.age == age)) (ne_eqb s.taken 0 (λ none. absurd (omega (arith, none, some))))
          ∙ ap not (eq-eqb s.age age is)))
    ]

pub filter-there-all : (ss : List Slot) → All (λ s. s.taken ≤ 0) ss → ss ≡ filter is_there ss
filter-there-all ss none =
    sym (filter_all is_there ss
    (All-weaker (λ s. s.taken ≤ 0) (λ s. is_there s ≡ true) (λ s zero_taken. eq-eqb s.taken 0 (omega (arith, zero_taken))) ss none))
