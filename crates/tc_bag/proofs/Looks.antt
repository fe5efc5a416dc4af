-- How many rows a search may look at.
use Rattle.std.proofs.Common.{◌≡◌, ◌≤◌, ◌<◌, ◌+◌, ◌==◌, ◌&&◌, not, nat_lt, ℕ, zero, suc, inl, inr, Bool, true, false, cond, Some, None, List, [], ◌∷◌, length, get_or, map, filter, Contains, refl, ap, sym, subst, ◌∙◌, arith}
use Rattle.std.proofs.lemmas.Bool.{cases_Bool, eqb-true, eq-eqb, true≢false}
use Rattle.std.proofs.lemmas.Bool.Decides.{nat_tests}
use Rattle.std.proofs.lemmas.Slice.Eq.{bytes_eq-Decides}
use Rattle.std.specs.Str.{bytes_eq}
use Rattle.tc_term.specs.Tree.{Tree, Variable, Atomic, Number, Compound, Trees, Last, More}
use Rattle.tc_steps.specs.Tops.{as_many, agree, agreeing}
use Rattle.tc_bag.specs.declared.key.Key.{Key}
use Rattle.tc_bag.specs.declared.key.Key.TheVariants.{Any, Int, Atom, Comp}
use Rattle.tc_bag.specs.Keys.{arity, key_of, IsOfKey}
use Rattle.tc_bag.specs.Looks.{is_of_key, is_like_from, is_like_between, like_from, like_between}
use Rattle.tc_bag.specs.Slots.{Slot, row_of, is_there, rows_now, tuple_there}
use Rattle.tc_bag.specs.Stock.{Row, tuples_of, IsCandidate}

-- the test tells what agrees with the key
own_key : (t : Tree) → is_of_key (key_of t) t ≡ true
own_key (Variable n) = refl
own_key (Atomic name) = (bytes_eq-Decides name name).1 refl
own_key (Number n) = refl
own_key (Compound name args) =
    ap (λ b. b && (arity args == arity args)) ((bytes_eq-Decides name name).1 refl) ∙ eq-eqb (arity args) (arity args) refl

pub of_key-true : (key : Key) (t : Tree) → IsOfKey key t → is_of_key key t ≡ true
of_key-true key t (inl any) = subst (λ k. is_of_key k t ≡ true) (sym any) refl
of_key-true key t (inr own) = subst (λ k. is_of_key k t ≡ true) (sym own) (own_key t)

both : (a b : Bool) → a && b ≡ true → (a ≡ true) × (b ≡ true)
both true true is = (refl, refl)
both true false is = absurd (true≢false (sym is))
both false b is = absurd (true≢false (sym is))

pub true-of_key : (key : Key) (t : Tree) → is_of_key key t ≡ true → IsOfKey key t
true-of_key Any t is = inl refl
true-of_key Int (Variable n) is = absurd (true≢false (sym is))
true-of_key Int (Atomic name) is = absurd (true≢false (sym is))
true-of_key Int (Number n) is = inr refl
true-of_key Int (Compound name args) is = absurd (true≢false (sym is))
true-of_key (Atom name) (Variable n) is = absurd (true≢false (sym is))
true-of_key (Atom name) (Atomic other) is = inr (ap Atom ((bytes_eq-Decides name other).0 is))
true-of_key (Atom name) (Number n) is = absurd (true≢false (sym is))
true-of_key (Atom name) (Compound other args) is = absurd (true≢false (sym is))
true-of_key (Comp name count) (Variable n) is = absurd (true≢false (sym is))
true-of_key (Comp name count) (Atomic other) is = absurd (true≢false (sym is))
true-of_key (Comp name count) (Number n) is = absurd (true≢false (sym is))
true-of_key (Comp name count) (Compound other args) is =
    let parts = both (bytes_eq name other) (count == arity args) is in
    inr (ap (λ n. Comp n count) ((bytes_eq-Decides name other).0 parts.0) ∙ ap (Comp other) (eqb-true count (arity args) parts.1))

-- a key and the term that it is of agree with the same tuples at the top
as_many-arity : (ts us : Trees) → (arity ts == arity us) ≡ true → as_many ts us ≡ true
as_many-arity (Last t) (Last u) is = refl
as_many-arity (Last t) (More u us) is = absurd (one_more us (eqb-true 1 (1 + arity us) is))
  where
    one_more : (vs : Trees) → 1 ≡ 1 + arity vs → ⊥
    one_more (Last v) same = absurd (omega (arith, same))
    one_more (More v vs) same = absurd (omega (arith, same))
as_many-arity (More t ts) (Last u) is = absurd (one_more ts (eqb-true (1 + arity ts) 1 is))
  where
    one_more : (vs : Trees) → 1 + arity vs ≡ 1 → ⊥
    one_more (Last v) same = absurd (omega (arith, same))
    one_more (More v vs) same = absurd (omega (arith, same))
as_many-arity (More t ts) (More u us) is =
    let same : 1 + arity ts ≡ 1 + arity us = eqb-true (1 + arity ts) (1 + arity us) is in
    as_many-arity ts us (eq-eqb (arity ts) (arity us) (omega (arith, same)))

pub of_key-agree : (t u : Tree) → is_of_key (key_of t) u ≡ true → agree t u ≡ true
of_key-agree (Variable m) u is = refl
of_key-agree (Atomic m) (Variable n) is = refl
of_key-agree (Atomic m) (Atomic n) is = is
of_key-agree (Atomic m) (Number n) is = is
of_key-agree (Atomic m) (Compound n us) is = is
of_key-agree (Number m) (Variable n) is = refl
of_key-agree (Number m) (Atomic n) is = is
of_key-agree (Number m) (Number n) is = refl
of_key-agree (Number m) (Compound n us) is = is
of_key-agree (Compound m ts) (Variable n) is = refl
of_key-agree (Compound m ts) (Atomic n) is = is
of_key-agree (Compound m ts) (Number n) is = is
of_key-agree (Compound m ts) (Compound n us) is =
    let parts = both (bytes_eq m n) (arity ts == arity us) is in
    ap (λ b. b && as_many ts us) parts.0 ∙ as_many-arity ts us parts.1

-- counts go by one more
count-cons : {X : Type 0} (p : X → Bool) (x : X) (xs : List X) → length (filter p (x ∷ xs)) ≡ cond (p x) 1 0 + length (filter p xs)
count-cons p x xs = go (p x)
  where
    go : (b : Bool) → length (cond b (x ∷ filter p xs) (filter p xs)) ≡ cond b 1 0 + length (filter p xs)
    go true = omega arith
    go false = omega arith

count_le : {X : Type 0} (p q : X → Bool) → ((x : X) → cond (p x) 1 0 ≤ cond (q x) 1 0) → (xs : List X)
    → length (filter p xs) ≤ length (filter q xs)
count_le p q less [] = omega arith
count_le p q less (x ∷ xs) = omega (arith, count-cons p x xs, count-cons q x xs, less x, count_le p q less xs)

count_sum : {X : Type 0} (p q r : X → Bool) → ((x : X) → cond (p x) 1 0 + cond (q x) 1 0 ≤ cond (r x) 1 0) → (xs : List X)
    → length (filter p xs) + length (filter q xs) ≤ length (filter r xs)
count_sum p q r less [] = omega arith
count_sum p q r less (x ∷ xs) =
    omega (arith, count-cons p x xs, count-cons q x xs, count-cons r x xs, less x, count_sum p q r less xs)

abbrev one : Bool → ℕ
one b = cond b 1 0

count_at : {X : Type 0} (p : X → Bool) (xs : List X) (k : ℕ) (d : X) → k < length xs → p (get_or xs k d) ≡ true → 1 ≤ length (filter p xs)
count_at p [] k d inside passes = absurd (omega (arith, inside))
count_at p (x ∷ xs) zero d inside passes =
    let here = ap (λ (b : Bool). one b) passes in
    omega (arith, count-cons p x xs, here)
count_at p (x ∷ xs) (suc k) d inside passes = omega (arith, count-cons p x xs, count_at p xs k d (omega (arith, inside)) passes)

-- of one age
apart_at : (x a b c d : ℕ) (k : Bool) → a ≤ b → b ≤ c → c ≤ d
    → cond (nat_lt x b && (not (nat_lt x a) && k)) 1 0 + cond (nat_lt x d && (not (nat_lt x c) && k)) 1 0
    ≤ cond (nat_lt x d && (not (nat_lt x a) && k)) 1 0
apart_at x a b c d k ab bc cd = grind (arith, nat_tests)

apart_from_at : (x a b : ℕ) (k : Bool) → a ≤ b
    → cond (nat_lt x b && (not (nat_lt x a) && k)) 1 0 + cond (not (nat_lt x b) && k) 1 0 ≤ cond (not (nat_lt x a) && k) 1 0
apart_from_at x a b k ab = grind (arith, nat_tests)

below_at : (x a b : ℕ) (k : Bool) → cond (nat_lt x b && (not (nat_lt x a) && k)) 1 0 ≤ cond (not (nat_lt x a) && k) 1 0
below_at x a b k = grind (arith, nat_tests)

all_at : (x : ℕ) (k h : Bool) → (k ≡ true → h ≡ true) → cond (not (nat_lt x 0) && k) 1 0 ≤ cond h 1 0
all_at x true h agrees = let is = agrees refl in grind (arith, nat_tests)
all_at x false h agrees = grind (arith, nat_tests)

found_at : (x a : ℕ) (k : Bool) → a ≤ x → k ≡ true → nat_lt x (x + 1) && (not (nat_lt x a) && k) ≡ true
found_at x a k up is = grind (arith, nat_tests)

-- looks add up
pub like-apart : (key : Key) (a b c d : ℕ) (rows : List Row) → a ≤ b → b ≤ c → c ≤ d
    → like_between key a b rows + like_between key c d rows ≤ like_between key a d rows
like-apart key a b c d rows ab bc cd =
    count_sum (is_like_between key a b) (is_like_between key c d) (is_like_between key a d)
    (λ r. apart_at r.age a b c d (is_of_key key r.tuple) ab bc cd) rows

pub like-between : (key : Key) (a b c : ℕ) (rows : List Row) → a ≤ b → b ≤ c
    → like_between key a b rows + like_between key b c rows ≤ like_between key a c rows
like-between key a b c rows ab bc = like-apart key a b b c rows ab (omega arith) bc

pub like-from : (key : Key) (a b : ℕ) (rows : List Row) → a ≤ b
    → like_between key a b rows + like_from key b rows ≤ like_from key a rows
like-from key a b rows ab =
    count_sum (is_like_between key a b) (is_like_from key b) (is_like_from key a)
    (λ r. apart_from_at r.age a b (is_of_key key r.tuple) ab) rows

pub like-below : (key : Key) (a b : ℕ) (rows : List Row) → like_between key a b rows ≤ like_from key a rows
like-below key a b rows =
    count_le (is_like_between key a b) (is_like_from key a) (λ r. below_at r.age a b (is_of_key key r.tuple)) rows

pub like-all : (t : Tree) (rows : List Row) → like_from (key_of t) 0 rows ≤ agreeing t (tuples_of rows)
like-all t [] = omega arith
like-all t (r ∷ rs) =
    let here = all_at r.age (is_of_key (key_of t) r.tuple) (agree t r.tuple) (of_key-agree t r.tuple) in
    omega (arith, count-cons (is_like_from (key_of t) 0) r rs, count-cons (agree t) r.tuple (tuples_of rs), here, like-all t rs)

pub like-found : (key : Key) (from : ℕ) (rows : List Row) (r : Row) → Contains rows r → IsCandidate key from r
    → 1 ≤ like_between key from (r.age + 1) rows
like-found key from rows r (k, inside, at) (up, of_key) =
    count_at (is_like_between key from (r.age + 1)) rows k r inside
    (subst (λ (q : Row). is_like_between key from (r.age + 1) q ≡ true) (sym at)
    (found_at r.age from (is_of_key key r.tuple) up (of_key-true key r.tuple of_key)))

-- a row that is there counts
pub like-there : (key : Key) (age : ℕ) (t : Tree) (ss : List Slot) → tuple_there age ss ≡ Some t → IsOfKey key t
    → 1 ≤ like_between key age (age + 1) (rows_now ss)
like-there key age t [] found of_key = absurd (cc)
like-there key age t (s ∷ ss) found of_key =
    elim (cases_Bool (s.age == age)) [
      | inl same ↦
          here (is_there s) (eqb-true s.age age same)
          (sym (ap (λ b. cond b (cond (is_there s) (Some s.tuple) None) (tuple_there age ss)) same) ∙ found)
      | inr other ↦
          later (is_there s)
          (like-there key age t ss (sym (ap (λ b. cond b (cond (is_there s) (Some s.tuple) None) (tuple_there age ss)) other) ∙ found) of_key)
    ]
  where
    Some_rows : Bool → Type 0
    Some_rows b = 1 ≤ like_between key age (age + 1) (map row_of (cond b (s ∷ filter is_there ss) (filter is_there ss)))

    later : (b : Bool) → 1 ≤ like_between key age (age + 1) (rows_now ss) → Some_rows b
    later true some = omega (arith, some, count-cons (is_like_between key age (age + 1)) (row_of s) (rows_now ss))
    later false some = some

    here : (b : Bool) → s.age ≡ age → cond b (Some s.tuple) None ≡ Some t → Some_rows b
    here true same is =
        let known : Some s.tuple ≡ Some t = is in
        let tuple : s.tuple ≡ t = cc in
        let own : IsOfKey key s.tuple = subst (IsOfKey key) (sym tuple) of_key in
        let passes : is_like_between key age (age + 1) (row_of s) ≡ true =
        subst (λ a. is_like_between key a (a + 1) (row_of s) ≡ true) same
        (found_at s.age s.age (is_of_key key s.tuple) (omega arith) (of_key-true key s.tuple own)) in
        count_at (is_like_between key age (age + 1)) (row_of s ∷ rows_now ss) 0 (row_of s) (omega arith) passes
    here false same is =
        let never : None ≡ Some t = is in
        absurd (cc)

-- a search that goes on from where it was has looked at no more than there is up to it
pub looked_on : (key : Key) (from at age steps now new : ℕ) (rows : List Row) → from ≤ at → at ≤ age
    → now ≤ steps + like_between key from at rows → new ≤ now + like_between key age (age + 1) rows
    → new ≤ steps + like_between key from (age + 1) rows
looked_on key from at age steps now new rows up on before here =
    omega (arith, before, here, like-apart key from at age (age + 1) rows up on (omega arith))

pub looked_all : (key : Key) (from to steps now : ℕ) (rows : List Row) → now ≤ steps + like_between key from to rows
    → now ≤ steps + like_from key from rows
looked_all key from to steps now rows looked = omega (arith, looked, like-below key from to rows)
