-- Rows by their ages.
use Rattle.std.proofs.Common.{◌≡◌, ◌≢◌, ◌<◌, ◌==◌, ℕ, false, cond, Some, None, List, [], ◌∷◌, ◌++◌, All, refl, ap, ◌∙◌, arith}
use Rattle.std.proofs.lemmas.Bool.{eq-eqb, ne_eqb}
use Rattle.std.proofs.lemmas.List.Elements.{All-head, All-tail, All-weaker, All-cons}
use Rattle.tc_bag.specs.Stock.{Row, AgesRiseBelow, tuple_at, without_age}
use Rattle.tc_lists.proofs.Elements.{All-append_right}

-- the row has another age
abbrev pub IsOther : ℕ → Row → Type 0
IsOther age r = r.age ≢ age

-- rows of other ages are passed over
pub without_age-pass : (age : ℕ) (xs ys : List Row) → All (IsOther age) xs
    → without_age age (xs ++ ys) ≡ xs ++ without_age age ys
without_age-pass age [] ys other = refl
without_age-pass age (r ∷ rs) ys other =
    let differs : (r.age == age) ≡ false = ne_eqb r.age age (All-head (IsOther age) r rs other) in
    ap (λ b. cond b (rs ++ ys) (r ∷ without_age age (rs ++ ys))) differs
    ∙ ap (λ ts. r ∷ ts) (without_age-pass age rs ys (All-tail (IsOther age) r rs other))

pub without_age-at : (age : ℕ) (xs ys : List Row) (r : Row) → All (IsOther age) xs → r.age ≡ age
    → without_age age (xs ++ r ∷ ys) ≡ xs ++ ys
without_age-at age xs ys r other same =
    without_age-pass age xs (r ∷ ys) other
    ∙ ap (λ b. xs ++ cond b ys (r ∷ without_age age ys)) (eq-eqb r.age age same)

pub without_age-none : (age : ℕ) (xs : List Row) → All (IsOther age) xs → without_age age xs ≡ xs
without_age-none age [] other = refl
without_age-none age (r ∷ rs) other =
    let differs : (r.age == age) ≡ false = ne_eqb r.age age (All-head (IsOther age) r rs other) in
    ap (λ b. cond b rs (r ∷ without_age age rs)) differs
    ∙ ap (λ ts. r ∷ ts) (without_age-none age rs (All-tail (IsOther age) r rs other))

pub tuple_at-at : (age : ℕ) (xs ys : List Row) (r : Row) → All (IsOther age) xs → r.age ≡ age
    → tuple_at age (xs ++ r ∷ ys) ≡ Some r.tuple
tuple_at-at age [] ys r other same =
    ap (λ b. cond b (Some r.tuple) (tuple_at age ys)) (eq-eqb r.age age same)
tuple_at-at age (x ∷ xs) ys r other same =
    let differs : (x.age == age) ≡ false = ne_eqb x.age age (All-head (IsOther age) x xs other) in
    ap (λ b. cond b (Some x.tuple) (tuple_at age (xs ++ r ∷ ys))) differs
    ∙ tuple_at-at age xs ys r (All-tail (IsOther age) x xs other) same

pub tuple_at-none : (age : ℕ) (xs : List Row) → All (IsOther age) xs → tuple_at age xs ≡ None
tuple_at-none age [] other = refl
tuple_at-none age (x ∷ xs) other =
    let differs : (x.age == age) ≡ false = ne_eqb x.age age (All-head (IsOther age) x xs other) in
    ap (λ b. cond b (Some x.tuple) (tuple_at age xs)) differs
    ∙ tuple_at-none age xs (All-tail (IsOther age) x xs other)

-- the rows before a row are older
pub AgesRiseBelow-front : (xs ys : List Row) (r : Row) (next : ℕ) → AgesRiseBelow (xs ++ r ∷ ys) next
    → All (λ s. s.age < r.age) xs
AgesRiseBelow-front [] ys r next rises = λ k d inside. absurd (omega (arith, inside))
AgesRiseBelow-front (x ∷ xs) ys r next rises =
    let above : x.age < r.age =
    All-head (λ s. x.age < s.age) r ys (All-append_right (λ s. x.age < s.age) xs (r ∷ ys) rises.1) in
    All-cons (λ s. s.age < r.age) x xs above (AgesRiseBelow-front xs ys r next rises.2)

-- so they have other ages
pub others_before : (xs ys : List Row) (r : Row) (next : ℕ) → AgesRiseBelow (xs ++ r ∷ ys) next
    → All (IsOther r.age) xs
others_before xs ys r next rises =
    All-weaker (λ s. s.age < r.age) (IsOther r.age) (λ s older same. absurd (omega (arith, older, same))) xs
    (AgesRiseBelow-front xs ys r next rises)

-- the age of each is below the number
pub AgesRiseBelow-all : (rows : List Row) (next : ℕ) → AgesRiseBelow rows next → All (λ r. r.age < next) rows
AgesRiseBelow-all [] next rises = λ k d inside. absurd (omega (arith, inside))
AgesRiseBelow-all (r ∷ rs) next rises = All-cons (λ s. s.age < next) r rs rises.0 (AgesRiseBelow-all rs next rises.2)
