-- Going back to marks, and numbers that don't fall.
use Rattle.std.proofs.Common.{◌≡◌, ◌≤◌, ℕ, List, [], ◌∷◌, ◌++◌, All, get_or, refl, arith}
use Rattle.std.proofs.lemmas.List.Elements.{All-nil, All-head, All-cons, All-push}
use Rattle.tc_lists.specs.Marks.{Climbs}
use Rattle.tc_lists.proofs.Elements.{All-append_left, All-append_right}

-- the oldest mark stays, whatever comes behind it
pub get_or_first-push : {X : Type 0} (xs : List X) (x d : X) → get_or (xs ++ x ∷ []) 0 d ≡ get_or xs 0 x
get_or_first-push [] x d = refl
get_or_first-push (y ∷ xs) x d = refl

-- numbers that don't fall
pub Climbs-below : (ms : List ℕ) (n : ℕ) → Climbs ms n → All (λ m. m ≤ n) ms
Climbs-below [] n climbs = All-nil (λ m. m ≤ n)
Climbs-below (m ∷ ms) n climbs = All-cons (λ k. k ≤ n) m ms climbs.0 (Climbs-below ms n climbs.2)

pub Climbs-more : (ms : List ℕ) (n more : ℕ) → n ≤ more → Climbs ms n → Climbs ms more
Climbs-more [] n more above climbs = tt
Climbs-more (m ∷ ms) n more above climbs =
    (omega (arith, above, climbs.0), climbs.1, Climbs-more ms n more above climbs.2)

pub Climbs-push : (ms : List ℕ) (n : ℕ) → Climbs ms n → Climbs (ms ++ n ∷ []) n
Climbs-push [] n climbs = (omega arith, All-nil (λ k. n ≤ k), tt)
Climbs-push (m ∷ ms) n climbs =
    (climbs.0, All-push (λ k. m ≤ k) ms n climbs.1 climbs.0, Climbs-push ms n climbs.2)

pub Climbs-pop : (ms : List ℕ) (top n : ℕ) → Climbs (ms ++ top ∷ []) n → (top ≤ n) × Climbs ms top × Climbs ms n
Climbs-pop [] top n climbs = (climbs.0, tt, tt)
Climbs-pop (m ∷ ms) top n climbs =
    let Above : ℕ → Type 0 = λ k. m ≤ k in
    let rest = Climbs-pop ms top n climbs.2 in
    let front : All Above ms = All-append_left Above ms (top ∷ []) climbs.1 in
    let below : m ≤ top = All-head Above top [] (All-append_right Above ms (top ∷ []) climbs.1) in
    (rest.0, (below, front, rest.1), (climbs.0, front, rest.2))
