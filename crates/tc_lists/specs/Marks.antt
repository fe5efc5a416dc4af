-- Marks to which a value goes back: what it was at each of them is saved, the latest last.
use Rattle.std.specs.Prelude.{◌≡◌, ℕ, ◌≤◌, List, [], ◌∷◌, ◌++◌, All}

-- what is saved with one more mark, set where this is the value
abbrev pub with_mark : {X : Type 0} → List X → X → List X
with_mark saved now = saved ++ now ∷ []

-- back at the latest mark: the value that was saved at it, and the marks before it
abbrev pub IsBack : {X : Type 0} → List X → X → List X → Type 0
IsBack {X} saved now left =
    (before : List X) (top : X) → saved ≡ before ++ top ∷ []
    → (now ≡ top) × (left ≡ before)

-- the latest mark is given up: only the marks before it are left
abbrev pub IsGivenUp : {X : Type 0} → List X → List X → Type 0
IsGivenUp {X} saved left =
    (before : List X) (top : X) → saved ≡ before ++ top ∷ [] → left ≡ before

-- the numbers don't fall, and are at most this one
abbrev pub Climbs : List ℕ → ℕ → Type 0
Climbs [] top = Unit {0}
Climbs (m ∷ ms) top = (m ≤ top) × All (λ k. m ≤ k) ms × Climbs ms top
