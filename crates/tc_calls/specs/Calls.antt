-- The numbers of an agent's calls, each with a place.
use Rattle.std.specs.Prelude.{◌≡◌, ℕ, ◌<◌, ◌==◌, if◌then◌else◌, Option, Some}
use Rattle.std.specs.Prelude.{None, List, [], ◌∷◌, All, length, slice_index_or}

-- the place of the first call of this number
abbrev pub place_of : List (ℕ × ℕ) → ℕ → Option ℕ
place_of [] number = None
place_of ((n, place) ∷ calls) number = if n == number then Some place else place_of calls number

-- the number of the call that stands here
abbrev pub number_at : List (ℕ × ℕ) → ℕ → ℕ
number_at calls i = let call = slice_index_or calls i (0, 0) in call.0

-- the numbers rise
abbrev pub Rises : List (ℕ × ℕ) → Type 0
Rises calls = (i j : ℕ) → i < j → j < length calls → number_at calls i < number_at calls j

-- the number is above those of the calls
abbrev pub IsAbove : ℕ → List (ℕ × ℕ) → Type 0
IsAbove number calls = All (λ call. call.0 < number) calls

-- the call of this number stands here
pub record IsAt (calls : List (ℕ × ℕ)) (number i : ℕ) : Type 0 where
  pub inside : i < length calls
  pub of : number_at calls i ≡ number

-- the number has this place now, and all others the places that they had
abbrev pub SetsPlace : ℕ → ℕ → List (ℕ × ℕ) → List (ℕ × ℕ) → Type 0
SetsPlace number place old new =
    (other : ℕ)
    → place_of new other ≡ (if number == other then Some place else place_of old other)
