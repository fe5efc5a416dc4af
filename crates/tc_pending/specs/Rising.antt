-- Numbers that rise.
use Rattle.std.specs.Prelude.{ℕ, ◌≡◌, ◌<◌, List, length, slice_index_or, All}

-- the numbers rise
abbrev pub NumbersRise : List ℕ → Type 0
NumbersRise numbers =
    (i j : ℕ) → i < j → j < length numbers
    → slice_index_or numbers i 0 < slice_index_or numbers j 0

-- the number is above the others
abbrev pub IsAbove : List ℕ → ℕ → Type 0
IsAbove numbers number = All (λ n. n < number) numbers

-- the number stands at this place
abbrev pub IsAt : List ℕ → ℕ → ℕ → Type 0
IsAt numbers number place = (place < length numbers) × (slice_index_or numbers place 0 ≡ number)
