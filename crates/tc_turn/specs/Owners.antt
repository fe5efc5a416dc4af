-- Which entries of a history belong to which number.
use Rattle.std.specs.Prelude.{◌≡◌, ◌≢◌, ℕ, Bool, false, List, [], Option, None, Some, filter, ◌==◌}

-- whether the owner is the number n
abbrev pub is_owner : ℕ → Option ℕ → Bool
is_owner n None = false
is_owner n (Some k) = k == n

module _ {E : Type 0} (owner : E → Option ℕ) where
  -- the entries that the number n owns, in their order
  abbrev pub entries_of : ℕ → List E → List E
  entries_of n entries = filter (λ e. is_owner n (owner e)) entries

  -- the entries of the number, where there is one
  abbrev pub own_entries : Option ℕ → List E → List E
  own_entries None entries = []
  own_entries (Some n) entries = entries_of n entries

  -- each entry is owned by k or by none
  abbrev pub OthersOwnNone : ℕ → List E → Type 0
  OthersOwnNone k entries = (n : ℕ) → n ≢ k → entries_of n entries ≡ []
