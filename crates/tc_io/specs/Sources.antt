-- What a source has left, and what reading takes of it.
use Rattle.std.specs.Prelude.{◌≡◌, ℕ, ◌+◌, ◌<◌, ◌≤◌, ◌↔◌, Bool, Some, None}
use Rattle.std.specs.Prelude.{List, [], ◌++◌, length, take, drop}
use Rattle.std.specs.declared.option.Option.{Option}

-- what an object keeps as a source
pub record SourceState : Type 0 where
  pub left : Option (List ℕ)
  pub read_faults : ℕ
  pub sure : Bool

-- what the object s keeps as a source: what is left of it, its read faults, and whether it is
-- sure
abbrev pub source_of : {S : Type 0} → (S → Option (List ℕ)) → (S → ℕ) → (S → Bool) → S
    → SourceState
source_of left read_faults sure s =
    record { left = left s; read_faults = read_faults s; sure = sure s }

-- n bytes come from the front of these to the front of the buffer, and none only at their end
pub record GivesFront (bytes : List ℕ) (n : ℕ) (buffer : List ℕ) : Type 0 where
  pub within : n ≤ length bytes
  pub given : take n buffer ≡ take n bytes
  pub end : (n ≡ 0) ↔ (bytes ≡ [])

-- n bytes are read into the buffer, and the others are left
abbrev pub Reads : Option (List ℕ) → Option (List ℕ) → ℕ → List ℕ → Type 0
Reads None new n buffer = new ≡ None
Reads (Some bytes) new n buffer = GivesFront bytes n buffer × (new ≡ Some (drop n bytes))

-- these bytes were read from the front of what was left, and the rest is left
abbrev pub ReadsBytes : Option (List ℕ) → Option (List ℕ) → List ℕ → Type 0
ReadsBytes None new bytes = new ≡ None
ReadsBytes (Some left) new bytes = (rest : List ℕ) × (left ≡ bytes ++ rest) × (new ≡ Some rest)

-- these bytes, no more than the limit, are all that was left, and nothing is left
abbrev pub ReadsAll : Option (List ℕ) → Option (List ℕ) → ℕ → List ℕ → Type 0
ReadsAll None new limit bytes = (length bytes ≤ limit) × (new ≡ None)
ReadsAll (Some left) new limit bytes = (length bytes ≤ limit) × (left ≡ bytes) × (new ≡ Some [])

-- more bytes than the limit were left, and one more than the limit was read
abbrev pub ReadsPast : Option (List ℕ) → Option (List ℕ) → ℕ → Type 0
ReadsPast None new limit = new ≡ None
ReadsPast (Some left) new limit = (limit < length left) × (new ≡ Some (drop (limit + 1) left))

-- at most so many bytes were read
abbrev pub ReadsSome : Option (List ℕ) → Option (List ℕ) → ℕ → Type 0
ReadsSome None new most = new ≡ None
ReadsSome (Some left) new most = (n : ℕ) × (n ≤ most) × (new ≡ Some (drop n left))
