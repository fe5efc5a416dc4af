-- Lines: bytes that are cut at each LF.
use Rattle.std.specs.Prelude.{◌≡◌, ℕ, ◌+◌, ◌<◌, ◌≤◌, ◌⊎◌, ◌↔◌, Option, Some}
use Rattle.std.specs.Prelude.{List, [], ◌∷◌, ◌++◌, length, slice_index}
use Rattle.tc_io.specs.Sources.{ReadsBytes}
use Rattle.tc_lines.specs.declared.limits.TheConstants.{MOST_LINE}

-- no byte from this place on is LF
abbrev pub HasNoBreakFrom : List ℕ → ℕ → Type 0
HasNoBreakFrom bytes from =
    (k : ℕ) → from ≤ k → k < length bytes → slice_index bytes k ≡ 10 → ⊥

-- no byte is LF
abbrev pub HasNoBreak : List ℕ → Type 0
HasNoBreak bytes = HasNoBreakFrom bytes 0

-- the first LF from this place on stands here
pub record IsBreak (bytes : List ℕ) (from at : ℕ) : Type 0 where
  pub behind : from ≤ at
  pub within : at < length bytes
  pub is : slice_index bytes at ≡ 10
  pub first : (k : ℕ) → from ≤ k → k < at → slice_index bytes k ≡ 10 → ⊥

-- the bytes of a line, without the LF behind it
pub record IsLine (raw : List ℕ) : Type 0 where
  pub one : HasNoBreak raw
  pub fits : length raw ≤ MOST_LINE

-- the line as it is read: one CR at its end is dropped
abbrev pub IsReadAs : List ℕ → List ℕ → Type 0
IsReadAs raw line =
    (raw ≡ line ++ 13 ∷ [])
    ⊎ ((raw ≡ line) × ((front : List ℕ) → raw ≡ front ++ 13 ∷ [] → ⊥))

-- the bytes of lines, each with an LF behind it
abbrev pub lines_text : List (List ℕ) → List ℕ
lines_text [] = []
lines_text (raw ∷ raws) = raw ++ 10 ∷ lines_text raws

-- how many bytes were used, and how many were searched for an LF
pub record AreUnread (from looked : ℕ) (bytes : List ℕ) : Type 0 where
  pub order : from ≤ looked
  pub within : looked ≤ length bytes
  pub few : length bytes ≤ from + (MOST_LINE + 1)
  pub clear : (k : ℕ) → from ≤ k → k < looked → slice_index bytes k ≡ 10 → ⊥

-- so many bytes were read behind those that were there, and none only at the end of the source
pub record Fills (left rest : Option (List ℕ)) (n : ℕ) (old new : List ℕ) : Type 0 where
  pub bytes : List ℕ
  pub count : length bytes ≡ n
  pub read : ReadsBytes left rest bytes
  pub end : (all : List ℕ) → left ≡ Some all → (n ≡ 0) ↔ (all ≡ [])
  pub behind : new ≡ old ++ bytes
