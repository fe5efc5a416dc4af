-- An input of two parts.
use Rattle.std.specs.Prelude.{◌≡◌, ◌≢◌, ◌<◌, ◌≤◌, ◌+◌, ◌-◌, ◌⊎◌, ℕ, List, [], ◌++◌, All}
use Rattle.std.specs.Prelude.{codes, drop, length, take}
use Rattle.std.specs.List.{flat_map}
use Rattle.tc_histline.specs.Lines.{HasNoFeed}
use Rattle.tc_histtext.specs.ReadTexts.{ended}

-- the line that parts an input
abbrev pub mark : List ℕ
mark = codes "%%"

-- it is a line, and not the one that parts
pub record IsPlainLine (line : List ℕ) : Type 0 where
  pub whole : HasNoFeed line
  pub other : line ≢ mark

-- a part of so many lines, none of which is the one that parts, stands before that line; what
-- stands behind it is the other part
pub record HasMark (input first second : List ℕ) : Type 0 where
  pub lines : List (List ℕ)
  pub plain : All IsPlainLine lines
  pub lines_are : first ≡ flat_map ended lines
  pub stands : (input ≡ first ++ (ended mark ++ second)) ⊎ ((input ≡ first ++ mark) × (second ≡ []))

-- no line is the one that parts: all is the first part
pub record HasNoMark (input first second : List ℕ) : Type 0 where
  pub lines : List (List ℕ)
  pub last : List ℕ
  pub plain : All IsPlainLine lines
  pub end : IsPlainLine last
  pub lines_are : input ≡ flat_map ended lines ++ last
  pub first_is : first ≡ input
  pub second_is : second ≡ []

-- the input is parted at its first line `%%`; without one all is the first part
abbrev pub IsParted : List ℕ → List ℕ → List ℕ → Type 0
IsParted input first second = HasMark input first second ⊎ HasNoMark input first second

-- the line that begins at one place ends at another, with the first LF from there on
pub record EndsLine (input : List ℕ) (from end : ℕ) : Type 0 where
  pub behind : from ≤ end
  pub within : end < length input
  pub whole : HasNoFeed (take (end - from) (drop from input))
  pub cut : drop from input ≡ ended (take (end - from) (drop from input)) ++ drop (end + 1) input
