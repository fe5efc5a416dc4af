-- Codes and ages in words.
use Rattle.std.specs.Prelude.{ℕ, ◌+◌, ◌-◌, ◌*◌, ◌/◌, ◌%◌, ◌<◌, ◌≤◌, IsTrue}
use Rattle.std.specs.BTreeSet.{contains}
use Rattle.std.specs.Ordering.{nat_cmp}
use Rattle.tc_bag.specs.declared.by_code.ByCode.{ByCode}
use Rattle.tc_bag.specs.declared.by_code.TheConstants.{FAR}
use Rattle.tc_bag.specs.Pairs.{HasPair}

-- a code's halves in one
abbrev pub short_code : ℕ → ℕ
short_code code = (code % FAR + FAR - code / FAR) % FAR

-- the word of a code and an age
abbrev pub word : ℕ → ℕ → ℕ
word code age = short_code code * FAR + age

-- the word of a code and an age is there
abbrev pub HasWord : ByCode → ℕ → ℕ → Type 0
HasWord ages code age = IsTrue (contains nat_cmp ages.words (word code age))

-- the age is there by this code: in a word, or in a pair where it has none
abbrev pub HasAge : ByCode → ℕ → ℕ → Type 0
HasAge ages code age = (age < FAR → HasWord ages code age) × (FAR ≤ age → HasPair ages.far code age)
