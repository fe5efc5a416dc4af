-- Which ages an index has for a code.
use Rattle.std.specs.Prelude.{ℕ, IfSome}
use Rattle.tc_term.specs.Tree.{Tree}
use Rattle.tc_bag.specs.declared.index.Index.{Index}
use Rattle.tc_bag.specs.declared.codes.Code.{Code}
use Rattle.tc_bag.specs.declared.codes.Code.TheVariants.{OfKey, OfFirst}
use Rattle.tc_bag.specs.declared.codes.Codes.{Codes}
use Rattle.tc_bag.specs.Codes.{codes_of}
use Rattle.tc_bag.specs.Words.{HasAge}
use Rattle.tc_bag.specs.Blocks.{HasAgeByBlock}

-- the index has the age by the code
abbrev pub Has : Index → Code → ℕ → Type 0
Has index (OfKey code) age = HasAgeByBlock index.keys code age
Has index (OfFirst code) age = HasAge index.firsts code age

-- the index has the age by these codes
abbrev pub HasCodes : Index → ℕ → Codes → Type 0
HasCodes index age codes =
    Has index (OfKey codes.key) age × IfSome codes.first (λ code. Has index (OfFirst code) age)

-- the index has the age of a tuple by the code of its key, and by that of its key and first
-- argument
abbrev pub HasRow : Index → ℕ → Tree → Type 0
HasRow index age tuple = HasCodes index age (codes_of tuple)
