-- Where the bytes of a name lie. No public clause cites this module.
use Rattle.std.specs.Prelude.{ℕ, List, ◌≤◌, take}
use Rattle.tc_term.specs.declared.name.Letters.{Letters}
use Rattle.tc_term.specs.declared.name.Letters.TheVariants.{Short, Long}

-- the bytes: of a short name the first places, as many as it has
abbrev pub bytes_of : Letters → List ℕ
bytes_of (Short count places) = take count places
bytes_of (Long bytes) = bytes.value.items

-- a short name has no more bytes than places
abbrev pub HasPlaces : Letters → Type 0
HasPlaces (Short count places) = count ≤ 14
HasPlaces (Long bytes) = Unit {0}
