-- Names in order, each at its place.
use Rattle.std.specs.Prelude.{ℕ, List, Option, position}
use Rattle.std.specs.Str.{bytes_eq}

-- the place of a name among these, counted from 0
abbrev pub place_of : List (List ℕ) → List ℕ → Option ℕ
place_of names name = position (bytes_eq name) names
