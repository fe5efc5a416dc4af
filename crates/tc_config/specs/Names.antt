-- Names that are declared.
use Rattle.std.specs.Prelude.{◌≡◌, ℕ, List, None, IsSome}
use Rattle.tc_names.specs.Names.{place_of}

-- the name is declared, or isn't
abbrev pub IsDeclared : List (List ℕ) → List ℕ → Type 0
IsDeclared names name = IsSome (place_of names name)

abbrev pub IsUnknown : List (List ℕ) → List ℕ → Type 0
IsUnknown names name = place_of names name ≡ None
