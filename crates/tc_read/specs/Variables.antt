-- The names of variables, as the code has them.
use Rattle.std.specs.Prelude.{List, ℕ, map}
use Rattle.tc_read.specs.declared.variables.Variables.{Variables}

abbrev pub names_view : Variables → List (List ℕ)
names_view variables = map (λ name. name.now) variables.known.items
