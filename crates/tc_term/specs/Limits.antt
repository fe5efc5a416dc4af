-- The limits of terms and of their texts.
use Rattle.std.specs.Prelude.{ℕ}

-- the most variables, atoms, numbers and compounds of a term together
abbrev pub most_nodes : ℕ
most_nodes = 10000

-- the most nodes of a term that stand below one another
abbrev pub most_depth : ℕ
most_depth = 1000

-- the most bytes that all names of a term have together
abbrev pub most_name_bytes : ℕ
most_name_bytes = 65535

-- the most different variables of a template
abbrev pub most_variables : ℕ
most_variables = 256

-- the most brackets of a text that are open at once
abbrev pub most_brackets : ℕ
most_brackets = 200
