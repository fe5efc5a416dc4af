-- Codes of terms: numbers by which rows are looked up. Terms of one code may differ.
use Rattle.std.specs.Prelude.{ℕ, Option, Some, None, unsigned_abs}
use Rattle.std.specs.List.{fold}
use Rattle.tc_lists.specs.Codes.{mixed}
use Rattle.tc_term.specs.Tree.{Tree, Variable, Atomic, Number, Compound}
use Rattle.tc_bag.specs.declared.key.Key.{Key}
use Rattle.tc_bag.specs.declared.key.Key.TheVariants.{Any, Int, Atom, Comp}
use Rattle.tc_bag.specs.declared.codes.Code.{Code}
use Rattle.tc_bag.specs.declared.codes.Code.TheVariants.{OfKey, OfFirst}
use Rattle.tc_bag.specs.declared.codes.Codes.{Codes}
use Rattle.tc_bag.specs.Keys.{arity, first_of, key_of}

-- the code of a key
abbrev pub key_code : Key → ℕ
key_code Any = 0
key_code Int = 1
key_code (Atom name) = fold mixed 2 name
key_code (Comp name count) = fold mixed (mixed 3 count) name

-- the code of a term without its arguments
abbrev pub top_code : Tree → ℕ
top_code (Variable n) = 0
top_code (Number n) = mixed 1 (unsigned_abs n)
top_code (Atomic name) = fold mixed 2 name
top_code (Compound name args) = fold mixed (mixed 3 (arity args)) name

-- the code of a term's key and first argument, where it has arguments
abbrev pub first_code : Tree → Option ℕ
first_code (Variable n) = None
first_code (Atomic name) = None
first_code (Number n) = None
first_code (Compound name args) =
    Some (mixed (key_code (key_of (Compound name args))) (top_code (first_of args)))

-- the codes of a tuple
abbrev pub codes_of : Tree → Codes
codes_of t = record { key = key_code (key_of t); first = first_code t }

-- the code of the tuples with a key and, where one is given, a first argument
abbrev pub code_like : Key → Option Tree → Code
code_like key None = OfKey (key_code key)
code_like key (Some t) = OfFirst (mixed (key_code key) (top_code t))
