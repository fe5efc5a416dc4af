-- What agents ask as it is written, and where they ask it.
use Rattle.std.specs.Prelude.{◌≡◌, ℕ, List, codes, Option, Some, None}
use Rattle.tc_term.specs.Tree.{Tree, Atomic}
use Rattle.tc_model.specs.Asks.{operand_of, primitive_name, primitive_of}
use Rattle.tc_model.specs.Reactions.{of_one, of_two}
use Rattle.tc_model.specs.declared.asks.Ask.{Ask}
use Rattle.tc_model.specs.declared.lines.Line.{Line}

-- a name alone, or with one argument
abbrev pub name_with : List ℕ → Option Tree → Tree
name_with name None = Atomic name
name_with name (Some t) = of_one name t

-- what is asked, as it is written: the name of its primitive with its operand, if it has one
abbrev pub ask_term : Ask → Tree
ask_term ask = name_with (primitive_name (primitive_of ask)) (operand_of ask)

-- a line, as it is written: a centre's name and what is asked there
abbrev pub line_term : Line → Tree
line_term line = of_two (codes "?") (Atomic line.centre) (ask_term line.ask)

-- what is asked where this is written, or nothing
abbrev pub IsAsked : Tree → Option Ask → Type 0
IsAsked t (Some ask) = t ≡ ask_term ask
IsAsked t None = (ask : Ask) → t ≡ ask_term ask → ⊥

-- the line that is written so, or none
abbrev pub IsLined : Tree → Option Line → Type 0
IsLined t (Some line) = t ≡ line_term line
IsLined t None = (line : Line) → t ≡ line_term line → ⊥
