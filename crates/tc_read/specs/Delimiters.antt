-- The tokens that may stand behind a whole term.
use Rattle.std.specs.Prelude.{List, ◌∷◌}
use Rattle.tc_term.specs.Grammar as grammar
use Rattle.tc_term.specs.Grammar.{Token}
use Rattle.tc_read.specs.declared.cursor.Delimiter.{Delimiter}
use Rattle.tc_read.specs.declared.cursor.Delimiter.TheVariants.{Close, CloseList, Comma, Bar}

abbrev pub delimiter_view : Delimiter → Token
delimiter_view Close = grammar.Close
delimiter_view CloseList = grammar.CloseList
delimiter_view Comma = grammar.Comma
delimiter_view Bar = grammar.Bar

-- no closing bracket, comma or bar stands at the front
abbrev pub NoDelimiter : List Token → Type 0
NoDelimiter (grammar.Close ∷ ts) = ⊥
NoDelimiter (grammar.CloseList ∷ ts) = ⊥
NoDelimiter (grammar.Comma ∷ ts) = ⊥
NoDelimiter (grammar.Bar ∷ ts) = ⊥
NoDelimiter _ = Unit {0}

-- no list is closed here
abbrev pub NotClosed : List Token → Type 0
NotClosed (grammar.CloseList ∷ ts) = ⊥
NotClosed _ = Unit {0}
