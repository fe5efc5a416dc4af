-- Tokens and operators as the grammar sees them.
use Rattle.std.specs.Prelude.{ℕ, Bool, true, false, if◌then◌else◌, ◌||◌}
use Rattle.std.specs.Prelude.{◌==◌, List, [], ◌∷◌, Option, Some, None}
use Rattle.tc_term.specs.Tokens as spelled
use Rattle.tc_term.specs.Grammar as grammar
use Rattle.tc_read.specs.declared.tokens.Sign.{Sign}
use Rattle.tc_read.specs.declared.tokens.Sign.TheVariants.{EqColonEq, EqBackEq, EqLess, GreaterEq}
use Rattle.tc_read.specs.declared.tokens.Sign.TheVariants.{BackEq, SlashSlash, Equal, Less}
use Rattle.tc_read.specs.declared.tokens.Sign.TheVariants.{Greater, Plus, Minus, Star, Ask}
use Rattle.tc_read.specs.declared.tokens.Token.{Token}
use Rattle.tc_read.specs.declared.tokens.Token.TheVariants.{Variable, Integer, Word, Quoted}
use Rattle.tc_read.specs.declared.tokens.Token.TheVariants.{Symbol, Open, Close, OpenList}
use Rattle.tc_read.specs.declared.tokens.Token.TheVariants.{CloseList, Comma, Bar}
use Rattle.tc_read.specs.declared.operators.Operator.{Operator}

abbrev pub sign_view : Sign → spelled.Sign
sign_view EqColonEq = spelled.EqColonEq
sign_view EqBackEq = spelled.EqBackEq
sign_view EqLess = spelled.EqLess
sign_view GreaterEq = spelled.GreaterEq
sign_view BackEq = spelled.BackEq
sign_view SlashSlash = spelled.SlashSlash
sign_view Equal = spelled.Equal
sign_view Less = spelled.Less
sign_view Greater = spelled.Greater
sign_view Plus = spelled.Plus
sign_view Minus = spelled.Minus
sign_view Star = spelled.Star
sign_view Ask = spelled.Ask

-- the byte that stands for itself or is escaped, behind a quote or a backslash
abbrev pub meant : ℕ → ℕ
meant b = if b == 110 then 10 else (if b == 116 then 9 else b)

-- what the bytes between quotes stand for, behind a quote or a backslash of a pair or not
abbrev pub unquoted_from : Bool → List ℕ → List ℕ
unquoted_from paired [] = []
unquoted_from true (b ∷ s) = meant b ∷ unquoted_from false s
unquoted_from false (b ∷ s) = if b == 39 || b == 92 then unquoted_from true s
    else b ∷ unquoted_from false s

abbrev pub unquoted : List ℕ → List ℕ
unquoted s = unquoted_from false s

abbrev pub token_view : Token → grammar.Token
token_view (Variable n) = grammar.Variable n
token_view (Integer direct value place) = grammar.Integer direct value place
token_view (Word name) = grammar.Name true name.now
token_view (Quoted inside) = grammar.Name false (unquoted inside.now)
token_view (Symbol sign) = grammar.Symbol (sign_view sign)
token_view (Open direct) = grammar.Open direct
token_view Close = grammar.Close
token_view OpenList = grammar.OpenList
token_view CloseList = grammar.CloseList
token_view Comma = grammar.Comma
token_view Bar = grammar.Bar

abbrev pub operator_view : Operator → grammar.Operator
operator_view o = record
    { name = o.name.now; priority = o.priority; left = o.left; right = o.right }

abbrev pub operator_option : Option Operator → Option grammar.Operator
operator_option None = None
operator_option (Some o) = Some (operator_view o)
