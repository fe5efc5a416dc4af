-- Tokens as they are spelled, as the code has them.
use Rattle.tc_term.specs.Tokens as spelled
use Rattle.tc_read.specs.Views.{sign_view, unquoted}
use Rattle.tc_read.specs.declared.lexeme.Mark.{Mark}
use Rattle.tc_read.specs.declared.lexeme.Mark.TheVariants.{Open, Close, OpenList, CloseList}
use Rattle.tc_read.specs.declared.lexeme.Mark.TheVariants.{Comma, Bar}
use Rattle.tc_read.specs.declared.lexeme.Lexeme.{Lexeme}
use Rattle.tc_read.specs.declared.lexeme.Lexeme.TheVariants.{Word, Variable, Number, Quoted}
use Rattle.tc_read.specs.declared.lexeme.Lexeme.TheVariants.{Symbol, Punctuation}

abbrev pub mark_view : Mark → spelled.Mark
mark_view Open = spelled.Open
mark_view Close = spelled.Close
mark_view OpenList = spelled.OpenList
mark_view CloseList = spelled.CloseList
mark_view Comma = spelled.Comma
mark_view Bar = spelled.Bar

abbrev pub lexeme_view : Lexeme → spelled.Lexeme
lexeme_view (Word bytes) = spelled.Word bytes.now
lexeme_view (Variable bytes) = spelled.Variable bytes.now
lexeme_view (Number digits) = spelled.Number (spelled.decimal_from 0 digits.now)
lexeme_view (Quoted inside) = spelled.Quoted (unquoted inside.now)
lexeme_view (Symbol sign) = spelled.Symbol (sign_view sign)
lexeme_view (Punctuation mark) = spelled.Punctuation (mark_view mark)
