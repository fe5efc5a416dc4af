use Rattle.std.proofs.Common.{sym}
use Rattle.tc_read.proofs.Lexemes.{begins_word, begins_variable, begins_number}
use Rattle.tc_read.proofs.longest.begun.Goals as goal

pub returns-then-is_ascii_lowercase-clause-some : goal.returns-then-is_ascii_lowercase-clause-some
returns-then-is_ascii_lowercase-clause-some c = rw (c.requires, c.words.ensures.bytes, c.words.ensures.rest) (begins_word c.args.first c.args.after.now (sym c.if-is_ascii_lowercase.ensures.value))

pub returns-then-is_variable_start-clause-some : goal.returns-then-is_variable_start-clause-some
returns-then-is_variable_start-clause-some c =
    rw (c.requires, c.words-then-is_variable_start.ensures.bytes, c.words-then-is_variable_start.ensures.rest) (begins_variable c.args.first c.args.after.now (sym c.if-is_variable_start.ensures))

pub returns-then-is_ascii_digit-clause-some : goal.returns-then-is_ascii_digit-clause-some
returns-then-is_ascii_digit-clause-some c = rw (c.requires, c.digits.ensures.bytes, c.digits.ensures.rest) (begins_number c.args.first c.args.after.now (sym c.if-is_ascii_digit.ensures.value))
