use Rattle.std.proofs.Common.{sym, arith}
use Rattle.tc_read.proofs.Quotes.{begins_quoted, ends_within, none_quoted}
use Rattle.tc_read.proofs.longest.quoted.Goals as goal

pub overflow_sub-length : goal.overflow_sub-length
overflow_sub-length c = (ends_within c.args.after.now c.in-Some.length (sym c.in-Some.ensures)).0

pub split_at-requires : goal.split_at-requires
split_at-requires c = let w = ends_within c.args.after.now c.in-Some.length (sym c.in-Some.ensures) in omega (arith, w.1)

pub split_at-requires-in-Some : goal.split_at-requires-in-Some
split_at-requires-in-Some c = (ends_within c.args.after.now c.in-Some.length (sym c.in-Some.ensures)).1

pub returns-in-None-clause-none : goal.returns-in-None-clause-none
returns-in-None-clause-none c = none_quoted c.args.after.now (sym c.in-None.ensures)

pub returns-in-Some-clause-some : goal.returns-in-Some-clause-some
returns-in-Some-clause-some c = rw (c.split_at.ensures.front, c.split_at-in-Some.ensures.back) (begins_quoted c.args.after.now c.in-Some.length (sym c.in-Some.ensures))
