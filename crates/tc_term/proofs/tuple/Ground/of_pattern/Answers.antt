use Rattle.std.proofs.Common.{arith, sym, subst}
use Rattle.tc_term.specs.Tree.{IsTuple}
use Rattle.tc_term.proofs.Numbered.{IsTuple-pattern, is_ground-variables}
use Rattle.tc_term.proofs.tuple.Ground.of_pattern.Goals as goal

pub returns-then-vars-gt0-clause-none : goal.returns-then-vars-gt0-clause-none
returns-then-vars-gt0-clause-none c =
    is_ground-variables c.args.pattern (omega (arith, c.if-vars-gt0.true, c.vars.ensures.count))

pub invariant_of-result : goal.invariant_of-result
invariant_of-result c =
    subst IsTuple (sym c.into_term.ensures.term)
    (IsTuple-pattern c.args.pattern c.into_term.ensures.pattern (omega (arith, c.if-vars-gt0.false, c.vars.ensures.count)))

pub returns-clause-some : goal.returns-clause-some
returns-clause-some c = (
  c.into_term.ensures.term,
  IsTuple-pattern c.args.pattern c.into_term.ensures.pattern (omega (arith, c.if-vars-gt0.false, c.vars.ensures.count)),
)
