use Rattle.std.proofs.Common.{◌≡◌, length}
use Rattle.std.specs.Cmp.Lexicographic.{pointwise}
use Rattle.tc_term.specs.Same.{same_trees, same_term}
use Rattle.tc_term.proofs.terms.+same.Given as goal

abbrev pub invariant-ArgsPartialEq::eq-loop-x : goal.invariant-ArgsPartialEq::eq-loop-x
invariant-ArgsPartialEq::eq-loop-x l = record {
  decides : same_trees l.self l.other ≡ pointwise same_term l.x-iterator.a.rest.now l.x-iterator.b.rest.now;
  as_long : length l.x-iterator.a.rest.now ≡ length l.x-iterator.b.rest.now;
}
