use Rattle.std.proofs.Common.{◌≡◌, ap, sym, ◌∙◌, length, arith}
use Rattle.tc_lists.proofs.Zips.{pointwise-length}
use Rattle.tc_term.proofs.Trees.{same_trees-seen}
use Rattle.tc_term.specs.Same.{same_term}
use Rattle.tc_term.proofs.terms.+same.Goals as goal

pub ArgsPartialEq::eq-returns-then-xs-ys : goal.ArgsPartialEq::eq-returns-then-xs-ys
ArgsPartialEq::eq-returns-then-xs-ys t c =
    let xs = c.items-xs.result.now in
    let ys = c.items-ys.result.now in
    let seen =
    same_trees-seen xs ys c.args.self.now c.args.other.now c.items-xs.ensures.trees c.items-ys.ensures.trees
    c.items-xs.ensures.some c.items-ys.ensures.some in
    sym (seen ∙ pointwise-length same_term xs ys (λ e. c.if-xs-ys.true e))

pub ArgsPartialEq::eq-loop-x-init : goal.ArgsPartialEq::eq-loop-x-init
ArgsPartialEq::eq-loop-x-init t c =
    let xs = c.items-xs.result.now in
    let ys = c.items-ys.result.now in
    let first : c.into_iter-x-iterator.result.a.rest.now ≡ xs =
    ap (λ i. i.a.rest.now) c.into_iter-x-iterator.ensures.into_iter_gives ∙ ap (λ a. a.rest.now) c.zip-x-items.ensures.first
    ∙ c.iter.ensures.rest in
    let second : c.into_iter-x-iterator.result.b.rest.now ≡ ys =
    ap (λ i. i.b.rest.now) c.into_iter-x-iterator.ensures.into_iter_gives ∙ c.zip-x-items.ensures.second.0 in
    let seen =
    same_trees-seen xs ys c.args.self.now c.args.other.now c.items-xs.ensures.trees c.items-ys.ensures.trees
    c.items-xs.ensures.some c.items-ys.ensures.some in
    record {
      decides = rw (first, second) seen;
      as_long = omega (arith, ap length first, ap length second, c.if-xs-ys.false);
    }
