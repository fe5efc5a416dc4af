use Rattle.std.proofs.Common.{subst, length, arith, ◌≡◌, get_or}
use Rattle.tc_spec.specs.Guards.{Allows}
use Rattle.tc_spec.proofs.Parted.{InPart}
use Rattle.tc_spec.proofs.Sifting.{HasClause, IsKept, kept_none, number_kept, number_inside, all_with_both}
use Rattle.tc_spec.proofs.Tests.{not_both}
use Rattle.tc_spec.proofs.parts.allowed_of.Goals as goal

pub loop-i-init : goal.loop-i-init
loop-i-init c =
    kept_none (λ k. get_or c.args.numbers.now k 0) (HasClause c.args.clauses.now (λ r. Allows c.args.phase c.args.sign r.guard))
    c.new-found.result.items c.new-found.ensures.items

pub overflow_sub-number : goal.overflow_sub-number
overflow_sub-number c = (number_inside c.args.clauses.now c.args.numbers.now c.loop-i.i c.requires c.loop-i-test.true).0

pub bounds-clauses-number : goal.bounds-clauses-number
bounds-clauses-number c = (number_inside c.args.clauses.now c.args.numbers.now c.loop-i.i c.requires c.loop-i-test.true).1

pub loop-i-preserved : goal.loop-i-preserved
loop-i-preserved c =
    number_kept (λ r. Allows c.args.phase c.args.sign r.guard) c.args.clauses.now c.args.numbers.now c.loop-i.found.items
    c.keep_if.new.numbers.items c.loop-i.i c.index-clauses-number.result c.has_guard_for-keep.result c.requires c.loop-i-test.true
    c.index-clauses-number.is c.loop-i.invariant c.has_guard_for-keep.ensures.yes
    (λ fails. not_both c.args.phase c.args.sign c.index-clauses-number.result.guard (c.has_guard_for-keep.ensures.no fails))
    c.in_ok-keep_if.ensures

pub returns : goal.returns
returns c count part those =
    let all : c.loop-i.i ≡ length c.args.numbers.now = omega (arith, c.loop-i-test.false, c.loop-i.auto.i-end) in
    all_with_both (InPart count part) (λ r. Allows c.args.phase c.args.sign r.guard) c.args.clauses.now c.args.numbers.now
    c.loop-i.found.items those
    (subst (λ i. IsKept (λ k. get_or c.args.numbers.now k 0) (HasClause c.args.clauses.now (λ r. Allows c.args.phase c.args.sign r.guard)) i c.loop-i.found.items) all c.loop-i.invariant)
