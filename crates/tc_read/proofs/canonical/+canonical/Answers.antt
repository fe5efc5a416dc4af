use Rattle.std.proofs.Common.{◌≡◌, ◌∙◌, ◌-◌, ◌+◌, [], refl, sym, ap, ap₂, subst, Err, IfErr, IfOk, Some, arith, rules, ◌∷◌}
use Rattle.std.specs.Prelude.{None}
use Rattle.std.proofs.Math.Nat.{sub-eq-zero_of_le}
use Rattle.tc_term.specs.Text.{Alone}
use Rattle.tc_term.specs.TreeView.{tree_of}
use Rattle.tc_read.proofs.ArgumentLoop.{none_next, end_next, other_next, last_next, more_next}
use Rattle.tc_read.proofs.Cells.{prepended-none, reads-alone, reads-behind}
use Rattle.tc_read.specs.Front.{arguments, before, reads}
use Rattle.tc_read.specs.Seen.{prepended, read_to}
use Rattle.tc_read.specs.declared.rest.Missing.TheVariants.{NoTerm}
use Rattle.tc_read.proofs.canonical.+canonical.Goals as goal

pub alone-returns-clause-term : goal.alone-returns-clause-term
alone-returns-clause-term t c =
    subst (λ x. IfOk c.node.result (λ r. x ≡ read_to (tree_of r) c.node.new.rest))
    (sym (reads-alone c.args.depth c.args.rest.now.budget c.args.rest.now.bytes.now (omega (arith, c.if-depth-eq0.false)))) c.node.ensures.term

pub alone-returns-clause-none : goal.alone-returns-clause-none
alone-returns-clause-none t c =
    subst (λ x. IfErr c.node.result (λ e. e ≡ NoTerm → x ≡ None))
    (sym (reads-alone c.args.depth c.args.rest.now.budget c.args.rest.now.bytes.now (omega (arith, c.if-depth-eq0.false)))) c.node.ensures.none

pub behind-returns-clause-term : goal.behind-returns-clause-term
behind-returns-clause-term t c =
    subst (λ x. IfOk c.tail.result (λ r. x ≡ read_to (tree_of r) c.tail.new.rest))
    (sym (reads-behind c.args.depth c.args.rest.now.budget c.args.rest.now.bytes.now (omega (arith, c.if-depth-eq0.false)))) c.tail.ensures.term

pub behind-returns-clause-none : goal.behind-returns-clause-none
behind-returns-clause-none t c =
    subst (λ x. IfErr c.tail.result (λ e. e ≡ NoTerm → x ≡ None))
    (sym (reads-behind c.args.depth c.args.rest.now.budget c.args.rest.now.bytes.now (omega (arith, c.if-depth-eq0.false)))) c.tail.ensures.none

-- behind the first argument and a comma
pub arguments-returns-in-44-clause-term : goal.arguments-returns-in-44-clause-term
arguments-returns-in-44-clause-term t c =
    let same =
    more_next (reads c.args.depth Alone) [] c.args.rest.now.budget.room.nodes (c.args.rest.now.budget.room.nodes - 1)
    c.args.rest.now.budget c.args.rest.now.bytes.now _ refl (omega (arith, c.if-most-eq0.false))
    c.in_ok-first.first c.alone.new.rest.budget c.alone.new.rest.bytes.now c.in_ok-first.ensures.term c.next.new.self.bytes.now (c.in_ok-first.first ∷ [])
    (c.in_ok-next.ensures.byte ∙ ap (λ b. b ∷ c.next.new.self.bytes.now) c.in-44.is) refl
    ∙ ap (λ b. before (tree_of c.in_ok-first.first) (arguments (reads c.args.depth Alone) (c.args.rest.now.budget.room.nodes - 1) b c.next.new.self.bytes.now))
    (sym c.in_ok-next.ensures.budget) in
    subst (λ x. IfOk c.from_second.result (λ r. x ≡ read_to r c.from_second.new.rest)) (sym same) c.from_second.ensures.term

pub arguments-returns-in-44-clause-none : goal.arguments-returns-in-44-clause-none
arguments-returns-in-44-clause-none t c =
    let same =
    more_next (reads c.args.depth Alone) [] c.args.rest.now.budget.room.nodes (c.args.rest.now.budget.room.nodes - 1)
    c.args.rest.now.budget c.args.rest.now.bytes.now _ refl (omega (arith, c.if-most-eq0.false))
    c.in_ok-first.first c.alone.new.rest.budget c.alone.new.rest.bytes.now c.in_ok-first.ensures.term c.next.new.self.bytes.now (c.in_ok-first.first ∷ [])
    (c.in_ok-next.ensures.byte ∙ ap (λ b. b ∷ c.next.new.self.bytes.now) c.in-44.is) refl
    ∙ ap (λ b. before (tree_of c.in_ok-first.first) (arguments (reads c.args.depth Alone) (c.args.rest.now.budget.room.nodes - 1) b c.next.new.self.bytes.now))
    (sym c.in_ok-next.ensures.budget) in
    subst (λ x. IfErr c.from_second.result (λ e. e ≡ NoTerm → x ≡ None)) (sym same) c.from_second.ensures.none

-- behind the second one and a comma
pub from_second-returns-in_ok-pair-in-44-clause-term : goal.from_second-returns-in_ok-pair-in-44-clause-term
from_second-returns-in_ok-pair-in-44-clause-term t c =
    let same =
    more_next (reads c.args.depth Alone) (c.args.first ∷ []) c.args.most (c.args.most - 1)
    c.args.rest.now.budget c.args.rest.now.bytes.now _ refl (omega (arith, c.if-most-eq0.false))
    c.in_ok-second.second c.alone.new.rest.budget c.alone.new.rest.bytes.now c.in_ok-second.ensures.term c.next.new.self.bytes.now c.in_ok-pair-in-44.field-0.items
    (c.in_ok-next.ensures.byte ∙ ap (λ b. b ∷ c.next.new.self.bytes.now) c.in-44.is) c.in_ok-pair-in-44.ensures
    ∙ ap (λ b. prepended c.in_ok-pair-in-44.field-0.items (arguments (reads c.args.depth Alone) (c.args.most - 1) b c.next.new.self.bytes.now))
    (sym c.in_ok-next.ensures.budget) in
    subst (λ x. IfOk c.from_third.result (λ r. x ≡ read_to r c.from_third.new.rest)) (sym same) c.from_third.ensures.term

pub from_second-returns-in_ok-pair-in-44-clause-none : goal.from_second-returns-in_ok-pair-in-44-clause-none
from_second-returns-in_ok-pair-in-44-clause-none t c =
    let same =
    more_next (reads c.args.depth Alone) (c.args.first ∷ []) c.args.most (c.args.most - 1)
    c.args.rest.now.budget c.args.rest.now.bytes.now _ refl (omega (arith, c.if-most-eq0.false))
    c.in_ok-second.second c.alone.new.rest.budget c.alone.new.rest.bytes.now c.in_ok-second.ensures.term c.next.new.self.bytes.now c.in_ok-pair-in-44.field-0.items
    (c.in_ok-next.ensures.byte ∙ ap (λ b. b ∷ c.next.new.self.bytes.now) c.in-44.is) c.in_ok-pair-in-44.ensures
    ∙ ap (λ b. prepended c.in_ok-pair-in-44.field-0.items (arguments (reads c.args.depth Alone) (c.args.most - 1) b c.next.new.self.bytes.now))
    (sym c.in_ok-next.ensures.budget) in
    subst (λ x. IfErr c.from_third.result (λ e. e ≡ NoTerm → x ≡ None)) (sym same) c.from_third.ensures.none

pub from_third-returns-in_err-term-clause-none : goal.from_third-returns-in_err-term-clause-none
from_third-returns-in_err-term-clause-none t c =
    let lost : c.from_residual.result ≡ Err c.in_err-term.field-0.0 = search rules in
    subst (λ r. IfErr r (λ e. e ≡ NoTerm → prepended c.args.terms.items (arguments (reads c.args.depth Alone) c.args.most c.args.rest.now.budget c.args.rest.now.bytes.now) ≡ None)) (sym lost)
    (λ same. none_next (reads c.args.depth Alone) c.loop.terms.items (c.args.most - c.loop.counter) (c.args.most - (c.loop.counter + 1))
    c.loop.rest.budget c.loop.rest.bytes.now _ c.loop.invariant (omega (arith, c.loop-test.true)) (c.in_err-term.ensures.none same))

pub from_third-returns-in_err-byte-clause-none : goal.from_third-returns-in_err-byte-clause-none
from_third-returns-in_err-byte-clause-none t c =
    let lost : c.from_residual-in_err-byte.result ≡ Err c.in_err-byte.field-0.0 = search rules in
    subst (λ r. IfErr r (λ e. e ≡ NoTerm → prepended c.args.terms.items (arguments (reads c.args.depth Alone) c.args.most c.args.rest.now.budget c.args.rest.now.bytes.now) ≡ None)) (sym lost)
    (λ same. end_next (reads c.args.depth Alone) c.loop.terms.items (c.args.most - c.loop.counter) (c.args.most - (c.loop.counter + 1))
    c.loop.rest.budget c.loop.rest.bytes.now _ c.loop.invariant (omega (arith, c.loop-test.true))
    c.in_ok-term.term c.alone.new.rest.budget c.alone.new.rest.bytes.now c.in_ok-term.ensures.term c.in_err-byte.ensures.none)

pub from_third-returns-then-byte-eq41-clause-term : goal.from_third-returns-then-byte-eq41-clause-term
from_third-returns-then-byte-eq41-clause-term t c =
    last_next (reads c.args.depth Alone) c.loop.terms.items (c.args.most - c.loop.counter) (c.args.most - (c.loop.counter + 1))
    c.loop.rest.budget c.loop.rest.bytes.now _ c.loop.invariant (omega (arith, c.loop-test.true))
    c.in_ok-term.term c.alone.new.rest.budget c.alone.new.rest.bytes.now c.in_ok-term.ensures.term
    c.next.new.self.bytes.now c.push.new.terms.items
    (c.in_ok-byte.ensures.byte ∙ ap (λ b. b ∷ c.next.new.self.bytes.now) c.if-byte-eq41.true) c.in_ok-push.ensures
    ∙ ap₂ (λ ts b. Some (ts, b, c.next.new.self.bytes.now)) (sym c.in_ok-new.ensures) (sym c.in_ok-byte.ensures.budget)

pub from_third-returns-then-byte-ne44-clause-none : goal.from_third-returns-then-byte-ne44-clause-none
from_third-returns-then-byte-ne44-clause-none t c same =
    other_next (reads c.args.depth Alone) c.loop.terms.items (c.args.most - c.loop.counter) (c.args.most - (c.loop.counter + 1))
    c.loop.rest.budget c.loop.rest.bytes.now _ c.loop.invariant (omega (arith, c.loop-test.true))
    c.in_ok-term.term c.alone.new.rest.budget c.alone.new.rest.bytes.now c.in_ok-term.ensures.term
    c.in_ok-byte.byte c.next.new.self.bytes.now c.in_ok-byte.ensures.byte c.if-byte-eq41.false c.if-byte-ne44.true

pub from_third-loop-preserved : goal.from_third-loop-preserved
from_third-loop-preserved t c =
    sym (more_next (reads c.args.depth Alone) c.loop.terms.items (c.args.most - c.loop.counter) (c.args.most - (c.loop.counter + 1))
    c.loop.rest.budget c.loop.rest.bytes.now _ c.loop.invariant (omega (arith, c.loop-test.true))
    c.in_ok-term.term c.alone.new.rest.budget c.alone.new.rest.bytes.now c.in_ok-term.ensures.term
    c.next.new.self.bytes.now c.push.new.terms.items
    (c.in_ok-byte.ensures.byte ∙ ap (λ b. b ∷ c.next.new.self.bytes.now) c.if-byte-ne44.false) c.in_ok-push.ensures
    ∙ ap (λ b. prepended c.push.new.terms.items (arguments (reads c.args.depth Alone) (c.args.most - (c.loop.counter + 1)) b c.next.new.self.bytes.now))
    (sym c.in_ok-byte.ensures.budget))

pub from_third-returns-clause-none : goal.from_third-returns-clause-none
from_third-returns-clause-none t c same =
    sym c.loop.invariant
    ∙ ap (λ k. prepended c.loop.terms.items (arguments (reads c.args.depth Alone) k c.loop.rest.budget c.loop.rest.bytes.now))
    (sub-eq-zero_of_le c.loop-test.false) ∙ prepended-none c.loop.terms.items
