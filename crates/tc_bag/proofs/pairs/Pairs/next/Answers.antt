use Rattle.std.proofs.Common.{ℕ, ◌≤◌, sym, subst, ◌∙◌, arith}
use Rattle.std.proofs.lemmas.Bool.{true≢false}
use Rattle.std.specs.Option.{IfNone}
use Rattle.std.specs.BTreeMap.Range.{IsLeBy}
use Rattle.tc_bag.specs.Pairs.{HasPair, pair_cmp}
use Rattle.tc_bag.proofs.PairOrder.{within, within_back, between, range_start, range_least}
use Rattle.tc_bag.proofs.pairs.Pairs.next.Goals as goal

pub returns-in_err-found-clause-none : goal.returns-in_err-found-clause-none
returns-in_err-found-clause-none c =
    subst (λ o. IfNone o ((a : ℕ) → c.args.from ≤ a → HasPair c.args.self.now c.args.first a → ⊥)) (sym c.from_residual.ensures)
    (λ a up has. true≢false (sym has ∙ (c.range.ensures.in_range tt).5 c.in_err-found.ensures.steps.0 (c.args.first, a)
    (within c.args.first c.args.from a up, tt)))

pub returns-then-found-first-clause-found : goal.returns-then-found-first-clause-found
returns-then-found-first-clause-found c =
    let first = c.in_ok-found.field-0.now in
    let number = c.args.first in
    let split = c.in_ok-found.ensures.steps in
    let start = range_start c.args.self.now.pairs number c.args.from c.range.result c.next.new.self first split (c.range.ensures.in_range tt) in
    let least = range_least c.args.self.now.pairs number c.args.from c.range.result c.next.new.self first split (c.range.ensures.in_range tt) in (
      within_back number c.args.from first.1 (subst (λ d. IsLeBy pair_cmp (number, c.args.from) (d, first.1)) c.if-found-first.true start),
      λ a up below has.
          let least_second = within_back number first.1 a
          (subst (λ d. IsLeBy pair_cmp (d, first.1) (number, a)) c.if-found-first.true (least a up has)) in
          absurd (omega (arith, least_second, below)),
    )

pub returns-else-found-first-clause-none : goal.returns-else-found-first-clause-none
returns-else-found-first-clause-none c = λ a up has.
    let first = c.in_ok-found.field-0.now in
    let number = c.args.first in
    let split = c.in_ok-found.ensures.steps in
    let start = range_start c.args.self.now.pairs number c.args.from c.range.result c.next.new.self first split (c.range.ensures.in_range tt) in
    let least = range_least c.args.self.now.pairs number c.args.from c.range.result c.next.new.self first split (c.range.ensures.in_range tt) in
    c.if-found-first.false (sym (between number c.args.from first.0 first.1 a start (least a up has)))
