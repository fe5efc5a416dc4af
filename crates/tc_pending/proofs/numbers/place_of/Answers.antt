use Rattle.std.proofs.Common.{ℕ, sym, subst}
use Rattle.std.specs.Option.{IfNone}
use Rattle.tc_pending.specs.Rising.{IsAt}
use Rattle.tc_pending.proofs.Rising.{none_ok}
use Rattle.tc_pending.proofs.numbers.place_of.Goals as goal

pub returns-clause-none : goal.returns-clause-none
returns-clause-none c =
    subst (λ o. IfNone o ((k : ℕ) → IsAt c.args.numbers.now c.args.number k → ⊥)) (sym c.ok.ensures.value)
    (none_ok c.args.numbers.now c.args.number c.requires c.binary_search.result c.binary_search.ensures.position)
