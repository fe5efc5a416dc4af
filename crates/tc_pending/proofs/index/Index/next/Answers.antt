use Rattle.std.proofs.Common.{ℕ, ◌≤◌, sym, ◌∙◌}
use Rattle.std.proofs.lemmas.Bool.{true≢false}
use Rattle.std.proofs.lemmas.Option.{IfSome_then}
use Rattle.tc_lists.proofs.Options.{IfNone-weaker}
use Rattle.tc_bag.specs.Pairs.{HasPair}
use Rattle.tc_pending.specs.Filed.{Has}
use Rattle.tc_pending.proofs.index.Index.next.Goals as goal

pub returns-clause-found : goal.returns-clause-found
returns-clause-found c =
    IfSome_then c.next.result c.next.ensures.found
    (λ serial told. (told.0, λ s up below has. told.1 s up below has.0))

pub returns-clause-none : goal.returns-clause-none
returns-clause-none c =
    IfNone-weaker c.next.result
    ((s : ℕ) → c.args.from ≤ s → HasPair c.args.self.now.pairs c.args.code s → ⊥)
    ((s : ℕ) → c.args.from ≤ s → Has c.args.self.now c.args.code s → ⊥)
    (λ none s up has. none s up has.0)
    c.next.ensures.none

pub returns-then-not-may_have-clause-none : goal.returns-then-not-may_have-clause-none
returns-then-not-may_have-clause-none c = λ a up has.
    true≢false (sym (c.may_have.ensures a has) ∙ c.if-not-may_have.true)
