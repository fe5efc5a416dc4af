use Rattle.std.proofs.Common.{true, false, IsTrue, Bool, refl, subst, ◌≡◌}
use Rattle.tc_term.specs.Tree.{Tree}
use Rattle.tc_term.specs.TreeView.{tree_of}
use Rattle.tc_unify.specs.Splits.{Always}
use Rattle.tc_search.specs.Bindings.{MakesTuple, Binds, NeverBinds}
use Rattle.tc_search.proofs.Bound.{matches_bound, matches_never}
use Rattle.tc_search.proofs.matching.matches_in.Goals as goal

pub returns : goal.returns
returns c =
    let template = c.args.template.now in
    let tuple = c.args.tuple.now in
    let old = c.args.bound.now in
    let new = c.agrees.new.bound in
    let ground = c.term-2.ensures.tuple.ground in
    let Binds_both : Tree → Tree → Type 0 = λ s t. Binds old (MakesTuple s t) new Always in
    let Never_both : Tree → Tree → Type 0 = λ s t. NeverBinds old (MakesTuple s t) in
    let binds : IsTrue c.agrees.result → Binds_both template tuple = λ h.
    subst (λ s. Binds_both s tuple) c.term.ensures.term
    (subst (λ t. Binds_both (tree_of c.term.result.now) t) c.term-2.ensures.term (c.agrees.ensures.yes h)) in
    let never : c.agrees.result ≡ false → Never_both template tuple = λ h.
    subst (λ s. Never_both s tuple) c.term.ensures.term
    (subst (λ t. Never_both (tree_of c.term.result.now) t) c.term-2.ensures.term (c.agrees.ensures.no h)) in (
      (λ h. matches_bound template tuple ground old c.requires.free new c.agrees.ensures.ground (binds h)),
      (λ match. found c.agrees.result (λ h. matches_never template tuple ground old c.requires.free (never h) match)),
    )
  where
    found : (b : Bool) → (b ≡ false → ⊥) → IsTrue b
    found true h = refl
    found false h = absurd (h refl)
