use Rattle.std.proofs.Common.{◌≡◌, ◌++◌, if◌then◌else◌, IsTrue, [], ◌∷◌, Some, None, arith, ap, sym, ◌∙◌, subst}
use Rattle.tc_term.specs.Equations.{Equation}
use Rattle.tc_term.specs.Tree.{IsTuple, is_ground}
use Rattle.tc_term.specs.TreeView.{tree_of}
use Rattle.tc_term.proofs.Instances.{var_bound-ground}
use Rattle.tc_asks.specs.Bindings.{AreKnown}
use Rattle.tc_asks.proofs.Known.{known_never, solved_told}
use Rattle.tc_asks.proofs.bindings.Bindings.tell.Goals as goal

pub equate-requires-clause-right : goal.equate-requires-clause-right
equate-requires-clause-right g c =
    omega (arith, var_bound-ground (tree_of c.term.result.now) (subst (λ t. IsTrue (is_ground t)) (sym c.term.ensures.term) c.term.ensures.tuple.ground))

pub invariant_of-self-then-self : goal.invariant_of-self-then-self
invariant_of-self-then-self g c =
    solved_told c.in_ok-self-inside.field-0 c.self.inside.store c.equate.new.self (tree_of c.args.template.now) (tree_of c.term.result.now)
    c.self.invariant (subst IsTuple (sym c.term.ensures.term) c.term.ensures.tuple) c.equate.ensures.solvable
    c.in_ok-self-inside.ensures.added c.in_ok-self-inside.ensures.unchanged

pub returns-else-self-clause-told : goal.returns-else-self-clause-told
returns-else-self-clause-told g c vars es known =
    let none : c.args.self.now ≡ None = sym c.self.view_is ∙ ap (λ b. if b then Some c.self.inside.store else None) c.if-self.false in
    let told : Equation = (tree_of c.args.template.now, c.args.tuple.now) in
    subst (AreKnown vars (es ++ told ∷ [])) (sym none) (known_never vars es told (subst (AreKnown vars es) none known))
