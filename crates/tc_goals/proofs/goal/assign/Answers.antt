use Rattle.std.proofs.Common.{rules, ◌≡◌, ◌++◌, [], ◌∷◌, subst, w64}
use mir.Val.{SFits}
use Rattle.std.proofs.lemmas.Int.{to_z-of_z}
use Rattle.tc_term.specs.Tree.{Number}
use Rattle.tc_term.specs.Equations.{with_pair, Solvable}
use Rattle.tc_term.specs.TreeView.{tree_of}
use Rattle.tc_goals.proofs.Values.{no_number, number_some, refused_number}
use Rattle.tc_goals.proofs.goal.assign.Goals as goal

pub returns-in_default-clause-refused : goal.returns-in_default-clause-refused
returns-in_default-clause-refused g c = λ _ i has solvable.
    no_number c.args.store.now (tree_of c.args.t.now) c.in_ok-i.field-0 c.in_ok-i.ensures c.in_default.not-Some i has

pub returns-clause-assigned : goal.returns-clause-assigned
returns-clause-assigned g c = λ y.
    let fits : SFits w64 c.in-Some.i = search rules in
    let added = c.in_ok-added.ensures.added y in (
      c.in-Some.i,
      number_some c.args.store.now (tree_of c.args.t.now) c.in_ok-i.field-0 c.in-Some.i c.in-Some.is c.in_ok-i.ensures,
      subst (λ k. c.equate_number.new.store ≡ with_pair c.args.store.now (tree_of c.args.s.now) (Number k))
          (to_z-of_z w64 c.in-Some.i fits) added,
    )

pub returns-clause-refused : goal.returns-clause-refused
returns-clause-refused g c = λ n.
    let fits : SFits w64 c.in-Some.i = search rules in
    let never = c.in_ok-added.ensures.refused n in
    refused_number c.args.store.now (tree_of c.args.s.now) (tree_of c.args.t.now) c.in-Some.i
    (number_some c.args.store.now (tree_of c.args.t.now) c.in_ok-i.field-0 c.in-Some.i c.in-Some.is c.in_ok-i.ensures)
    (subst (λ k. Solvable c.args.store.now.vars (c.args.store.now.pairs ++ (tree_of c.args.s.now, Number k) ∷ []) → ⊥)
    (to_z-of_z w64 c.in-Some.i fits) never)
