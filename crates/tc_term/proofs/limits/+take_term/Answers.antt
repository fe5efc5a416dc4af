use Rattle.std.proofs.Common.{◌≡◌, ◌+◌, ℕ, List, ◌∷◌, refl, sym, ◌∙◌, subst, ap, length, drop, FitsSigned, w64, arith, rules}
use Rattle.std.proofs.lemmas.List.{drop_all, at_drop_more}
use Rattle.tc_term.proofs.Sizes.{nodes_in, depth_in, name_bytes_in, IsSpent-compound, IsWithin-next, IntegersIn, IntegersIn-next, HasIntegers-compound}
use Rattle.tc_term.specs.declared.terms.Term.{Term}
use Rattle.tc_term.specs.Tree.{HasIntegers}
use Rattle.tc_term.specs.TreeView.{tree_of}
use Rattle.tc_term.proofs.limits.+take_term.Goals as goal

pub returns-then-not-take_term-clause-full : goal.returns-then-not-take_term-clause-full
returns-then-not-take_term-clause-full t c =
    let taken = c.if-not-take.ensures in
    λ _ within. c.if-not-take_term.ensures.full refl
    (IsWithin-next (tree_of c.args.t.now) c.in-Comp.name c.in-Comp.args c.items-arg-items.result.now c.args.depth c.args.room.now
    c.take-in-Comp.new.self.nodes c.take-in-Comp.new.self.name_bytes
    (ap tree_of c.in-Comp.is) c.items-arg-items.ensures.trees c.items-arg-items.ensures.some (taken.depth refl)
    (taken.nodes refl) (omega (arith, taken.bytes refl, ap length c.bytes-in-Comp.ensures))
    c.loop-arg.arg-index c.loop-arg.room c.loop-arg.invariant.nodes c.loop-arg.invariant.depth c.loop-arg.invariant.name_bytes
    c.arg-item.result c.loop-arg-test.true c.arg-item.is within)

pub returns-after-loop-arg-clause-spent : goal.returns-after-loop-arg-clause-spent
returns-after-loop-arg-clause-spent t c =
    let taken = c.if-not-take.ensures in
    λ _. IsSpent-compound (tree_of c.args.t.now) c.in-Comp.name c.in-Comp.args c.items-arg-items.result.now c.args.depth c.args.room.now
    c.take-in-Comp.new.self.nodes c.take-in-Comp.new.self.name_bytes
    (ap tree_of c.in-Comp.is) c.items-arg-items.ensures.trees c.items-arg-items.ensures.some (taken.depth refl)
    (taken.nodes refl) (omega (arith, taken.bytes refl, ap length c.bytes-in-Comp.ensures))
    c.loop-arg.arg-index c.loop-arg.room c.loop-arg.invariant.nodes c.loop-arg.invariant.depth c.loop-arg.invariant.name_bytes
    c.loop-arg-test.false

pub returns-after-loop-arg-clause-integers : goal.returns-after-loop-arg-clause-integers
returns-after-loop-arg-clause-integers t c =
    let ts = c.items-arg-items.result.now in
    λ _. HasIntegers-compound (tree_of c.args.t.now) c.in-Comp.name c.in-Comp.args ts
    (ap tree_of c.in-Comp.is) c.items-arg-items.ensures.trees
    (c.loop-arg.invariant.integers (subst IntegersIn (sym (drop_all c.loop-arg.arg-index ts c.loop-arg-test.false)) tt))

pub loop-arg-preserved : goal.loop-arg-preserved
loop-arg-preserved t c =
    let ts = c.items-arg-items.result.now in
    let i = c.loop-arg.arg-index in
    let arg = c.arg-item.result in
    let so_far = c.loop-arg.invariant in
    let spent = c.if-not-take_term.ensures.spent refl in
    let head : (F : List Term → ℕ) → F (drop i ts) ≡ F (arg ∷ drop (i + 1) ts) =
    λ F. at_drop_more F ts i arg c.loop-arg-test.true ∙ ap (λ x. F (x ∷ drop (i + 1) ts)) (sym c.arg-item.is) in
    record {
      nodes = omega (arith, so_far.nodes, head nodes_in, spent.nodes);
      depth = omega (arith, so_far.depth, head depth_in, spent.depth);
      name_bytes = omega (arith, so_far.name_bytes, head name_bytes_in, spent.name_bytes);
      integers = λ rest. so_far.integers
          (IntegersIn-next ts i arg c.loop-arg-test.true c.arg-item.is (c.if-not-take_term.ensures.integers refl) rest);
    }

pub returns-in-Var-clause-integers : goal.returns-in-Var-clause-integers
returns-in-Var-clause-integers t c = λ _. subst HasIntegers (sym (ap tree_of c.in-Var.is)) tt

pub returns-in-Atom-clause-integers : goal.returns-in-Atom-clause-integers
returns-in-Atom-clause-integers t c = λ _. subst HasIntegers (sym (ap tree_of c.in-Atom.is)) tt

pub returns-in-Int-clause-integers : goal.returns-in-Int-clause-integers
returns-in-Int-clause-integers t c =
    let fits : FitsSigned w64 c.in-Int.n = search rules in
    λ _. subst HasIntegers (sym (ap tree_of c.in-Int.is)) fits
