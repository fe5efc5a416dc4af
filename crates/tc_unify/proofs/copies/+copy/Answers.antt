use Rattle.std.proofs.Common.{◌≡◌, ◌+◌, ◌≤◌, drop, sym, ap, ap₂, ◌∙◌, subst, arith}
use Rattle.tc_term.specs.Tree.{Variable, Atomic, Compound}
use Rattle.tc_term.specs.TreeView.{tree_of}
use Rattle.tc_term.specs.Variables.{raised, instances, var_bound}
use Rattle.tc_unify.specs.Nodes.{applied, IsHead}
use Rattle.tc_unify.specs.Arena.{Grows, IsNodeFor, node_tree}
use Rattle.tc_unify.specs.Copies.{applied_to}
use Rattle.tc_unify.proofs.Arenas.{Grows-trans, shape_of-grows, node_tree-grows, variable_node}
use Rattle.tc_unify.proofs.Copied.{applied_to-compound, args_fit, next_applied}
use Rattle.tc_unify.proofs.copies.+copy.Goals as goal

pub loop-arg-init : goal.loop-arg-init
loop-arg-init t c =
    let items = c.items-arg-items.result.now in
    let node = c.in_ok-node-in-Comp.ensures.pushed in
    record {
      arena = c.push_atom-in-Comp.ensures.arena;
      args = args_fit c.args.shift c.args.term.now c.in-Comp.name c.in-Comp.args items _ (ap tree_of c.in-Comp.is) c.items-arg-items.ensures.trees c.items-arg-items.ensures.depth
          (subst (λ n. var_bound (raised c.args.shift (tree_of c.args.term.now)) ≤ n) (sym c.push_atom-in-Comp.ensures.grows.variables) c.requires.variables);
      grows = c.push_atom-in-Comp.ensures.grows;
      inside = node.node.inside;
      head = node.head;
      tree =
          ap (λ t. applied_to c.args.shift t items) (node.node.tree ∙ ap Atomic c.bytes-in-Comp.ensures)
          ∙ applied_to-compound c.args.shift c.in-Comp.name items c.items-arg-items.ensures.some
          ∙ ap (λ ts. Compound c.in-Comp.name (instances (λ n. Variable (n + c.args.shift)) ts)) c.items-arg-items.ensures.trees
          ∙ sym (ap (λ t. raised c.args.shift (tree_of t)) c.in-Comp.is);
    }

pub push_apply-requires-clause-head : goal.push_apply-requires-clause-head
push_apply-requires-clause-head t c =
    subst IsHead (sym (shape_of-grows c.loop-arg.arena c.copy.new.arena c.loop-arg.invariant.arena c.copy.ensures.grows c.loop-arg.node c.loop-arg.invariant.inside)) c.loop-arg.invariant.head

pub loop-arg-preserved : goal.loop-arg-preserved
loop-arg-preserved t c =
    let items = c.items-arg-items.result.now in
    let old = c.loop-arg.arena in
    let mid = c.copy.new.arena in
    let new = c.push_apply.new.self in
    let node = c.in_ok-node-in-Comp-2.ensures.pushed in
    let grows : Grows old new = Grows-trans old mid new c.copy.ensures.grows c.push_apply.ensures.grows in
    let head = node_tree-grows old mid c.loop-arg.invariant.arena c.copy.ensures.grows c.loop-arg.node c.loop-arg.invariant.inside in
    let argument = c.in_ok-argument-in-Comp.ensures.copied.tree in
    record {
      arena = c.push_apply.ensures.arena;
      args = λ i x h e.
          let fit = c.loop-arg.invariant.args i x h e in
          (fit.0, subst (λ n. var_bound (raised c.args.shift (tree_of x)) ≤ n) (sym grows.variables) fit.1);
      grows = Grows-trans c.args.arena.now old new c.loop-arg.invariant.grows grows;
      inside = node.node.inside;
      head = node.head;
      tree =
          ap (λ t. applied_to c.args.shift t (drop (c.loop-arg.arg-index + 1) items)) (node.node.tree ∙ ap₂ applied head argument)
          ∙ next_applied c.args.shift (node_tree old c.loop-arg.node) items c.loop-arg.arg-index c.arg-item.result c.loop-arg-test.true c.arg-item.is
          ∙ c.loop-arg.invariant.tree;
    }

pub returns-in-Var-clause-copied : goal.returns-in-Var-clause-copied
returns-in-Var-clause-copied t c =
    let is : raised c.args.shift (tree_of c.args.term.now) ≡ Variable (c.in-Var.n + c.args.shift) = ap (λ t. raised c.args.shift (tree_of t)) c.in-Var.is in
    let below : var_bound (raised c.args.shift (tree_of c.args.term.now)) ≡ (c.in-Var.n + c.args.shift) + 1 = ap var_bound is in
    let bound = c.requires.variables in
    subst (IsNodeFor c.args.arena.now (9295712209692852481 + c.in-Var.n + c.args.shift)) (sym is)
    (variable_node c.args.arena.now (9295712209692852481 + c.in-Var.n + c.args.shift) (c.in-Var.n + c.args.shift) c.requires.arena (omega arith) (omega arith))
