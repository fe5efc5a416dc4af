use Rattle.std.proofs.Common.{◌≡◌, ◌+◌, ◌<◌, ◌≤◌, ◌∷◌, ℕ, List, ap, sym, ◌∙◌, drop, length, get_or, arith}
use Rattle.std.proofs.lemmas.List.{at_drop_all, at_drop_more}
use Rattle.tc_term.specs.declared.terms.Term.{Term}
use Rattle.tc_term.specs.Tree.{nodes}
use Rattle.tc_term.specs.TreeView.{tree_of}
use Rattle.tc_term.proofs.Sizes.{nodes_in, nodes-compound}
use Rattle.bench_read.proofs.count.+nodes.Goals as goal

-- the next argument's nodes come to no more than the whole term's
next_within : (whole all i : ℕ) (ts : List Term) (arg : Term) → whole ≡ 1 + nodes_in ts → i < length ts → arg ≡ get_or ts i arg →
    all + nodes_in (drop i ts) ≡ 1 + nodes_in ts → all + nodes (tree_of arg) ≤ whole
next_within whole all i ts arg counted inside at so_far =
    let next = at_drop_more nodes_in ts i arg inside ∙ ap (λ x. nodes_in (x ∷ drop (i + 1) ts)) (sym at) in
    omega (arith, counted, next, so_far)

pub nodes-all-requires : goal.nodes-all-requires
nodes-all-requires t c =
    let ts = c.items-arg-items.result.now in
    let whole = nodes-compound (tree_of c.args.term.now) c.in-Comp.field-0 c.in-Comp.args ts (ap tree_of c.in-Comp.is)
    c.items-arg-items.ensures.trees c.items-arg-items.ensures.some in
    let within = next_within (nodes (tree_of c.args.term.now)) c.loop-arg.all c.loop-arg.arg-index ts c.arg-item.result whole
    c.loop-arg-test.true c.arg-item.is c.loop-arg.invariant.1 in
    omega (arith, within, c.loop-arg.invariant.0, c.requires)

pub overflow_add-all : goal.overflow_add-all
overflow_add-all t c =
    let ts = c.items-arg-items.result.now in
    let whole = nodes-compound (tree_of c.args.term.now) c.in-Comp.field-0 c.in-Comp.args ts (ap tree_of c.in-Comp.is)
    c.items-arg-items.ensures.trees c.items-arg-items.ensures.some in
    let within = next_within (nodes (tree_of c.args.term.now)) c.loop-arg.all c.loop-arg.arg-index ts c.arg-item.result whole
    c.loop-arg-test.true c.arg-item.is c.loop-arg.invariant.1 in
    omega (arith, within, c.loop-arg.invariant.0, c.requires)

pub returns-after-loop-arg : goal.returns-after-loop-arg
returns-after-loop-arg t c =
    let ts = c.items-arg-items.result.now in
    let whole = nodes-compound (tree_of c.args.term.now) c.in-Comp.field-0 c.in-Comp.args ts (ap tree_of c.in-Comp.is)
    c.items-arg-items.ensures.trees c.items-arg-items.ensures.some in
    omega (arith, whole, c.loop-arg.invariant.1, at_drop_all nodes_in ts c.loop-arg.arg-index c.loop-arg-test.false)
