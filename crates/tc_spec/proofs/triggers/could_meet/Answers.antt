use Rattle.std.proofs.Common.{sym, ap, ◌∙◌}
use Rattle.std.proofs.lemmas.Slice.Eq.{bytes_eq-Decides}
use Rattle.tc_term.specs.TreeView.{tree_of}
use Rattle.tc_spec.proofs.Apart.{counts_apart}
use Rattle.tc_spec.proofs.Counting.{compounds_agree}
use Rattle.tc_spec.proofs.triggers.could_meet.Goals as goal

pub returns-then-items-clause-agree : goal.returns-then-items-clause-agree
returns-then-items-clause-agree c same =
    compounds_agree (tree_of c.args.head.now) (tree_of c.args.term.now) c.in-Comp-Comp.m c.in-Comp-Comp.n c.in-Comp-Comp.xs c.in-Comp-Comp.ys
    c.items.result.now c.items-in-Comp-Comp.result.now (ap tree_of c.in-Comp-Comp.is-0) (ap tree_of c.in-Comp-Comp.is-1)
    c.items.ensures.trees c.items-in-Comp-Comp.ensures.trees c.items.ensures.some c.if-items.true
    (sym c.bytes-then-items.ensures
    ∙ (bytes_eq-Decides c.bytes-then-items.result.now c.bytes-then-items-2.result.now).0 (sym c.eq-then-items.ensures ∙ same)
    ∙ c.bytes-then-items-2.ensures)

pub returns-else-items-clause-apart : goal.returns-else-items-clause-apart
returns-else-items-clause-apart c fails v k equal =
    counts_apart (tree_of c.args.head.now) (tree_of c.args.term.now) c.in-Comp-Comp.m c.in-Comp-Comp.n c.in-Comp-Comp.xs c.in-Comp-Comp.ys
    c.items.result.now c.items-in-Comp-Comp.result.now (ap tree_of c.in-Comp-Comp.is-0) (ap tree_of c.in-Comp-Comp.is-1)
    c.items.ensures.some c.items-in-Comp-Comp.ensures.some c.items.ensures.trees c.items-in-Comp-Comp.ensures.trees fails v k equal
