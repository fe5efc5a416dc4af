use Rattle.tc_term.specs.TreeView.{tree_of}
use Rattle.tc_term.specs.Variables.{raised}
use Rattle.tc_unify.proofs.Beginnings.{pairs_kept}
use Rattle.bench_unify.proofs.cases.again.Goals as goal

pub undo-requires : goal.undo-requires
undo-requires g c =
    pairs_kept c.loop.store c.add.new.self c.mark-mark.result c.in_ok-add.field-0
    (raised c.args.left.shift (tree_of c.args.left.term.now)) (raised c.args.right.shift (tree_of c.args.right.term.now))
    c.mark-mark.ensures c.in_ok-add.ensures.added c.in_ok-add.ensures.unchanged
