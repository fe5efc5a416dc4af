use Rattle.std.proofs.Common.{◌≡◌, ap, sym, ◌∙◌}
use Rattle.tc_term.specs.TreeView.{tree_of}
use Rattle.tc_bag.specs.Lent.{lent_tree}
use Rattle.tc_bag.proofs.Agreement.{first_of-read, HasFirst-read}
use Rattle.tc_bag.specs.Keys.{first_of}
use Rattle.tc_bag.proofs.key.has_first.Goals as goal

pub returns-in-Comp : goal.returns-in-Comp
returns-in-Comp c =
    let item = c.index-items-0.result in
    let args : first_of c.in-Comp.args ≡ tree_of item =
    ap first_of (sym c.items.ensures.trees)
    ∙ first_of-read c.items.result.now item c.items.ensures.some
    ∙ ap tree_of (sym c.index-items-0.is) in
    HasFirst-read (tree_of c.args.t.now) (tree_of item) (tree_of c.in-Some.first.now)
    (lent_tree c.args.first) c.eq.result
    (cc) c.eq.ensures (ap lent_tree c.in-Some.is)
