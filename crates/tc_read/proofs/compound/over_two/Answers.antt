use Rattle.std.proofs.Common.{◌≡◌, length, sym, ◌∙◌, ap, arith}
use Rattle.tc_term.specs.Tree.{Compound, nodes_of_all, depth_of_all, name_bytes_of_all}
use Rattle.tc_term.specs.TreeView.{tree_of}
use Rattle.tc_read.specs.Kept.{fits, small_if}
use Rattle.tc_read.proofs.Built.{two_kept}
use Rattle.tc_read.proofs.compound.over_two.Goals as goal

pub item-requires-clause-counted : goal.item-requires-clause-counted
item-requires-clause-counted c = omega (arith, ap nodes_of_all c.in_ok-args.ensures, c.args.x.counted, c.args.y.counted)

pub item-requires-clause-deep : goal.item-requires-clause-deep
item-requires-clause-deep c = omega (arith, ap depth_of_all c.in_ok-args.ensures, c.args.x.deep, c.args.y.deep)

pub item-requires-clause-named : goal.item-requires-clause-named
item-requires-clause-named c =
    let n : length c.bytes-length.result.now ≡ length c.args.name = ap length c.bytes-length.ensures in
    omega (arith, n, ap name_bytes_of_all c.in_ok-args.ensures, c.args.x.named, c.args.y.named)

pub returns : goal.returns
returns c =
    c.item.ensures
    ∙ ap (λ us. small_if (fits (Compound c.args.name us)) (Compound c.args.name us)) c.in_ok-args.ensures
    ∙ sym (two_kept c.args.name (tree_of c.args.x.term) (tree_of c.args.y.term))
