use Rattle.std.proofs.Common.{◌≡◌, ◌<◌, reverse, length, sym, ◌∙◌, ap, arith}
use Rattle.std.proofs.lemmas.List.{length-reverse}
use Rattle.tc_term.specs.Tree.{Compound, nodes_of_all, depth_of_all, name_bytes_of_all}
use Rattle.tc_term.specs.TreeView.{tree_of, trees_of}
use Rattle.tc_read.specs.Kept.{all_nodes, all_depth, all_name_bytes, fits, small_if, whole}
use Rattle.tc_read.proofs.Built.{nodes_of, depth_of, name_bytes_of, whole_of}
use Rattle.tc_read.proofs.compound.whole.Goals as goal
use Rattle.tc_lists.proofs.Reversals.{map-reverse}

pub item-requires-clause-counted : goal.item-requires-clause-counted
item-requires-clause-counted c =
    let ts = c.args.several.terms.items in
    let some : 0 < length (reverse ts) = omega (arith, length-reverse ts) in
    let e : c.in_ok-args.args ≡ trees_of (reverse ts) = c.in_ok-args.ensures ∙ ap trees_of c.reverse.ensures.items in
    omega (arith, ap nodes_of_all e, nodes_of (reverse ts) some, ap all_nodes (map-reverse tree_of ts), c.args.several.counted)

pub item-requires-clause-deep : goal.item-requires-clause-deep
item-requires-clause-deep c =
    let ts = c.args.several.terms.items in
    let some : 0 < length (reverse ts) = omega (arith, length-reverse ts) in
    let e : c.in_ok-args.args ≡ trees_of (reverse ts) = c.in_ok-args.ensures ∙ ap trees_of c.reverse.ensures.items in
    omega (arith, ap depth_of_all e, depth_of (reverse ts) some, ap all_depth (map-reverse tree_of ts), c.args.several.deep)

pub item-requires-clause-named : goal.item-requires-clause-named
item-requires-clause-named c =
    let ts = c.args.several.terms.items in
    let some : 0 < length (reverse ts) = omega (arith, length-reverse ts) in
    let e : c.in_ok-args.args ≡ trees_of (reverse ts) = c.in_ok-args.ensures ∙ ap trees_of c.reverse.ensures.items in
    let n : length c.bytes-length.result.now ≡ length c.args.name = ap length c.bytes-length.ensures in
    omega (arith, n, ap name_bytes_of_all e, name_bytes_of (reverse ts) some, ap all_name_bytes (map-reverse tree_of ts), c.args.several.named)

pub returns : goal.returns
returns c =
    let ts = c.args.several.terms.items in
    let some : 0 < length (reverse ts) = omega (arith, length-reverse ts) in
    let e : c.in_ok-args.args ≡ trees_of (reverse ts) = c.in_ok-args.ensures ∙ ap trees_of c.reverse.ensures.items in
    c.item.ensures
    ∙ ap (λ us. small_if (fits (Compound c.args.name us)) (Compound c.args.name us)) e
    ∙ sym (whole_of c.args.name (reverse ts) some)
    ∙ ap (whole c.args.name) (map-reverse tree_of ts)
