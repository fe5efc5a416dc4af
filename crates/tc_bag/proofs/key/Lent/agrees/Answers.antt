use Rattle.std.proofs.Common.{◌≡◌, ap, sym, ◌∙◌, length}
use Rattle.std.proofs.lemmas.Bool.{eqb-true}
use Rattle.std.proofs.lemmas.Slice.Eq.{bytes_eq-Decides}
use Rattle.tc_term.specs.Tree.{Compound}
use Rattle.tc_term.specs.TreeView.{tree_of}
use Rattle.tc_bag.specs.Keys.{arity}
use Rattle.tc_bag.specs.Lent.{lent_key}
use Rattle.tc_bag.proofs.Agreement.{arity-trees_of, Agrees-compound, compound-Agrees}
use Rattle.tc_bag.proofs.key.Lent.agrees.Goals as goal

pub returns-then-items-count : goal.returns-then-items-count
returns-then-items-count c =
    let key = c.in-Comp-Comp in
    let tuple : c.args.tuple.now ≡ Compound key.other key.args = sym c.term.ensures.term ∙ ap tree_of key.is-1 in
    let lent = ap lent_key key.is-0 in
    let as_many : key.count ≡ arity key.args =
    sym c.if-items-count.true ∙ sym (arity-trees_of c.items.result.now c.items.ensures.some) ∙ ap arity c.items.ensures.trees in
    let same = bytes_eq-Decides key.name.now key.other in (
      λ equal. compound-Agrees (lent_key c.args.self) c.args.tuple.now key.name.now key.other key.count key.args lent tuple
          (same.0 (sym c.eq-then-items-count.ensures ∙ equal)) as_many,
      λ agrees. c.eq-then-items-count.ensures
          ∙ same.1 (Agrees-compound (lent_key c.args.self) c.args.tuple.now key.name.now key.other key.count key.args lent tuple agrees).0,
    )

pub returns-else-items-count : goal.returns-else-items-count
returns-else-items-count c =
    let key = c.in-Comp-Comp in
    let tuple : c.args.tuple.now ≡ Compound key.other key.args = sym c.term.ensures.term ∙ ap tree_of key.is-1 in
    let count : arity key.args ≡ length c.items.result.now =
    ap arity (sym c.items.ensures.trees) ∙ arity-trees_of c.items.result.now c.items.ensures.some in (
      λ equal. absurd (c.if-items-count.false (eqb-true (length c.items.result.now) key.count equal)),
      λ agrees. absurd (c.if-items-count.false (sym ((Agrees-compound (lent_key c.args.self) c.args.tuple.now key.name.now key.other
          key.count key.args (ap lent_key key.is-0) tuple agrees).1 ∙ count))),
    )
