use Rattle.std.proofs.Common.{◌+◌, ap, sym, ◌∙◌, arith, codes, take}
use Rattle.std.proofs.lemmas.List.{take_all}
use Rattle.tc_lists.proofs.Parts.{take_read}
use Rattle.tc_term.specs.Text.{Alone, Behind}
use Rattle.tc_term.specs.Tree.{depth}
use Rattle.tc_term.specs.TreeView.{tree_of}
use Rattle.tc_term.specs.Readable.{opened_in_all}
use Rattle.tc_spec.proofs.Opened.{opened-compound, opened-depth, opened_in_all-depth, opened_in, opened_in-push, opened_in-trees, cell_falls}
use Rattle.tc_spec.proofs.brackets.+opened.Goals as goal

pub opened-opened_behind-rest-requires : goal.opened-opened_behind-rest-requires
opened-opened_behind-rest-requires t c = (
  omega (arith, c.decreases, (cell_falls (codes ".") c.args.t.now c.in-Some.head.now c.in-Some.tail.now c.in-Some.ensures.some).1),
  omega (arith, c.requires, ap depth c.in-Some.ensures.some),
)

pub opened-overflow_add-result : goal.opened-overflow_add-result
opened-overflow_add-result t c =
    omega (arith, c.larger.ensures, c.opened-first.ensures, c.opened_behind-rest.ensures, opened-depth Alone (tree_of c.in-Some.head.now), opened-depth Behind (tree_of c.in-Some.tail.now), c.requires, ap depth c.in-Some.ensures.some)

pub opened-overflow_add-result-in-Comp : goal.opened-overflow_add-result-in-Comp
opened-overflow_add-result-in-Comp t c =
    omega (arith, c.opened_in_all.ensures, opened_in_all-depth c.in-Comp.args, c.requires, ap (λ u. depth (tree_of u)) c.in-Comp.is)

pub opened-returns-in-Comp : goal.opened-returns-in-Comp
opened-returns-in-Comp t c =
    ap (λ n. n + 1) c.opened_in_all.ensures
    ∙ sym (opened-compound Alone (tree_of c.args.t.now) c.in-Comp.field-0 c.in-Comp.args c.in_default.ensures.none (ap tree_of c.in-Comp.is))

pub opened_behind-opened_behind-rest-requires : goal.opened_behind-opened_behind-rest-requires
opened_behind-opened_behind-rest-requires t c = (
  omega (arith, c.decreases, (cell_falls (codes ".") c.args.t.now c.in-Some.head.now c.in-Some.tail.now c.in-Some.ensures.some).1),
  omega (arith, c.requires, ap depth c.in-Some.ensures.some),
)

pub opened_behind-overflow_add-result : goal.opened_behind-overflow_add-result
opened_behind-overflow_add-result t c =
    omega (arith, c.opened_in_all.ensures, opened_in_all-depth c.in-Comp.args, c.requires, ap (λ u. depth (tree_of u)) c.in-Comp.is)

pub opened_behind-returns-in-Comp : goal.opened_behind-returns-in-Comp
opened_behind-returns-in-Comp t c =
    ap (λ n. n + 1) c.opened_in_all.ensures
    ∙ sym (opened-compound Behind (tree_of c.args.t.now) c.in-Comp.field-0 c.in-Comp.args c.in_default.ensures.none (ap tree_of c.in-Comp.is))

pub opened_in_all-loop-arg-preserved : goal.opened_in_all-loop-arg-preserved
opened_in_all-loop-arg-preserved t c =
    let ts = c.items-arg-items.result.now in
    let i = c.loop-arg.arg-index in
    omega (
      arith,
      c.larger-most.ensures,
      c.loop-arg.invariant,
      c.opened-here.ensures,
      opened_in-push (take i ts) c.arg-item.result,
      ap opened_in (take_read ts i c.arg-item.result c.loop-arg-test.true c.arg-item.is),
    )

pub opened_in_all-returns : goal.opened_in_all-returns
opened_in_all-returns t c =
    let ts = c.items-arg-items.result.now in
    c.loop-arg.invariant
    ∙ ap opened_in (take_all c.loop-arg.arg-index ts (omega (arith, c.loop-arg-test.false)))
    ∙ opened_in-trees ts c.items-arg-items.ensures.some ∙ ap opened_in_all c.items-arg-items.ensures.trees
