use Rattle.std.proofs.Common.{◌+◌, ap, sym, ◌∙◌, length, drop, get_or, arith}
use Rattle.std.proofs.lemmas.List.{at_drop_all, at_drop_more}
use Rattle.tc_term.proofs.Variables.{variables_in, variables_after-compound, length-variables_in}
use Rattle.tc_term.specs.TreeView.{tree_of}
use Rattle.tc_term.specs.Variables.{variables_after}
use Rattle.tc_term.proofs.numbering.+note.Goals as goal

pub returns-then-not-note-clause-full : goal.returns-then-not-note-clause-full
returns-then-not-note-clause-full t c =
    let ts = c.items-arg-items.result.now in
    let i = c.loop-arg.arg-index in
    let arg = c.arg-item.result in
    let seen = c.loop-arg.seen in
    let whole = variables_after-compound c.args.seen.now (tree_of c.args.t.now) c.in-Comp.field-0 c.in-Comp.args ts
    (ap tree_of c.in-Comp.is) c.items-arg-items.ensures.trees c.items-arg-items.ensures.some in
    let next = at_drop_more (variables_in seen) ts i arg c.loop-arg-test.true in
    let this = ap (λ x. variables_after seen (tree_of x)) c.arg-item.is in
    λ _. omega (
      arith,
      ap length whole,
      ap length c.loop-arg.invariant,
      ap length next,
      ap length this,
      length-variables_in (drop (i + 1) ts) (variables_after seen (tree_of (get_or ts i arg))),
      c.note.ensures.full c.if-not-note.true,
    )

pub returns-after-loop-arg-clause-noted : goal.returns-after-loop-arg-clause-noted
returns-after-loop-arg-clause-noted t c =
    let ts = c.items-arg-items.result.now in
    let whole = variables_after-compound c.args.seen.now (tree_of c.args.t.now) c.in-Comp.field-0 c.in-Comp.args ts
    (ap tree_of c.in-Comp.is) c.items-arg-items.ensures.trees c.items-arg-items.ensures.some in
    λ _. sym (whole ∙ c.loop-arg.invariant ∙ at_drop_all (variables_in c.loop-arg.seen) ts c.loop-arg.arg-index c.loop-arg-test.false)
