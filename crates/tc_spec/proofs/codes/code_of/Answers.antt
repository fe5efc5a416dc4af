use Rattle.std.proofs.Common.{◌≡◌, Some, length, ap, ap₂, sym, ◌∙◌}
use Rattle.std.specs.List.{fold}
use Rattle.tc_lists.specs.Codes.{mixed}
use Rattle.tc_term.specs.TreeView.{tree_of}
use Rattle.tc_spec.specs.Codes.{code_of, count_of}
use Rattle.tc_spec.proofs.Apart.{count-trees_of}
use Rattle.tc_spec.proofs.codes.code_of.Goals as goal

pub returns-in-Comp : goal.returns-in-Comp
returns-in-Comp c =
    let items = c.items.result.now in
    let count : length items ≡ count_of c.in-Comp.args =
    sym (count-trees_of items c.items.ensures.some) ∙ ap count_of c.items.ensures.trees in
    ap Some (c.mix_all-in-Comp.ensures
    ∙ ap (λ bytes. fold mixed c.mix-in-Comp.result bytes) c.bytes-in-Comp.ensures
    ∙ ap (λ code. fold mixed code c.in-Comp.name) (c.mix-in-Comp.ensures ∙ ap₂ mixed c.op_code-first.ensures count))
    ∙ sym (ap (λ t. code_of c.args.op (tree_of t)) c.in-Comp.is)
