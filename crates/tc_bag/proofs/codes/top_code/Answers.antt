use Rattle.std.proofs.Common.{◌≡◌, length, ap, sym, ◌∙◌}
use Rattle.std.specs.List.{fold}
use Rattle.tc_lists.specs.Codes.{mixed}
use Rattle.tc_term.specs.TreeView.{tree_of}
use Rattle.tc_bag.specs.Codes.{top_code}
use Rattle.tc_bag.specs.Keys.{arity}
use Rattle.tc_bag.proofs.Agreement.{arity-trees_of}
use Rattle.tc_bag.proofs.codes.top_code.Goals as goal

pub returns-in-Comp : goal.returns-in-Comp
returns-in-Comp c =
    let items = c.items.result.now in
    let count : length items ≡ arity c.in-Comp.args =
    sym (arity-trees_of items c.items.ensures.some) ∙ ap arity c.items.ensures.trees in
    c.mix_all-in-Comp.ensures
    ∙ ap (λ bytes. fold mixed c.mix-in-Comp.result bytes) c.bytes-in-Comp.ensures
    ∙ ap (λ code. fold mixed code c.in-Comp.name) (c.mix-in-Comp.ensures ∙ ap (mixed 3) count)
    ∙ sym (ap (λ t. top_code (tree_of t)) c.in-Comp.is)
