use Rattle.std.proofs.Common.{◌≡◌, ◌&&◌, ◌+◌, false, ap, sym, ◌∙◌, drop, get_or}
use Rattle.std.proofs.lemmas.List.{at_drop_all, at_drop_more}
use Rattle.tc_term.proofs.Sizes.{ground_in, is_ground-compound}
use Rattle.tc_term.specs.Tree.{is_ground}
use Rattle.tc_term.specs.TreeView.{tree_of}
use Rattle.tc_term.proofs.terms.Term.+is_ground.Goals as goal

pub returns-then-not-is_ground : goal.returns-then-not-is_ground
returns-then-not-is_ground t c =
    let ts = c.items-arg-items.result.now in
    let i = c.loop-arg.arg-index in
    let arg = c.arg-item.result in
    let whole = is_ground-compound (tree_of c.args.self.now) c.in-Comp.field-0 c.in-Comp.args ts (ap tree_of c.in-Comp.is)
    c.items-arg-items.ensures.trees c.items-arg-items.ensures.some in
    let not_ground : is_ground (tree_of (get_or ts i arg)) ≡ false =
    ap (λ x. is_ground (tree_of x)) (sym c.arg-item.is) ∙ sym c.is_ground.ensures ∙ c.if-not-is_ground.true in
    sym (whole ∙ c.loop-arg.invariant ∙ at_drop_more ground_in ts i arg c.loop-arg-test.true
    ∙ ap (λ b. b && ground_in (drop (i + 1) ts)) not_ground)

pub returns-after-loop-arg : goal.returns-after-loop-arg
returns-after-loop-arg t c =
    let ts = c.items-arg-items.result.now in
    let whole = is_ground-compound (tree_of c.args.self.now) c.in-Comp.field-0 c.in-Comp.args ts (ap tree_of c.in-Comp.is)
    c.items-arg-items.ensures.trees c.items-arg-items.ensures.some in
    sym (whole ∙ c.loop-arg.invariant ∙ at_drop_all ground_in ts c.loop-arg.arg-index c.loop-arg-test.false)
