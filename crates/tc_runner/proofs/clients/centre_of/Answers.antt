use Rattle.std.proofs.Common.{◌≡◌, ◌≤◌, ◌<◌, ◌+◌, ◌-◌, ◌∙◌, sym, ap, subst, length, get_or, drop}
use Rattle.std.specs.List.{slice_get}
use Rattle.tc_desk.specs.Asks.{steps_from}
use Rattle.tc_model.specs.declared.scripts.ScriptItem.{ScriptItem}
use Rattle.tc_runner.proofs.Items.{step-behind, step-gone, step-here}
use Rattle.tc_runner.proofs.clients.centre_of.Goals as goal

pub returns-then-left-items : goal.returns-then-left-items
returns-then-left-items c step at =
    let s = c.script-item.result in
    let left = c.loop-script.left in
    let items = c.items-items.result.now in
    let same : items ≡ s.items = c.items-items.ensures.items in
    let item = c.index-items-left.result in
    ap (λ (i : ScriptItem). i.centre)
    (step-here c.args.scripts.now c.loop-script.script-index left s item step c.loop-script-test.true c.script-item.is
    (subst (λ is. left < length is) same c.if-left-items.true)
    (c.index-items-left.is ∙ ap (λ is. get_or is left item) same)
    (sym c.loop-script.invariant ∙ at))
    ∙ ap (λ (i : ScriptItem). i.centre) c.index-items-left.is

pub loop-script-preserved : goal.loop-script-preserved
loop-script-preserved c =
    let s = c.script-item.result in
    let left = c.loop-script.left in
    let same : c.items-items.result.now ≡ s.items = c.items-items.ensures.items in
    c.loop-script.invariant
    ∙ step-behind c.args.scripts.now c.loop-script.script-index left s c.loop-script-test.true c.script-item.is
    (subst (λ is. length is ≤ left) same c.if-left-items.false)
    ∙ ap (λ is. slice_get (steps_from (c.loop-script.script-index + 1) (drop (c.loop-script.script-index + 1) c.args.scripts.now)) (left - length is)) (sym same)

pub unreachable-requires : goal.unreachable-requires
unreachable-requires c = step-gone c.args.scripts.now c.loop-script.script-index c.loop-script.left c.args.place c.loop-script-test.false c.requires c.loop-script.invariant
