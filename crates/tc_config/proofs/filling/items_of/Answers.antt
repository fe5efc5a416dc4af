use Rattle.std.proofs.Common.{◌++◌, ◌∷◌, [], List, sym, subst}
use Rattle.tc_model.specs.declared.scripts.ScriptItem.{ScriptItem}
use Rattle.tc_config.specs.Meanings.{AreItems}
use Rattle.tc_config.proofs.Items.{AreItems-push}
use Rattle.tc_config.proofs.filling.items_of.Goals as goal

pub loop-line-preserved : goal.loop-line-preserved
loop-line-preserved c =
    subst (λ (is : List ScriptItem). AreItems c.args.centres.now (c.loop-line.yielded ++ c.in-Some.line ∷ []) is)
    (sym c.in_ok-push.ensures.items)
    (AreItems-push c.args.centres.now c.loop-line.yielded c.loop-line.items.items c.in-Some.line c.in-Some-item_of.item
    c.loop-line.invariant c.in-Some-item_of.ensures.some.0 c.in-Some-item_of.ensures.some.1)
