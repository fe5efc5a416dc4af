use Rattle.std.proofs.Common.{◌∙◌, sym, subst}
use Rattle.tc_asks.specs.Progress.{HasTakenIn}
use Rattle.crate_tests.proofs.asking.after.Goals as goal

pub next_ask-requires-clause-taken : goal.next_ask-requires-clause-taken
next_ask-requires-clause-taken c =
    subst (λ log. HasTakenIn c.args.scripts.now log c.args.asker.now) (sym (c.deref.ensures.value ∙ c.in_ok-push.ensures.items))
    (c.asker_stays_fit.ensures.longer c.args.scripts.now c.args.log.now.items _ c.args.asker.now c.requires.taken)
