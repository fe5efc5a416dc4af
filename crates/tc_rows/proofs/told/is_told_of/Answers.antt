use Rattle.std.proofs.Common.{sym, subst, ap}
use Rattle.std.proofs.lemmas.Result.{IfOk-weaker}
use Rattle.tc_desk.specs.Logs.{is_served}
use Rattle.tc_rows.specs.Told.{IsToldServed}
use Rattle.tc_rows.proofs.Telling.{pending-told, refused-told, replied-told}
use Rattle.tc_rows.proofs.told.is_told_of.Goals as goal

pub is_turned_away-requires-clause-none : goal.is_turned_away-requires-clause-none
is_turned_away-requires-clause-none c = c.requires.alone (ap is_served c.in-Refused.is)

pub returns-in-Replied : goal.returns-in-Replied
returns-in-Replied c = λ origin asked index is.
    let told = replied-told c.args.version origin c.args.history.now c.args.id asked c.args.op.now is c.in-Replied.reply in
    IfOk-weaker c.is_answered.result _ _
    (λ y h. (
      λ yes. subst (IsToldServed c.args.version origin c.args.history.now c.args.id asked) (sym c.in-Replied.is) (told.0 (h.0 yes)),
      λ served. h.1 (told.1 (subst (IsToldServed c.args.version origin c.args.history.now c.args.id asked) c.in-Replied.is served)),
    ))
    c.is_answered.ensures

pub returns-in-Pending : goal.returns-in-Pending
returns-in-Pending c = λ origin asked index is.
    let told = pending-told c.args.version origin c.args.history.now c.args.id asked c.args.op.now is in
    IfOk-weaker c.is_waiting.result _ _
    (λ y h. (
      λ yes. subst (IsToldServed c.args.version origin c.args.history.now c.args.id asked) (sym c.in-Pending.is) (told.0 (h.0 yes)),
      λ served. h.1 (told.1 (subst (IsToldServed c.args.version origin c.args.history.now c.args.id asked) c.in-Pending.is served)),
    ))
    c.is_waiting.ensures

pub returns-in-Refused : goal.returns-in-Refused
returns-in-Refused c = λ origin asked index is.
    let told = refused-told c.args.version origin c.args.history.now c.args.id asked c.args.op.now is c.in-Refused.why in
    let h = c.is_turned_away.ensures origin index in (
      λ yes. subst (IsToldServed c.args.version origin c.args.history.now c.args.id asked) (sym c.in-Refused.is) (told.0 (h.0 yes)),
      λ served. h.1 (told.1 (subst (IsToldServed c.args.version origin c.args.history.now c.args.id asked) c.in-Refused.is served)),
    )
