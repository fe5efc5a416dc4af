use Rattle.std.proofs.Common.{length, sym, subst, ap, arith}
use Rattle.tc_config.specs.Good.{Permits}
use Rattle.tc_histtext.specs.ReadTexts.{as_logged}
use Rattle.tc_model.specs.Calls.{call_of}
use Rattle.std.proofs.Common.{take, ◌+◌}
use Rattle.tc_rows.specs.Rows.{logged}
use Rattle.tc_rows.specs.ServedRows.{AgreesTold}
use Rattle.tc_rows.proofs.agreeing.agrees.Goals as goal

pub returns-in-Replied : goal.returns-in-Replied
returns-in-Replied c = λ origin a index at.
    let T = AgreesTold c.args.version (Permits c.args.config.now a.role c.args.centre) origin c.args.history.now
    (call_of c.args.agent (c.args.place + 1)) (logged (take c.args.place c.args.rows.now)) (as_logged c.args.row.now) in
    let h = c.is_replied.ensures a at in
    (λ yes. subst T (sym c.in-Replied.is) (h.0 yes), λ is. h.1 (subst T c.in-Replied.is is))

pub returns-in-Pending : goal.returns-in-Pending
returns-in-Pending c = λ origin a index at.
    let T = AgreesTold c.args.version (Permits c.args.config.now a.role c.args.centre) origin c.args.history.now
    (call_of c.args.agent (c.args.place + 1)) (logged (take c.args.place c.args.rows.now)) (as_logged c.args.row.now) in
    let h = c.is_waiting.ensures a at in
    (λ yes. subst T (sym c.in-Pending.is) (h.0 yes), λ is. h.1 (subst T c.in-Pending.is is))

pub returns-in-Refused : goal.returns-in-Refused
returns-in-Refused c = λ origin a index at.
    let T = AgreesTold c.args.version (Permits c.args.config.now a.role c.args.centre) origin c.args.history.now
    (call_of c.args.agent (c.args.place + 1)) (logged (take c.args.place c.args.rows.now)) (as_logged c.args.row.now) in
    let h = c.is_told_refusal.ensures origin index in
    (λ yes. subst T (sym c.in-Refused.is) (h.0 yes), λ is. h.1 (subst T c.in-Refused.is is))

pub returns-in-Polled : goal.returns-in-Polled
returns-in-Polled c = λ origin a index at.
    let T = AgreesTold c.args.version (Permits c.args.config.now a.role c.args.centre) origin c.args.history.now
    (call_of c.args.agent (c.args.place + 1)) (logged (take c.args.place c.args.rows.now)) (as_logged c.args.row.now) in
    let h = c.has_polled.ensures in
    (λ yes. subst T (sym c.in-Polled.is) (h.0 yes), λ is. h.1 (subst T c.in-Polled.is is))
