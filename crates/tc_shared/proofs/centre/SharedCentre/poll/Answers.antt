use Rattle.std.proofs.Common.{◌≡◌, ℕ, sym, ap, ◌∙◌, subst, Err, IfOk}
use Rattle.tc_model.specs.Run.{IsNext, HasCall}
use Rattle.tc_model.specs.State.{Origin}
use Rattle.tc_model.specs.declared.entries.Entry.{Entry}
use Rattle.tc_turn.specs.Passes.{TurnstileState, PassState}
use Rattle.tc_centre.specs.Turns as centre
use Rattle.tc_centre.specs.Centre.{IsFullCentre, weight_in, waiting_in}
use Rattle.tc_centre.specs.declared.answers.PollFault.TheVariants as poll
use Rattle.tc_shared.proofs.Turns.{is-next, adds-look, tells, refuses-look, poll-no-fault}
use Rattle.tc_shared.proofs.Kept.{keeps-tells, keeps-poll-refused}
use Rattle.tc_shared.proofs.centre.SharedCentre.poll.Goals as goal

pub poll-polled-requires : goal.poll-polled-requires
poll-polled-requires g c =
    let e = c.in-Ok.ensures in
    let old = c.in-Ok.held.value in
    let same : c.number.result ≡ c.args.pass.now.number =
    c.number.ensures ∙ ap (λ (x : PassState Entry Origin). x.number) e.entered.state in
    subst (λ (n : ℕ). IsNext old.origin old.history (record { agent = n; number = c.args.number })) (sym same)
    (is-next c.args.self.now c.args.pass.now c.enter.new.pass c.enter.new.pass old old c.requires.own c.requires.free
    (e.origin ∙ ap (λ (t : TurnstileState Origin). t.origin) c.self.view_is) e.entered c.args.number c.requires.next)

pub leave-requires-clause-grown : goal.leave-requires-clause-grown
leave-requires-clause-grown g c =
    let e = c.in-Ok.ensures in
    let old = c.in-Ok.held.value in
    let new = c.poll-polled.new.self in
    let same : c.number.result ≡ c.args.pass.now.number =
    c.number.ensures ∙ ap (λ (x : PassState Entry Origin). x.number) e.entered.state in
    adds-look c.args.self.now c.args.pass.now c.enter.new.pass c.enter.new.pass old new c.requires.own c.requires.free
    (e.origin ∙ ap (λ (t : TurnstileState Origin). t.origin) c.self.view_is) e.entered c.args.number c.args.asked c.poll-polled.result
    (subst (λ (n : ℕ). IfOk c.poll-polled.result (λ told. centre.Tells old new (record { agent = n; number = c.args.number }) c.args.asked told)) same
    c.poll-polled.ensures.told)
    c.poll-polled.ensures.same

pub returns-in-Ok-polled-clause-told : goal.returns-in-Ok-polled-clause-told
returns-in-Ok-polled-clause-told g c =
    let e = c.in-Ok.ensures in
    let old = c.in-Ok.held.value in
    let new = c.poll-polled.new.self in
    let told = c.in-Ok-polled.poll in
    let same : c.number.result ≡ c.args.pass.now.number =
    c.number.ensures ∙ ap (λ (x : PassState Entry Origin). x.number) e.entered.state in
    tells c.args.self.now c.args.pass.now c.enter.new.pass c.leave.new.pass old new c.requires.own c.requires.free
    (e.origin ∙ ap (λ (t : TurnstileState Origin). t.origin) c.self.view_is) e.entered c.args.number c.args.asked told
    (λ called full. absurd (poll-no-fault c.poll-polled.result told _ c.in-Ok-polled.is
    (c.poll-polled.ensures.full (subst (λ (n : ℕ). HasCall (record { agent = n; number = c.args.asked }) old.history) (sym same) called) full)))
    (subst (λ (n : ℕ). centre.Tells old new (record { agent = n; number = c.args.number }) c.args.asked told) same
    c.in-Ok-polled.ensures.told)
    c.vouch.ensures c.leave.ensures

pub returns-in-Err-clause-refused : goal.returns-in-Err-clause-refused
returns-in-Err-clause-refused g c =
    let e = c.in-Ok.ensures in
    let old = c.in-Ok.held.value in
    let new = c.poll-polled.new.self in
    let same : c.number.result ≡ c.args.pass.now.number =
    c.number.ensures ∙ ap (λ (x : PassState Entry Origin). x.number) e.entered.state in
    refuses-look c.args.self.now c.args.pass.now c.enter.new.pass c.leave.new.pass old new c.requires.own c.requires.free
    (e.origin ∙ ap (λ (t : TurnstileState Origin). t.origin) c.self.view_is) e.entered c.args.number c.args.asked
    c.poll-polled.result c.in-Err.fault c.poll_fault.result c.in-Err.is
    (subst (λ (n : ℕ). (HasCall (record { agent = n; number = c.args.asked }) old.history → ⊥) → c.poll-polled.result ≡ Err poll.Stranger) same c.poll-polled.ensures.stranger)
    (subst (λ (n : ℕ). HasCall (record { agent = n; number = c.args.asked }) old.history → IsFullCentre old → c.poll-polled.result ≡ Err (poll.Full (weight_in old) (waiting_in old))) same c.poll-polled.ensures.full)
    (subst (λ (n : ℕ). centre.IsPollRefused old (record { agent = n; number = c.args.number }) c.args.asked c.in-Err.fault) same c.in-Err.ensures.refused)
    c.poll_fault.ensures c.in-Err.ensures.same
    c.vouch.ensures c.leave.ensures

pub returns-in-Ok-polled-clause-kept : goal.returns-in-Ok-polled-clause-kept
returns-in-Ok-polled-clause-kept g c =
    keeps-tells c.args.self.now c.args.pass.now c.leave.new.pass c.requires.own c.requires.free c.args.number c.args.asked c.in-Ok-polled.poll
    (returns-in-Ok-polled-clause-told g c)

pub returns-in-Err-clause-kept : goal.returns-in-Err-clause-kept
returns-in-Err-clause-kept g c =
    keeps-poll-refused c.args.self.now c.args.pass.now c.leave.new.pass c.requires.own c.requires.free c.args.asked c.poll_fault.result
    (returns-in-Err-clause-refused g c)
