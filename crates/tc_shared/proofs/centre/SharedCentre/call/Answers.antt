use Rattle.std.proofs.Common.{◌≡◌, ℕ, sym, ap, ◌∙◌, subst, IfOk}
use Rattle.tc_model.specs.Run.{IsNext}
use Rattle.tc_model.specs.State.{Origin}
use Rattle.tc_model.specs.declared.entries.Entry.{Entry}
use Rattle.tc_turn.specs.Passes.{TurnstileState, PassState}
use Rattle.tc_centre.specs.Turns as centre
use Rattle.tc_shared.proofs.Turns.{is-next, adds, makes, refuses, ok-no-fault}
use Rattle.tc_shared.proofs.Kept.{keeps-makes, makes-own_call, keeps-call-refused}
use Rattle.tc_shared.proofs.centre.SharedCentre.call.Goals as goal

pub turn-served-requires : goal.turn-served-requires
turn-served-requires g c =
    let e = c.in-Ok.ensures in
    let old = c.in-Ok.held.value in
    let same : c.number.result ≡ c.args.pass.now.number =
    c.number.ensures ∙ ap (λ (x : PassState Entry Origin). x.number) e.entered.state in
    subst (λ (n : ℕ). IsNext old.origin old.history (record { agent = n; number = c.args.number })) (sym same)
    (is-next c.args.self.now c.args.pass.now c.enter.new.pass c.enter.new.pass old old c.requires.own c.requires.free
    (e.origin ∙ ap (λ (t : TurnstileState Origin). t.origin) c.self.view_is) e.entered c.args.number c.requires.next)

pub leave-requires-clause-grown : goal.leave-requires-clause-grown
leave-requires-clause-grown g c =
    let e = c.in-Ok.ensures in
    let old = c.in-Ok.held.value in
    let new = c.turn-served.new.self in
    let same : c.number.result ≡ c.args.pass.now.number =
    c.number.ensures ∙ ap (λ (x : PassState Entry Origin). x.number) e.entered.state in
    adds c.args.self.now c.args.pass.now c.enter.new.pass c.enter.new.pass old new c.requires.own c.requires.free
    (e.origin ∙ ap (λ (t : TurnstileState Origin). t.origin) c.self.view_is) e.entered c.args.number c.args.op c.turn-served.result
    (subst (λ (n : ℕ). IfOk c.turn-served.result (centre.Serves old new (record { agent = n; number = c.args.number }) c.args.op)) same
    c.turn-served.ensures.served)
    c.turn-served.ensures.same

pub returns-in-Ok-served-clause-served : goal.returns-in-Ok-served-clause-served
returns-in-Ok-served-clause-served g c =
    let e = c.in-Ok.ensures in
    let old = c.in-Ok.held.value in
    let new = c.turn-served.new.self in
    let told = c.in-Ok-served.answer in
    let same : c.number.result ≡ c.args.pass.now.number =
    c.number.ensures ∙ ap (λ (x : PassState Entry Origin). x.number) e.entered.state in
    makes c.args.self.now c.args.pass.now c.enter.new.pass c.leave.new.pass old new c.requires.own c.requires.free
    (e.origin ∙ ap (λ (t : TurnstileState Origin). t.origin) c.self.view_is) e.entered c.args.number c.args.op told
    (λ full. absurd (ok-no-fault c.turn-served.result told _ c.in-Ok-served.is (c.turn-served.ensures.full full)))
    (subst (λ (n : ℕ). centre.Serves old new (record { agent = n; number = c.args.number }) c.args.op told) same
    c.in-Ok-served.ensures.served)
    c.vouch.ensures c.leave.ensures

pub returns-in-Err-clause-refused : goal.returns-in-Err-clause-refused
returns-in-Err-clause-refused g c =
    let e = c.in-Ok.ensures in
    let old = c.in-Ok.held.value in
    let new = c.turn-served.new.self in
    refuses c.args.self.now c.args.pass.now c.enter.new.pass c.leave.new.pass old new c.requires.own c.requires.free
    (e.origin ∙ ap (λ (t : TurnstileState Origin). t.origin) c.self.view_is) e.entered
    c.turn-served.result c.in-Err.fault c.call_fault.result c.in-Err.is c.turn-served.ensures.full c.in-Err.ensures.refused c.call_fault.ensures c.in-Err.ensures.same
    c.vouch.ensures c.leave.ensures

pub returns-in-Ok-served-clause-kept : goal.returns-in-Ok-served-clause-kept
returns-in-Ok-served-clause-kept g c =
    keeps-makes c.args.self.now c.args.pass.now c.leave.new.pass c.requires.own c.requires.free c.args.number c.args.op c.in-Ok-served.answer
    (returns-in-Ok-served-clause-served g c)

pub returns-in-Ok-served-clause-called : goal.returns-in-Ok-served-clause-called
returns-in-Ok-served-clause-called g c =
    makes-own_call c.args.self.now c.args.pass.now c.leave.new.pass c.requires.own c.requires.free c.args.number c.args.op c.in-Ok-served.answer
    (returns-in-Ok-served-clause-served g c)

pub returns-in-Err-clause-kept : goal.returns-in-Err-clause-kept
returns-in-Err-clause-kept g c =
    keeps-call-refused c.args.self.now c.args.pass.now c.leave.new.pass c.requires.own c.requires.free c.call_fault.result
    (returns-in-Err-clause-refused g c)
