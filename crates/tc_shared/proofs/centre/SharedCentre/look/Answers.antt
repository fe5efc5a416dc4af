use Rattle.std.proofs.Common.{◌≡◌, ℕ, List, Contains, sym, ap, ◌∙◌, refl, subst}
use Rattle.std.proofs.lemmas.List.Elements.{Contains-append_left}
use Rattle.tc_model.specs.Run.{HasCall}
use Rattle.tc_model.specs.State.{Origin}
use Rattle.tc_model.specs.declared.entries.Entry.{Entry}
use Rattle.tc_turn.specs.Passes.{TurnstileState, PassState}
use Rattle.tc_shared.proofs.Turns.{looks, sees}
use Rattle.tc_shared.proofs.Kept.{keeps-sees}
use Rattle.tc_shared.proofs.centre.SharedCentre.look.Goals as goal

pub look-reply-requires : goal.look-reply-requires
look-reply-requires g c =
    let e = c.in-Ok.ensures in
    let called = c.requires.called in
    let same : c.number.result ≡ c.args.pass.now.number =
    c.number.ensures ∙ ap (λ (x : PassState Entry Origin). x.number) e.entered.state in
    let has : HasCall (record { agent = c.args.pass.now.number; number = c.args.number }) c.in-Ok.held.value.history = record {
      entry = called.entry;
      stands = subst (λ (h : List Entry). Contains h called.entry) e.entered.seen.1
          (Contains-append_left c.args.pass.now.seen e.entered.seen.0 called.entry called.stands);
      call = called.call;
    } in
    subst (λ (n : ℕ). HasCall (record { agent = n; number = c.args.number }) c.in-Ok.held.value.history) (sym same) has

pub returns-in-Ok-reply-clause-seen : goal.returns-in-Ok-reply-clause-seen
returns-in-Ok-reply-clause-seen g c =
    let e = c.in-Ok.ensures in
    let core = c.in-Ok.held.value in
    let same : c.number.result ≡ c.args.pass.now.number =
    c.number.ensures ∙ ap (λ (x : PassState Entry Origin). x.number) e.entered.state in
    looks c.args.self.now c.args.pass.now c.enter.new.pass c.leave.new.pass core core c.requires.own c.requires.free
    (e.origin ∙ ap (λ (t : TurnstileState Origin). t.origin) c.self.view_is) e.entered c.args.number c.number.result c.in-Ok-reply.reply same
    c.in-Ok-reply.ensures refl c.vouch.ensures c.leave.ensures

pub returns-in-Ok-reply-clause-kept : goal.returns-in-Ok-reply-clause-kept
returns-in-Ok-reply-clause-kept g c =
    keeps-sees c.args.self.now c.args.pass.now c.leave.new.pass c.requires.own c.requires.free (returns-in-Ok-reply-clause-seen g c).0

pub returns-in-Err-clause-refused : goal.returns-in-Err-clause-refused
returns-in-Err-clause-refused g c =
    let e = c.in-Ok.ensures in
    let core = c.in-Ok.held.value in
    sees c.args.self.now c.args.pass.now c.enter.new.pass c.leave.new.pass core core c.requires.own c.requires.free
    (e.origin ∙ ap (λ (t : TurnstileState Origin). t.origin) c.self.view_is) e.entered refl c.vouch.ensures c.leave.ensures

pub returns-in-Err-clause-kept : goal.returns-in-Err-clause-kept
returns-in-Err-clause-kept g c =
    keeps-sees c.args.self.now c.args.pass.now c.leave.new.pass c.requires.own c.requires.free (returns-in-Err-clause-refused g c)
