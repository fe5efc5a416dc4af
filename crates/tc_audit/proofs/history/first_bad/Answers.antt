use Rattle.std.proofs.Common.{◌≡◌, List, take, sym, ap, subst, ◌∙◌, arith}
use Rattle.std.proofs.lemmas.Bool.{true≢false}
use Rattle.std.proofs.lemmas.List.{take_all}
use Rattle.tc_model.specs.Run.{IsRun}
use Rattle.tc_model.specs.State.{State, IsQuiescent, after_history, opening}
use Rattle.tc_model.specs.declared.entries.Entry.{Entry}
use Rattle.tc_audit.specs.Beginnings.{origin_in}
use Rattle.tc_audit.proofs.Following.{bad-behind, bad-here}
use Rattle.tc_audit.proofs.history.first_bad.Goals as goal

pub returns-then-not-branch-clause-bad : goal.returns-then-not-branch-clause-bad
returns-then-not-branch-clause-bad c =
    bad-here (origin_in c.args.beginning.now) c.args.history.now c.loop-place.place c.loop-place.invariant.run
    (omega (arith, c.loop-place-test.true))
    (λ e at legal. true≢false (sym ((c.in_ok-follow.ensures.bad e at).1 legal) ∙ c.if-not-branch.true))

pub returns-then-is_quiet-clause-none : goal.returns-then-is_quiet-clause-none
returns-then-is_quiet-clause-none c =
    let origin = origin_in c.args.beginning.now in
    let history : List Entry = c.args.history.now in
    let all : take c.loop-place.place history ≡ history =
    take_all c.loop-place.place history (omega (arith, c.loop-place-test.false)) in
    record {
      run = subst (IsRun origin) all c.loop-place.invariant.run;
      quiescent = subst (λ (s : State). IsQuiescent s) (c.loop-place.invariant.state ∙ ap (after_history (opening origin)) all)
          (c.is_quiet.ensures.0 c.if-is_quiet.true);
    }

pub returns-clause-bad : goal.returns-clause-bad
returns-clause-bad c =
    let origin = origin_in c.args.beginning.now in
    let history : List Entry = c.args.history.now in
    let all : take c.loop-place.place history ≡ history =
    take_all c.loop-place.place history (omega (arith, c.loop-place-test.false)) in
    bad-behind origin history (subst (IsRun origin) all c.loop-place.invariant.run)
    (λ quiet. true≢false
    (sym (c.is_quiet.ensures.1
    (subst (λ (s : State). IsQuiescent s) (sym (c.loop-place.invariant.state ∙ ap (after_history (opening origin)) all)) quiet))
    ∙ c.if-is_quiet.false))
