use Rattle.std.proofs.Common.{◌≡◌, refl, sym, subst, take, ◌∙◌}
use Rattle.std.proofs.lemmas.Option.{same_Some}
use Rattle.tc_model.specs.Choices.{AnyOne}
use Rattle.tc_model.specs.Run.{IsLegal}
use Rattle.tc_model.specs.State.{State, after_history, opening}
use Rattle.tc_audit.specs.Beginnings.{origin_in}
use Rattle.tc_audit.specs.Reached.{state_of}
use Rattle.tc_audit.proofs.Following.{run-grown, state-grown}
use Rattle.tc_audit.proofs.Marking.{read-at}
use Rattle.tc_audit.proofs.history.follow.Goals as goal

pub note-requires-clause-run : goal.note-requires-clause-run
note-requires-clause-run c =
    let e = c.index-history-place.result in
    run-grown (origin_in c.args.beginning.now) c.args.history.now c.args.place e
    (read-at c.args.history.now c.args.place e e c.requires.inside c.index-history-place.is refl)
    (state_of c.args.reached.now) c.requires.followed.run c.requires.followed.state
    (c.in_ok-is_legal.ensures.exact.0 c.if-not-branch.false)

pub returns-clause-bad : goal.returns-clause-bad
returns-clause-bad c = λ e at. (
  λ always.
      let origin = origin_in c.args.beginning.now in
      let before = take c.args.place c.args.history.now in
      let read = c.index-history-place.result in
      let same : read ≡ e =
      same_Some read e (sym (read-at c.args.history.now c.args.place read read c.requires.inside c.index-history-place.is refl) ∙ at) in
      subst (IsLegal AnyOne origin before (after_history (opening origin) before)) same
      (subst (λ (s : State). IsLegal AnyOne origin before s read) c.requires.followed.state
      (c.in_ok-is_legal.ensures.exact.0 c.if-not-branch.false)),
  λ legal. refl,
)

pub returns-clause-followed : goal.returns-clause-followed
returns-clause-followed c always =
    let origin = origin_in c.args.beginning.now in
    let e = c.index-history-place.result in
    let at = read-at c.args.history.now c.args.place e e c.requires.inside c.index-history-place.is refl in
    record {
      run = run-grown origin c.args.history.now c.args.place e at (state_of c.args.reached.now) c.requires.followed.run
          c.requires.followed.state (c.in_ok-is_legal.ensures.exact.0 c.if-not-branch.false);
      state = state-grown origin c.args.history.now c.args.place e at (state_of c.args.reached.now) (state_of c.is_legal.new.reached)
          c.requires.followed.state (c.in_ok-is_legal.ensures.state c.if-not-branch.false);
      sound = c.in_ok-is_legal.ensures.sound c.if-not-branch.false;
      notes = c.in_ok-note.ensures;
    }
