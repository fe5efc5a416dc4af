use Rattle.std.proofs.Common.{All, subst}
use Rattle.tc_model.specs.Typed.{IsTyped}
use Rattle.tc_model.specs.Run.{IsFirstRun}
use Rattle.tc_model.specs.State.{IsOrigin, IsQuiescent}
use Rattle.tc_model.proofs.Runs.{IsRun-first}
use Rattle.tc_model.proofs.TypedRuns.{IsTyped-first_run}
use Rattle.tc_centre.specs.Held.{origin_of}
use Rattle.tc_centre.specs.Centre.{Centre, state_of}
use Rattle.tc_centre.proofs.centre.Core.history.Goals as goal

pub returns-clause-first : goal.returns-clause-first
returns-clause-first c =
    let P : Centre → Type 0 = λ centre. IsFirstRun centre.origin centre.history in
    subst P c.self.view_is c.self.invariant.rest.holds.run

pub returns-clause-run : goal.returns-clause-run
returns-clause-run c = IsRun-first c.args.self.now.origin c.args.self.now.history (returns-clause-first c)

pub returns-clause-quiescent : goal.returns-clause-quiescent
returns-clause-quiescent c =
    let P : Centre → Type 0 = λ centre. IsQuiescent (state_of centre) in
    subst P c.self.view_is
    (subst IsQuiescent c.self.invariant.rest.holds.state c.self.invariant.rest.quiescent)

pub returns-clause-origin : goal.returns-clause-origin
returns-clause-origin c =
    let P : Centre → Type 0 = λ centre. IsOrigin centre.origin in
    subst P c.self.view_is c.self.invariant.rest.holds.origin_is

pub returns-clause-typed : goal.returns-clause-typed
returns-clause-typed c =
    let P : Centre → Type 0 = λ centre. All IsTyped centre.history in
    let holds = c.self.invariant.rest.holds in
    subst P c.self.view_is
    (IsTyped-first_run (origin_of c.self.inside.held.value.founding) c.self.inside.held.value.history.items holds.origin_is holds.run
    c.self.invariant.typed)
