use Rattle.std.proofs.Common.{◌≤◌, ◌+◌, ℕ, sym, arith, subst}
use Rattle.std.proofs.Math.ListN.{set}
use Rattle.tc_sched.specs.Clients.{Client}
use Rattle.tc_sched.specs.Steps.{IsReady, Rests, Went, left_of, moves_of, turns_of}
use Rattle.tc_sched.proofs.Sweeps.{Swept, all-rest, moves-few, swept-all, swept-failed, swept-next, swept-none, swept-step}
use Rattle.tc_sched.proofs.crowd.step_others.Goals as goal

pub loop-i-init : goal.loop-i-init
loop-i-init g c = swept-none g.D.Desk.state g.D.Desk.bond g.D.Desk.sound (turns_of g.D.Desk.state) (λ (x e : Client g.row.D.Denot). Rests g.D.Desk.state e) c.args.names.now c.args.actors.now c.requires.ready

pub step_unless_waiting-requires : goal.step_unless_waiting-requires
step_unless_waiting-requires g c = record {
  ready = subst (λ (x : Client g.row.D.Denot). IsReady g.D.Desk.state (turns_of g.D.Desk.state x) c.args.names.now x) c.index-actors-i.is
      (swept-next g.D.Desk.state g.D.Desk.bond g.D.Desk.sound (turns_of g.D.Desk.state) (λ (x e : Client g.row.D.Denot). Rests g.D.Desk.state e) c.args.names.now c.args.actors.now c.loop-i.actors c.loop-i.i c.loop-i.moved
      c.index-actors-i.result c.loop-i.invariant c.index-actors-i.is (omega (arith, c.loop-i-test.true, c.loop-i.auto.actors)));
}

pub returns-in_err-step-clause-went : goal.returns-in_err-step-clause-went
returns-in_err-step-clause-went g c =
    swept-failed g.D.Desk.state g.D.Desk.bond g.D.Desk.sound (turns_of g.D.Desk.state) (λ (x e : Client g.row.D.Denot). Rests g.D.Desk.state e) c.args.names.now c.args.actors.now c.loop-i.actors c.loop-i.i c.loop-i.moved
    c.index-actors-i.result c.step_unless_waiting.new.actor c.loop-i.invariant c.index-actors-i.is (omega (arith, c.loop-i-test.true, c.loop-i.auto.actors))
    (subst (λ (x : Client g.row.D.Denot). Went g.D.Desk.state g.D.Desk.bond g.D.Desk.sound (turns_of g.D.Desk.state x) x c.step_unless_waiting.new.actor) (sym c.index-actors-i.is) c.step_unless_waiting.ensures.went)

pub loop-i-preserved : goal.loop-i-preserved
loop-i-preserved g c =
    let v = c.step_unless_waiting.new.actor in
    let h = c.in_ok-step.step in
    let at = c.index-actors-i.is in
    subst (λ (b : ℕ). Swept g.D.Desk.state g.D.Desk.bond g.D.Desk.sound (turns_of g.D.Desk.state) (λ (x e : Client g.row.D.Denot). Rests g.D.Desk.state e) c.args.names.now c.args.actors.now (set c.loop-i.actors c.loop-i.i v) (c.loop-i.i + 1) (c.loop-i.moved + b))
    (sym c.moves-moved.ensures)
    (swept-step g.D.Desk.state g.D.Desk.bond g.D.Desk.sound (turns_of g.D.Desk.state) (λ (x e : Client g.row.D.Denot). Rests g.D.Desk.state e) c.args.names.now c.args.actors.now c.loop-i.actors c.loop-i.i c.loop-i.moved (moves_of h) c.index-actors-i.result v
    c.loop-i.invariant at (omega (arith, c.loop-i-test.true, c.loop-i.auto.actors)) (moves-few h)
    (subst (λ (x : Client g.row.D.Denot). Went g.D.Desk.state g.D.Desk.bond g.D.Desk.sound (turns_of g.D.Desk.state x) x v) (sym at) c.step_unless_waiting.ensures.went)
    (subst (λ (x : Client g.row.D.Denot). left_of g.D.Desk.state v + moves_of h ≤ left_of g.D.Desk.state x) (sym at) c.in_ok-step.ensures.moved)
    c.in_ok-step.ensures.rests)

pub returns-clause-went : goal.returns-clause-went
returns-clause-went g c = (swept-all g.D.Desk.state g.D.Desk.bond g.D.Desk.sound (turns_of g.D.Desk.state) (λ (x e : Client g.row.D.Denot). Rests g.D.Desk.state e) c.args.names.now c.args.actors.now c.loop-i.actors c.loop-i.i c.loop-i.moved c.loop-i.invariant (omega (arith, c.loop-i-test.false, c.loop-i.auto.actors))).went

pub returns-clause-moved : goal.returns-clause-moved
returns-clause-moved g c = (swept-all g.D.Desk.state g.D.Desk.bond g.D.Desk.sound (turns_of g.D.Desk.state) (λ (x e : Client g.row.D.Denot). Rests g.D.Desk.state e) c.args.names.now c.args.actors.now c.loop-i.actors c.loop-i.i c.loop-i.moved c.loop-i.invariant (omega (arith, c.loop-i-test.false, c.loop-i.auto.actors))).moves

pub returns-clause-rests : goal.returns-clause-rests
returns-clause-rests g c = λ none.
    all-rest g.D.Desk.state g.D.Desk.bond g.D.Desk.sound c.args.actors.now c.loop-i.actors
    ((swept-all g.D.Desk.state g.D.Desk.bond g.D.Desk.sound (turns_of g.D.Desk.state) (λ (x e : Client g.row.D.Denot). Rests g.D.Desk.state e) c.args.names.now c.args.actors.now c.loop-i.actors c.loop-i.i c.loop-i.moved c.loop-i.invariant (omega (arith, c.loop-i-test.false, c.loop-i.auto.actors))).kept none)
