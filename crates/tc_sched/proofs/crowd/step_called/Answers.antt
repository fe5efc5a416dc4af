use Rattle.std.proofs.Common.{◌≡◌, ◌<◌, ◌≤◌, ◌+◌, ℕ, inl, refl, sym, length, arith, subst}
use Rattle.std.proofs.Math.ListN.{set}
use Rattle.tc_sched.specs.Clients.{Client}
use Rattle.tc_sched.specs.Steps.{IsReady, Stays, Went, left_of, moves_of}
use Rattle.tc_sched.proofs.Sweeps.{Swept, moves-few, swept-failed, swept-next, swept-none, swept-rest, swept-skip, swept-step}
use Rattle.tc_sched.proofs.crowd.step_called.Goals as goal

pub loop-called-init : goal.loop-called-init
loop-called-init g c = swept-none g.D.Desk.state g.D.Desk.bond g.D.Desk.sound (λ (x : Client g.row.D.Denot). 1) (Stays g.D.Desk.state) c.args.names.now c.args.actors.now c.requires.ready

pub answer-requires : goal.answer-requires
answer-requires g c =
    let s = swept-skip g.D.Desk.state g.D.Desk.bond g.D.Desk.sound (λ (x : Client g.row.D.Denot). 1) (Stays g.D.Desk.state) c.args.names.now c.args.actors.now c.loop-called.actors c.loop-called.place c.in-Some.called c.loop-called.moved
    (λ (x : Client g.row.D.Denot). inl refl) c.loop-called.invariant c.in-Some.ensures.0 (let below = c.in-Some.ensures.1 in omega (arith, below)) in
    let below : c.in-Some.called < length c.loop-called.actors = let b = c.in-Some.ensures.1 in omega (arith, b) in
    record {
      ready = subst (λ (x : Client g.row.D.Denot). IsReady g.D.Desk.state 1 c.args.names.now x) c.index-actors-called.is
          (swept-next g.D.Desk.state g.D.Desk.bond g.D.Desk.sound (λ (x : Client g.row.D.Denot). 1) (Stays g.D.Desk.state) c.args.names.now c.args.actors.now c.loop-called.actors c.in-Some.called c.loop-called.moved c.index-actors-called.result s c.index-actors-called.is below);
    }

pub returns-in_err-step-clause-went : goal.returns-in_err-step-clause-went
returns-in_err-step-clause-went g c =
    let s = swept-skip g.D.Desk.state g.D.Desk.bond g.D.Desk.sound (λ (x : Client g.row.D.Denot). 1) (Stays g.D.Desk.state) c.args.names.now c.args.actors.now c.loop-called.actors c.loop-called.place c.in-Some.called c.loop-called.moved
    (λ (x : Client g.row.D.Denot). inl refl) c.loop-called.invariant c.in-Some.ensures.0 (let below = c.in-Some.ensures.1 in omega (arith, below)) in
    let below : c.in-Some.called < length c.loop-called.actors = let b = c.in-Some.ensures.1 in omega (arith, b) in
    swept-failed g.D.Desk.state g.D.Desk.bond g.D.Desk.sound (λ (x : Client g.row.D.Denot). 1) (Stays g.D.Desk.state) c.args.names.now c.args.actors.now c.loop-called.actors c.in-Some.called c.loop-called.moved
    c.index-actors-called.result c.answer.new.actor s c.index-actors-called.is below
    (subst (λ (x : Client g.row.D.Denot). Went g.D.Desk.state g.D.Desk.bond g.D.Desk.sound 1 x c.answer.new.actor) (sym c.index-actors-called.is) c.answer.ensures.went)

pub loop-called-preserved : goal.loop-called-preserved
loop-called-preserved g c =
    let s = swept-skip g.D.Desk.state g.D.Desk.bond g.D.Desk.sound (λ (x : Client g.row.D.Denot). 1) (Stays g.D.Desk.state) c.args.names.now c.args.actors.now c.loop-called.actors c.loop-called.place c.in-Some.called c.loop-called.moved
    (λ (x : Client g.row.D.Denot). inl refl) c.loop-called.invariant c.in-Some.ensures.0 (let below = c.in-Some.ensures.1 in omega (arith, below)) in
    let below : c.in-Some.called < length c.loop-called.actors = let b = c.in-Some.ensures.1 in omega (arith, b) in
    let v = c.answer.new.actor in
    let h = c.in_ok-step.step in
    let at = c.index-actors-called.is in
    subst (λ (b : ℕ). Swept g.D.Desk.state g.D.Desk.bond g.D.Desk.sound (λ (x : Client g.row.D.Denot). 1) (Stays g.D.Desk.state) c.args.names.now c.args.actors.now (set c.loop-called.actors c.in-Some.called v) (c.in-Some.called + 1) (c.loop-called.moved + b))
    (sym c.moves-moved.ensures)
    (swept-step g.D.Desk.state g.D.Desk.bond g.D.Desk.sound (λ (x : Client g.row.D.Denot). 1) (Stays g.D.Desk.state) c.args.names.now c.args.actors.now c.loop-called.actors c.in-Some.called c.loop-called.moved (moves_of h) c.index-actors-called.result v
    s at below (moves-few h)
    (subst (λ (x : Client g.row.D.Denot). Went g.D.Desk.state g.D.Desk.bond g.D.Desk.sound 1 x v) (sym at) c.answer.ensures.went)
    (subst (λ (x : Client g.row.D.Denot). left_of g.D.Desk.state v + moves_of h ≤ left_of g.D.Desk.state x) (sym at) c.in_ok-step.ensures.moved)
    (subst (λ (x : Client g.row.D.Denot). moves_of h ≡ 0 → Stays g.D.Desk.state x v) (sym at) c.in_ok-step.ensures.stays))

pub returns-clause-went : goal.returns-clause-went
returns-clause-went g c =
    (swept-rest g.D.Desk.state g.D.Desk.bond g.D.Desk.sound (λ (x : Client g.row.D.Denot). 1) (Stays g.D.Desk.state) c.args.names.now c.args.actors.now c.loop-called.actors c.loop-called.place c.loop-called.moved (λ (x : Client g.row.D.Denot). inl refl) c.loop-called.invariant).went

pub returns-clause-moved : goal.returns-clause-moved
returns-clause-moved g c =
    (swept-rest g.D.Desk.state g.D.Desk.bond g.D.Desk.sound (λ (x : Client g.row.D.Denot). 1) (Stays g.D.Desk.state) c.args.names.now c.args.actors.now c.loop-called.actors c.loop-called.place c.loop-called.moved (λ (x : Client g.row.D.Denot). inl refl) c.loop-called.invariant).moves

pub returns-clause-stays : goal.returns-clause-stays
returns-clause-stays g c =
    (swept-rest g.D.Desk.state g.D.Desk.bond g.D.Desk.sound (λ (x : Client g.row.D.Denot). 1) (Stays g.D.Desk.state) c.args.names.now c.args.actors.now c.loop-called.actors c.loop-called.place c.loop-called.moved (λ (x : Client g.row.D.Denot). inl refl) c.loop-called.invariant).kept
