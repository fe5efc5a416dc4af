use Rattle.std.proofs.Common.{◌++◌, ◌∷◌, [], ap, ◌∙◌, subst, refl, arith, length, length-append, length-set, reverse}
use Rattle.tc_unify.specs.declared.walk.Mark.TheVariants.{Finite}
use Rattle.tc_unify.specs.declared.walk.Step.TheVariants.{Enter, Leave}
use Rattle.tc_unify.specs.Nodes.{label}
use Rattle.tc_unify.specs.Links.{IsFinite}
use Rattle.tc_unify.specs.Arena.{shape_of}
use Rattle.tc_unify.specs.Tables.{link_of}
use Rattle.tc_unify.specs.Walks.{Awaits, Descends}
use Rattle.tc_unify.proofs.Roots.{root-fixed}
use Rattle.tc_unify.proofs.Walks.{Awaits-left}
use Rattle.tc_unify.proofs.WalkMarks.{step_taken, IsMarked-unseen, Knows-unseen, Knows-left, IsMarked-left, unseen-finite}
use Rattle.tc_unify.proofs.walk.walk_below.Goals as goal

pub loop-step-init : goal.loop-step-init
loop-step-init c =
    let started = c.in_ok-push_bound.ensures in
    let unseen = c.in_ok-push_unseen.ensures.unseen in
    record {
      awaits = started.awaits;
      descends = λ v r. started.descends (label (shape_of c.args.arena.now) v);
      known = Knows-unseen c.args.arena.now c.args.links.now _ unseen c.requires.unmarked.seen started.enters;
      room =
          let full = c.in_ok-push_unseen.ensures.full in
          let size = c.len.ensures ∙ c.args.arena.now.nodes.ok.0 in
          omega arith;
      marked = IsMarked-unseen _ unseen c.requires.unmarked.seen;
    }

pub enter-requires-clause-node : goal.enter-requires-clause-node
enter-requires-clause-node c = (step_taken c.args.arena.now c.args.links.now c.loop-step.walk.seen.items c.loop-step.walk.steps.items c.pop.new.self.items c.in-Some.step (Enter c.in-Enter.node) c.in-Some.ensures.items c.in-Enter.is c.loop-step.invariant.known.steps).0

pub returns-then-not-branch-clause-endless : goal.returns-then-not-branch-clause-endless
returns-then-not-branch-clause-endless c = λ endless v r.
    c.in_ok-enter-in-Enter.ensures.endless c.if-not-branch.true v r
    (subst (Descends (label (shape_of c.args.arena.now) v)) (step_taken c.args.arena.now c.args.links.now c.loop-step.walk.seen.items c.loop-step.walk.steps.items c.pop.new.self.items c.in-Some.step (Enter c.in-Enter.node) c.in-Some.ensures.items c.in-Enter.is c.loop-step.invariant.known.steps).1 (c.loop-step.invariant.descends v r))

pub index_mut-requires : goal.index_mut-requires
index_mut-requires c = let below = (step_taken c.args.arena.now c.args.links.now c.loop-step.walk.seen.items c.loop-step.walk.steps.items c.pop.new.self.items c.in-Some.step (Leave c.in-Leave.node) c.in-Some.ensures.items c.in-Leave.is c.loop-step.invariant.known.steps).0.0 in let room = c.loop-step.invariant.room in omega arith

pub loop-step-smaller : goal.loop-step-smaller
loop-step-smaller c =
    let fewer = unseen-finite c.loop-step.walk.marks.items c.in-Leave.node in
    let shorter = ap length c.in-Some.ensures.items ∙ length-append c.pop.new.self.items (c.in-Some.step ∷ []) in
    omega arith

pub loop-step-preserved : goal.loop-step-preserved
loop-step-preserved c =
    let taken = (step_taken c.args.arena.now c.args.links.now c.loop-step.walk.seen.items c.loop-step.walk.steps.items c.pop.new.self.items c.in-Some.step (Leave c.in-Leave.node) c.in-Some.ensures.items c.in-Leave.is c.loop-step.invariant.known.steps) in
    let below = taken.0.0 in
    let fixed = taken.0.1 in
    let sh = shape_of c.args.arena.now in
    let link = link_of c.args.links.now in
    let done = Awaits-left sh link c.args.nodes.now c.in-Leave.node (reverse c.pop.new.self.items) (root-fixed link c.in-Leave.node fixed)
    (subst (Awaits sh link c.args.nodes.now (IsFinite sh link)) taken.1 c.loop-step.invariant.awaits) in
    let before = c.in-Some.ensures.items ∙ ap (λ x. c.pop.new.self.items ++ x ∷ []) c.in-Leave.is in
    record {
      awaits = done.1;
      descends = λ v r. (subst (Descends (label sh v)) taken.1 (c.loop-step.invariant.descends v r)).1;
      known = Knows-left c.args.arena.now c.args.links.now c.requires.linked c.loop-step.walk _ c.in-Leave.node [] c.loop-step.invariant.known c.loop-step.invariant.marked c.loop-step.invariant.room below fixed taken.0.2 done.0 before refl refl;
      room = let same = length-set c.loop-step.walk.marks.items c.in-Leave.node Finite in let room = c.loop-step.invariant.room in omega arith;
      marked = IsMarked-left c.args.arena.now c.args.links.now c.requires.linked c.loop-step.walk _ c.in-Leave.node [] c.loop-step.invariant.known c.loop-step.invariant.marked c.loop-step.invariant.room below fixed taken.0.2 done.0 before refl refl;
    }
