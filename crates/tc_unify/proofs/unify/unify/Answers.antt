use Rattle.std.proofs.Common.{subst}
use Rattle.tc_unify.specs.Arena.{AreNodesOf, shape_of}
use Rattle.tc_unify.specs.Solutions.{Meets}
use Rattle.tc_unify.specs.Tables.{link_of}
use Rattle.tc_unify.proofs.Tables.{Extends-trans}
use Rattle.tc_unify.proofs.unify.unify.Goals as goal

pub meet-requires-clause-nodes : goal.meet-requires-clause-nodes
meet-requires-clause-nodes c = subst (AreNodesOf c.args.arena.now) c.in-Some.ensures.items c.loop-pair.invariant.nodes

pub returns-in_err-meet-clause-extends : goal.returns-in_err-meet-clause-extends
returns-in_err-meet-clause-extends c = Extends-trans _ _ _ c.loop-pair.invariant.extends c.meet.ensures.extends

pub returns-then-not-branch-clause-failed : goal.returns-then-not-branch-clause-failed
returns-then-not-branch-clause-failed c = λ failed first pair m.
    c.in_ok-meet.ensures.failed c.if-not-branch.true first pair
    (subst (Meets (shape_of c.args.arena.now) first pair (link_of c.loop-pair.links)) c.in-Some.ensures.items (c.loop-pair.invariant.leads first pair m))

pub returns-then-not-branch-clause-extends : goal.returns-then-not-branch-clause-extends
returns-then-not-branch-clause-extends c = Extends-trans _ _ _ c.loop-pair.invariant.extends c.meet.ensures.extends

pub loop-pair-preserved : goal.loop-pair-preserved
loop-pair-preserved c = record {
  linked = c.meet.ensures.linked;
  nodes = c.in_ok-meet.ensures.nodes;
  leads = λ first pair m.
      c.in_ok-meet.ensures.met c.if-not-branch.false first pair
      (subst (Meets (shape_of c.args.arena.now) first pair (link_of c.loop-pair.links)) c.in-Some.ensures.items (c.loop-pair.invariant.leads first pair m));
  extends = Extends-trans _ _ _ c.loop-pair.invariant.extends c.meet.ensures.extends;
}
