use Rattle.std.proofs.Common.{List, sym, ap, subst, rules}
use Rattle.tc_policy.specs.declared.grants.Grant.{Grant}
use Rattle.tc_site.specs.Desks.{AgentState}
use Rattle.tc_site.specs.Sites.{EndedDeskState}
use Rattle.test_session_rows.proofs.Seated.{StandUp, stand-none, stand-more, stand-all}
use Rattle.test_session_rows.proofs.desks.Desks.end.Goals as goal

pub loop-desk-init : goal.loop-desk-init
loop-desk-init c =
    let s = c.args.self.site.now in
    let desks = c.into_iter-desk-iterator.ensures.into_iter_gives.0 in
    subst (λ (ds : List (AgentState (List Grant))). StandUp s ds c.in_ok-ended.ended.items) (sym desks)
    (stand-none s c.args.self.desks.items c.in_ok-ended.ended.items c.args.self.seats c.in_ok-ended.ensures.items)

pub loop-desk-preserved : goal.loop-desk-preserved
loop-desk-preserved c =
    let s = c.args.self.site.now in
    let rest = c.next.new.self.rest.items in
    let ended = c.loop-desk.ended.items in
    let desks = subst (λ (ds : List (AgentState (List Grant))). StandUp s ds ended) c.in-Some.ensures.steps.0 c.loop-desk.invariant in
    subst (StandUp s rest) (sym c.in_ok-push.ensures.items)
    (stand-more s c.in-Some.desk rest ended c.end.result desks
    (ap (λ (e : EndedDeskState (List Grant)). e.site) c.end.ensures) (ap (λ (e : EndedDeskState (List Grant)). e.agent) c.end.ensures))

pub returns : goal.returns
returns c = stand-all c.args.self.site.now c.loop-desk.desk-iterator.rest.items c.loop-desk.ended.items (search rules) c.loop-desk.invariant
