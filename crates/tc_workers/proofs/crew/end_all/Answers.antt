use Rattle.std.proofs.Common.{◌≡◌, ◌∙◌, ◌++◌, ◌∷◌, [], true, List, All, map, map-id, rules, sym, ap, subst}
use Rattle.std.proofs.lemmas.Iterator.Adapters.{YieldsList-from_vec}
use Rattle.std.proofs.lemmas.Iterator.Consumers.{YieldsList-end}
use Rattle.std.proofs.lemmas.List.{map_push}
use Rattle.std.proofs.lemmas.List.Elements.{All-append, All-cons, All-nil, All-tail}
use Rattle.tc_policy.specs.declared.grants.Grant.{Grant}
use Rattle.tc_sched.specs.Clients.{Client, IsOfScripts}
use Rattle.tc_site.specs.Desks.{AgentState, desk_of}
use Rattle.tc_site.specs.Sites.{EndedDeskState}
use Rattle.tc_workers.specs.Crews.{HasRows, ended_of}
use Rattle.tc_workers.proofs.crew.end_all.Goals as goal

pub returns-clause-rows : goal.returns-clause-rows
returns-clause-rows c =
    let all = YieldsList-end (YieldsList-from_vec {s = c.into_iter-member-iterator.result} c.args.crew.items (search rules) (search rules))
    c.loop-member.yielded c.loop-member.member-iterator c.loop-member.yielded_by c.next.result c.next.new.self c.in-None.is c.next.ensures.steps in
    subst (All HasRows) (sym (map-id c.loop-member.yielded) ∙ all.0) c.loop-member.invariant.rows

pub loop-member-preserved : goal.loop-member-preserved
loop-member-preserved c =
    let done : List (Client (AgentState (List Grant))) = c.loop-member.yielded in
    let member : Client (AgentState (List Grant)) = c.in-Some.member in
    let desk : AgentState (List Grant) = c.finish.result in
    let before = c.loop-member.invariant in
    let rows : HasRows member =
    subst (λ (d : AgentState (List Grant)). IsOfScripts d.site.names member.scripts d.log) c.finish.ensures.desk c.finish.ensures.rows in
    let left : c.end.result ≡ ended_of member =
    c.end.ensures ∙ ap (λ (d : AgentState (List Grant)). record { site = d.site; agent = d.agent; log = d.log }) c.finish.ensures.desk in
    record {
      ended =
          c.in_ok-push.ensures.items ∙ ap (λ (es : List (EndedDeskState (List Grant))). es ++ c.end.result ∷ []) before.ended
          ∙ ap (λ (e : EndedDeskState (List Grant)). map ended_of done ++ e ∷ []) left ∙ sym (map_push ended_of done member);
      rows = All-append HasRows done (member ∷ []) before.rows (All-cons HasRows member [] rows (All-nil HasRows));
      free =
          All-tail (λ (x : Client (AgentState (List Grant))). (desk_of x.desk).free ≡ true) member c.next.new.self.rest.items
          (subst (All (λ (x : Client (AgentState (List Grant))). (desk_of x.desk).free ≡ true)) c.in-Some.ensures.steps.0 before.free);
    }
