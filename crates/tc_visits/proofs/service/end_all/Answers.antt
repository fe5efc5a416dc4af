use Rattle.std.proofs.Common.{◌∙◌, ◌++◌, ◌∷◌, [], List, map, append_assoc, ap, sym}
use Rattle.std.proofs.lemmas.List.{map_push}
use Rattle.std.proofs.lemmas.List.Elements.{All-append, All-cons, All-nil}
use Rattle.tc_policy.specs.declared.grants.Grant.{Grant}
use Rattle.tc_site.proofs.Configured.{permits_by}
use Rattle.tc_site.specs.Sites.{EndedDeskState}
use Rattle.tc_visits.specs.Serving.{desk_left, desk_unused}
use Rattle.tc_visits.specs.Visits.{IsVisit}
use Rattle.tc_visits.proofs.service.end_all.Goals as goal

pub loop-visit-preserved : goal.loop-visit-preserved
loop-visit-preserved g c =
    let done = c.loop-visit.yielded in
    let visit = c.in-Some.visit in
    let before = c.loop-visit.invariant in
    record {
      ended =
          c.in_ok-push.ensures.items ∙ ap (λ (es : List (EndedDeskState (List Grant))). es ++ c.into_desk.result ∷ []) before.ended
          ∙ ap (λ (e : EndedDeskState (List Grant)). map desk_left done ++ e ∷ []) c.into_desk.ensures.desk ∙ sym (map_push desk_left done visit);
      visits = All-append (IsVisit permits_by) done (visit ∷ []) before.visits (All-cons (IsVisit permits_by) visit [] c.into_desk.ensures.visit (All-nil (IsVisit permits_by)));
    }

pub loop-kit-preserved : goal.loop-kit-preserved
loop-kit-preserved g c =
    let done = c.loop-kit.yielded in
    let kit = c.in-Some-kit.kit in
    let left = map desk_left c.args.visits.items in
    let before = c.loop-kit.invariant in
    record {
      ended =
          c.in_ok-push-2.ensures.items ∙ ap (λ (es : List (EndedDeskState (List Grant))). es ++ c.end_unused.result ∷ []) before.ended
          ∙ ap (λ (e : EndedDeskState (List Grant)). (left ++ map desk_unused done) ++ e ∷ []) c.end_unused.ensures
          ∙ append_assoc left (map desk_unused done) (desk_unused kit ∷ [])
          ∙ ap (λ (es : List (EndedDeskState (List Grant))). left ++ es) (sym (map_push desk_unused done kit));
      visits = before.visits;
    }
