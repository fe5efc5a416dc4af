use Rattle.std.proofs.Common.{◌∙◌, List, ap, sym}
use Rattle.tc_policy.specs.declared.grants.Grant.{Grant}
use Rattle.tc_site.specs.Sites.{EndedDeskState}
use Rattle.tc_visits.proofs.Desks.{desk-unused}
use Rattle.tc_visits.proofs.service.end_unused.Goals as goal

pub returns : goal.returns
returns c =
    let new = c.new.ensures in
    let is = c.end.ensures in
    desk-unused c.args.kit c.end.result (ap (λ (e : EndedDeskState (List Grant)). e.site) is ∙ new.site ∙ sym c.requires)
    (ap (λ (e : EndedDeskState (List Grant)). e.agent) is ∙ new.agent) (ap (λ (e : EndedDeskState (List Grant)). e.log) is ∙ new.new.log_is)
