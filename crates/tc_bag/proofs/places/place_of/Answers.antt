use Rattle.std.proofs.Common.{ap, sym, ◌∙◌}
use Rattle.std.proofs.lemmas.List.{get_or_default}
use Rattle.tc_bag.specs.declared.slots.Place.{Place}
use Rattle.tc_bag.proofs.Gaps.{point_none}
use Rattle.tc_bag.proofs.places.place_of.Goals as goal

pub returns-else-branch-age-clause-none : goal.returns-else-branch-age-clause-none
returns-else-branch-age-clause-none c =
    let ps = c.args.places.now in
    let i = c.point_of-i.result in
    let p = c.in_ok-get.field-0.now in
    point_none ps c.args.age i c.requires c.point_of-i.ensures.point
    (λ d inside same. c.if-branch-age.false
    (ap (λ (q : Place). q.age) (c.in_ok-get.ensures.lookup.1 ∙ sym (get_or_default ps i d p inside)) ∙ same))
