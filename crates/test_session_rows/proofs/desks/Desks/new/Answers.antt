use Rattle.std.proofs.Common.{List, sym, subst, rules}
use Rattle.tc_policy.specs.declared.grants.Grant.{Grant}
use Rattle.tc_site.specs.Sites.{KitState}
use Rattle.test_session_rows.proofs.Seated.{SitDown, sit-none, sit-more, sit-all}
use Rattle.test_session_rows.proofs.desks.Desks.new.Goals as goal

pub loop-kit-init : goal.loop-kit-init
loop-kit-init c =
    let kits = c.into_iter-kit-iterator.ensures.into_iter_gives.0 in
    subst (λ (ks : List (KitState (List Grant))). SitDown c.args.site.now ks c.in_ok-desks.desks.items) (sym kits)
    (sit-none c.args.site.now c.args.kits.items c.in_ok-desks.desks.items c.requires c.in_ok-desks.ensures.items)

pub loop-kit-preserved : goal.loop-kit-preserved
loop-kit-preserved c =
    let s = c.args.site.now in
    let rest = c.next.new.self.rest.items in
    let desks = c.loop-kit.desks.items in
    let kits = subst (λ (ks : List (KitState (List Grant))). SitDown s ks desks) c.in-Some.ensures.steps.0 c.loop-kit.invariant in
    subst (SitDown s rest) (sym c.in_ok-push.ensures.items)
    (sit-more s c.in-Some.kit rest desks c.new.result kits c.new.ensures.new c.new.ensures.site c.new.ensures.agent)

pub invariant_of-result : goal.invariant_of-result
invariant_of-result c = record {
  seats = sit-all c.args.site.now c.loop-kit.kit-iterator.rest.items c.loop-kit.desks.items (search rules) c.loop-kit.invariant;
}
