use Rattle.std.proofs.Common.{◌<◌, None, length, sym, ap, ◌∙◌, subst}
use Rattle.tc_site.specs.Desks.{IsDesk, IsNewDesk, desk_of}
use Rattle.tc_site.specs.Sites.{SiteState, KitState, AreFresh}
use Rattle.tc_site.proofs.Opening.{new-desk, new-state}
use Rattle.tc_site.proofs.desks.AgentDesk.new.Goals as goal

pub invariant_of-result : goal.invariant_of-result
invariant_of-result g c =
    let s = c.args.site.now in
    let same = ap (λ (k : KitState _). k.site) c.kit.view_is ∙ c.requires in
    let fresh : AreFresh c.kit.inside.agent s.centres c.kit.inside.passes.items =
    subst (λ (t : SiteState _). AreFresh c.kit.inside.agent t.centres c.kit.inside.passes.items) same c.kit.invariant.1 in
    let is : c.kit.inside.agent < length s.roles =
    subst (λ (t : SiteState _). c.kit.inside.agent < length t.roles) same c.kit.invariant.0 in
    subst
    (λ l. IsDesk (record { site = s; agent = c.kit.inside.agent; passes = c.kit.inside.passes.items; log = l; pending = None; held = None }))
    (sym c.new.ensures.items) (new-desk s c.kit.inside.agent c.kit.inside.passes.items fresh c.names.ensures.site is)

pub returns-clause-new : goal.returns-clause-new
returns-clause-new g c =
    let s = c.args.site.now in
    let same = ap (λ (k : KitState _). k.site) c.kit.view_is ∙ c.requires in
    let fresh : AreFresh c.kit.inside.agent s.centres c.kit.inside.passes.items =
    subst (λ (t : SiteState _). AreFresh c.kit.inside.agent t.centres c.kit.inside.passes.items) same c.kit.invariant.1 in
    subst
    (λ l. IsNewDesk s.names
    (desk_of (record { site = s; agent = c.kit.inside.agent; passes = c.kit.inside.passes.items; log = l; pending = None; held = None })))
    (sym c.new.ensures.items) (new-state s c.kit.inside.agent c.kit.inside.passes.items fresh c.names.ensures.site)
