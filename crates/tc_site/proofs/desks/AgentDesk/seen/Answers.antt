use Rattle.std.proofs.Common.{◌<◌, ◌≤◌, length, subst, sym}
use Rattle.tc_model.specs.declared.limits.TheConstants.{MOST_WEIGHT}
use Rattle.tc_site.specs.Desks.{AgentState}
use Rattle.tc_site.proofs.Light.{seen-few}
use Rattle.tc_site.proofs.desks.AgentDesk.seen.Goals as goal

pub returns-clause-few : goal.returns-clause-few
returns-clause-few g c =
    let inside : c.args.centre < length c.self.inside.site.now.names =
    subst (λ (x : AgentState _). c.args.centre < length x.site.names) (sym c.self.view_is) c.requires.inside in
    subst (λ n. n ≤ MOST_WEIGHT) (sym c.known.ensures)
    (seen-few _ c.self.invariant c.args.centre inside c.index.result.now c.index.ensures)
