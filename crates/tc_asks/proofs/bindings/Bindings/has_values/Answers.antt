use Rattle.std.proofs.Common.{sym, subst}
use Rattle.tc_asks.specs.Bindings.{AreKnown}
use Rattle.tc_asks.proofs.Known.{known_values}
use Rattle.tc_asks.proofs.bindings.Bindings.has_values.Goals as goal

pub returns : goal.returns
returns c vars es known =
    known_values c.self.inside.solvable c.self.inside.store vars es c.self.invariant (subst (AreKnown vars es) (sym c.self.view_is) known)
