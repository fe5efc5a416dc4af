use Rattle.std.proofs.Common.{refl}
use Rattle.tc_centre.proofs.Searched.{searches}
use Rattle.tc_centre.proofs.operations.search.Goals as goal

pub returns-in-Whole-clause-done : goal.returns-in-Whole-clause-done
returns-in-Whole-clause-done g c =
    let told = c.in_ok-found.ensures in
    searches c.args.held.now _ c.args.id c.regime-regime.result c.args.wants c.args.template.now c.in_ok-found.found
    c.in_ok-found.cascade c.in-Whole.items c.outcome_of.result c.regime-regime.ensures refl refl
    told.search told.next told.adds c.in-Whole.is c.outcome_of.ensures
