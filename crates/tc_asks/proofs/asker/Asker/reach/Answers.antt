use Rattle.std.proofs.Common.{sym, ◌∙◌, subst}
use Rattle.tc_asks.specs.Places.{IsPlaced}
use Rattle.tc_asks.specs.Progress.{Progress}
use Rattle.tc_asks.proofs.Steps.{steps_end}
use Rattle.tc_asks.proofs.asker.Asker.reach.Goals as goal

pub returns-in_default-clause-none : goal.returns-in_default-clause-none
returns-in_default-clause-none c =
    let place = c.next_place-place.result in
    let rows = c.args.self.now.rows in
    steps_end c.args.scripts.now place.script place.item rows (c.next_place-place.ensures.placed rows
    (subst (λ (p : Progress). IsPlaced c.args.scripts.now p.script p.item rows) (sym c.self.view_is) c.requires))
    (c.next_place-place.ensures.last c.in_default.ensures.none)
    ∙ sym c.go_to.ensures.rows
