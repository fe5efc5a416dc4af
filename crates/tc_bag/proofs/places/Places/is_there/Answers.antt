use Rattle.std.proofs.Common.{All, is_some, ap, sym, subst, ◌∙◌}
use Rattle.tc_bag.specs.Places.{slots_of, HasTuple}
use Rattle.tc_bag.specs.Slots.{tuple_there}
use Rattle.tc_bag.proofs.Walks.{some_row}
use Rattle.tc_bag.proofs.places.Places.is_there.Goals as goal

pub returns : goal.returns
returns c =
    let rows = c.self.inside.rows in
    let age = c.args.age in
    let full = subst (All (HasTuple rows)) (sym c.deref.ensures.value) c.self.invariant.full in
    c.is_some.ensures
    ∙ some_row rows c.row_there.result (c.row_there.ensures.full rows full)
    ∙ ap is_some (c.row_there.ensures.is rows
    ∙ ap (λ ps. tuple_there age (slots_of rows ps)) c.deref.ensures.value ∙ ap (tuple_there age) c.self.view_is)
