use Rattle.std.proofs.Common.{◌≡◌, ◌+◌, IsSome, Some, None, All, get_or, drop, slice_get, ap, sym, subst, ◌∙◌}
use Rattle.tc_lists.proofs.Options.{IfSome-at}
use Rattle.tc_lists.proofs.Parts.{drop_read}
use Rattle.tc_bag.specs.declared.slots.Place.{Place}
use Rattle.tc_bag.specs.Places.{slots_of, row_there, there_in, tuple_by, HasTuple}
use Rattle.tc_bag.specs.Rows.{tuple_in}
use Rattle.tc_bag.specs.Slots.{tuples_there}
use Rattle.tc_bag.proofs.Kept.{own_read}
use Rattle.tc_bag.proofs.Walks.{there_row, full_there, tuple_some, tuples_there-some, tuples_there-none, later_get}
use Rattle.tc_bag.proofs.places.Places.nth.Goals as goal
use Rattle.tc_bag.proofs.places.Places.nth.Goals.{in-Some+else-left-eq0, in_default}

pub loop-place-preserved : goal.loop-place-preserved
loop-place-preserved c =
    let rows = c.self.inside.rows in
    let ps = c.as_slice-place-items.result.now in
    let i = c.loop-place.place-index in
    let none : Place = record { age = 0; taken = 0; row = 0 } in
    let p = get_or ps i none in
    let rest = drop (i + 1) ps in
    let next = drop_read ps i p c.loop-place-test.true (own_read ps i none c.loop-place-test.true) in
    let full : HasTuple rows p =
    subst (All (HasTuple rows)) (sym c.as_slice-place-items.ensures.value) c.self.invariant.full i none c.loop-place-test.true in
    let left = c.loop-place.left in
    let so_far = c.loop-place.invariant ∙ ap (λ qs. slice_get (tuples_there (slots_of rows qs)) left) next in
    elim c.match-there.branch [
      | in-Some+else-left-eq0 w ↦
          let row = w.in-Some.row in
          let is : row_there p ≡ Some row = sym c.there.ensures ∙ w.in-Some.is in
          let t = tuple_some (tuple_in row rows) (IfSome-at (λ r. IsSome (tuple_in r rows)) (row_there p) row is (full_there rows p full)) in
          let some : there_in rows p ≡ Some t.0 = there_row rows p ∙ ap (tuple_by rows) is ∙ t.1 in
          so_far
          ∙ ap (λ ts. slice_get ts left) (tuples_there-some rows p rest t.0 some)
          ∙ later_get t.0 (tuples_there (slots_of rows rest)) left w.if-left-eq0.false
          ∙ ap (slice_get (tuples_there (slots_of rows rest))) (sym w.left-is)
      | in_default w ↦
          let gone : there_in rows p ≡ None = there_row rows p ∙ ap (tuple_by rows) (sym c.there.ensures ∙ w.in_default.is) in
          so_far
          ∙ ap (λ ts. slice_get ts left) (tuples_there-none rows p rest gone)
          ∙ ap (slice_get (tuples_there (slots_of rows rest))) (sym w.left-is)
    ]
