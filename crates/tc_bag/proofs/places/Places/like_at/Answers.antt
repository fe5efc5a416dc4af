use Rattle.std.proofs.Common.{◌≡◌, ◌↔◌, IsTrue, Some, ap, sym, ◌∙◌, arith}
use Rattle.tc_lists.proofs.Options.{IfSome-at}
use Rattle.tc_bag.specs.Keys.{IsOfKey}
use Rattle.tc_bag.specs.Lent.{lent_key}
use Rattle.tc_bag.specs.Places.{slots_of, tuple_by}
use Rattle.tc_bag.specs.Rows.{tuple_in}
use Rattle.tc_bag.specs.Slots.{tuple_there}
use Rattle.tc_bag.proofs.Looks.{like-there}
use Rattle.tc_bag.proofs.places.Places.like_at.Goals as goal

pub returns-then-has_known-clause-looked : goal.returns-then-has_known-clause-looked
returns-then-has_known-clause-looked g c =
    let rows = c.self.inside.rows in
    let row = c.in_ok-row.row in
    let age = c.args.age in
    let t = c.look-tuple.result.now in
    let key = lent_key c.args.key in
    let there : tuple_there age c.args.self.now ≡ Some t =
    sym (ap (tuple_by rows) (sym c.in_ok-row.was) ∙ c.row_there.ensures.is rows
    ∙ ap (λ ps. tuple_there age (slots_of rows ps)) c.deref.ensures.value ∙ ap (tuple_there age) c.self.view_is)
    ∙ c.look-tuple.ensures.found in
    let agrees : IsOfKey key t =
    (IfSome-at (λ u. IsTrue c.has_key.result ↔ IsOfKey key u) (tuple_in row rows) t c.look-tuple.ensures.found c.has_key.ensures).0
    c.if-not-has_key.false in
    omega (arith, c.look-tuple.ensures.counted, like-there key age t c.args.self.now there agrees)

pub returns-else-has_known-clause-looked : goal.returns-else-has_known-clause-looked
returns-else-has_known-clause-looked g c =
    let rows = c.self.inside.rows in
    let row = c.in_ok-row.row in
    let age = c.args.age in
    let t = c.look-tuple.result.now in
    let key = lent_key c.args.key in
    let there : tuple_there age c.args.self.now ≡ Some t =
    sym (ap (tuple_by rows) (sym c.in_ok-row.was) ∙ c.row_there.ensures.is rows
    ∙ ap (λ ps. tuple_there age (slots_of rows ps)) c.deref.ensures.value ∙ ap (tuple_there age) c.self.view_is)
    ∙ c.look-tuple.ensures.found in
    let agrees : IsOfKey key t =
    (IfSome-at (λ u. IsTrue c.has_key.result ↔ IsOfKey key u) (tuple_in row rows) t c.look-tuple.ensures.found c.has_key.ensures).0
    c.if-not-has_key.false in
    omega (arith, c.look-tuple.ensures.counted, like-there key age t c.args.self.now there agrees)
