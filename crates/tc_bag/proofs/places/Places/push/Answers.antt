use Rattle.std.proofs.Common.{◌≡◌, ◌<◌, ◌+◌, ◌++◌, ◌∷◌, [], All, ap, sym, subst, ◌∙◌, arith}
use Rattle.tc_bag.specs.declared.slots.Place.{Place}
use Rattle.tc_bag.specs.Places.{slots_of, AreRowPlaces}
use Rattle.tc_bag.specs.Slots.{slot}
use Rattle.tc_bag.proofs.Gaps.{slots_most}
use Rattle.tc_bag.proofs.Kept.{slots-put, kept-put}
use Rattle.tc_bag.proofs.places.Places.push.Goals as goal

pub overflow_add-self : goal.overflow_add-self
overflow_add-self c =
    let places = c.self.inside.places in
    omega (arith, c.self.invariant.count, slots_most c.self.inside.rows places.items, places.ok.0, places.ok.1, places.small)

pub invariant_of-self-in-Ok : goal.invariant_of-self-in-Ok
invariant_of-self-in-Ok c =
    let own = c.self.inside in
    let ps = own.places.items in
    let p : Place = record { age = c.args.age; taken = 0; row = c.in-Ok.row } in
    let is : c.push_reserved.new.self.items ≡ ps ++ p ∷ [] = c.push_reserved.ensures.items ∙ ap (λ qs. qs ++ p ∷ []) c.reserve.ensures.items in
    let older = subst (All (λ s. s.age < c.args.age)) (sym c.self.view_is) c.requires in
    let put = c.in-Ok.ensures in
    subst (λ qs. AreRowPlaces c.put.new.self qs (own.filled + 1)) (sym is)
    (kept-put own.rows c.put.new.self ps own.filled c.args.age c.in-Ok.row c.args.tuple c.self.invariant put.free put.put put.below older)

pub returns-in-Ok-clause-pushed : goal.returns-in-Ok-clause-pushed
returns-in-Ok-clause-pushed c =
    let own = c.self.inside in
    let ps = own.places.items in
    let p : Place = record { age = c.args.age; taken = 0; row = c.in-Ok.row } in
    let is : c.push_reserved.new.self.items ≡ ps ++ p ∷ [] = c.push_reserved.ensures.items ∙ ap (λ qs. qs ++ p ∷ []) c.reserve.ensures.items in
    let older = subst (All (λ s. s.age < c.args.age)) (sym c.self.view_is) c.requires in
    let put = c.in-Ok.ensures in
    ap (slots_of c.put.new.self) is
    ∙ slots-put own.rows c.put.new.self ps own.filled c.args.age c.in-Ok.row c.args.tuple c.self.invariant put.free put.put put.below older
    ∙ ap (λ ss. ss ++ slot c.args.age c.args.tuple ∷ []) c.self.view_is
