use Rattle.std.proofs.Common.{◌≢◌, All, map, ap, sym, subst, ◌∙◌}
use Rattle.tc_bag.specs.Places.{slots_of}
use Rattle.tc_bag.specs.Slots.{with_taken}
use Rattle.tc_bag.proofs.ByAge.{map-others, with_taken-other}
use Rattle.tc_bag.proofs.Gaps.{IsPlaceOf, slots-others, slots-set_taken}
use Rattle.tc_bag.proofs.Kept.{kept-set_taken}
use Rattle.tc_bag.proofs.places.Places.set_taken.Goals as goal

pub invariant_of-self : goal.invariant_of-self
invariant_of-self c =
    let age = c.args.age in
    let ps = c.self.inside.places.items in
    let i = c.in-Some.i in
    let at = subst (λ qs. IsPlaceOf age qs i) c.deref.ensures.value c.in-Some.ensures.found in
    kept-set_taken c.self.inside.rows age i ps c.index_mut.result.now c.args.n c.self.inside.filled at c.index_mut.ensures.value c.self.invariant

pub returns-in-Some : goal.returns-in-Some
returns-in-Some c =
    let age = c.args.age in
    let ps = c.self.inside.places.items in
    let i = c.in-Some.i in
    let at = subst (λ qs. IsPlaceOf age qs i) c.deref.ensures.value c.in-Some.ensures.found in
    slots-set_taken c.self.inside.rows age i ps c.index_mut.result.now c.self.invariant.rise at c.index_mut.ensures.value c.args.n
    ∙ ap (map (with_taken age c.args.n)) c.self.view_is

pub returns-in_default : goal.returns-in_default
returns-in_default c =
    let age = c.args.age in
    let ps = c.self.inside.places.items in
    let others = subst (All (λ p. p.age ≢ age)) c.deref.ensures.value c.in_default.ensures.none in
    sym c.self.view_is
    ∙ sym (map-others (with_taken age c.args.n) age (slots_of c.self.inside.rows ps) (with_taken-other age c.args.n) (slots-others c.self.inside.rows age ps others))
    ∙ ap (map (with_taken age c.args.n)) c.self.view_is
