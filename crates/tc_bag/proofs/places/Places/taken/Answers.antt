use Rattle.std.proofs.Common.{◌≡◌, ◌≢◌, All, ap, sym, subst, ◌∙◌}
use Rattle.std.specs.Option.{option_copied}
use Rattle.std.proofs.lemmas.List.Elements.{All-weaker}
use Rattle.tc_bag.specs.Slots.{Slot}
use Rattle.tc_bag.specs.Places.{slot_if, slot_at, slots_of}
use Rattle.tc_bag.proofs.ByAge.{slot_at-none}
use Rattle.tc_bag.proofs.Gaps.{placed_taken, rise-order}
use Rattle.tc_bag.proofs.places.Places.taken.Goals as goal

pub returns-in-Some : goal.returns-in-Some
returns-in-Some c =
    let age = c.args.age in
    let rows = c.self.inside.rows in
    let ps = c.self.inside.places.items in
    let p = c.in-Some.place.now in
    let at = ap (λ qs. slot_at age (slots_of rows qs)) (sym c.deref.ensures.value) ∙ sym (c.find.ensures.is rows)
    ∙ ap (λ o. slot_if rows (option_copied o)) c.in-Some.is in
    subst (All (λ s. s.age ≡ age → s.taken ≡ p.taken)) c.self.view_is
    (placed_taken rows age (slots_of rows ps) p (rise-order rows ps c.self.invariant.rise) at)

pub returns-in-None : goal.returns-in-None
returns-in-None c =
    let age = c.args.age in
    let rows = c.self.inside.rows in
    let ss = slots_of rows c.self.inside.places.items in
    let at = ap (λ qs. slot_at age (slots_of rows qs)) (sym c.deref.ensures.value) ∙ sym (c.find.ensures.is rows)
    ∙ ap (λ o. slot_if rows (option_copied o)) c.in-None.is in
    subst (All (λ s. s.age ≡ age → s.taken ≡ 0)) c.self.view_is
    (All-weaker (λ (s : Slot). s.age ≢ age) (λ s. s.age ≡ age → s.taken ≡ 0) (λ s other same. absurd (other same)) ss (slot_at-none age ss at))
