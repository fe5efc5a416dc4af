use Rattle.std.proofs.Common.{◌<◌, length, sym, ap, ◌∙◌, refl, arith}
use Rattle.std.specs.Option.{option_copied}
use Rattle.tc_lists.proofs.Options.{IfNone-always}
use Rattle.tc_policy.specs.Places.{grant, place_in}
use Rattle.tc_policy.proofs.Indexes.{index-first, index-none, index-within}
use Rattle.tc_policy.proofs.roles.Roles.permits.Goals as goal

pub returns-in_err-place-clause-none : goal.returns-in_err-place-clause-none
returns-in_err-place-clause-none c =
    IfNone-always c.from_residual.result _
    (index-none (place_in c.self.inside.places) c.self.inside.grants.items c.args.self.now
    (grant c.args.role c.args.centre c.args.primitive) c.self.invariant.0 c.self.view_is
    (sym c.get.ensures.value ∙ ap option_copied (c.in_err-place.was)))

pub overflow_add-result : goal.overflow_add-result
overflow_add-result c =
    let inside : c.in_ok-place.place.now < length c.self.inside.grants.items =
    index-within (place_in c.self.inside.places) c.self.inside.grants.items
    (grant c.args.role c.args.centre c.args.primitive) c.in_ok-place.place.now c.self.invariant.0
    (sym c.get.ensures.value ∙ ap option_copied (c.in_ok-place.was)) in
    omega (arith, inside, c.self.invariant.1)

pub returns-clause-first : goal.returns-clause-first
returns-clause-first c = (
  c.in_ok-place.place.now,
  refl,
  index-first (place_in c.self.inside.places) c.self.inside.grants.items c.args.self.now
      (grant c.args.role c.args.centre c.args.primitive) c.in_ok-place.place.now c.self.invariant.0 c.self.view_is
      (sym c.get.ensures.value ∙ ap option_copied (c.in_ok-place.was)),
)
