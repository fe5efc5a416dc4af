use Rattle.std.proofs.Common.{◌<◌, length, sym, ◌∙◌, arith}
use Rattle.tc_policy.specs.Places.{place_in}
use Rattle.tc_policy.proofs.Indexes.{index-first, index-none, index-within, without-first, without-none}
use Rattle.tc_policy.proofs.roles.Roles.remove.Goals as goal

pub returns-in_default : goal.returns-in_default
returns-in_default c =
    without-none c.args.g.now c.args.self.now
    (index-none (place_in c.self.inside.places) c.self.inside.grants.items c.args.self.now c.args.g.now c.self.invariant.0
    c.self.view_is (sym c.get.ensures.value ∙ sym c.copied.ensures ∙ c.in_default.is))

pub remove-requires : goal.remove-requires
remove-requires c =
    let inside : c.in-Some.place < length c.self.inside.grants.items =
    index-within (place_in c.self.inside.places) c.self.inside.grants.items c.args.g.now c.in-Some.place c.self.invariant.0
    (sym c.get.ensures.value ∙ sym c.copied.ensures ∙ c.in-Some.is) in
    omega (arith, inside, c.self.inside.grants.ok.0)

pub returns : goal.returns
returns c =
    without-first c.args.g.now c.self.inside.grants.items c.args.self.now c.remove.new.self.items c.in-Some.place c.self.view_is
    (index-first (place_in c.self.inside.places) c.self.inside.grants.items c.args.self.now c.args.g.now c.in-Some.place
    c.self.invariant.0 c.self.view_is (sym c.get.ensures.value ∙ sym c.copied.ensures ∙ c.in-Some.is))
    c.remove.ensures.items
