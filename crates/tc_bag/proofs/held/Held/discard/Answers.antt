use Rattle.std.proofs.Common.{◌≡◌, is_some, true, false, ap, sym, ◌∙◌}
use Rattle.tc_bag.specs.Slots.{tuple_there}
use Rattle.tc_bag.proofs.ByAge.{filter-discarded, filter-stays}
use Rattle.tc_bag.proofs.held.Held.discard.Goals as goal

pub returns-then-not-is_there : goal.returns-then-not-is_there
returns-then-not-is_there c =
    let told : is_some (tuple_there c.args.age c.args.self.now) ≡ false =
    ap (λ ss. is_some (tuple_there c.args.age ss)) (sym c.self.view_is) ∙ sym c.if-not-is_there.ensures in
    c.forget.ensures ∙ filter-discarded c.args.age c.args.self.now c.requires.order told

pub returns-else-not-is_there : goal.returns-else-not-is_there
returns-else-not-is_there c =
    let told : is_some (tuple_there c.args.age c.args.self.now) ≡ true =
    ap (λ ss. is_some (tuple_there c.args.age ss)) (sym c.self.view_is) ∙ sym c.if-not-is_there.ensures in
    filter-stays c.args.age c.args.self.now c.requires.order told
