use Rattle.std.proofs.Common.{◌≡◌, ◌≤◌, [], filter, All, ap, sym, subst, ◌∙◌}
use Rattle.std.proofs.lemmas.List.{nil_from_length}
use Rattle.tc_bag.specs.Slots.{Slot, InOrder, IsLogged, is_there, stays}
use Rattle.tc_bag.proofs.Logged.{InOrder-filter, filter-there-stays, logged_less, filter-there-all, taken_within}
use Rattle.tc_bag.proofs.log.discard.Goals as goal

pub loop-age-preserved : goal.loop-age-preserved
loop-age-preserved c =
    let age = c.in-Some.age in
    let is = c.discard.ensures in
    let before = c.loop-age.invariant in
    let log = c.pop.new.self.items in
    let logged = subst (λ items. All (IsLogged items) c.loop-age.rows) c.in-Some.ensures.items before.2 in (
      ap (filter is_there) is ∙ filter-there-stays age c.loop-age.rows ∙ before.0,
      subst InOrder (sym is) (InOrder-filter (stays age) c.loop-age.rows before.1),
      subst (All (IsLogged log)) (sym is) (logged_less log age c.loop-age.rows logged),
      c.pop.ensures.capacity ∙ before.3,
    )

pub returns : goal.returns
returns c =
    let before = c.loop-age.invariant in
    let none : c.pop.new.self.items ≡ [] = nil_from_length c.pop.new.self.items (sym c.pop.new.self.ok.0 ∙ c.in_default.ensures.cases.1) in
    let empty : c.loop-age.log.items ≡ [] = nil_from_length c.loop-age.log.items (sym c.loop-age.log.ok.0 ∙ c.in_default.ensures.cases.0) in
    let few : All (λ (s : Slot). s.taken ≤ 0) c.loop-age.rows =
    taken_within [] c.loop-age.rows (subst (λ items. All (IsLogged items) c.loop-age.rows) empty before.2) in
    record {
      rows = filter-there-all c.loop-age.rows few ∙ before.0;
      log = none;
      room = c.pop.ensures.capacity ∙ before.3;
    }
