use Rattle.std.proofs.Common.{◌≡◌, ◌≤◌, [], All, length, filter, vec_len, ap, sym, subst, ◌∙◌}
use Rattle.std.proofs.lemmas.Bool.{eqb-true}
use Rattle.std.proofs.lemmas.List.{length-map, nil_from_length}
use Rattle.tc_bag.specs.Slots.{Slot, IsLogged, is_there, row_of}
use Rattle.tc_bag.proofs.Logged.{filter-there-all, taken_within}
use Rattle.tc_bag.proofs.bag.Bag.len.Goals as goal

pub returns-then-is_empty : goal.returns-then-is_empty
returns-then-is_empty c =
    let rows = c.self.inside.rows in
    let none : c.self.inside.log.items ≡ [] =
    nil_from_length c.self.inside.log.items (sym c.self.inside.log.ok.0 ∙ eqb-true (vec_len c.self.inside.log) 0 (sym c.if-is_empty.ensures)) in
    let few : All (λ (s : Slot). s.taken ≤ 0) rows =
    taken_within [] rows (subst (λ log. All (IsLogged log) rows) none c.self.invariant.logged) in
    c.len.ensures.len
    ∙ ap length (filter-there-all rows few)
    ∙ sym (length-map (filter is_there rows) row_of)
    ∙ ap (λ stock. length stock.now) c.self.view_is
