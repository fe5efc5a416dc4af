use Rattle.std.proofs.Common.{◌≡◌, ◌<◌, [], vec_capacity, vec_len, ap, sym, subst, ◌∙◌, false, refl}
use Rattle.std.proofs.lemmas.Bool.{eqb-true}
use Rattle.std.proofs.lemmas.List.{nil_from_length}
use Rattle.tc_lists.proofs.Bools.{some_from_test}
use Rattle.tc_bag.specs.Stock.{Stock}
use Rattle.tc_bag.specs.Slots.{IsSound, rows_now, most_rows}
use Rattle.tc_bag.proofs.Stocks.{sound-kept, sound-settled, rows-settled}
use Rattle.tc_bag.proofs.bag.Bag.keep.Goals as goal
use Rattle.tc_bag.proofs.bag.Bag.keep.Goals.{After-discard}

last : (c : After-discard) → c.pop.new.self.items ≡ []
last c =
    nil_from_length c.pop.new.self.items
    (sym c.pop.new.self.ok.0 ∙ eqb-true (vec_len c.pop.new.self) 0 (sym c.if-is_empty.ensures))

pub invariant_of-self : goal.invariant_of-self
invariant_of-self c =
    let b = c.self.inside in
    let room = most_rows (vec_capacity b.log) in
    subst (λ marks. IsSound c.discard.new.rows b.next c.discard.new.log.items (most_rows (vec_capacity c.discard.new.log)) marks) (sym (last c))
    (subst (λ more. IsSound c.discard.new.rows b.next c.discard.new.log.items more []) (sym (ap most_rows c.discard.ensures.room))
    (subst (λ log. IsSound c.discard.new.rows b.next log room []) (sym c.discard.ensures.log)
    (subst (λ rows. IsSound rows b.next [] room []) (sym c.discard.ensures.rows)
    (sound-settled b.rows b.next b.log.items room b.marks.items c.self.invariant))))

pub invariant_of-self-else-is_empty : goal.invariant_of-self-else-is_empty
invariant_of-self-else-is_empty c =
    let b = c.self.inside in
    sound-kept b.rows b.next b.log.items (most_rows (vec_capacity b.log)) b.marks.items c.pop.new.self.items c.in-Some._top
    c.self.invariant c.in-Some.ensures.items
    (subst (λ k. 0 < k) c.pop.new.self.ok.0 (some_from_test (vec_len c.pop.new.self) false c.if-is_empty.ensures refl))

pub returns-then-is_empty-clause-rows : goal.returns-then-is_empty-clause-rows
returns-then-is_empty-clause-rows c =
    ap rows_now c.discard.ensures.rows ∙ rows-settled c.self.inside.rows ∙ ap (λ (s : Stock). s.now) c.self.view_is
