use Rattle.std.proofs.Common.{◌≡◌, ◌++◌, ◌∷◌, [], ap, sym, subst, ◌∙◌}
use Rattle.tc_bag.specs.declared.slots.Mark.{Mark}
use Rattle.tc_bag.specs.Stock.{marked}
use Rattle.tc_bag.specs.Slots.{IsSound, stock_of, most_rows}
use Rattle.std.proofs.Common.{ℕ, length, vec_capacity, List}
use Rattle.tc_bag.proofs.Stocks.{sound-marked, stock-marked}
use Rattle.tc_bag.proofs.bag.Bag.mark.Goals as goal
use Rattle.tc_bag.proofs.bag.Bag.mark.Goals.{In_ok-push}

abbrev mark_of : ℕ → ℕ → Mark
mark_of next n = record { next = next; taken = n }

-- the marks with one more
marks : (c : In_ok-push)
    → c.push.new.self.items
    ≡ c.self.inside.marks.items ++ record { next = c.self.inside.next; taken = length c.self.inside.log.items } ∷ []
marks c =
    let made : List Mark = c.self.inside.marks.items in
    c.in_ok-push.ensures.items
    ∙ ap (λ n. made ++ mark_of c.self.inside.next n ∷ []) (c.len.ensures ∙ c.self.inside.log.ok.0)

pub invariant_of-self-2 : goal.invariant_of-self-2
invariant_of-self-2 c =
    let b = c.self.inside in
    subst (λ rows. IsSound rows b.next b.log.items (most_rows (vec_capacity b.log)) c.push.new.self.items) (sym c.mend.ensures)
    (subst (IsSound b.rows b.next b.log.items (most_rows (vec_capacity b.log))) (sym (marks c))
    (sound-marked b.rows b.next b.log.items (most_rows (vec_capacity b.log)) b.marks.items c.self.invariant))

pub returns-clause-marked : goal.returns-clause-marked
returns-clause-marked c =
    let b = c.self.inside in
    ap (λ rows. stock_of rows b.next c.push.new.self.items) c.mend.ensures
    ∙ ap (stock_of b.rows b.next) (marks c)
    ∙ stock-marked b.rows b.next b.log.items (most_rows (vec_capacity b.log)) b.marks.items c.self.invariant
    ∙ ap marked c.self.view_is
