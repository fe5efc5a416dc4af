use Rattle.std.proofs.Common.{◌≡◌, ◌<◌, ◌++◌, ◌∷◌, [], ◌+◌, ◌≤◌, cond, true, is_ok, length, map, vec_capacity, vec_len, ap, sym, subst, ◌∙◌, arith, false, refl}
use Rattle.std.proofs.lemmas.Bool.{eqb-true}
use Rattle.std.proofs.lemmas.List.{nil_from_length}
use Rattle.tc_lists.proofs.Results.{is_ok-from_OnErr}
use Rattle.tc_lists.proofs.Bools.{some_from_test}
use Rattle.tc_bag.specs.Stock.{Stock, without_age}
use Rattle.tc_bag.specs.Slots.{IsSound, stock_of, taken_at, most_rows}
use Rattle.tc_bag.proofs.ByAge.{map-not_taken}
use Rattle.tc_bag.proofs.Stocks.{sound-taken, stock-taken, sound-removed, stock-removed, taken-count}
use Rattle.tc_bag.proofs.bag.Bag.take.Goals as goal
use Rattle.tc_bag.proofs.bag.Bag.take.Goals.{After-remove, After-push, Else-take}

unmarked : (c : After-remove) → c.self.inside.marks.items ≡ []
unmarked c =
    nil_from_length c.self.inside.marks.items
    (sym c.self.inside.marks.ok.0 ∙ eqb-true (vec_len c.self.inside.marks) 0 (sym c.if-is_empty.ensures))

-- the rows that were taken are few
pub take-requires-clause-few : goal.take-requires-clause-few
take-requires-clause-few c =
    let b = c.self.inside in
    omega (arith, c.len.ensures, b.log.ok.0, c.self.invariant.fits)

pub invariant_of-self : goal.invariant_of-self
invariant_of-self c =
    let b = c.self.inside in
    subst (λ rows. IsSound rows b.next b.log.items (most_rows (vec_capacity b.log)) b.marks.items) (sym c.remove.ensures)
    (sound-removed b.rows b.next b.log.items (most_rows (vec_capacity b.log)) b.marks.items c.self.invariant c.args.age (unmarked c))

pub returns-then-is_empty : goal.returns-then-is_empty
returns-then-is_empty c =
    let b = c.self.inside in
    ap (λ rows. stock_of rows b.next b.marks.items) c.remove.ensures
    ∙ stock-removed b.rows b.next b.log.items (most_rows (vec_capacity b.log)) b.marks.items c.self.invariant c.args.age (unmarked c)
    ∙ ap (λ (stock : Stock). record stock { now = without_age c.args.age stock.now }) c.self.view_is

-- the slots once the row is taken
left : (c : After-push) → c.take.new.self ≡ map (taken_at c.args.age (length c.self.inside.log.items + 1)) c.self.inside.rows
left c =
    c.take.ensures.taken
    ∙ ap (λ k. map (taken_at c.args.age (k + 1)) c.self.inside.rows) (c.len.ensures ∙ c.self.inside.log.ok.0)

marked_some : (c : After-push) → 0 < length c.self.inside.marks.items
marked_some c = subst (λ k. 0 < k) c.self.inside.marks.ok.0 (some_from_test (vec_len c.self.inside.marks) false c.if-is_empty.ensures refl)

-- there was room for its age
pushed : (c : After-push) → c.push.new.self.items ≡ c.self.inside.log.items ++ c.args.age ∷ []
pushed c =
    let b = c.self.inside in
    let log = b.log.items in
    let fewer = taken-count c.args.age (length log + 1) b.rows (omega arith) c.self.invariant.order (sym c.if-take.ensures.told) in
    let ok : is_ok c.push.result ≡ true =
    is_ok-from_OnErr c.push.result (vec_capacity b.log ≤ vec_len b.log) c.push.ensures.full
    (λ full. absurd (omega (arith, full, b.log.ok.0, c.self.invariant.fits, fewer))) in
    c.push.ensures.items ∙ ap (λ k. cond k (log ++ c.args.age ∷ []) log) ok

pub invariant_of-self-then-take : goal.invariant_of-self-then-take
invariant_of-self-then-take c =
    let b = c.self.inside in
    subst (λ rows. IsSound rows b.next c.push.new.self.items (most_rows (vec_capacity c.push.new.self)) b.marks.items) (sym (left c))
    (subst (λ log. IsSound (map (taken_at c.args.age (length b.log.items + 1)) b.rows) b.next log (most_rows (vec_capacity c.push.new.self)) b.marks.items)
    (sym (pushed c))
    (sound-taken b.rows b.next b.log.items (most_rows (vec_capacity b.log)) b.marks.items c.self.invariant c.args.age (marked_some c)
    (most_rows (vec_capacity c.push.new.self)) (omega (arith, c.push.ensures.capacity)) (sym c.if-take.ensures.told)))

pub returns-then-take : goal.returns-then-take
returns-then-take c =
    let b = c.self.inside in
    ap (λ rows. stock_of rows b.next b.marks.items) (left c)
    ∙ stock-taken b.rows b.next b.log.items (most_rows (vec_capacity b.log)) b.marks.items c.self.invariant c.args.age (marked_some c)
    ∙ ap (λ (stock : Stock). record stock { now = without_age c.args.age stock.now }) c.self.view_is

-- nothing was there
same : (c : Else-take) → c.take.new.self ≡ c.self.inside.rows
same c =
    c.take.ensures.taken
    ∙ sym (map-not_taken c.args.age (c.len.result + 1) c.self.inside.rows c.self.invariant.order (sym c.if-take.ensures.told))

pub invariant_of-self-else-take : goal.invariant_of-self-else-take
invariant_of-self-else-take c =
    let b = c.self.inside in
    subst (λ rows. IsSound rows b.next b.log.items (most_rows (vec_capacity b.log)) b.marks.items) (sym (same c)) c.self.invariant

pub returns-else-take : goal.returns-else-take
returns-else-take c =
    let b = c.self.inside in
    let some = subst (λ k. 0 < k) b.marks.ok.0 (some_from_test (vec_len b.marks) false c.if-is_empty.ensures refl) in
    ap (λ rows. stock_of rows b.next b.marks.items) (c.take.ensures.taken
    ∙ ap (λ k. map (taken_at c.args.age (k + 1)) b.rows) (c.len.ensures ∙ b.log.ok.0))
    ∙ stock-taken b.rows b.next b.log.items (most_rows (vec_capacity b.log)) b.marks.items c.self.invariant c.args.age some
    ∙ ap (λ (stock : Stock). record stock { now = without_age c.args.age stock.now }) c.self.view_is
