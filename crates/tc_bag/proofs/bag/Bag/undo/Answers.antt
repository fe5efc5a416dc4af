use Rattle.std.proofs.Common.{◌≡◌, ◌≤◌, ◌+◌, length, take, map, filter, vec_capacity, All, ap, sym, subst, ◌∙◌, arith}
use Rattle.std.proofs.lemmas.List.Elements.{All-filter}
use Rattle.tc_lists.specs.Marks.{IsBack}
use Rattle.tc_bag.specs.Stock.{Stock, saved_of}
use Rattle.tc_bag.specs.Slots.{InOrder, IsLogged, IsSound, stock_of, is_there, is_older, revived, most_rows}
use Rattle.tc_bag.proofs.Logged.{InOrder-filter}
use Rattle.tc_bag.proofs.Stocks.{sound-undone, stock-undone, fewer_there}
use Rattle.tc_bag.proofs.bag.Bag.undo.Goals as goal

pub unwind-requires-clause-order : goal.unwind-requires-clause-order
unwind-requires-clause-order c =
    subst InOrder (sym c.truncate.ensures) (InOrder-filter (is_older c.in-Some.top.next) c.self.inside.rows c.self.invariant.order)

pub unwind-requires-clause-logged : goal.unwind-requires-clause-logged
unwind-requires-clause-logged c =
    subst (All (IsLogged c.self.inside.log.items)) (sym c.truncate.ensures)
    (All-filter (is_older c.in-Some.top.next) (IsLogged c.self.inside.log.items) c.self.inside.rows c.self.invariant.logged)

-- the slots that are left
left : (c : goal.After-self-1)
    → c.unwind.new.rows ≡ map (revived c.in-Some.top.taken) (filter (is_older c.in-Some.top.next) c.self.inside.rows)
left c = c.unwind.ensures.rows ∙ ap (map (revived c.in-Some.top.taken)) c.truncate.ensures

pub invariant_of-self : goal.invariant_of-self
invariant_of-self c =
    let b = c.self.inside in
    let top = c.in-Some.top in
    let older = filter (is_older top.next) b.rows in
    let undone = map (revived top.taken) older in
    let log = take top.taken b.log.items in
    let more = most_rows (vec_capacity c.unwind.new.log) in
    let log_fits : length log + length (filter is_there c.unwind.new.rows) ≤ length b.log.items + length (filter is_there c.truncate.new.self) =
    subst (λ l. length l + length (filter is_there c.unwind.new.rows) ≤ length b.log.items + length (filter is_there c.truncate.new.self))
    c.unwind.ensures.log c.unwind.ensures.fits in
    let rows_fit : length log + length (filter is_there undone) ≤ length b.log.items + length (filter is_there older) =
    subst (λ ss. length log + length (filter is_there ss) ≤ length b.log.items + length (filter is_there older)) (left c)
    (subst (λ ss. length log + length (filter is_there c.unwind.new.rows) ≤ length b.log.items + length (filter is_there ss))
    c.truncate.ensures log_fits) in
    let fits : length log + length (filter is_there undone) ≤ more =
    omega (arith, rows_fit, fewer_there is_there (is_older top.next) b.rows, c.self.invariant.fits, c.unwind.ensures.room) in
    subst (λ l. IsSound c.unwind.new.rows top.next l more c.pop.new.self.items) (sym c.unwind.ensures.log)
    (subst (λ ss. IsSound ss top.next log more c.pop.new.self.items) (sym (left c))
    (sound-undone b.rows b.next b.log.items (most_rows (vec_capacity b.log)) more b.marks.items c.pop.new.self.items top
    c.self.invariant c.in-Some.ensures.items fits))

pub returns-in-Some-clause-back : goal.returns-in-Some-clause-back
returns-in-Some-clause-back c =
    let b = c.self.inside in
    let top = c.in-Some.top in
    let undone : Stock → Stock → Type 0 = λ old new. IsBack old.saved (saved_of new) new.saved in
    subst (λ old. undone old (stock_of c.unwind.new.rows top.next c.pop.new.self.items)) c.self.view_is
    (subst (λ ss. undone (stock_of b.rows b.next b.marks.items) (stock_of ss top.next c.pop.new.self.items)) (sym (left c))
    (stock-undone b.rows b.next b.log.items (most_rows (vec_capacity b.log)) b.marks.items c.self.invariant c.pop.new.self.items top
    c.in-Some.ensures.items))
