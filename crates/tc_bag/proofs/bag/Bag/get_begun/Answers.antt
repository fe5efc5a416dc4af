use Rattle.std.proofs.Common.{slice_get, ap, sym, subst, ◌∙◌, vec_capacity}
use Rattle.std.specs.Option.{option_copied}
use Rattle.tc_bag.specs.Stock.{Stock, AgesRiseBelow, tuple_at, begun}
use Rattle.tc_bag.proofs.Begun.{begun-rises, begun-marked, begun-unmarked}
use Rattle.tc_bag.specs.Slots.{most_rows}
use Rattle.tc_bag.proofs.bag.Bag.get_begun.Goals as goal

pub returns-in-None-clause-begun : goal.returns-in-None-clause-begun
returns-in-None-clause-begun c =
    let b = c.self.inside in
    c.get.ensures
    ∙ begun-unmarked b.rows b.next b.log.items (most_rows (vec_capacity b.log)) b.marks.items c.args.age c.self.invariant
    (ap (λ ms. slice_get ms 0) (sym c.deref.ensures.value) ∙ sym c.first.ensures.value ∙ ap option_copied c.in-None.is)
    ∙ ap (λ (s : Stock). tuple_at c.args.age (begun s)) c.self.view_is

pub returns-in-None-clause-rises : goal.returns-in-None-clause-rises
returns-in-None-clause-rises c =
    let b = c.self.inside in
    subst (λ (s : Stock). AgesRiseBelow (begun s) s.next) c.self.view_is
    (begun-rises b.rows b.next b.log.items (most_rows (vec_capacity b.log)) b.marks.items c.self.invariant)

pub returns-in-Some-clause-begun : goal.returns-in-Some-clause-begun
returns-in-Some-clause-begun c =
    let b = c.self.inside in
    c.get_older.ensures
    ∙ begun-marked b.rows b.next b.log.items (most_rows (vec_capacity b.log)) b.marks.items c.in-Some.first.now c.args.age c.self.invariant
    (ap (λ ms. slice_get ms 0) (sym c.deref.ensures.value) ∙ sym c.first.ensures.value ∙ ap option_copied c.in-Some.is)
    ∙ ap (λ (s : Stock). tuple_at c.args.age (begun s)) c.self.view_is

pub returns-in-Some-clause-rises : goal.returns-in-Some-clause-rises
returns-in-Some-clause-rises c =
    let b = c.self.inside in
    subst (λ (s : Stock). AgesRiseBelow (begun s) s.next) c.self.view_is
    (begun-rises b.rows b.next b.log.items (most_rows (vec_capacity b.log)) b.marks.items c.self.invariant)
