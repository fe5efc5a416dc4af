use Rattle.std.proofs.Common.{◌∙◌, ap, subst, arith, Contains}
use Rattle.tc_bag.specs.Stock.{Stock, tuples_of}
use Rattle.tc_bag.proofs.Additions.{without-none}
use Rattle.tc_lists.proofs.Options.{IfSome-at}
use Rattle.tc_term.specs.TreeView.{tree_of}
use Rattle.tc_model.specs.declared.items.Effect.TheVariants.{Took}
use Rattle.tc_replay.specs.Meeting.{HasMet, MeetsNot, IsAgeOf}
use Rattle.tc_replay.proofs.Told.{told_none, told_is, told_same, took_one, IfNone-not}
use Rattle.tc_replay.proofs.goal.take_next.Goals as goal

pub returns-in_default-clause-none : goal.returns-in_default-clause-none
returns-in_default-clause-none g c = λ _ u told. absurd (told_none c.args.next (Took u) c.in_default.not-Some told)

pub returns-in_default-effect-clause-none : goal.returns-in_default-effect-clause-none
returns-in_default-effect-clause-none g c = λ _ u told. absurd (c.in_default-effect.not-Took u (told_same c.args.next c.in-Some.effect (Took u) c.in-Some.is told))

pub returns-in_default-2-clause-none : goal.returns-in_default-2-clause-none
returns-in_default-2-clause-none g c = λ _ u told.
    let never = IfNone-not c.in_ok-age.field-0 (MeetsNot c.args.store.now (tree_of c.args.t.now) c.in-Took.tuple c.args.bag.now) c.in_default-2.not-Some c.in_ok-age.ensures.none in
    subst (λ x. MeetsNot c.args.store.now (tree_of c.args.t.now) x c.args.bag.now)
    (took_one c.in-Some.effect.now c.in-Took.tuple u c.in-Took.is (told_same c.args.next c.in-Some.effect (Took u) c.in-Some.is told)) never

pub returns-clause-taken : goal.returns-clause-taken
returns-clause-taken g c = λ _.
    record {
      tuple = c.in-Took.tuple;
      told = told_is c.args.next c.in-Some.effect (Took c.in-Took.tuple) c.in-Some.is c.in-Took.is;
      met = IfSome-at (λ age. HasMet c.args.store.now c.meet.new.store (tree_of c.args.t.now) c.in-Took.tuple c.args.bag.now)
          c.in_ok-age.field-0 c.in-Some-2.age c.in-Some-2.is c.in_ok-age.ensures.met;
      left = ap (λ (s : Stock). tuples_of s.now) c.take.ensures
          ∙ (IfSome-at (IsAgeOf c.in-Took.tuple c.args.bag.now.now) c.in_ok-age.field-0 c.in-Some-2.age c.in-Some-2.is c.in_ok-age.ensures.age).left;
    }

pub returns-clause-adds : goal.returns-clause-adds
returns-clause-adds g c = record {
  rises = omega (arith, ap (λ (s : Stock). s.next) c.take.ensures);
  added = λ r there older. without-none c.in-Some-2.age c.args.bag.now.now r
      (subst (λ (s : Stock). Contains s.now r) c.take.ensures there);
}
