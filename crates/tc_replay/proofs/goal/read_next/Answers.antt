use Rattle.std.proofs.Common.{subst}
use Rattle.tc_lists.proofs.Options.{IfSome-at}
use Rattle.tc_term.specs.TreeView.{tree_of}
use Rattle.tc_model.specs.declared.items.Effect.TheVariants.{Read}
use Rattle.tc_replay.specs.Meeting.{HasMet, MeetsNot}
use Rattle.tc_replay.proofs.Told.{told_none, told_is, told_same, read_one, IfNone-not}
use Rattle.tc_replay.proofs.goal.read_next.Goals as goal

pub returns-in_default-clause-none : goal.returns-in_default-clause-none
returns-in_default-clause-none g c = λ _ u told. absurd (told_none c.args.next (Read u) c.in_default.not-Some told)

pub returns-in_default-effect-clause-none : goal.returns-in_default-effect-clause-none
returns-in_default-effect-clause-none g c = λ _ u told. absurd (c.in_default-effect.not-Read u (told_same c.args.next c.in-Some.effect (Read u) c.in-Some.is told))

pub returns-in_default-2-clause-none : goal.returns-in_default-2-clause-none
returns-in_default-2-clause-none g c = λ _ u told.
    let never = IfNone-not c.in_ok-_age.field-0 (MeetsNot c.args.store.now (tree_of c.args.t.now) c.in-Read.tuple c.args.bag.now) c.in_default-2.not-Some c.in_ok-_age.ensures.none in
    subst (λ x. MeetsNot c.args.store.now (tree_of c.args.t.now) x c.args.bag.now)
    (read_one c.in-Some.effect.now c.in-Read.tuple u c.in-Read.is (told_same c.args.next c.in-Some.effect (Read u) c.in-Some.is told)) never

pub returns-clause-read : goal.returns-clause-read
returns-clause-read g c = λ _.
    record {
      tuple = c.in-Read.tuple;
      told = told_is c.args.next c.in-Some.effect (Read c.in-Read.tuple) c.in-Some.is c.in-Read.is;
      met = IfSome-at (λ age. HasMet c.args.store.now c.meet.new.store (tree_of c.args.t.now) c.in-Read.tuple c.args.bag.now)
          c.in_ok-_age.field-0 c.in-Some-2._age c.in-Some-2.is c.in_ok-_age.ensures.met;
    }
