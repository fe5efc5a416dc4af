use Rattle.std.proofs.Common.{Contains, ap, subst, arith}
use Rattle.tc_bag.specs.Stock.{Stock}
use Rattle.tc_bag.proofs.Additions.{without-none}
use Rattle.tc_replay.proofs.acts.acts.Goals as goal

pub returns-in-Some-clause-adds : goal.returns-in-Some-clause-adds
returns-in-Some-clause-adds g c = record {
  rises = omega (arith, ap (λ (s : Stock). s.next) c.take.ensures);
  added = λ row there older. without-none c.in-Some.age c.args.bag.now.now row
      (subst (λ rows. Contains rows row) (ap (λ (s : Stock). s.now) c.take.ensures) there);
}

pub returns-in-Miss-clause-exact : goal.returns-in-Miss-clause-exact
returns-in-Miss-clause-exact g c = rw c.in-Miss.is c.is_missed.ensures

pub returns-in-Confirm-clause-exact : goal.returns-in-Confirm-clause-exact
returns-in-Confirm-clause-exact g c = rw c.in-Confirm.is c.is_missed-in-Confirm.ensures
