use Rattle.std.proofs.Common.{Contains, ap, subst, arith}
use Rattle.tc_bag.specs.Stock.{Stock}
use Rattle.tc_bag.proofs.Additions.{without-none}
use Rattle.tc_phases.proofs.running.make.Goals as goal

pub returns-in-Take-clause-adds : goal.returns-in-Take-clause-adds
returns-in-Take-clause-adds c = record {
  rises = omega (arith, ap (λ (s : Stock). s.next) c.take.ensures);
  added = λ row there older. without-none c.in-Take.age c.args.bag.now.now row
      (subst (λ rows. Contains rows row) (ap (λ (s : Stock). s.now) c.take.ensures) there);
}
