use Rattle.std.proofs.Common.{ap, subst, arith, Contains}
use Rattle.tc_bag.specs.Stock.{Stock}
use Rattle.tc_bag.proofs.Additions.{without-none}
use Rattle.tc_body.proofs.goal.take_oldest.Goals as goal

pub returns-clause-adds : goal.returns-clause-adds
returns-clause-adds g c = record {
  rises = omega (arith, ap (λ (s : Stock). s.next) c.take.ensures);
  added = λ r there older. without-none c.in-Some.age c.args.bag.now.now r
      (subst (λ (s : Stock). Contains s.now r) c.take.ensures there);
}
