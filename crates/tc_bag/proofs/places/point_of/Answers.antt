use Rattle.std.proofs.Common.{nat_lt, rules}
use Rattle.std.proofs.lemmas.List.Sorted.{IsPartitionPoint-from_clause}
use Rattle.tc_bag.proofs.Gaps.{point_found, point_of_test, parted}
use Rattle.tc_bag.proofs.places.point_of.Goals as goal

pub returns-in-Some-clause-point : goal.returns-in-Some-clause-point
returns-in-Some-clause-point c =
    point_found c.args.places.now c.args.age c.in-Some.i c.requires c.in-Some.ensures.0 c.in-Some.ensures.1

pub returns-in-None-clause-point : goal.returns-in-None-clause-point
returns-in-None-clause-point c =
    point_of_test c.args.age c.args.places.now c.partition_point.result
    (IsPartitionPoint-from_clause (λ p. nat_lt p.age c.args.age) _ _ c.partition_point.ensures.partitioned
    (parted c.args.places.now c.args.age 0 c.requires) (λ a r q k. search rules))
