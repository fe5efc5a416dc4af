use Rattle.std.proofs.Common.{nat_lt, rules}
use Rattle.std.proofs.lemmas.List.Sorted.{IsPartitionPoint-from_clause}
use Rattle.tc_rows.specs.declared.fulls.FullPoint.{FullPoint}
use Rattle.tc_rows.proofs.Cuts.{parted, pointed}
use Rattle.tc_rows.proofs.gaps.point_of.Goals as goal

pub returns-clause-point : goal.returns-clause-point
returns-clause-point c =
    pointed (λ (p : FullPoint). p.load.weight) c.args.points.now c.args.weight c.partition_point.result
    (IsPartitionPoint-from_clause (λ (p : FullPoint). nat_lt p.load.weight c.args.weight) _ _ c.partition_point.ensures.partitioned
    (parted (λ (p : FullPoint). p.load.weight) c.args.points.now c.args.weight (λ i j d less inside. (c.requires i j d less inside).1))
    (λ a r q k. search rules))
