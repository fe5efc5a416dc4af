use Rattle.std.proofs.Common.{nat_lt, rules}
use Rattle.std.proofs.lemmas.List.Sorted.{IsPartitionPoint-from_clause}
use Rattle.tc_rows.specs.declared.made.Made.{Made}
use Rattle.tc_rows.proofs.Cuts.{parted, pointed}
use Rattle.tc_rows.proofs.made.cut.Goals as goal

pub returns-clause-point : goal.returns-clause-point
returns-clause-point c =
    pointed (λ (m : Made). m.number) c.args.made.now c.args.number c.partition_point.result
    (IsPartitionPoint-from_clause (λ (m : Made). nat_lt m.number c.args.number) _ _ c.partition_point.ensures.partitioned
    (parted (λ (m : Made). m.number) c.args.made.now c.args.number (λ i j d less inside. (c.requires i j d less inside).0))
    (λ a r q k. search rules))
