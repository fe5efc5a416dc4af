use Rattle.tc_rows.proofs.Crowding.{full-somehow}
use Rattle.tc_rows.proofs.gaps.was_full.Goals as goal

pub returns : goal.returns
returns c = λ origin are.
    let full = full-somehow origin c.args.history.now c.args.points.now are c.args.id c.gap-from.result.0 c.gap-from.result.1 c.gap-from.ensures in
    let has = c.has_point.ensures in
    (λ yes. full.0 (has.0 yes), λ is. has.1 (full.1 is))
