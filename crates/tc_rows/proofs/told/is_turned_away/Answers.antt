use Rattle.std.proofs.Common.{sym, subst}
use Rattle.tc_rows.specs.Told.{IsToldFull}
use Rattle.tc_rows.proofs.told.is_turned_away.Goals as goal

pub returns-in-Full : goal.returns-in-Full
returns-in-Full c = λ origin index.
    let h = c.is_told_full.ensures origin index in (
      λ yes. subst (IsToldFull c.args.version origin c.args.history.now c.args.id) (sym c.in-Full.is) (h.0 yes),
      λ full. h.1 (subst (IsToldFull c.args.version origin c.args.history.now c.args.id) c.in-Full.is full),
    )
