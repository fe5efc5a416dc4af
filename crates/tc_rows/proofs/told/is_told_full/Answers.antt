use Rattle.std.proofs.Common.{sym, subst}
use Rattle.tc_rows.specs.Fulls.{ArePoints}
use Rattle.tc_rows.proofs.Telling.{full-one, full-two}
use Rattle.tc_rows.proofs.told.is_told_full.Goals as goal

pub returns-then-is_untold : goal.returns-then-is_untold
returns-then-is_untold c = λ origin index.
    let h = c.was_full.ensures origin (subst (ArePoints origin c.args.history.now) (sym c.deref.ensures.value) index.points) in
    let told = full-one c.args.version origin c.args.history.now c.args.id c.args.load c.in-One.is in
    (λ yes. told.0 (c.is_untold.ensures.0 c.if-is_untold.true) (h.0 yes), λ full. h.1 (told.1 full).1)

pub returns-in-Two : goal.returns-in-Two
returns-in-Two c = λ origin index.
    let h = c.was_full_with.ensures origin (subst (ArePoints origin c.args.history.now) (sym c.deref-in-Two.ensures.value) index.points) in
    let told = full-two c.args.version origin c.args.history.now c.args.id c.args.load c.in-Two.is in
    (λ yes. told.0 (h.0 yes), λ full. h.1 (told.1 full))
