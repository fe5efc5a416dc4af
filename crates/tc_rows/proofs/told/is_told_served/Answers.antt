use Rattle.tc_lists.proofs.Results.{IfOk-both}
use Rattle.tc_rows.proofs.Telling.{fault-told}
use Rattle.tc_rows.proofs.told.is_told_served.Goals as goal

pub returns-in-Err : goal.returns-in-Err
returns-in-Err c = λ origin index.
    IfOk-both c.is_told_fault.result _ _ _
    (λ y h known.
    let told = fault-told c.args.version origin c.args.history.now c.args.id c.args.ask c.in-Err.fault c.in-Err.ensures.fault known c.args.became.now in
    (λ yes. told.0 (h.0 yes), λ served. h.1 (told.1 served)))
    c.is_told_fault.ensures.told c.is_told_fault.ensures.known
