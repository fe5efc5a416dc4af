use Rattle.std.proofs.lemmas.Result.{IfOk-weaker}
use Rattle.tc_rows.proofs.Found.{called-found, none-called}
use Rattle.tc_rows.proofs.told.is_called.Goals as goal

pub returns-in-Some : goal.returns-in-Some
returns-in-Some c =
    let found = called-found c.args.id c.args.op.now c.args.history.now _ (c.requires c.args.id.agent) c.in-Some.entry.now c.in-Some.ensures.some in
    IfOk-weaker c.has_op.result _ _ (λ y h. (λ yes. found.0 (h.0 yes), λ has. h.1 (found.1 has))) c.has_op.ensures

pub returns-in-None : goal.returns-in-None
returns-in-None c = (
  λ yes. absurd (cc),
  λ has. absurd (none-called c.args.id c.args.op.now c.args.history.now c.in-None.ensures.none has),
)
