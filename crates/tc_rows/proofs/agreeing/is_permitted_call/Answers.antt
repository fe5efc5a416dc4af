use Rattle.std.proofs.Common.{sym, ◌∙◌}
use Rattle.std.proofs.lemmas.Bool.{false≢true}
use Rattle.tc_config.specs.Good.{Permits}
use Rattle.tc_rows.proofs.Permitted.{none-permitted, permitted-found}
use Rattle.tc_rows.proofs.agreeing.is_permitted_call.Goals as goal

pub returns-in-Some : goal.returns-in-Some
returns-in-Some c = λ a at.
    let found = permitted-found (Permits c.args.config.now a.role c.args.centre) c.args.id c.args.history.now _
    (c.requires.index.1.makers c.args.id.agent) c.in-Some.entry.now c.in-Some.ensures.some in
    let h = c.is_permitted_entry.ensures a at in
    (λ yes. found.0 (h.0 yes), λ is. h.1 (found.1 is))

pub returns-in-None : goal.returns-in-None
returns-in-None c = λ a at. (
  λ yes. absurd (false≢true yes),
  λ is.
      absurd
      (none-permitted (Permits c.args.config.now a.role c.args.centre) c.args.id c.args.history.now c.in-None.ensures.none is),
)
