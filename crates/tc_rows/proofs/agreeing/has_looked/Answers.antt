use Rattle.std.proofs.lemmas.Bool.{false≢true}
use Rattle.tc_rows.proofs.Polling.{looked-found, none-looked}
use Rattle.tc_rows.proofs.agreeing.has_looked.Goals as goal

pub returns-in-Some : goal.returns-in-Some
returns-in-Some c =
    let found = looked-found c.args.id c.args.history.now c.args.number c.args.told.now _
    (c.requires.index.1.makers c.args.id.agent) c.in-Some.entry.now c.in-Some.ensures.some in
    let h = c.is_look_of.ensures in
    (λ yes. found.0 (h.0 yes), λ is. h.1 (found.1 is))

pub returns-in-None : goal.returns-in-None
returns-in-None c = (
  λ yes. absurd (false≢true yes),
  λ is. absurd (none-looked c.args.id c.args.history.now c.args.number c.args.told.now c.in-None.ensures.none is),
)
