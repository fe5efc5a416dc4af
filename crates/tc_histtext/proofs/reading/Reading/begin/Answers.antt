use Rattle.std.proofs.Common.{subst}
use Rattle.tc_histtext.specs.Reading.{IsHeld}
use Rattle.tc_histline.specs.declared.lines.Line.TheVariants.{First}
use Rattle.tc_histtext.specs.declared.reading.Place.TheVariants.{Before}
use Rattle.tc_histtext.proofs.Steps.{begins, lines_in}
use Rattle.tc_histtext.proofs.Settling.{settled-push}
use Rattle.tc_histtext.proofs.reading.Reading.begin.Goals as goal

pub returns-in-Start : goal.returns-in-Start
returns-in-Start c =
    let r = c.args.self.now in
    let centres = c.args.centres.now in
    let agents = c.args.agents.now in
    let none = subst (λ p. IsHeld p r.items.items) c.in-Start.is c.requires.sound.1 in
    let on = begins c.args.centres.now c.args.agents.now r.place r.version c.args.version r.histories.items r.logs.items r.blocked c.in-Start.is c.requires.sound.0 in
    record { next = on.0; lines = settled-push (lines_in centres agents r.place r.version r.histories.items r.logs.items r.blocked) (lines_in centres agents Before c.args.version r.histories.items r.logs.items r.blocked) (First c.args.version) r.items.items none on.1; sound = (on.2, none) }
