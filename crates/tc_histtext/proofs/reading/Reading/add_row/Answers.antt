use Rattle.std.proofs.Common.{subst}
use Rattle.tc_histtext.specs.Reading.{IsHeld}
use Rattle.tc_histline.specs.declared.lines.Line.TheVariants.{Row}
use Rattle.tc_histtext.proofs.Steps.{adds_row, lines_in}
use Rattle.tc_histtext.proofs.Settling.{settled-push}
use Rattle.tc_histtext.proofs.reading.Reading.add_row.Goals as goal

pub returns-in_ok-push_last-in-Telling : goal.returns-in_ok-push_last-in-Telling
returns-in_ok-push_last-in-Telling c =
    let r = c.args.self.now in
    let centres = c.args.centres.now in
    let agents = c.args.agents.now in
    let none = subst (λ p. IsHeld p r.items.items) c.in-Telling.is c.requires.sound.1 in
    let on = adds_row c.args.centres.now c.args.agents.now r.place r.version r.histories.items r.logs.items c.push_last.new.lists.items r.blocked c.args.row
    c.in-Telling.is c.in_ok-push_last-in-Telling.ensures c.requires.sound.0 in
    record { next = on.0; lines = settled-push (lines_in centres agents r.place r.version r.histories.items r.logs.items r.blocked) (lines_in centres agents r.place r.version r.histories.items c.push_last.new.lists.items r.blocked) (Row c.args.row) r.items.items none on.1; sound = (on.2, c.requires.sound.1) }
