use Rattle.std.proofs.Common.{sym, subst, ◌∙◌}
use Rattle.tc_histline.specs.declared.lines.Line.TheVariants as line
use Rattle.tc_histtext.proofs.Steps.{adds_entry, Grows, lines_in, some_history}
use Rattle.tc_histtext.proofs.Settling.{none-held, settled-push}
use Rattle.tc_histtext.proofs.reading.Reading.add_entry.Goals as goal

pub push_last-requires : goal.push_last-requires
push_last-requires c =
    let r = c.args.self.now in
    record { some = some_history c.args.centres.now c.args.agents.now r.place r.histories.items r.logs.items (sym c.is_in_history.ensures ∙ c.if-not-is_in_history.false) c.requires.sound.0 }

pub returns : goal.returns
returns c =
    let r = c.args.self.now in
    let centres = c.args.centres.now in
    let agents = c.args.agents.now in
    let entry = line.Entry c.args.entry in
    let on = subst (λ q. Grows centres agents r.place r.version r.histories.items r.logs.items r.blocked entry q r.version c.push_last.new.lists.items r.logs.items r.blocked)
    (sym c.place_behind-self.ensures)
    (adds_entry centres agents r.place r.version r.histories.items c.push_last.new.lists.items r.logs.items r.blocked c.args.entry
    (sym c.is_in_history.ensures ∙ c.if-not-is_in_history.false) c.requires.bare c.in_ok-push_last.ensures c.requires.sound.0) in
    record { next = on.0; lines = settled-push (lines_in centres agents r.place r.version r.histories.items r.logs.items r.blocked) (lines_in centres agents c.place_behind-self.result r.version c.push_last.new.lists.items r.logs.items r.blocked) entry r.items.items c.requires.settled on.1; sound = (on.2, none-held _ r.items.items c.requires.settled) }
