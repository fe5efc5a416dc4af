use Rattle.std.proofs.Common.{[], ◌∷◌, ◌++◌, drop, ap, sym, subst, ◌∙◌}
use Rattle.tc_histtext.specs.Reading.{is_next}
use Rattle.tc_histline.specs.declared.lines.Line.TheVariants.{Centre}
use Rattle.tc_histtext.specs.declared.reading.Place.TheVariants.{Within}
use Rattle.tc_histtext.proofs.Growing.{next-some}
use Rattle.tc_histtext.proofs.Steps.{Grows, lines_in, opens_history}
use Rattle.tc_histtext.proofs.Settling.{settled-push}
use Rattle.tc_histtext.proofs.reading.Reading.open_history.Goals as goal

pub returns : goal.returns
returns c =
    let r = c.args.self.now in
    let centres = c.args.centres.now in
    let agents = c.args.agents.now in
    let name = c.args.name.now in
    let hs = r.histories.items in
    let place = c.len.ensures ∙ r.histories.ok.0 in
    let due = next-some (drop _ centres) name (ap (λ k. is_next (drop k centres) name) (sym place) ∙ (sym c.is_next.ensures ∙ c.if-not-is_next.false)) in
    let on = subst (λ gs. Grows centres agents r.place r.version hs r.logs.items r.blocked (Centre name) Within r.version gs r.logs.items r.blocked)
    (sym (c.in_ok-push.ensures.items ∙ ap (λ h. hs ++ h ∷ []) c.empty.ensures))
    (opens_history centres agents r.place r.version hs r.logs.items r.blocked name due.0 (sym c.is_in_histories.ensures ∙ c.if-not-is_in_histories.false) due.1 c.requires.sound.0) in
    record { next = on.0; lines = settled-push (lines_in centres agents r.place r.version r.histories.items r.logs.items r.blocked) (lines_in centres agents Within r.version c.push.new.self.items r.logs.items r.blocked) (Centre name) r.items.items c.requires.settled on.1; sound = (on.2, c.requires.settled) }
