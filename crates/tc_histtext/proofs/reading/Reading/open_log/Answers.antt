use Rattle.std.proofs.Common.{[], ◌∷◌, ◌++◌, drop, ap, sym, subst, ◌∙◌}
use Rattle.tc_histtext.specs.Reading.{is_next}
use Rattle.tc_histline.specs.declared.lines.Line.TheVariants.{Agent}
use Rattle.tc_histtext.specs.declared.reading.Place.TheVariants.{Telling}
use Rattle.tc_histtext.proofs.Growing.{next-some}
use Rattle.tc_histtext.proofs.Steps.{Grows, lines_in, no_log_yet, opens_log, other_log}
use Rattle.tc_histtext.proofs.Settling.{settled-push}
use Rattle.tc_histtext.proofs.reading.Reading.open_log.Goals as goal
use Rattle.tc_histtext.proofs.reading.Reading.open_log.Goals.{then-not-may_tell-via-then-not-may_tell, then-not-may_tell-via-else-not-may_tell+then-not-is_next}

pub returns-then-not-may_tell : goal.returns-then-not-may_tell
returns-then-not-may_tell c =
    let r = c.args.self.now in
    let centres = c.args.centres.now in
    let agents = c.args.agents.now in
    let name = c.args.name.now in
    elim c.then-not-may_tell.branch [
      | then-not-may_tell-via-then-not-may_tell w ↦ no_log_yet centres agents r.place r.histories.items r.logs.items name (sym c.may_tell.ensures ∙ w.if-not-may_tell.true) c.requires.sound.0
      | then-not-may_tell-via-else-not-may_tell+then-not-is_next w ↦
          other_log centres agents r.place r.histories.items r.logs.items name
          (ap (λ k. is_next (drop k agents) name) (sym (w.len.ensures ∙ r.logs.ok.0)) ∙ (sym w.is_next.ensures ∙ w.if-not-is_next.true)) c.requires.sound.0
    ]

pub returns : goal.returns
returns c =
    let r = c.args.self.now in
    let centres = c.args.centres.now in
    let agents = c.args.agents.now in
    let name = c.args.name.now in
    let ls = r.logs.items in
    let place = c.len.ensures ∙ r.logs.ok.0 in
    let due = next-some (drop _ agents) name (ap (λ k. is_next (drop k agents) name) (sym place) ∙ (sym c.is_next.ensures ∙ c.if-not-is_next.false)) in
    let on = subst (λ ms. Grows centres agents r.place r.version r.histories.items ls r.blocked (Agent name) Telling r.version r.histories.items ms r.blocked)
    (sym (c.in_ok-push.ensures.items ∙ ap (λ l. ls ++ l ∷ []) c.empty.ensures))
    (opens_log centres agents r.place r.version r.histories.items ls r.blocked name due.0 (sym c.may_tell.ensures ∙ c.if-not-may_tell.false) due.1 c.requires.sound.0) in
    record { next = on.0; lines = settled-push (lines_in centres agents r.place r.version r.histories.items r.logs.items r.blocked) (lines_in centres agents Telling r.version r.histories.items c.push.new.self.items r.blocked) (Agent name) r.items.items c.requires.settled on.1; sound = (on.2, c.requires.settled) }
