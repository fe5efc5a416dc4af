use Rattle.std.proofs.Common.{length, sym, ap, ◌∙◌, arith}
use Rattle.std.proofs.lemmas.Bool.{eq-eqb, true≢false}
use Rattle.tc_histtext.proofs.Settling.{settles}
use Rattle.tc_histtext.proofs.reading.Reading.settle.Goals as goal

pub returns : goal.returns
returns c =
    let r = c.args.self.now in
    let put = c.in_ok-push_reactions.ensures in
    let on = settles c.args.centres.now c.args.agents.now r.place r.version r.histories.items c.push_reactions.new.histories.items r.logs.items r.blocked r.items.items c.push_reactions.new.items.items
    (λ e. true≢false (sym (eq-eqb _ 0 (omega (arith, r.items.ok.0, ap length e))) ∙ (sym c.is_empty.ensures ∙ c.if-is_empty.false)))
    put.none put.put c.requires.sound in
    record { stage = on.0; lines = on.1; sound = on.2; none = put.none }
