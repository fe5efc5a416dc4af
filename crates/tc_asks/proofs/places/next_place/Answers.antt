use Rattle.std.proofs.Common.{◌≤◌, [], ap, length, refl, subst, ◌∙◌, arith}
use Rattle.std.proofs.lemmas.List.{get_or_default}
use Rattle.tc_model.specs.Scripts.{Lines}
use Rattle.tc_asks.proofs.Steps.{placed_next}
use Rattle.tc_asks.proofs.places.next_place.Goals as goal

pub loop-at-preserved : goal.loop-at-preserved
loop-at-preserved c =
    let at = c.loop-at.at in
    let inside = c.loop-at-test.true in
    let script = c.index-scripts-at.result in
    let here = c.index-scripts-at.is ∙ get_or_default c.args.scripts.now at.script script (record { vars = 0; items = [] }) inside in
    let end = subst (λ n. n ≤ at.item) (ap length c.items.ensures.items ∙ ap (λ (s : Lines). length s.items) here) c.if-at-items.true in
    record {
      placed = λ rows placed. placed_next c.args.scripts.now at.script at.item rows inside end (c.loop-at.invariant.placed rows placed);
      same = λ same. absurd (omega (arith, same, c.loop-at.invariant.onward));
      first = λ other. refl;
      onward = omega (arith, c.loop-at.invariant.onward);
    }
