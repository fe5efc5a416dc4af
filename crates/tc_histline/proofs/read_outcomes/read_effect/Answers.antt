use Rattle.std.proofs.Common.{◌≡◌, Some, sym, ap, ◌∙◌}
use Rattle.tc_lists.specs.AtFront.{and_then, made}
use Rattle.tc_lists.specs.Seen.{seen}
use Rattle.tc_histline.specs.EffectKinds.{effect_of}
use Rattle.tc_histline.specs.Words.{tuple_at}
use Rattle.tc_histline.proofs.EffectKinds.{effect_at-by_kind}
use Rattle.tc_histline.proofs.read_outcomes.read_effect.Goals as goal
use Rattle.tc_histline.proofs.read_outcomes.read_effect.Goals.{in-Put, in-Took, in-Read}

pub returns-in_default-2 : goal.returns-in_default-2
returns-in_default-2 c =
    ap (made (effect_of c.in-Some.kind)) (ap seen (sym c.in_default-2.is) ∙ c.in_ok-tuple.ensures)
    ∙ (ap (λ o. and_then o (λ k rest. made (effect_of k) (tuple_at rest))) c.in-Some.ensures
    ∙ sym (effect_at-by_kind c.args.bytes.now))

pub returns : goal.returns
returns c =
    let rest = c.in-Some-2.rest.now in
    let same : c.match-kind.effect ≡ effect_of c.in-Some.kind c.in-Some-2.tuple =
    elim c.match-kind.branch [
      | in-Put w ↦ w.effect-is ∙ ap (λ k. effect_of k c.in-Some-2.tuple) (sym w.in-Put.is)
      | in-Took w ↦ w.effect-is ∙ ap (λ k. effect_of k c.in-Some-2.tuple) (sym w.in-Took.is)
      | in-Read w ↦ w.effect-is ∙ ap (λ k. effect_of k c.in-Some-2.tuple) (sym w.in-Read.is)
    ] in
    ap (λ e. Some (e, rest)) same
    ∙ (ap (made (effect_of c.in-Some.kind)) (ap seen (sym c.in-Some-2.is) ∙ c.in_ok-tuple.ensures)
    ∙ (ap (λ o. and_then o (λ k rest. made (effect_of k) (tuple_at rest))) c.in-Some.ensures
    ∙ sym (effect_at-by_kind c.args.bytes.now)))
