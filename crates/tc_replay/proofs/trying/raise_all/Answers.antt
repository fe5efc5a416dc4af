use Rattle.std.proofs.Common.{◌≡◌, ◌+◌, List, [], ◌∷◌, ◌++◌, map, take, sym, ap, subst, ◌∙◌}
use Rattle.std.proofs.lemmas.List.{map-append}
use Rattle.tc_lists.proofs.Parts.{take_read}
use Rattle.tc_model.specs.Events.{Occurrence, event_of}
use Rattle.tc_replay.specs.Replays.{Raises}
use Rattle.tc_replay.proofs.Tried.{raises-more}
use Rattle.tc_replay.proofs.trying.raise_all.Goals as goal

pub loop-effect-preserved : goal.loop-effect-preserved
loop-effect-preserved c =
    let es = c.args.effects.now in
    let i = c.loop-effect.effect-index in
    let item = c.effect-item.result in
    let events : map event_of (take (i + 1) es) ≡ map event_of (take i es) ++ event_of item ∷ [] =
    ap (map event_of) (take_read es i item c.loop-effect-test.true c.effect-item.is) ∙ map-append event_of (take i es) (item ∷ []) in
    subst (λ (fs : List Occurrence). Raises c.args.spec.now fs c.args.triggered.now c.add.new.triggered) (sym events)
    (raises-more c.args.spec.now (map event_of (take i es)) (event_of item ∷ []) c.args.triggered.now c.loop-effect.triggered c.add.new.triggered
    c.loop-effect.invariant
    (subst (λ (e : Occurrence). Raises c.args.spec.now (e ∷ []) c.loop-effect.triggered c.add.new.triggered) c.in_ok-event_of.ensures c.in_ok-add.ensures))
