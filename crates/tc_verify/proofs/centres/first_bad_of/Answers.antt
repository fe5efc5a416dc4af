use Rattle.std.proofs.Common.{◌≡◌, length, map, refl, sym, ap, subst, ◌∙◌, arith, Some, slice_get}
use Rattle.tc_config.specs.declared.configs.AgentConf.{AgentConf}
use Rattle.std.proofs.lemmas.Option.{slice_get_read}
use Rattle.tc_audit.specs.Beginnings.{origin_in}
use Rattle.tc_lists.proofs.Options.{IfNone-at, IfSome-at}
use Rattle.tc_replay.specs.Bad.{IsBadAt, IsQuietRun}
use Rattle.tc_verify.proofs.OneBad.{quiet-all, quiet-more, quiet-start}
use Rattle.tc_verify.proofs.centres.first_bad_of.Goals as goal

pub loop-place-init : goal.loop-place-init
loop-place-init c = quiet-start c.args.config.now c.args.histories.now

pub returns-in-Some-clause-bad : goal.returns-in-Some-clause-bad
returns-in-Some-clause-bad c =
    let centre = c.index-centres-place.result in
    let history = c.items.result.now in
    let origin = c.beginning_of-beginning.ensures c.args.config.now (c.deref.ensures.value ∙ (c.in_ok-agents.ensures ∙ ap (λ l. map (λ (a : AgentConf). a.name) l) c.agents.ensures.agents)) in
    record {
      before = c.loop-place.invariant;
      centre = centre;
      known = subst (λ l. slice_get l c.loop-place.place ≡ Some centre) c.centres-centres.ensures.centres (slice_get_read c.centres-centres.result.now (length c.centres-centres.result.now) c.loop-place.place centre refl c.loop-place-test.true c.index-centres-place.is);
      history = history;
      there = subst (λ h. slice_get c.args.histories.now c.loop-place.place ≡ Some h) (sym c.items.ensures) (slice_get_read c.args.histories.now (length c.centres-centres.result.now) c.loop-place.place c.index-histories-place.result (ap length c.centres-centres.ensures.centres ∙ sym c.requires) c.loop-place-test.true c.index-histories-place.is);
      bad = subst (λ o. IsBadAt o history c.in-Some.number) origin
          (IfSome-at (IsBadAt (origin_in c.beginning_of-beginning.result) history) c.in_ok-number.field-0 c.in-Some.number c.in-Some.is c.in_ok-number.ensures.bad);
    }

pub loop-place-preserved : goal.loop-place-preserved
loop-place-preserved c =
    let centre = c.index-centres-place.result in
    let history = c.items.result.now in
    let origin = c.beginning_of-beginning.ensures c.args.config.now (c.deref.ensures.value ∙ (c.in_ok-agents.ensures ∙ ap (λ l. map (λ (a : AgentConf). a.name) l) c.agents.ensures.agents)) in
    quiet-more c.args.config.now c.args.histories.now c.loop-place.place centre history
    (subst (λ l. slice_get l c.loop-place.place ≡ Some centre) c.centres-centres.ensures.centres (slice_get_read c.centres-centres.result.now (length c.centres-centres.result.now) c.loop-place.place centre refl c.loop-place-test.true c.index-centres-place.is))
    (subst (λ h. slice_get c.args.histories.now c.loop-place.place ≡ Some h) (sym c.items.ensures) (slice_get_read c.args.histories.now (length c.centres-centres.result.now) c.loop-place.place c.index-histories-place.result (ap length c.centres-centres.ensures.centres ∙ sym c.requires) c.loop-place-test.true c.index-histories-place.is))
    (subst (λ o. IsQuietRun o history) origin
    (IfNone-at (IsQuietRun (origin_in c.beginning_of-beginning.result) history) c.in_ok-number.field-0 c.in_default.is c.in_ok-number.ensures.none))
    c.loop-place.invariant

pub returns-clause-none : goal.returns-clause-none
returns-clause-none c = quiet-all c.args.config.now c.args.histories.now c.loop-place.place c.requires (omega (arith, c.loop-place-test.false, ap length c.centres-centres.ensures.centres)) c.loop-place.invariant
