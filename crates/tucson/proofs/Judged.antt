-- What is due to a call that judges a text decides how it ends.
use Rattle.std.proofs.Common.{◌≡◌, ◌∙◌, ◌<◌, ◌≤◌, ℕ, List, length, sym, ap, ap₂, subst, inl, inr, arith}
use Rattle.tc_config.specs.Texts.{IsRefused, Spells}
use Rattle.tc_config.specs.declared.faults.ConfigCause.{ConfigCause}
use Rattle.tc_config.specs.declared.faults.ConfigCause.TheVariants as cause
use Rattle.tc_config.proofs.OneConfig.{one_configuration, one_refusal, spelt_or_refused}
use Rattle.tc_verify.specs.Inputs.{IsParted}
use Rattle.tc_verify.specs.Verdicts.{IsVerdict}
use Rattle.tc_verify.proofs.OneParting.{parted-one}
use Rattle.tc_visits.specs.Service.{DoorState}
use Rattle.tucson.specs.declared.command.Command.TheVariants.{Verify}
use Rattle.tucson.specs.declared.status.Status.{Status}
use Rattle.tucson.specs.declared.status.Status.TheVariants.{Ended, WriteFault, Refused, Blocked, No, ReadFault, NoMemory, Usage, NetFault}
use Rattle.tucson.specs.Answer.{IsDueForText, IsOutcomeFor}
use Rattle.tucson.specs.Ending.{End, HasRefusal, HasStatus, IsEndOfVerdict, IsUnlessStopped, OfRun, OfService, With}
use Rattle.tucson.specs.Status.{status_of_verdict}
use Rattle.tucson.proofs.OneVerdict.{one_verdict}

module _ (input spelt text : List ℕ) (short : length input ≤ 268435456) (parts : IsParted input spelt text) where
  -- the refusal is of what stands before the line that parts
  refused-here : (clause : ℕ) (why : ConfigCause) → HasRefusal input clause why → IsRefused spelt clause why
  refused-here clause why has =
      let one = parted-one input spelt text has.refused.first has.refused.second parts has.refused.parts in
      subst (λ bytes. IsRefused bytes clause why) (sym one.0) has.refused.refused

  -- where that is refused no verdict is due
  refused-no_status : (clause : ℕ) (why : ConfigCause) (status : Status) → IsRefused spelt clause why → HasStatus input status → ⊥
  refused-no_status clause why status refused has =
      let one = parted-one input spelt text has.first has.second parts has.parts in
      spelt_or_refused spelt has.config clause why (subst (λ bytes. Spells bytes has.config) (sym one.0) has.spells) refused

  refused_judged : (clause : ℕ) (why : ConfigCause) → IsRefused spelt clause why → (end : End) → IsEndOfVerdict input end
      → IsUnlessStopped end (Refused clause why)
  refused_judged clause why refused (With (Refused other because)) (inl past) = absurd (omega (arith, short, past.long))
  refused_judged clause why refused (With (Refused other because)) (inr has) =
      let same = one_refusal spelt clause other why because refused (refused-here other because has) in
      inl (ap₂ Refused same.0 same.1)
  refused_judged clause why refused (With Ended) has = absurd (refused-no_status clause why Ended refused has)
  refused_judged clause why refused (With WriteFault) has = absurd (refused-no_status clause why WriteFault refused has)
  refused_judged clause why refused (With Blocked) has = absurd (refused-no_status clause why Blocked refused has)
  refused_judged clause why refused (With No) has = absurd (refused-no_status clause why No refused has)
  refused_judged clause why refused (With ReadFault) has = absurd (refused-no_status clause why ReadFault refused has)
  refused_judged clause why refused (With NoMemory) has = absurd (refused-no_status clause why NoMemory refused has)
  refused_judged clause why refused (With Usage) has = absurd (refused-no_status clause why Usage refused has)
  refused_judged clause why refused (With NetFault) has = absurd (refused-no_status clause why NetFault refused has)
  refused_judged clause why refused OfRun is = absurd is
  refused_judged clause why refused OfService is = absurd is

  module _ (door after : DoorState) (status : Status) (told : List ℕ) (due : IsOutcomeFor Verify door after spelt text status told) where
    -- the status of the verdict is one
    same_status : (other : Status) → HasStatus input other → IsUnlessStopped (With other) status
    same_status other has =
        let one = parted-one input spelt text has.first has.second parts has.parts in
        let config = one_configuration spelt due.config has.config due.spells (subst (λ bytes. Spells bytes has.config) (sym one.0) has.spells) in
        let is = subst (λ c. IsVerdict c text has.verdict) (sym config) (subst (λ bytes. IsVerdict has.config bytes has.verdict) (sym one.1) has.is) in
        inl (due.outcome.status_is ∙ ap status_of_verdict (one_verdict spelt due.config text due.outcome.verdict has.verdict due.spells due.outcome.is is) ∙ sym has.status_is)

    verdict_judged : (end : End) → IsEndOfVerdict input end → IsUnlessStopped end status
    verdict_judged (With (Refused clause why)) (inl past) = absurd (omega (arith, short, past.long))
    verdict_judged (With (Refused clause why)) (inr has) = absurd (spelt_or_refused spelt due.config clause why due.spells (refused-here clause why has))
    verdict_judged (With Ended) has = same_status Ended has
    verdict_judged (With WriteFault) has = same_status WriteFault has
    verdict_judged (With Blocked) has = same_status Blocked has
    verdict_judged (With No) has = same_status No has
    verdict_judged (With ReadFault) has = same_status ReadFault has
    verdict_judged (With NoMemory) has = same_status NoMemory has
    verdict_judged (With Usage) has = same_status Usage has
    verdict_judged (With NetFault) has = same_status NetFault has
    verdict_judged OfRun is = absurd is
    verdict_judged OfService is = absurd is

  -- what is due for an input decides the end
  pub judged_ends : (door after : DoorState) (status : Status) (told : List ℕ) → IsDueForText Verify door after spelt text status told
      → (end : End) → IsEndOfVerdict input end → IsUnlessStopped end status
  judged_ends door after (Refused clause why) told due = refused_judged clause why due.refused
  judged_ends door after Ended told due = verdict_judged door after Ended told due
  judged_ends door after WriteFault told due = verdict_judged door after WriteFault told due
  judged_ends door after Blocked told due = verdict_judged door after Blocked told due
  judged_ends door after No told due = verdict_judged door after No told due
  judged_ends door after ReadFault told due = verdict_judged door after ReadFault told due
  judged_ends door after NoMemory told due = verdict_judged door after NoMemory told due
  judged_ends door after Usage told due = verdict_judged door after Usage told due
  judged_ends door after NetFault told due = verdict_judged door after NetFault told due

-- an input that is too long is refused for that, and has no verdict
past_refused : (input : List ℕ) → 268435456 < length input → (end : End) → IsEndOfVerdict input end → IsUnlessStopped end (Refused 0 cause.Length)
past_refused input long (With (Refused clause why)) (inl past) = inl (ap₂ Refused (sym past.clause_is) (sym past.why_is))
past_refused input long (With (Refused clause why)) (inr has) = absurd (omega (arith, long, has.short))
past_refused input long (With Ended) has = absurd (omega (arith, long, has.short))
past_refused input long (With WriteFault) has = absurd (omega (arith, long, has.short))
past_refused input long (With Blocked) has = absurd (omega (arith, long, has.short))
past_refused input long (With No) has = absurd (omega (arith, long, has.short))
past_refused input long (With ReadFault) has = absurd (omega (arith, long, has.short))
past_refused input long (With NoMemory) has = absurd (omega (arith, long, has.short))
past_refused input long (With Usage) has = absurd (omega (arith, long, has.short))
past_refused input long (With NetFault) has = absurd (omega (arith, long, has.short))
past_refused input long OfRun is = absurd is
past_refused input long OfService is = absurd is

pub past_ends : (input : List ℕ) (status : Status) → 268435456 < length input → status ≡ Refused 0 cause.Length
    → (end : End) → IsEndOfVerdict input end → IsUnlessStopped end status
past_ends input status long is end must = subst (IsUnlessStopped end) (sym is) (past_refused input long end must)
