-- What is told of a run, from what was handed on of its text.
use Rattle.std.proofs.Common.{◌≡◌, ◌∙◌, ℕ, List, [], Result, Ok, Err, length, refl, sym, ap, subst, arith}
use Rattle.std.proofs.lemmas.Bool.{false_from_ne_true}
use Rattle.std.proofs.lemmas.List.{take_all}
use Rattle.tc_io.specs.Sinks.{SinkState, appended}
use Rattle.tc_io.specs.declared.sinks.SinkFault.{SinkFault}
use Rattle.tc_io.specs.declared.sinks.SinkFault.TheVariants as fault
use Rattle.tc_io.specs.Flow.{Flow, HandsOn}
use Rattle.tc_io.proofs.Flows.{all_handed, appended-nil, front_taken}
use Rattle.tucson.specs.Ending.{IsFault, Writes}
use Rattle.tucson.specs.declared.status.Status.{Status}
use Rattle.tucson.specs.declared.status.Status.TheVariants.{Ended, WriteFault, Refused, Blocked, No, ReadFault, NoMemory, Usage, NetFault}

-- a sink, and what is kept
abbrev with_kept : SinkState → List ℕ → Flow
with_kept s kept = record { sink = s; kept = kept }

-- a text that was handed on by a sink for which nothing was kept
from_none : (text : List ℕ) (old new : SinkState) (kept_old kept : List ℕ) (result told : Result (Unit {0}) SinkFault) → kept_old ≡ []
    → result ≡ told → HandsOn text (with_kept old kept_old) (with_kept new kept) result → HandsOn text (with_kept old []) (with_kept new kept) told
from_none text old new kept_old kept result told none is handed =
    subst (λ k. HandsOn text (with_kept old k) (with_kept new kept) told) none
    (subst (HandsOn text (with_kept old kept_old) (with_kept new kept)) is handed)

-- a text that was taken whole is written
pub writes_whole : (status : Status) (text : List ℕ) (old new : SinkState) → (IsFault status → ⊥) → new.taken ≡ appended old.taken text
    → Writes status text old new status
writes_whole Ended text old new sure taken = (refl, taken)
writes_whole Blocked text old new sure taken = (refl, taken)
writes_whole No text old new sure taken = (refl, taken)
writes_whole (Refused clause why) text old new sure taken = (refl, taken)
writes_whole Usage text old new sure taken = (refl, taken)
writes_whole NetFault text old new sure taken = (refl, taken)
writes_whole NoMemory text old new sure taken =
    (length text, omega arith, taken ∙ ap (appended old.taken) (sym (take_all (length text) text (omega arith))))
writes_whole WriteFault text old new sure taken = absurd (sure tt)
writes_whole ReadFault text old new sure taken = absurd (sure tt)

module _ (text : List ℕ) (old new : SinkState) (kept_old kept : List ℕ) (result : Result (Unit {0}) SinkFault) (none : kept_old ≡ [])
    (handed : HandsOn text (with_kept old kept_old) (with_kept new kept) result) where
  pub told_whole : (status : Status) → (IsFault status → ⊥) → kept ≡ [] → result ≡ Ok tt → Writes status text old new status
  told_whole status sure none_left done =
      let whole = from_none text old new kept_old kept result (Ok tt) none done handed in
      writes_whole status text old new sure
      (sym (appended-nil new.taken) ∙ ap (appended new.taken) (sym none_left) ∙ all_handed text (with_kept old []) (with_kept new kept) whole ∙ ap (λ t. appended t text) (appended-nil old.taken))

  pub told_failed : (status : Status) → result ≡ Err fault.Failed → Writes status text old new WriteFault
  told_failed status failed =
      let amid = from_none text old new kept_old kept result (Err fault.Failed) none failed handed in
      record {
        rises = amid.counted.failed refl;
        unsure = false_from_ne_true old.sure (λ sure. amid.sure sure refl);
        taken = front_taken text (with_kept old []) (with_kept new kept) (Err fault.Failed) amid;
      }

  pub told_memory : (status : Status) → result ≡ Err fault.NoMemory → Writes status text old new NoMemory
  told_memory status lacked =
      let amid = from_none text old new kept_old kept result (Err fault.NoMemory) none lacked handed in
      front_taken text (with_kept old []) (with_kept new kept) (Err fault.NoMemory) amid
