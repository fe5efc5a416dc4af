-- Texts of runs and of services, as the outcomes that are due.
use Rattle.std.proofs.Common.{◌≡◌, ◌⊎◌, ℕ, Bool, true, false, List, [], All, length, map, refl, sym, subst, inl, inr}
use Rattle.std.proofs.lemmas.List.{length-map}
use Rattle.tc_config.specs.Configurations.{Configuration}
use Rattle.tc_desk.specs.Logs.{is_blocked}
use Rattle.tc_desk.specs.Typed.{IsTypedRow}
use Rattle.tc_desk.specs.declared.rows.LogRow.{LogRow}
use Rattle.tc_io.specs.Faults.{CountRises}
use Rattle.tc_io.specs.Sinks.{SinkState}
use Rattle.tc_io.proofs.Flows.{appended-nil}
use Rattle.tc_model.specs.Typed.{IsTyped}
use Rattle.tc_model.specs.declared.entries.Entry.{Entry}
use Rattle.tc_visits.specs.Service.{DoorState, HaveSessions, IsServiceBy, MayUseDoor, UsesDoor}
use Rattle.tc_visits.specs.Sessions.{SessionState}
use Rattle.tucson.specs.Answer.{IsOutcomeOf, IsOutcomeOfService, IsTextOf}
use Rattle.tucson.specs.Ending.{IsFault, IsStopped, WritesDue, Writes}
use Rattle.tucson.specs.Status.{status_of_run, status_of_service}
use Rattle.tucson.specs.Texts.{whole_text}
use Rattle.tucson.specs.declared.status.Status.{Status}
use Rattle.tucson.specs.declared.status.Status.TheVariants.{Ended, WriteFault, Refused, Blocked, No, ReadFault, NoMemory, Usage, NetFault}

abbrev Hists : Type 0
Hists = List (List Entry)

abbrev Logs : Type 0
Logs = List (List LogRow)

-- a status and a text that are due, and that text written
pub due_written : (due : Status → List ℕ → Type 0) (status : Status) (text : List ℕ) (sink after : SinkState) (result : Status) → due status text
    → Writes status text sink after result → WritesDue due sink after result
due_written due status text sink after result is wrote = inl (record { status = status; text = text; is = is; writes = wrote })

-- no status of a run is a fault
pub run_sure : (blocked : Bool) → IsFault (status_of_run blocked) → ⊥
run_sure true is = is
run_sure false is = is

-- a text of a run is its outcome
pub run_outcome : (Are : Hists → Logs → Type 0) (text_of : Hists → Logs → List ℕ) (blocked : Bool) (text : List ℕ)
    → IsTextOf Are text_of blocked text → IsOutcomeOf Are text_of (status_of_run blocked) text
run_outcome Are text_of true text is = is
run_outcome Are text_of false text is = is

-- the text of such histories and logs
pub text_of_these : (Are : Hists → Logs → Type 0) (text_of : Hists → Logs → List ℕ) (histories : Hists) (logs : Logs) → Are histories logs
    → All (All IsTyped) histories → All (All IsTypedRow) logs → IsTextOf Are text_of (is_blocked logs) (text_of histories logs)
text_of_these Are text_of histories logs are typed typed_logs =
    record { histories = histories; logs = logs; are = are; typed = typed; typed_logs = typed_logs; end = refl; is = refl }

-- no status of a service is a fault of writing or of reading
pub service_sure : (all enough blocked : Bool) → IsFault (status_of_service all enough blocked) → ⊥
service_sure all false blocked is = is
service_sure false true blocked is = is
service_sure true true blocked is = run_sure blocked is

-- a text of a service is its outcome
pub service_outcome : (door after : DoorState) (c : Configuration) (all enough blocked : Bool) (text : List ℕ)
    → IsTextOf (IsServiceBy door after all enough c) (whole_text c) blocked text
    → IsOutcomeOfService door after c (status_of_service all enough blocked) text
service_outcome door after c all false blocked text is = (all, blocked, is)
service_outcome door after c false true blocked text is = inr (blocked, is)
service_outcome door after c true true true text is = is
service_outcome door after c true true false text is = is

-- where the door can't listen, nothing is written
pub listen_fails : (door after : DoorState) (c : Configuration) (sink : SinkState) → CountRises door.faults after.faults
    → after.opened ≡ door.opened → WritesDue (IsOutcomeOfService door after c) sink sink NetFault
listen_fails door after c sink rises same =
    due_written (IsOutcomeOfService door after c) NetFault [] sink sink NetFault
    (inl (record { rises = rises; same = same; nothing = refl })) (refl, sym (appended-nil sink.taken))

-- a service has used the door for its agents
pub service_used : (door after : DoorState) (c : Configuration) (all enough : Bool) (histories : Hists) (logs : Logs)
    → IsServiceBy door after all enough c histories logs → UsesDoor (length c.agents) door after
service_used door after c all enough histories logs is = record {
  connections = map (λ (s : SessionState). s.connection) is.sessions;
  opened = is.opened;
  all = all;
  all_are = subst (λ n. HaveSessions all n (length c.agents) door after) (sym (length-map is.sessions (λ (s : SessionState). s.connection))) is.all_are;
}

-- a door that was used after it has listened
pub listened_use : (agents : ℕ) (door listened after : DoorState) → listened.opened ≡ door.opened → listened.faults ≡ door.faults
    → MayUseDoor agents listened after → MayUseDoor agents door after
listened_use agents door listened after opened faults uses =
    let same : listened ≡ door = λ i. record { opened = opened i; faults = faults i } in
    subst (λ (d : DoorState). MayUseDoor agents d after) same uses

-- no call of the door has failed, unless that is told
abbrev pub Nets : DoorState → DoorState → Status → Type 0
Nets door after status = (status ≡ NetFault → ⊥) → IsStopped status ⊎ (after.faults ≡ door.faults)

of_status : (door after : DoorState) (c : Configuration) (status same : Status) (text : List ℕ) → same ≡ status
    → IsOutcomeOfService door after c status text → IsOutcomeOfService door after c same text
of_status door after c status same text is outcome = subst (λ s. IsOutcomeOfService door after c s text) (sym is) outcome

told_nets : (door after : DoorState) (c : Configuration) (sink sink_after : SinkState) (status result : Status) (text : List ℕ)
    → IsOutcomeOfService door after c status text → Writes status text sink sink_after result → Nets door after result
told_nets door after c sink sink_after status Ended text is wrote =
    let ended = of_status door after c status Ended text wrote.0 is in λ other. inr (ended.are.all_are.1)
told_nets door after c sink sink_after status Blocked text is wrote =
    let blocked = of_status door after c status Blocked text wrote.0 is in λ other. inr (blocked.are.all_are.1)
told_nets door after c sink sink_after status (Refused clause why) text is wrote =
    absurd (of_status door after c status (Refused clause why) text wrote.0 is)
told_nets door after c sink sink_after status No text is wrote = absurd (of_status door after c status No text wrote.0 is)
told_nets door after c sink sink_after status Usage text is wrote = absurd (of_status door after c status Usage text wrote.0 is)
told_nets door after c sink sink_after status NetFault text is wrote = λ other. absurd (other refl)
told_nets door after c sink sink_after status WriteFault text is wrote = λ other. inl tt
told_nets door after c sink sink_after status ReadFault text is wrote = λ other. inl tt
told_nets door after c sink sink_after status NoMemory text is wrote = λ other. inl tt

-- what is told of a service tells whether a call of the door has failed
pub service_nets : (door after : DoorState) (c : Configuration) (sink sink_after : SinkState) (status : Status)
    → WritesDue (IsOutcomeOfService door after c) sink sink_after status → Nets door after status
service_nets door after c sink sink_after status (inl told) =
    told_nets door after c sink sink_after told.status status told.text told.is told.writes
service_nets door after c sink sink_after status (inr none) = λ other. inl (subst IsStopped (sym none.0) tt)
