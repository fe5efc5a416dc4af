-- How a call ends, from what it read and what it wrote.
use Rattle.std.proofs.Common.{◌≡◌, ◌⊎◌, ℕ, List, sym, subst, inl, inr}
use Rattle.tc_io.specs.Sinks.{appended}
use Rattle.tucson.specs.declared.status.Status.{Status}
use Rattle.tucson.specs.declared.status.Status.TheVariants.{Ended, WriteFault, Refused, Blocked, No, ReadFault, NoMemory, Usage, NetFault}
use Rattle.tucson.specs.Answer.{Input}
use Rattle.tucson.specs.Ending.{Call, EndsAsDue, Ends, IsDueTo, IsInputOf, Serves, WritesDue, Writes}

module _ (call : Call) where
  answers : (status same : Status) (input : Input) (text : List ℕ) → IsInputOf call input
      → IsDueTo call input status text → (same ≡ status) × (call.sink_after.taken ≡ appended call.sink.taken text) → EndsAsDue call same
  answers status same input text read due wrote = record {
    input = input;
    text = text;
    read = read;
    due = subst (λ (s : Status). IsDueTo call input s text) (sym wrote.0) due;
    taken = wrote.1;
  }

  -- the text that is due was written, or the writing was stopped
  pub Ends-written : (status result : Status) (input : Input) (text : List ℕ) → IsInputOf call input
      → IsDueTo call input status text → Writes status text call.sink call.sink_after result → Ends call result
  Ends-written status Ended input text read due wrote = answers status Ended input text read due wrote
  Ends-written status Blocked input text read due wrote = answers status Blocked input text read due wrote
  Ends-written status No input text read due wrote = answers status No input text read due wrote
  Ends-written status (Refused clause cause) input text read due wrote = answers status (Refused clause cause) input text read due wrote
  Ends-written status Usage input text read due wrote = answers status Usage input text read due wrote
  Ends-written status NetFault input text read due wrote = answers status NetFault input text read due wrote
  Ends-written status WriteFault input text read due wrote = record {
    rises = wrote.rises;
    unsure = wrote.unsure;
    begins = record { input = input; status = status; text = text; read = read; due = due; taken = wrote.taken };
  }
  Ends-written status ReadFault input text read due wrote = absurd wrote
  Ends-written status NoMemory input text read due wrote =
      inr (record { input = input; status = status; text = text; read = read; due = due; taken = wrote })

  -- how the door stands where memory ran out
  abbrev pub Leaves : Status → Type 0
  Leaves result = result ≡ NoMemory → (call.door_after ≡ call.door) ⊎ Serves call

  -- what is due was written, or the writing was stopped, or memory ran out before
  pub Ends-told : (due : Status → List ℕ → Type 0) (result : Status) (input : Input) → IsInputOf call input
      → ((status : Status) (text : List ℕ) → due status text → IsDueTo call input status text)
      → WritesDue due call.sink call.sink_after result → Leaves result → Ends call result
  Ends-told due result input read is_due (inl told) door =
      Ends-written told.status result input told.text read (is_due told.status told.text told.is) told.writes
  Ends-told due result input read is_due (inr none) door = subst (Ends call) (sym none.0) (inl (record { nothing = none.1; door = door none.0 }))
