-- Why a call has no configuration, by what was wrong with its input.
use Rattle.std.proofs.Common.{◌≡◌, ◌∙◌, ◌+◌, ℕ, true, List, [], Option, None, Some, Result, Ok, Err, IfErr, refl, ap, sym, subst, arith, append-nil}
use Rattle.std.proofs.lemmas.Bool.{false_from_ne_true}
use Rattle.std.specs.Result.{IsErrAnd, IsErrOf}
use Rattle.tc_io.specs.Faults.{Counts}
use Rattle.tc_io.specs.Sources.{ReadsAll, ReadsPast, ReadsSome, SourceState}
use Rattle.tc_io.proofs.Inputs.{ReadsBytes-count}
use Rattle.tc_io.specs.declared.whole.InputFault.{InputFault}
use Rattle.tc_io.specs.declared.whole.InputFault.TheVariants as input
use Rattle.tucson.specs.Answer.{TooLong, Whole}
use Rattle.tucson.specs.Reading.{IsStopFor, Refusing, StopsReading, stop_of_input}
use Rattle.tucson.specs.declared.reading.Stop.{Stop}
use Rattle.tucson.specs.declared.reading.Stop.TheVariants.{Refused, ReadFault, NoMemory}

-- who reads the whole input takes no more than it may have
pub all_some : (left rest : Option (List ℕ)) (most : ℕ) (text : List ℕ) → ReadsAll left rest most text → ReadsSome left rest (most + 1)
all_some None rest most text read = read.1
all_some (Some left) rest most text read =
    ReadsBytes-count (Some left) rest (most + 1) text ([], read.1 ∙ sym (append-nil text), read.2) (omega (arith, read.0))

module _ (most : ℕ) (IsRefused : Refusing) (source after : SourceState) where
  -- the input couldn't be read
  pub failed_stops : {X : Type 0} (r : Result X InputFault) (fault : InputFault) → r ≡ Err fault
      → (IsErrOf r input.TooLong → ReadsPast source.left after.left most) → (source.sure ≡ true → IsErrOf r input.Failed → ⊥)
      → StopsReading most IsRefused source after (stop_of_input fault)
  failed_stops r input.Failed is long sure = false_from_ne_true source.sure (λ so. sure so is)
  failed_stops r input.TooLong is long sure = (TooLong, long is, (refl, refl))
  failed_stops r input.NoMemory is long sure = tt

  -- the whole input is refused
  pub text_stops : {X : Type 0} (text : List ℕ) (r : Result X Stop) → ReadsAll source.left after.left most text
      → IfErr r (IsStopFor IsRefused text) → IfErr r (StopsReading most IsRefused source after)
  text_stops text (Ok x) read stops = tt
  text_stops text (Err (Refused clause why)) read stops = (Whole text, read, stops)
  text_stops text (Err ReadFault) read stops = absurd stops
  text_stops text (Err NoMemory) read stops = tt

-- a stop that is handed on
pub residual_stops : {X : Type 0} (P : Stop → Type 0) (why : Stop) (r : Result X Stop) → IsErrAnd r (λ s. s ≡ why) → P why → IfErr r P
residual_stops P why (Ok x) is holds = tt
residual_stops P why (Err s) is holds = subst P (sym is) holds

-- a stop is told with each fault of reading
pub stop_counts : {X : Type 0} (old new : ℕ) (r : Result X Stop) (why : Stop) → r ≡ Err why → Counts (IsErrOf r ReadFault) old new
    → Counts (why ≡ ReadFault) old new
stop_counts old new r why is counts = record {
  failed = λ same. counts.failed (is ∙ ap Err same);
  unfailed = λ other. counts.unfailed (λ failed. other (cc));
}
