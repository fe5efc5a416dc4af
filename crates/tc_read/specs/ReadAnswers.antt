-- What the reader answers, as the code has it.
use Rattle.std.specs.Prelude.{ℕ, Option, Some, None, Result, Ok, Err}
use Rattle.tc_term.specs.Faults as faults
use Rattle.tc_read.specs.declared.fault.ReadFault.{ReadFault}
use Rattle.tc_read.specs.declared.fault.ReadFault.TheVariants.{Syntax, WideInt, TooMany, TooBig}
use Rattle.tc_read.specs.declared.fault.ReadFault.TheVariants.{NoMemory}
use Rattle.tc_term.specs.declared.template.Pattern.{Pattern}

-- the place, or the end where there is none
abbrev pub place_by : Option ℕ → ℕ → ℕ
place_by (Some place) end = place
place_by None end = end

-- a fault with its place, but for want of memory, is this answer
abbrev pub IsFault : (faults.Answer → Type 0) → ReadFault → Type 0
IsFault P (Syntax place) = P (faults.Syntax place)
IsFault P (WideInt place) = P (faults.WideInt place)
IsFault P (TooMany place) = P (faults.TooMany place)
IsFault P (TooBig place) = P (faults.TooBig place)
IsFault P NoMemory = Unit {0}

-- the term that is found, or the fault, is this answer
abbrev pub IsTermAnswer : (faults.Answer → Type 0) → ℕ → Result Pattern ReadFault → Type 0
IsTermAnswer P behind (Ok pattern) = P (faults.Found pattern behind)
IsTermAnswer P behind (Err fault) = IsFault P fault

-- the term that is found with the place behind it, that nothing is left, or the fault, is this
-- answer
abbrev pub IsClauseAnswer :
    (faults.Answer → Type 0) → Result (Option (Pattern × ℕ)) ReadFault → Type 0
IsClauseAnswer P (Ok None) = P faults.Nothing
IsClauseAnswer P (Ok (Some found)) = P (faults.Found found.0 found.1)
IsClauseAnswer P (Err fault) = IsFault P fault
