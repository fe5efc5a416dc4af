-- What is answered for a text that is to be clauses.
use Rattle.std.specs.Prelude.{◌≡◌, ◌+◌, ℕ, List}
use Rattle.tc_term.specs.Faults.{Found}
use Rattle.tc_term.specs.Tree.{Tree}
use Rattle.tc_read.specs.Clauses.{AnswersAt, IsFaultyBy}
use Rattle.tc_model.specs.Reactions.{Rule}
use Rattle.tc_model.specs.declared.faults.BadSpec.{BadSpec}
use Rattle.tc_spec.specs.Texts.{HasBadSpec, IsClauseRefused, cause_unread}
use Rattle.tc_spec.specs.Written.{IsWrittenAs}
use Rattle.tc_spec.specs.declared.faults.SpecFault.{SpecFault}
use Rattle.tc_spec.specs.declared.faults.SpecFault.TheVariants.{Bad, NoMemory}

-- the fault is that of the text, or memory has run out
abbrev pub IsTextFault : List ℕ → SpecFault → Type 0
IsTextFault text (Bad bad) = HasBadSpec text bad
IsTextFault text NoMemory = Unit {0}

-- the fault is this one, or memory has run out
abbrev pub IsThisBad : BadSpec → SpecFault → Type 0
IsThisBad bad (Bad other) = other ≡ bad
IsThisBad bad NoMemory = Unit {0}

-- memory has run out
abbrev pub IsTextWant : SpecFault → Type 0
IsTextWant (Bad bad) = ⊥
IsTextWant NoMemory = Unit {0}

-- a clause stands in the text from one place to another, and is written as this rule
pub record IsClauseAt (text : List ℕ) (from : ℕ) (r : Rule) (behind : ℕ) : Type 0 where
  pub term : Tree
  pub found : AnswersAt text from (Found term behind)
  pub written : IsWrittenAs term r

-- the fault is of what stands at this place behind so many clauses, or memory has run out
abbrev pub IsFaultAt : List ℕ → ℕ → ℕ → SpecFault → Type 0
IsFaultAt text from count (Bad bad) =
    (bad.clause ≡ count + 1)
    × IsFaultyBy cause_unread (IsClauseRefused count) text from bad.cause
IsFaultAt text from count NoMemory = Unit {0}

-- the fault is of this clause behind so many others, or memory has run out
abbrev pub IsFaultOfClause : ℕ → Tree → SpecFault → Type 0
IsFaultOfClause count t (Bad bad) = (bad.clause ≡ count + 1) × IsClauseRefused count t bad.cause
IsFaultOfClause count t NoMemory = Unit {0}
