-- What is answered for a term that is to be a reaction.
use Rattle.std.specs.Prelude.{◌≡◌}
use Rattle.tc_term.specs.Tree.{Tree}
use Rattle.tc_model.specs.declared.faults.SpecCause.{SpecCause}
use Rattle.tc_spec.specs.Written.{IsCausedBy}
use Rattle.tc_spec.specs.declared.faults.ReactionFault.{ReactionFault}
use Rattle.tc_spec.specs.declared.faults.ReactionFault.TheVariants as fault

-- the fault is a cause for which the term is no reaction, or memory has run out
abbrev pub IsReactionFault : Tree → ReactionFault → Type 0
IsReactionFault t (fault.Bad why) = IsCausedBy t why
IsReactionFault t fault.NoMemory = Unit {0}

-- the fault is this cause, or memory has run out
abbrev pub IsThisCause : SpecCause → ReactionFault → Type 0
IsThisCause why (fault.Bad other) = other ≡ why
IsThisCause why fault.NoMemory = Unit {0}

-- memory has run out
abbrev pub IsReactionWant : ReactionFault → Type 0
IsReactionWant (fault.Bad why) = ⊥
IsReactionWant fault.NoMemory = Unit {0}
