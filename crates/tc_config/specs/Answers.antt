-- What is answered for a text that is to be a configuration.
use Rattle.std.specs.Prelude.{◌≡◌, ◌+◌, ℕ, false, List}
use Rattle.tc_term.specs.Tree.{Tree, is_ground}
use Rattle.tc_read.specs.Clauses.{IsFaultyAt}
use Rattle.tc_config.specs.Causes.{IsFirstCause, IsFirstFault, IsNoReaction}
use Rattle.tc_config.specs.Configurations.{Configuration}
use Rattle.tc_config.specs.Texts.{IsRefused, config_language}
use Rattle.tc_config.specs.declared.faults.ConfigCause.{ConfigCause}
use Rattle.tc_config.specs.declared.faults.ConfigCause.TheVariants as cause
use Rattle.tc_config.specs.declared.faults.ClauseFault.{ClauseFault}
use Rattle.tc_config.specs.declared.faults.ClauseFault.TheVariants as clause
use Rattle.tc_config.specs.declared.faults.ConfigFault.{ConfigFault}
use Rattle.tc_config.specs.declared.faults.ConfigFault.TheVariants.{Bad, NoMemory}
use Rattle.tc_config.specs.declared.forms.Form.{Form}

-- the fault is that of the text, or memory has run out
abbrev pub IsConfigFault : List ℕ → ConfigFault → Type 0
IsConfigFault text (Bad number why) = IsRefused text number why
IsConfigFault text NoMemory = Unit {0}

-- the fault is this one, or memory has run out
abbrev pub IsThisRefusal : ℕ → ConfigCause → ConfigFault → Type 0
IsThisRefusal number why (Bad other_number other) = (other_number ≡ number) × (other ≡ why)
IsThisRefusal number why NoMemory = Unit {0}

-- memory has run out
abbrev pub IsConfigWant : ConfigFault → Type 0
IsConfigWant (Bad number why) = ⊥
IsConfigWant NoMemory = Unit {0}

-- the fault is of what stands at this place behind so many clauses, or memory has run out
abbrev pub IsFaultAt : List ℕ → ℕ → ℕ → Configuration → ConfigFault → Type 0
IsFaultAt text from count c (Bad number why) =
    (number ≡ count + 1) × IsFaultyAt config_language text from c why
IsFaultAt text from count c NoMemory = Unit {0}

-- the fault is the first of a clause of this form, or memory has run out
abbrev pub IsClauseFault : Configuration → Form → ClauseFault → Type 0
IsClauseFault c x (clause.Bad why) = IsFirstFault c x why
IsClauseFault c x clause.NoMemory = Unit {0}

-- the fault is the first cause for which the clause of this term is refused, or memory has run out
abbrev pub IsTermFault : Configuration → Tree → ClauseFault → Type 0
IsTermFault c t (clause.Bad why) = IsFirstCause c t why
IsTermFault c t clause.NoMemory = Unit {0}

-- the term has a variable
abbrev pub IsTupleFault : Tree → ClauseFault → Type 0
IsTupleFault t (clause.Bad why) = (why ≡ cause.NotGround) × (is_ground t ≡ false)
IsTupleFault t clause.NoMemory = ⊥

-- the term is no reaction, or memory has run out
abbrev pub IsReactionFault : Tree → ClauseFault → Type 0
IsReactionFault t (clause.Bad why) = (why ≡ cause.Reaction) × IsNoReaction t
IsReactionFault t clause.NoMemory = Unit {0}
