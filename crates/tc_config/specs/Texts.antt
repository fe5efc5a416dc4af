-- Texts that spell configurations, and what is wrong with the others.
use Rattle.std.specs.Prelude.{◌≡◌, ◌<◌, ◌≤◌, ℕ, List, length}
use Rattle.tc_read.specs.Clauses.{HasFaultyClause, Language, LeadsToEnd}
use Rattle.tc_read.specs.declared.clauses.Unread.{Unread}
use Rattle.tc_read.specs.declared.clauses.Unread.TheVariants as unread
use Rattle.tc_config.specs.Causes.{IsFirstCause}
use Rattle.tc_config.specs.Configurations.{Configuration, nothing}
use Rattle.tc_config.specs.Meanings.{Means}
use Rattle.tc_config.specs.declared.faults.ConfigCause.{ConfigCause}
use Rattle.tc_config.specs.declared.faults.ConfigCause.TheVariants as cause
use Rattle.tc_config.specs.declared.limits.TheConstants.{MOST_BYTES}

-- the cause where the reader finds no clause
abbrev pub cause_unread : Unread → ConfigCause
cause_unread unread.Syntax = cause.Syntax
cause_unread unread.Size = cause.Size

-- clauses as what they set up behind one another
abbrev pub config_language : Language Configuration ConfigCause
config_language = record { leads = Means; refuses = IsFirstCause; unread = cause_unread }

-- the text isn't too long, it is clauses and nothing else, and this is what they set up
pub record Spells (text : List ℕ) (c : Configuration) : Type 0 where
  pub short : length text ≤ MOST_BYTES
  pub clauses : LeadsToEnd config_language text nothing c

-- the text isn't too long; this is its first faulty clause, counted from 1, and its first cause
pub record HasFault (text : List ℕ) (clause : ℕ) (why : ConfigCause) : Type 0 where
  pub short : length text ≤ MOST_BYTES
  pub faulty : HasFaultyClause config_language text nothing clause why

-- the clause and the cause for which the text is refused: its length, told of clause 0, or its
-- first faulty clause
abbrev pub IsRefused : List ℕ → ℕ → ConfigCause → Type 0
IsRefused text clause cause.Length = (clause ≡ 0) × (MOST_BYTES < length text)
IsRefused text clause why = HasFault text clause why
