-- Texts of clauses, and what is wrong with the others.
use Rattle.std.specs.Prelude.{◌≡◌, ◌<◌, ◌≤◌, ◌⊎◌, ℕ, List, [], ◌∷◌}
use Rattle.std.specs.Prelude.{◌++◌, length}
use Rattle.tc_term.specs.Tree.{Tree}
use Rattle.tc_read.specs.Clauses.{HasFaultyClause, Language, LeadsToEnd}
use Rattle.tc_read.specs.declared.clauses.Unread.{Unread}
use Rattle.tc_read.specs.declared.clauses.Unread.TheVariants as unread
use Rattle.tc_model.specs.Reactions.{Rule}
use Rattle.tc_model.specs.declared.faults.BadSpec.{BadSpec}
use Rattle.tc_model.specs.declared.faults.SpecCause.{SpecCause}
use Rattle.tc_model.specs.declared.faults.SpecCause.TheVariants as cause
use Rattle.tc_model.specs.declared.limits.TheConstants.{MOST_CLAUSES, MOST_GOALS}
use Rattle.tc_spec.specs.Written.{IsCausedBy, IsWrittenAs, SpellsRule}

-- behind these rules the clause is written as one more, and there is room for it in a centre
pub record IsNextRule (rules : List Rule) (t : Tree) (more : List Rule) : Type 0 where
  pub rule : Rule
  pub written : IsWrittenAs t rule
  pub room : length rules < MOST_CLAUSES
  pub added : more ≡ rules ++ rule ∷ []

-- the rule has too many goals, or as many clauses stand before it as a centre may have
abbrev pub IsTooMuch : ℕ → Rule → Type 0
IsTooMuch count r = (MOST_GOALS < length r.goals) ⊎ (MOST_CLAUSES ≤ count)

-- the first cause for which a clause behind so many others is refused, in the order of shape, head,
-- goal, count, size
abbrev pub IsClauseRefused : ℕ → Tree → SpecCause → Type 0
IsClauseRefused count t cause.Count = (r : Rule) × SpellsRule t r × IsTooMuch count r
IsClauseRefused count t cause.Size = (count < MOST_CLAUSES) × IsCausedBy t cause.Size
IsClauseRefused count t why = IsCausedBy t why

-- the cause where the reader finds no clause
abbrev pub cause_unread : Unread → SpecCause
cause_unread unread.Syntax = cause.Syntax
cause_unread unread.Size = cause.Size

-- clauses as the rules of a centre
abbrev pub rules_language : Language (List Rule) SpecCause
rules_language = record {
  leads = IsNextRule;
  refuses = λ rules. IsClauseRefused (length rules);
  unread = cause_unread;
}

-- the text is clauses of these rules and nothing else, few enough for a centre
abbrev pub IsSpelt : List ℕ → List Rule → Type 0
IsSpelt text rules = LeadsToEnd rules_language text [] rules

-- the first faulty clause of the text, behind good ones, and its first cause
abbrev pub HasBadSpec : List ℕ → BadSpec → Type 0
HasBadSpec text bad = HasFaultyClause rules_language text [] bad.clause bad.cause
