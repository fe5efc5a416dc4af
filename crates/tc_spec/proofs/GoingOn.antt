-- Clauses that are read one behind another.
use Rattle.std.proofs.Common.{◌≡◌, ◌<◌, ◌≤◌, ◌+◌, ◌++◌, ℕ, List, [], ◌∷◌, length, length-append, ap, sym, subst, arith}
use Rattle.tc_term.specs.Faults.{Nothing}
use Rattle.tc_read.specs.Clauses.{AnswersAt}
use Rattle.tc_read.proofs.Onward as onward
use Rattle.tc_read.proofs.Onward.{IsReadTo}
use Rattle.tc_model.specs.Reactions.{Rule}
use Rattle.tc_model.specs.declared.limits.TheConstants.{MOST_CLAUSES}
use Rattle.tc_spec.specs.TextAnswers.{IsClauseAt, IsFaultAt, IsTextFault}
use Rattle.tc_spec.specs.Texts.{IsNextRule, IsSpelt, rules_language}
use Rattle.tc_spec.specs.declared.faults.SpecFault.{SpecFault}
use Rattle.tc_spec.specs.declared.faults.SpecFault.TheVariants.{Bad, NoMemory}

-- the text up to a place is these clauses, few enough for a centre
pub record AreReadTo (text : List ℕ) (from : ℕ) (rs : List Rule) : Type 0 where
  pub read : IsReadTo rules_language text [] from (length rs) rs
  pub few : length rs ≤ MOST_CLAUSES

pub read_none : (text : List ℕ) (rs : List Rule) → rs ≡ [] → AreReadTo text 0 rs
read_none text rs none = subst (AreReadTo text 0) (sym none)
    (record { read = onward.read_none rules_language text []; few = omega arith })

-- one clause more
pub read_more : (text : List ℕ) (from behind : ℕ) (rs new : List Rule) (r : Rule) → AreReadTo text from rs
    → IsClauseAt text from r behind → length rs < MOST_CLAUSES → from < behind → behind ≤ length text → new ≡ rs ++ r ∷ []
    → AreReadTo text behind new
read_more text from behind rs new r read at room further inside is =
    let grown : length new ≡ length rs + 1 = omega (arith, length-append rs (r ∷ []), ap length is) in
    let next : IsNextRule rs at.term new = record { rule = r; written = at.written; room = room; added = is } in
    record {
      read =
          subst (λ n. IsReadTo rules_language text [] behind n new) (sym grown)
          (onward.read_more rules_language text [] from (length rs) behind rs new at.term read.read at.found next further inside);
      few = omega (arith, room, grown);
    }

-- the whole text, and its first fault
pub read_all : (text : List ℕ) (from : ℕ) (rs : List Rule) → AreReadTo text from rs → AnswersAt text from Nothing → IsSpelt text rs
read_all text from rs read nothing = onward.read_all rules_language text [] from (length rs) rs read.read nothing

pub read_fault : (text : List ℕ) (from : ℕ) (rs : List Rule) (fault : SpecFault) → AreReadTo text from rs
    → IsFaultAt text from (length rs) fault → IsTextFault text fault
read_fault text from rs (Bad bad) read at =
    onward.read_fault rules_language text [] from (length rs) bad.clause rs bad.cause read.read at.0 at.1
read_fault text from rs NoMemory read at = tt
