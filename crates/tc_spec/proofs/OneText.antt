-- A text spells one list of clauses or has one first fault, and not both.
use Rattle.std.proofs.Common.{◌≡◌, ◌<◌, ◌≤◌, ◌⊎◌, ℕ, List, [], ◌∷◌, ◌++◌, Result, Ok, Err, IfOk, IfErr, length, inl, inr, refl, ap, ap₂, sym, ◌∙◌, arith}
use Rattle.tc_term.specs.Tree.{Tree}
use Rattle.tc_read.specs.Clauses.{IsExact}
use Rattle.tc_read.proofs.OneEnd.{end_or_fault, one_first_fault, one_last_state}
use Rattle.tc_model.specs.Reactions.{Rule}
use Rattle.tc_model.specs.declared.faults.BadSpec.{BadSpec}
use Rattle.tc_model.specs.declared.faults.SpecCause.{SpecCause}
use Rattle.tc_model.specs.declared.faults.SpecCause.TheVariants as cause
use Rattle.tc_model.specs.declared.limits.TheConstants.{MOST_CLAUSES}
use Rattle.tc_spec.proofs.Decoding.{one_rule}
use Rattle.tc_spec.proofs.Exact.{excluded, same_cause, shape_spells, head_spells, goal_spells}
use Rattle.tc_spec.specs.TextAnswers.{IsTextFault, IsTextWant, IsThisBad}
use Rattle.tc_spec.specs.Texts.{HasBadSpec, IsClauseRefused, IsSpelt, rules_language}
use Rattle.tc_spec.specs.Written.{IsCausedBy, SpellsRule}
use Rattle.tc_spec.specs.declared.faults.SpecFault.{SpecFault}
use Rattle.tc_spec.specs.declared.faults.SpecFault.TheVariants.{Bad, NoMemory}

-- while there is room for the clause, what refuses it is its own cause
own_cause : (count : ℕ) (t : Tree) (why : SpecCause) → count < MOST_CLAUSES → IsClauseRefused count t why → IsCausedBy t why
own_cause count t cause.Count room (r, spells, inl many) = (r, spells, many)
own_cause count t cause.Count room (r, spells, inr full) = absurd (omega (arith, room, full))
own_cause count t cause.Size room h = h.1
own_cause count t cause.Syntax room h = h
own_cause count t cause.Shape room h = h
own_cause count t cause.Head room h = h
own_cause count t cause.Goal room h = h

-- where there is none, a clause that spells a rule is one too many
one_too_many : (count : ℕ) (t : Tree) (r : Rule) (why : SpecCause) → SpellsRule t r → MOST_CLAUSES ≤ count → IsClauseRefused count t why
    → why ≡ cause.Count
one_too_many count t r cause.Count spells full h = refl
one_too_many count t r cause.Size spells full h = absurd (omega (arith, h.0, full))
one_too_many count t r cause.Syntax spells full h = absurd h
one_too_many count t r cause.Shape spells full h = absurd (shape_spells t r spells h)
one_too_many count t r cause.Head spells full h = absurd (head_spells t r spells h)
one_too_many count t r cause.Goal spells full h = absurd (goal_spells t r spells h)

-- a clause is refused for its own cause, or is one too many
by_cause : (count : ℕ) (t : Tree) (why : SpecCause) → IsClauseRefused count t why
    → IsCausedBy t why ⊎ ((r : Rule) × SpellsRule t r × (MOST_CLAUSES ≤ count))
by_cause count t cause.Count (r, spells, inl many) = inl (r, spells, many)
by_cause count t cause.Count (r, spells, inr full) = inr (r, spells, full)
by_cause count t cause.Size h = inl h.1
by_cause count t cause.Syntax h = inl h
by_cause count t cause.Shape h = inl h
by_cause count t cause.Head h = inl h
by_cause count t cause.Goal h = inl h

same_refusal : (count : ℕ) (t : Tree) (c d : SpecCause) → IsClauseRefused count t c → IsClauseRefused count t d → c ≡ d
same_refusal count t c d h k = by (by_cause count t c h) (by_cause count t d k)
  where
    by : IsCausedBy t c ⊎ ((r : Rule) × SpellsRule t r × (MOST_CLAUSES ≤ count))
        → IsCausedBy t d ⊎ ((r : Rule) × SpellsRule t r × (MOST_CLAUSES ≤ count)) → c ≡ d
    by (inl own) (inl other) = same_cause t c d own other
    by (inr (r, spells, full)) y =
        one_too_many count t r c spells full h ∙ sym (one_too_many count t r d spells full k)
    by x (inr (r, spells, full)) =
        one_too_many count t r c spells full h ∙ sym (one_too_many count t r d spells full k)

-- a clause is one rule more or has one cause, and not both
pub rules_exact : IsExact rules_language
rules_exact = record {
  one_state = λ rules t a b x y.
      x.added ∙ ap (λ r. rules ++ r ∷ []) (one_rule t x.rule y.rule x.written y.written) ∙ sym y.added;
  one_cause = λ rules. same_refusal (length rules);
  not_both = λ rules t a why x h. excluded t x.rule why x.written (own_cause (length rules) t why x.room h);
}

pub one_text : (text : List ℕ) (rs qs : List Rule) → IsSpelt text rs → IsSpelt text qs → rs ≡ qs
one_text text rs qs x y = one_last_state rules_language rules_exact text [] rs qs x y

pub clauses_or_fault : (text : List ℕ) (rs : List Rule) (bad : BadSpec) → IsSpelt text rs → HasBadSpec text bad → ⊥
clauses_or_fault text rs bad x y = end_or_fault rules_language rules_exact text [] rs bad.clause bad.cause x y

abbrev bad_spec : ℕ → SpecCause → BadSpec
bad_spec clause cause = record { clause = clause; cause = cause }

same_parts : (b c : BadSpec) → b.clause ≡ c.clause → b.cause ≡ c.cause → b ≡ c
same_parts b c clause cause = ap₂ bad_spec clause cause

pub one_fault : (text : List ℕ) (b c : BadSpec) → HasBadSpec text b → HasBadSpec text c → b ≡ c
one_fault text b c x y =
    let same = one_first_fault rules_language rules_exact text [] b.clause c.clause b.cause c.cause x y in
    same_parts b c same.0 same.1

-- so each answer comes where it is due
pub spelt_by : (text : List ℕ) (x : Result (List Rule) SpecFault) → IfErr x (IsTextFault text)
    → (rs : List Rule) → IsSpelt text rs → IfErr x IsTextWant
spelt_by text (Ok qs) told rs h = tt
spelt_by text (Err (Bad bad)) told rs h = clauses_or_fault text rs bad h told
spelt_by text (Err NoMemory) told rs h = tt

pub same_by : (text : List ℕ) (x : Result (List Rule) SpecFault) → IfOk x (IsSpelt text)
    → (rs : List Rule) → IsSpelt text rs → IfOk x (λ qs. qs ≡ rs)
same_by text (Ok qs) spelt rs h = one_text text qs rs spelt h
same_by text (Err fault) spelt rs h = tt

pub refused_by : (text : List ℕ) (x : Result (List Rule) SpecFault) → IfOk x (IsSpelt text)
    → (bad : BadSpec) → HasBadSpec text bad → IfOk x (λ (qs : List Rule). ⊥)
refused_by text (Ok qs) spelt bad h = clauses_or_fault text qs bad spelt h
refused_by text (Err fault) spelt bad h = tt

pub first_by : (text : List ℕ) (x : Result (List Rule) SpecFault) → IfErr x (IsTextFault text)
    → (bad : BadSpec) → HasBadSpec text bad → IfErr x (IsThisBad bad)
first_by text (Ok qs) told bad h = tt
first_by text (Err (Bad other)) told bad h = one_fault text other bad told h
first_by text (Err NoMemory) told bad h = tt
