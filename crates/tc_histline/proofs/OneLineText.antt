-- Lines that have one text are one.
use Rattle.std.proofs.Common.{◌≡◌, ◌≢◌, ◌⊎◌, inl, inr, ℕ, List, [], ◌++◌, Some, None, AllPairs, sym, ap, ◌∙◌}
use Rattle.std.proofs.lemmas.Option.{none-some, some_pair_parts}
use Rattle.tc_model.specs.Reactions.{AreClauses, Rule, clauses_text}
use Rattle.tc_model.specs.declared.calls.CallId.{CallId}
use Rattle.tc_model.specs.declared.calls.Op.TheVariants.{SetSpec}
use Rattle.tc_model.specs.declared.entries.Entry.TheVariants.{Called}
use Rattle.tc_model.specs.declared.outcomes.Outcome.{Outcome}
use Rattle.tc_histline.specs.Lines.{HasLine, line_text}
use Rattle.tc_histline.specs.WrittenLines.{as_written, line_at}
use Rattle.tc_histline.specs.declared.lines.Line.{Line}
use Rattle.tc_histline.specs.declared.lines.Line.TheVariants as line
use Rattle.tc_histline.specs.declared.lines.WrittenLine.{WrittenLine}
use Rattle.tc_histline.specs.declared.lines.WrittenLine.TheVariants.{Plain, Replacing}
use Rattle.tc_histline.specs.declared.versions.Version.{Version}
use Rattle.tc_histline.proofs.ClauseTexts.{clauses_text-one}
use Rattle.tc_histline.proofs.ReadLines.{Replaces, line-written, line_at-again}

abbrev Parts : Type 0
Parts = CallId × List ℕ × Outcome

-- the line that is written as it is, and the parts of another, or else these
abbrev plain_of : Line → WrittenLine → Line
plain_of l (Plain m) = m
plain_of l (Replacing id text r) = l

abbrev parts_of : Parts → WrittenLine → Parts
parts_of parts (Plain m) = parts
parts_of parts (Replacing id text r) = (id, text, r)

plain-apart : (l : Line) (id : CallId) (text : List ℕ) (r : Outcome) → Plain l ≡ Replacing id text r → ⊥
plain-apart l id text r same = cc

module _ (v : Version) (agents : List (List ℕ)) where
  replacing : (l : Line) (r : Replaces v agents l) → as_written l ≡ Replacing r.id (clauses_text r.clauses) r.result
  replacing l r = ap as_written r.is

  form-one : (l m : Line) → (as_written l ≡ Plain l) ⊎ Replaces v agents l → (as_written m ≡ Plain m) ⊎ Replaces v agents m → as_written l ≡ as_written m → l ≡ m
  form-one l m (inl p) (inl q) same = ap (plain_of l) (sym p ∙ (same ∙ q))
  form-one l m (inl p) (inr q) same = absurd (plain-apart l q.id (clauses_text q.clauses) q.result (sym p ∙ (same ∙ replacing m q)))
  form-one l m (inr p) (inl q) same = absurd (plain-apart m p.id (clauses_text p.clauses) p.result (sym q ∙ (sym same ∙ replacing l p)))
  form-one l m (inr p) (inr q) same =
      let parts = ap (parts_of (p.id, clauses_text p.clauses, p.result)) (sym (replacing l p) ∙ (same ∙ replacing m q)) in
      let clauses : p.clauses ≡ q.clauses = clauses_text-one p.clauses q.clauses p.are q.are (ap (λ x. x.1) parts) in
      p.is
      ∙ (ap (λ i. line.Entry (Called i (SetSpec p.clauses) p.result [])) (ap (λ x. x.0) parts)
      ∙ (ap (λ cs. line.Entry (Called q.id (SetSpec cs) p.result [])) clauses
      ∙ (ap (λ r. line.Entry (Called q.id (SetSpec q.clauses) r [])) (ap (λ x. x.2) parts) ∙ sym q.is)))

  module _ (differ : AllPairs ◌≢◌ agents) where
    -- a line is read again as it is written
    pub line-again : (l : Line) (rest : List ℕ) → HasLine v agents l → line_at v agents (line_text v agents l ++ rest) ≡ Some (as_written l, rest)
    line-again l rest is =
        let w = line-written v agents l is in
        ap (λ text. line_at v agents (text ++ rest)) (sym w.text) ∙ line_at-again v agents differ (as_written l) rest w.has

    pub line-one : (l m : Line) (rest more : List ℕ) → HasLine v agents l → HasLine v agents m → line_text v agents l ++ rest ≡ line_text v agents m ++ more
        → (l ≡ m) × (rest ≡ more)
    line-one l m rest more is other same =
        let both = some_pair_parts (as_written l) (as_written m) rest more
        (sym (line-again l rest is) ∙ (ap (line_at v agents) same ∙ line-again m more other)) in
        (form-one l m (line-written v agents l is).form (line-written v agents m other).form both.0, both.1)

    -- where none is read, none stands
    pub none-stands : (bytes : List ℕ) → line_at v agents bytes ≡ None → (l : Line) (rest : List ℕ) → HasLine v agents l
        → bytes ≡ line_text v agents l ++ rest → ⊥
    none-stands bytes none l rest is same =
        none-some (as_written l, rest) (sym none ∙ (ap (line_at v agents) same ∙ line-again l rest is))

    -- and none where a text of no clauses is read
    pub no_clauses-stands : (bytes : List ℕ) (id : CallId) (text : List ℕ) (r : Outcome) (more : List ℕ) → line_at v agents bytes ≡ Some (Replacing id text r, more)
        → ((cs : List Rule) → AreClauses cs → clauses_text cs ≡ text → ⊥) → (l : Line) (rest : List ℕ) → HasLine v agents l
        → bytes ≡ line_text v agents l ++ rest → ⊥
    no_clauses-stands bytes id text r more found none l rest is same = by (line-written v agents l is).form
      where
        written : as_written l ≡ Replacing id text r
        written = (some_pair_parts (as_written l) (Replacing id text r) rest more (sym (line-again l rest is) ∙ (ap (line_at v agents) (sym same) ∙ found))).0

        by : (as_written l ≡ Plain l) ⊎ Replaces v agents l → ⊥
        by (inl p) = plain-apart l id text r (sym p ∙ written)
        by (inr q) = none q.clauses q.are (ap (λ x. x.1) (ap (parts_of (q.id, clauses_text q.clauses, q.result)) (sym (replacing l q) ∙ written)))
