-- Lines of entries: what is read stands there, and what is written is read again.
use Rattle.std.proofs.Common.{◌≡◌, ◌≢◌, ◌<◌, ◌≤◌, ◌-◌, ◌^◌, ℕ, Bool, true, false, nat_le, if◌then◌else◌, List, [], ◌∷◌, ◌++◌, codes, length, get_or, Option, Some, None, AllPairs, refl, sym, ap, subst, ◌∙◌, arith, append_assoc}
use Rattle.std.specs.Fmt.{decimal}
use Rattle.std.proofs.lemmas.Bool.{leb-true, le-leb}
use Rattle.tc_lists.specs.AtFront.{AlwaysTakes, Front, Takes, behind, closed_by}
use Rattle.tc_lists.specs.Decimals.{StartsWithNoDigit}
use Rattle.tc_lists.specs.Texts.{after}
use Rattle.tc_lists.proofs.AtFront.{and_then-again, closed_by-again, made-again, or_else-takes}
use Rattle.tc_term.specs.Text.{atom_text}
use Rattle.tc_read.proofs.Again.{NoWord}
use Rattle.tc_names.specs.Names.{place_of}
use Rattle.tc_names.proofs.Declared.{place-name, place-own, place-within}
use Rattle.tc_model.specs.Typed.{Is32, Is64}
use Rattle.tc_model.specs.declared.calls.CallId.{CallId}
use Rattle.tc_model.specs.declared.outcomes.Outcome.{Outcome}
use Rattle.tc_model.specs.declared.outcomes.Reply.{Reply}
use Rattle.tc_histline.specs.Entries.{agent_at, call_at, call_of, called, called_at, entry_at, gave, gave_at, if_agent, looked, looked_at, named}
use Rattle.tc_histline.specs.Operations.{IsWrittenIn, op_at, written_text}
use Rattle.tc_histline.specs.Outcomes.{IsOutcomeIn, IsToldIn, ended, ended_text, outcome_at, told_at}
use Rattle.tc_histline.specs.Rows.{count_at}
use Rattle.tc_histline.specs.Text.{call_text, items_text, op_text, outcome_text, told_text}
use Rattle.tc_histline.specs.Words.{atom_at}
use Rattle.tc_histline.specs.WrittenLines.{IsCallIn, IsLineWritten, written_line_text}
use Rattle.tc_histline.specs.declared.lines.Line.TheVariants as line
use Rattle.tc_histline.specs.declared.lines.WrittenLine.{WrittenLine}
use Rattle.tc_histline.specs.declared.lines.WrittenLine.TheVariants as written
use Rattle.tc_histline.specs.declared.read_operations.WrittenOp.{WrittenOp}
use Rattle.tc_histline.specs.declared.read_operations.WrittenOp.TheVariants as op
use Rattle.tc_histline.specs.declared.versions.Version.{Version}
use Rattle.tc_histline.proofs.Found.{and_then-some, behind-some, closed_by-stands, made-some, takes-from, takes-some}
use Rattle.tc_histline.proofs.ReadOperations.{op_at-again, op_at-takes}
use Rattle.tc_histline.proofs.ReadOutcomes.{ended-takes, outcome_at-again, outcome_at-takes, told_at-again, told_at-takes}
use Rattle.tc_histline.proofs.ReadRows.{count_at-again, count_at-takes}
use Rattle.tc_histline.proofs.ReadWords.{atom_at-again, atom_at-takes}
use Rattle.tc_histline.proofs.Repeated.{joined-before}

module _ (agents : List (List ℕ)) where
  -- agents

  abbrev IsAgent : ℕ → Type 0
  IsAgent i = Is32 i × (i < length agents)

  abbrev agent_text : ℕ → List ℕ
  agent_text i = atom_text (get_or agents i [])

  agent_at-takes : AlwaysTakes IsAgent agent_text (agent_at agents)
  agent_at-takes bytes = by (atom_at bytes) (atom_at-takes bytes)
    where
      tested : (name rest : List ℕ) (i : ℕ) (b : Bool) → nat_le i (2 ^ 32 - 1) ≡ b → place_of agents name ≡ Some i → bytes ≡ atom_text name ++ rest
          → Takes IsAgent agent_text bytes (if b then Some (i, rest) else None)
      tested name rest i true e place stands =
          let small : i ≤ 2 ^ 32 - 1 = leb-true i (2 ^ 32 - 1) e in
          let fits : Is32 i = omega (arith, small) in
          ((fits, place-within agents name i place), stands ∙ ap (λ n. atom_text n ++ rest) (sym (place-name agents name i place)))
      tested name rest i false e place stands = tt

      placed : (name rest : List ℕ) (found : Option ℕ) → place_of agents name ≡ found → bytes ≡ atom_text name ++ rest
          → Takes IsAgent agent_text bytes (if_agent rest found)
      placed name rest None e stands = tt
      placed name rest (Some i) e stands = tested name rest i (nat_le i (2 ^ 32 - 1)) refl e stands

      by : (found : Front (List ℕ)) → Takes (λ name. Unit {0}) atom_text bytes found → Takes IsAgent agent_text bytes (named agents found)
      by None takes = tt
      by (Some (name, rest)) takes = placed name rest (place_of agents name) refl takes.1

  agent_at-again : AllPairs ◌≢◌ agents → (i : ℕ) (rest : List ℕ) → IsAgent i → NoWord rest → agent_at agents (agent_text i ++ rest) ≡ Some (i, rest)
  agent_at-again differ i rest is ends =
      let small : i ≤ 2 ^ 32 - 1 = omega (arith, is.0) in
      ap (named agents) (atom_at-again (get_or agents i []) rest ends)
      ∙ (ap (if_agent rest) (place-own agents i differ is.1)
      ∙ ap (λ b. if b then Some (i, rest) else None) (le-leb i (2 ^ 32 - 1) small))

  -- calls

  abbrev call_parts : ℕ → ℕ → List (List ℕ)
  call_parts agent number = agent_text agent ∷ codes " " ∷ decimal number ∷ []

  call_at-some : (bytes : List ℕ) (id : CallId) (rest : List ℕ) → call_at agents bytes ≡ Some (id, rest)
      → IsCallIn agents id × (bytes ≡ call_text agents id ++ rest)
  call_at-some bytes id rest e =
      let a = and_then-some (closed_by (codes " ") (agent_at agents bytes)) _ id rest e in
      let agent = closed_by-stands IsAgent agent_text (codes " ") bytes (agent_at agents bytes) a.0 a.1 (agent_at-takes bytes) a.2 in
      let b = made-some (call_of a.0) (count_at a.1) id rest a.3 in
      let number = takes-some (λ n. n ≤ 2 ^ 64 - 1) decimal a.1 (count_at a.1) b.0 rest (count_at-takes a.1) b.1 in
      let small : Is64 b.0 = omega (arith, number.0) in (
        subst (IsCallIn agents) b.2 (agent.0.0, agent.0.1, small),
        agent.1 ∙ (ap (λ x. agent_text a.0 ++ (codes " " ++ x)) number.1
            ∙ (sym (joined-before (call_parts a.0 b.0) rest) ∙ ap (λ i. call_text agents i ++ rest) b.2)),
      )

  call_at-takes : AlwaysTakes (IsCallIn agents) (call_text agents) (call_at agents)
  call_at-takes bytes = takes-from (IsCallIn agents) (call_text agents) bytes (call_at agents bytes) (call_at-some bytes)

  call_at-again : AllPairs ◌≢◌ agents → (id : CallId) (rest : List ℕ) → IsCallIn agents id → StartsWithNoDigit rest
      → call_at agents (call_text agents id ++ rest) ≡ Some (id, rest)
  call_at-again differ id rest is ends =
      ap (call_at agents) (joined-before (call_parts id.agent id.number) rest)
      ∙ and_then-again _ _ id.agent (decimal id.number ++ rest) _
      (closed_by-again (codes " ") (decimal id.number ++ rest) _ id.agent
      (agent_at-again differ id.agent (codes " " ++ (decimal id.number ++ rest)) (is.0, is.1) refl))
      (made-again (call_of id.agent) _ id.number rest (count_at-again id.number rest is.2 ends))

  module _ (v : Version) where
    -- the texts of lines, part behind part

    pub called-text : (id : CallId) (o : WrittenOp) (r : Outcome) (rest : List ℕ) → written_line_text v agents (called id o r) ++ rest
        ≡ codes "call " ++ (call_text agents id ++ (codes " " ++ (written_text o ++ (codes " = " ++ (outcome_text r ++ (codes "\n" ++ rest))))))
    called-text id (op.Plain o) r rest =
        joined-before (codes "call " ∷ call_text agents id ∷ codes " " ∷ op_text o ∷ codes " = " ∷ outcome_text r ∷ codes "\n" ∷ items_text [] ∷ []) rest
    called-text id (op.Replaced text) r rest =
        joined-before (codes "call " ∷ call_text agents id ∷ codes " " ∷ written_text (op.Replaced text) ∷ codes " = " ∷ outcome_text r ∷ codes "\n" ∷ []) rest

    pub gave-text : (id : CallId) (r : Outcome) (rest : List ℕ) → written_line_text v agents (gave id r) ++ rest
        ≡ codes "give " ++ (call_text agents id ++ (codes " = " ++ (outcome_text r ++ (codes "\n" ++ rest))))
    gave-text id r rest = joined-before (codes "give " ∷ call_text agents id ∷ codes " = " ∷ outcome_text r ∷ codes "\n" ∷ items_text [] ∷ []) rest

    pub looked-text : (id : CallId) (asked : ℕ) (told : Option Reply) (rest : List ℕ) → written_line_text v agents (looked id asked told) ++ rest
        ≡ codes "look " ++ (call_text agents id ++ (codes " " ++ (decimal asked ++ (codes " = " ++ (told_text told ++ (codes "\n" ++ rest))))))
    looked-text id asked told rest =
        joined-before (codes "look " ∷ call_text agents id ∷ codes " " ∷ decimal asked ∷ codes " = " ∷ told_text told ∷ codes "\n" ∷ []) rest

    -- what is read stands there

    called-in : (id : CallId) (o : WrittenOp) (r : Outcome) → IsCallIn agents id → IsWrittenIn v o → IsOutcomeIn v r → IsLineWritten v agents (called id o r)
    called-in id (op.Plain o) r call is outcome = (call, is, outcome, refl)
    called-in id (op.Replaced text) r call is outcome = (call, outcome)

    abbrev Stands : List ℕ → List ℕ → WrittenLine → List ℕ → Type 0
    Stands word bytes l rest = IsLineWritten v agents l × (word ++ bytes ≡ written_line_text v agents l ++ rest)

    outcome-stands : (bytes : List ℕ) (r : Outcome) (rest : List ℕ) → ended (outcome_at v) bytes ≡ Some (r, rest)
        → IsOutcomeIn v r × (bytes ≡ outcome_text r ++ (codes "\n" ++ rest))
    outcome-stands bytes r rest e =
        let both = takes-some (IsOutcomeIn v) (ended_text outcome_text) bytes (ended (outcome_at v) bytes) r rest
        (ended-takes (IsOutcomeIn v) outcome_text (outcome_at v) (outcome_at-takes v) bytes) e in
        (both.0, both.1 ∙ append_assoc (outcome_text r) (codes "\n") rest)

    called_at-some : (bytes : List ℕ) (l : WrittenLine) (rest : List ℕ) → called_at v agents bytes ≡ Some (l, rest) → Stands (codes "call ") bytes l rest
    called_at-some bytes l rest e =
        let a = and_then-some (closed_by (codes " ") (call_at agents bytes)) _ l rest e in
        let call = closed_by-stands (IsCallIn agents) (call_text agents) (codes " ") bytes (call_at agents bytes) a.0 a.1 (call_at-takes bytes) a.2 in
        let b = and_then-some (closed_by (codes " = ") (op_at v a.1)) _ l rest a.3 in
        let o = closed_by-stands (IsWrittenIn v) written_text (codes " = ") a.1 (op_at v a.1) b.0 b.1 (op_at-takes v a.1) b.2 in
        let c = made-some (called a.0 b.0) (ended (outcome_at v) b.1) l rest b.3 in
        let r = outcome-stands b.1 c.0 rest c.1 in (
          subst (IsLineWritten v agents) c.2 (called-in a.0 b.0 c.0 call.0 o.0 r.0),
          ap (λ x. codes "call " ++ x) (call.1 ∙ ap (λ x. call_text agents a.0 ++ (codes " " ++ x)) (o.1 ∙ ap (λ x. written_text b.0 ++ (codes " = " ++ x)) r.1))
              ∙ (sym (called-text a.0 b.0 c.0 rest) ∙ ap (λ x. written_line_text v agents x ++ rest) c.2),
        )

    gave_at-some : (bytes : List ℕ) (l : WrittenLine) (rest : List ℕ) → gave_at v agents bytes ≡ Some (l, rest) → Stands (codes "give ") bytes l rest
    gave_at-some bytes l rest e =
        let a = and_then-some (closed_by (codes " = ") (call_at agents bytes)) _ l rest e in
        let call = closed_by-stands (IsCallIn agents) (call_text agents) (codes " = ") bytes (call_at agents bytes) a.0 a.1 (call_at-takes bytes) a.2 in
        let c = made-some (gave a.0) (ended (outcome_at v) a.1) l rest a.3 in
        let r = outcome-stands a.1 c.0 rest c.1 in (
          subst (IsLineWritten v agents) c.2 (call.0, r.0, refl),
          ap (λ x. codes "give " ++ x) (call.1 ∙ ap (λ x. call_text agents a.0 ++ (codes " = " ++ x)) r.1)
              ∙ (sym (gave-text a.0 c.0 rest) ∙ ap (λ x. written_line_text v agents x ++ rest) c.2),
        )

    looked_at-some : (bytes : List ℕ) (l : WrittenLine) (rest : List ℕ) → looked_at v agents bytes ≡ Some (l, rest) → Stands (codes "look ") bytes l rest
    looked_at-some bytes l rest e =
        let a = and_then-some (closed_by (codes " ") (call_at agents bytes)) _ l rest e in
        let call = closed_by-stands (IsCallIn agents) (call_text agents) (codes " ") bytes (call_at agents bytes) a.0 a.1 (call_at-takes bytes) a.2 in
        let b = and_then-some (closed_by (codes " = ") (count_at a.1)) _ l rest a.3 in
        let asked = closed_by-stands (λ n. n ≤ 2 ^ 64 - 1) decimal (codes " = ") a.1 (count_at a.1) b.0 b.1 (count_at-takes a.1) b.2 in
        let c = made-some (looked a.0 b.0) (ended (told_at v) b.1) l rest b.3 in
        let told = takes-some (IsToldIn v) (ended_text told_text) b.1 (ended (told_at v) b.1) c.0 rest
        (ended-takes (IsToldIn v) told_text (told_at v) (told_at-takes v) b.1) c.1 in
        let small : Is64 b.0 = omega (arith, asked.0) in (
          subst (IsLineWritten v agents) c.2 (call.0, small, told.0),
          ap (λ x. codes "look " ++ x) (call.1 ∙ ap (λ x. call_text agents a.0 ++ (codes " " ++ x))
              (asked.1 ∙ ap (λ x. decimal b.0 ++ (codes " = " ++ x)) (told.1 ∙ append_assoc (told_text c.0) (codes "\n") rest)))
              ∙ (sym (looked-text a.0 b.0 c.0 rest) ∙ ap (λ x. written_line_text v agents x ++ rest) c.2),
        )

    -- a line behind its word
    worded : (word bytes : List ℕ) (read : List ℕ → Front WrittenLine)
        → ((more : List ℕ) (l : WrittenLine) (rest : List ℕ) → read more ≡ Some (l, rest) → Stands word more l rest)
        → Takes (IsLineWritten v agents) (written_line_text v agents) bytes (behind (after word bytes) read)
    worded word bytes read stands =
        takes-from (IsLineWritten v agents) (written_line_text v agents) bytes (behind (after word bytes) read)
        (λ l rest e.
        let w = behind-some word bytes read l rest e in
        let both = stands w.0 l rest w.2 in
        (both.0, w.1 ∙ both.1))

    pub entry_at-takes : AlwaysTakes (IsLineWritten v agents) (written_line_text v agents) (entry_at v agents)
    entry_at-takes bytes =
        or_else-takes (IsLineWritten v agents) (written_line_text v agents) bytes _ _
        (worded (codes "call ") bytes (called_at v agents) called_at-some)
        (or_else-takes (IsLineWritten v agents) (written_line_text v agents) bytes _ _
        (worded (codes "give ") bytes (gave_at v agents) gave_at-some)
        (worded (codes "look ") bytes (looked_at v agents) looked_at-some))

    -- what is written is read again

    module _ (differ : AllPairs ◌≢◌ agents) where
      pub called_at-again : (id : CallId) (o : WrittenOp) (r : Outcome) (rest : List ℕ) → IsCallIn agents id → IsWrittenIn v o → IsOutcomeIn v r
          → called_at v agents (call_text agents id ++ (codes " " ++ (written_text o ++ (codes " = " ++ (outcome_text r ++ (codes "\n" ++ rest))))))
          ≡ Some (called id o r, rest)
      called_at-again id o r rest call is outcome =
          let tail : List ℕ = outcome_text r ++ (codes "\n" ++ rest) in
          and_then-again _ _ id (written_text o ++ (codes " = " ++ tail)) _
          (closed_by-again (codes " ") (written_text o ++ (codes " = " ++ tail)) _ id
          (call_at-again differ id (codes " " ++ (written_text o ++ (codes " = " ++ tail))) call refl))
          (and_then-again _ _ o tail _
          (closed_by-again (codes " = ") tail _ o (op_at-again v o (codes " = " ++ tail) is))
          (made-again (called id o) _ r rest (closed_by-again (codes "\n") rest _ r (outcome_at-again v r rest outcome))))

      pub gave_at-again : (id : CallId) (r : Outcome) (rest : List ℕ) → IsCallIn agents id → IsOutcomeIn v r
          → gave_at v agents (call_text agents id ++ (codes " = " ++ (outcome_text r ++ (codes "\n" ++ rest)))) ≡ Some (gave id r, rest)
      gave_at-again id r rest call outcome =
          let tail : List ℕ = outcome_text r ++ (codes "\n" ++ rest) in
          and_then-again _ _ id tail _
          (closed_by-again (codes " = ") tail _ id (call_at-again differ id (codes " = " ++ tail) call refl))
          (made-again (gave id) _ r rest (closed_by-again (codes "\n") rest _ r (outcome_at-again v r rest outcome)))

      pub looked_at-again : (id : CallId) (asked : ℕ) (told : Option Reply) (rest : List ℕ) → IsCallIn agents id → Is64 asked → IsToldIn v told
          → looked_at v agents (call_text agents id ++ (codes " " ++ (decimal asked ++ (codes " = " ++ (told_text told ++ (codes "\n" ++ rest))))))
          ≡ Some (looked id asked told, rest)
      looked_at-again id asked told rest call small is =
          let tail : List ℕ = told_text told ++ (codes "\n" ++ rest) in
          and_then-again _ _ id (decimal asked ++ (codes " = " ++ tail)) _
          (closed_by-again (codes " ") (decimal asked ++ (codes " = " ++ tail)) _ id
          (call_at-again differ id (codes " " ++ (decimal asked ++ (codes " = " ++ tail))) call refl))
          (and_then-again _ _ asked tail _
          (closed_by-again (codes " = ") tail _ asked (count_at-again asked (codes " = " ++ tail) small refl))
          (made-again (looked id asked) _ told rest (closed_by-again (codes "\n") rest _ told (told_at-again v told rest is))))
