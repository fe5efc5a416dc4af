-- Lines: what is read stands there, what is written is read again, and lines of one text are one.
use Rattle.std.proofs.Common.{◌≡◌, ◌≢◌, ◌⊎◌, inl, inr, ℕ, true, false, List, [], ◌++◌, codes, Some, AllPairs, refl, sym, ap, subst, ◌∙◌}
use Rattle.tc_lists.specs.AtFront.{AlwaysTakes, IsReadAgain}
use Rattle.tc_lists.proofs.AtFront.{between-again, between-takes, made-again, made-takes, or_else-first, or_else-takes, word_for-takes}
use Rattle.tc_term.specs.Text.{atom_text}
use Rattle.tc_model.specs.Reactions.{AreClauses, Rule}
use Rattle.tc_model.specs.declared.calls.CallId.{CallId}
use Rattle.tc_model.specs.declared.calls.Op.{Op}
use Rattle.tc_model.specs.declared.calls.Op.TheVariants.{Out, In, Rd, Inp, Rdp, No, Nop, SetSpec, GetSpec}
use Rattle.tc_model.specs.declared.entries.Entry.TheVariants.{Called, Gave, Looked}
use Rattle.tc_model.specs.declared.items.Item.{Item}
use Rattle.tc_model.specs.declared.items.Item.TheVariants.{Fired, Failed}
use Rattle.tc_model.specs.declared.outcomes.Outcome.{Outcome}
use Rattle.tc_histline.specs.Items.{HasItemLine, item_at}
use Rattle.tc_histline.specs.Lines.{HasLine, line_text}
use Rattle.tc_histline.specs.Operations.{IsWrittenIn}
use Rattle.tc_histline.specs.Outcomes.{IsOutcomeIn}
use Rattle.tc_histline.specs.Rows.{row_at}
use Rattle.tc_histline.specs.Text.{item_text, text_row_text}
use Rattle.tc_histline.specs.Words.{atom_at}
use Rattle.tc_histline.specs.WrittenLines.{IsCallIn, IsLineWritten, as_written, common_line_at, edge_at, heading_at, line_at, written_line_text, written_row}
use Rattle.tc_histline.specs.declared.lines.Line.{Line}
use Rattle.tc_histline.specs.declared.lines.Line.TheVariants as line
use Rattle.tc_histline.specs.declared.lines.WrittenLine.{WrittenLine}
use Rattle.tc_histline.specs.declared.lines.WrittenLine.TheVariants.{Plain, Replacing}
use Rattle.tc_histline.specs.declared.read_operations.WrittenOp.TheVariants as op
use Rattle.tc_histline.specs.declared.versions.Version.{Version}
use Rattle.tc_histline.specs.declared.versions.Version.TheVariants.{One, Two}
use Rattle.tc_histline.proofs.ReadEntries.{called-text, called_at-again, entry_at-takes, gave-text, gave_at-again, looked-text, looked_at-again}
use Rattle.tc_histline.proofs.ReadItems.{item_at-again, item_at-takes}
use Rattle.tc_histline.proofs.ReadRows.{IsRowIn, row_at-again, row_at-takes}
use Rattle.tc_histline.proofs.ReadWords.{atom_at-again, atom_at-takes}

module _ (v : Version) (agents : List (List ℕ)) where
  -- what is read stands there

  abbrev IsPlain : Line → Type 0
  IsPlain l = IsLineWritten v agents (Plain l)

  abbrev plain_text : Line → List ℕ
  plain_text l = line_text v agents l

  heading_at-takes : AlwaysTakes IsPlain plain_text heading_at
  heading_at-takes bytes =
      or_else-takes IsPlain plain_text bytes _ _
      (made-takes IsPlain plain_text (λ name. Unit {0}) (λ name. codes "centre " ++ (atom_text name ++ codes "\n")) line.Centre bytes _ (λ name is. is) (λ name. refl)
      (between-takes (λ name. Unit {0}) atom_text (codes "centre ") (codes "\n") atom_at atom_at-takes bytes))
      (made-takes IsPlain plain_text (λ name. Unit {0}) (λ name. codes "agent " ++ (atom_text name ++ codes "\n")) line.Agent bytes _ (λ name is. is) (λ name. refl)
      (between-takes (λ name. Unit {0}) atom_text (codes "agent ") (codes "\n") atom_at atom_at-takes bytes))

  edge_at-takes : AlwaysTakes IsPlain plain_text edge_at
  edge_at-takes bytes =
      or_else-takes IsPlain plain_text bytes _ _ (word_for-takes IsPlain plain_text (line.First One) (codes "tucson 1\n") bytes tt refl)
      (or_else-takes IsPlain plain_text bytes _ _ (word_for-takes IsPlain plain_text (line.First Two) (codes "tucson 2\n") bytes tt refl)
      (or_else-takes IsPlain plain_text bytes _ _ (word_for-takes IsPlain plain_text (line.End true) (codes "end blocked\n") bytes tt refl)
      (word_for-takes IsPlain plain_text (line.End false) (codes "end ended\n") bytes tt refl)))

  common_line_at-takes : AlwaysTakes IsPlain plain_text common_line_at
  common_line_at-takes bytes =
      or_else-takes IsPlain plain_text bytes _ _
      (made-takes IsPlain plain_text HasItemLine item_text line.Reaction bytes (item_at bytes) (λ i is. is) (λ i. refl) (item_at-takes bytes))
      (or_else-takes IsPlain plain_text bytes _ _ (heading_at-takes bytes) (edge_at-takes bytes))

  pub line_at-takes : AlwaysTakes (IsLineWritten v agents) (written_line_text v agents) (line_at v agents)
  line_at-takes bytes =
      or_else-takes G T bytes _ _
      (made-takes G T (IsRowIn v) (text_row_text v) written_row bytes (row_at v bytes) (λ row is. is) (λ row. refl) (row_at-takes v bytes))
      (or_else-takes G T bytes _ _ (entry_at-takes agents v bytes)
      (made-takes G T IsPlain plain_text Plain bytes (common_line_at bytes) (λ l is. is) (λ l. refl) (common_line_at-takes bytes)))
    where
      G : WrittenLine → Type 0
      G = IsLineWritten v agents

      T : WrittenLine → List ℕ
      T = written_line_text v agents

  -- what is written is read again

  module _ (differ : AllPairs ◌≢◌ agents) where
    pub line_at-again : IsReadAgain (IsLineWritten v agents) (written_line_text v agents) (line_at v agents)
    line_at-again (Plain (line.First One)) rest is = refl
    line_at-again (Plain (line.First Two)) rest is = refl
    line_at-again (Plain (line.End true)) rest is = refl
    line_at-again (Plain (line.End false)) rest is = refl
    line_at-again (Plain (line.Centre name)) rest is =
        made-again Plain _ (line.Centre name) rest (or_else-first _ _ _ (or_else-first _ _ _ (made-again line.Centre _ name rest
        (between-again (codes "centre ") (codes "\n") (atom_text name) rest atom_at name (atom_at-again name (codes "\n" ++ rest) refl)))))
    line_at-again (Plain (line.Agent name)) rest is =
        made-again Plain _ (line.Agent name) rest (or_else-first _ _ _ (made-again line.Agent _ name rest
        (between-again (codes "agent ") (codes "\n") (atom_text name) rest atom_at name (atom_at-again name (codes "\n" ++ rest) refl))))
    line_at-again (Plain (line.Reaction (Fired p c es))) rest is =
        made-again Plain _ (line.Reaction (Fired p c es)) rest (or_else-first _ _ _ (made-again line.Reaction _ (Fired p c es) rest (item_at-again (Fired p c es) rest is)))
    line_at-again (Plain (line.Reaction (Failed p c g es))) rest is =
        made-again Plain _ (line.Reaction (Failed p c g es)) rest (or_else-first _ _ _ (made-again line.Reaction _ (Failed p c g es) rest (item_at-again (Failed p c g es) rest is)))
    line_at-again (Plain (line.Row row)) rest is =
        or_else-first _ _ _ (made-again written_row _ row rest (row_at-again v row rest is))
    line_at-again (Plain (line.Entry (Called id o r items))) rest is =
        subst (λ es. line_at v agents (line_text v agents (line.Entry (Called id o r es)) ++ rest) ≡ Some (Plain (line.Entry (Called id o r es)), rest)) (sym is.3)
        (ap (line_at v agents) (called-text agents v id (op.Plain o) r rest)
        ∙ or_else-first _ _ _ (or_else-first _ _ _ (called_at-again agents v differ id (op.Plain o) r rest is.0 is.1 is.2)))
    line_at-again (Plain (line.Entry (Gave id r items))) rest is =
        subst (λ es. line_at v agents (line_text v agents (line.Entry (Gave id r es)) ++ rest) ≡ Some (Plain (line.Entry (Gave id r es)), rest)) (sym is.2)
        (ap (line_at v agents) (gave-text agents v id r rest)
        ∙ or_else-first _ _ _ (or_else-first _ _ _ (gave_at-again agents v differ id r rest is.0 is.1)))
    line_at-again (Plain (line.Entry (Looked id asked told))) rest is =
        ap (line_at v agents) (looked-text agents v id asked told rest)
        ∙ or_else-first _ _ _ (looked_at-again agents v differ id asked told rest is.0 is.1 is.2)
    line_at-again (Replacing id text r) rest is =
        ap (line_at v agents) (called-text agents v id (op.Replaced text) r rest)
        ∙ or_else-first _ _ _ (or_else-first _ _ _ (called_at-again agents v differ id (op.Replaced text) r rest is.0 tt is.1))

  -- a line is written as it is, unless it is a call that replaces the clauses

  pub record Replaces (l : Line) : Type 0 where
    pub id : CallId
    pub clauses : List Rule
    pub result : Outcome
    pub is : l ≡ line.Entry (Called id (SetSpec clauses) result [])
    pub are : AreClauses clauses

  pub record AsWritten (l : Line) : Type 0 where
    pub has : IsLineWritten v agents (as_written l)
    pub text : written_line_text v agents (as_written l) ≡ line_text v agents l
    pub form : (as_written l ≡ Plain l) ⊎ Replaces l

  plain-call : (id : CallId) (o : Op) (r : Outcome) (items : List Item) → IsCallIn agents id × IsWrittenIn v (op.Plain o) × IsOutcomeIn v r → items ≡ []
      → as_written (line.Entry (Called id o r items)) ≡ Plain (line.Entry (Called id o r [])) → AsWritten (line.Entry (Called id o r items))
  plain-call id o r items is none same = record {
    has = subst (IsLineWritten v agents) (sym same) (is.0, is.1, is.2, refl);
    text = ap (written_line_text v agents) same ∙ ap (λ es. line_text v agents (line.Entry (Called id o r es))) (sym none);
    form = inl (same ∙ ap (λ es. Plain (line.Entry (Called id o r es))) (sym none));
  }

  pub line-written : (l : Line) → HasLine v agents l → AsWritten l
  line-written (line.First w) is = record { has = tt; text = refl; form = inl refl }
  line-written (line.Centre name) is = record { has = tt; text = refl; form = inl refl }
  line-written (line.Agent name) is = record { has = tt; text = refl; form = inl refl }
  line-written (line.End blocked) is = record { has = tt; text = refl; form = inl refl }
  line-written (line.Reaction i) is = record { has = is; text = refl; form = inl refl }
  line-written (line.Row row) is = record { has = (is.number, is.written); text = refl; form = inl refl }
  line-written (line.Entry (Gave id r items)) is =
      record { has = ((is.typed.0.agent, is.agent, is.typed.0.number), is.written.0, is.written.1); text = refl; form = inl refl }
  line-written (line.Entry (Looked id asked told)) is =
      record { has = ((is.typed.0.agent, is.agent, is.typed.0.number), is.typed.1, is.written); text = refl; form = inl refl }
  line-written (line.Entry (Called id (SetSpec clauses) r items)) is = record {
    has = ((is.typed.0.agent, is.agent, is.typed.0.number), is.written.1);
    text = ap (λ es. line_text v agents (line.Entry (Called id (SetSpec clauses) r es))) (sym is.written.2);
    form = inr (record {
      id = id;
      clauses = clauses;
      result = r;
      is = ap (λ es. line.Entry (Called id (SetSpec clauses) r es)) is.written.2;
      are = is.typed.1;
    });
  }
  line-written (line.Entry (Called id (Out t) r items)) is = plain-call id (Out t) r items ((is.typed.0.agent, is.agent, is.typed.0.number), is.written.0, is.written.1) is.written.2 refl
  line-written (line.Entry (Called id (In t) r items)) is = plain-call id (In t) r items ((is.typed.0.agent, is.agent, is.typed.0.number), is.written.0, is.written.1) is.written.2 refl
  line-written (line.Entry (Called id (Rd t) r items)) is = plain-call id (Rd t) r items ((is.typed.0.agent, is.agent, is.typed.0.number), is.written.0, is.written.1) is.written.2 refl
  line-written (line.Entry (Called id (Inp t) r items)) is = plain-call id (Inp t) r items ((is.typed.0.agent, is.agent, is.typed.0.number), is.written.0, is.written.1) is.written.2 refl
  line-written (line.Entry (Called id (Rdp t) r items)) is = plain-call id (Rdp t) r items ((is.typed.0.agent, is.agent, is.typed.0.number), is.written.0, is.written.1) is.written.2 refl
  line-written (line.Entry (Called id (No t) r items)) is = plain-call id (No t) r items ((is.typed.0.agent, is.agent, is.typed.0.number), is.written.0, is.written.1) is.written.2 refl
  line-written (line.Entry (Called id (Nop t) r items)) is = plain-call id (Nop t) r items ((is.typed.0.agent, is.agent, is.typed.0.number), is.written.0, is.written.1) is.written.2 refl
  line-written (line.Entry (Called id GetSpec r items)) is = plain-call id GetSpec r items ((is.typed.0.agent, is.agent, is.typed.0.number), is.written.0, is.written.1) is.written.2 refl
