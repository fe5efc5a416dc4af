-- What is read is a line, since the types of its parts promise the rest.
use Rattle.std.proofs.Common.{◌≡◌, ◌≤◌, ◌-◌, ◌+◌, ℕ, List, [], ◌++◌, length, Some, All, refl, sym, ap, subst, ◌∙◌, arith, length-append}
use Rattle.std.proofs.lemmas.List.Elements.{All-nil}
use Rattle.tc_lists.proofs.Parts.{drop_behind}
use Rattle.tc_model.specs.Reactions.{AreClauses, Rule, clauses_text}
use Rattle.tc_model.specs.Typed.{IsTypedId, IsTypedItem, IsTypedOp, IsTypedOutcome}
use Rattle.tc_model.specs.declared.calls.CallId.{CallId}
use Rattle.tc_model.specs.declared.calls.Op.{Op}
use Rattle.tc_model.specs.declared.calls.Op.TheVariants.{Out, In, Rd, Inp, Rdp, No, Nop, SetSpec, GetSpec}
use Rattle.tc_model.specs.declared.entries.Entry.TheVariants.{Called, Gave, Looked}
use Rattle.tc_model.specs.declared.items.Item.{Item}
use Rattle.tc_model.specs.declared.outcomes.Outcome.{Outcome}
use Rattle.tc_histline.specs.Lines.{HasLine, IsLineAt, line_text}
use Rattle.tc_histline.specs.Operations.{IsWrittenIn, written_op}
use Rattle.tc_histline.specs.TypedLines.{IsTypedLine}
use Rattle.tc_histline.specs.WrittenLines.{IsCallIn, IsLineWritten, line_at}
use Rattle.tc_histline.specs.declared.lines.Line.{Line}
use Rattle.tc_histline.specs.declared.lines.Line.TheVariants as line
use Rattle.tc_histline.specs.declared.lines.WrittenLine.{WrittenLine}
use Rattle.tc_histline.specs.declared.lines.WrittenLine.TheVariants.{Plain, Replacing}
use Rattle.tc_histline.specs.declared.read_operations.WrittenOp.TheVariants as op
use Rattle.tc_histline.specs.declared.versions.Version.{Version}
use Rattle.tc_histline.specs.declared.versions.Version.TheVariants.{One, Two}
use Rattle.tc_histline.proofs.Found.{takes-some}
use Rattle.tc_histline.proofs.ReadLines.{line_at-takes}
use Rattle.tc_histline.specs.WrittenLines.{written_line_text}

op-typed : (v : Version) (o : Op) → IsWrittenIn v (op.Plain o) → IsTypedOp o
op-typed v (Out t) is = is
op-typed v (In t) is = is
op-typed v (Rd t) is = is
op-typed v (Inp t) is = is
op-typed v (Rdp t) is = is
op-typed One (No t) is = absurd is
op-typed Two (No t) is = is
op-typed One (Nop t) is = absurd is
op-typed Two (Nop t) is = is
op-typed v (SetSpec clauses) is = absurd is
op-typed v GetSpec is = tt

op-written : (v : Version) (o : Op) → IsWrittenIn v (op.Plain o) → IsWrittenIn v (written_op o)
op-written v (Out t) is = is
op-written v (In t) is = is
op-written v (Rd t) is = is
op-written v (Inp t) is = is
op-written v (Rdp t) is = is
op-written v (No t) is = is
op-written v (Nop t) is = is
op-written v (SetSpec clauses) is = absurd is
op-written v GetSpec is = tt

module _ (v : Version) (agents : List (List ℕ)) where
  id-typed : (id : CallId) → IsCallIn agents id → IsTypedId id
  id-typed id is = record { agent = is.0; number = is.2 }

  no_items : (items : List Item) → items ≡ [] → All IsTypedItem items
  no_items items none = subst (All IsTypedItem) (sym none) (All-nil IsTypedItem)

  line-typed : (l : Line) → IsLineWritten v agents (Plain l) → IsTypedLine l → HasLine v agents l
  line-typed (line.First w) is typed = tt
  line-typed (line.Centre name) is typed = typed
  line-typed (line.Agent name) is typed = typed
  line-typed (line.Reaction i) is typed = is
  line-typed (line.End blocked) is typed = tt
  line-typed (line.Row row) is typed = record { number = is.0; centre = typed.0; result = typed.1; written = is.1 }
  line-typed (line.Entry (Called id o r items)) is typed = record {
    typed = (id-typed id is.0, op-typed v o is.1, typed, no_items items is.3);
    agent = is.0.1;
    written = (op-written v o is.1, is.2, is.3);
  }
  line-typed (line.Entry (Gave id r items)) is typed = record {
    typed = (id-typed id is.0, typed, no_items items is.2);
    agent = is.0.1;
    written = (is.1, is.2);
  }
  line-typed (line.Entry (Looked id asked told)) is typed = record {
    typed = (id-typed id is.0, is.1, typed);
    agent = is.0.1;
    written = is.2;
  }

  -- so many bytes from the front
  pub stands-at : (bytes : List ℕ) (l : Line) (rest : List ℕ) (size : ℕ) → HasLine v agents l → bytes ≡ line_text v agents l ++ rest
      → size + length rest ≡ length bytes → IsLineAt v agents bytes l size
  stands-at bytes l rest size has stands behind = record {
    has = has;
    whole = omega (arith, behind, ap length stands, length-append (line_text v agents l) rest);
    stands = stands ∙ ap (λ more. line_text v agents l ++ more) (sym (drop_behind bytes (line_text v agents l) rest size stands behind));
  }

  -- what stands behind a line is no longer than the bytes
  pub rest-within : (bytes : List ℕ) (w : WrittenLine) (rest : List ℕ) → line_at v agents bytes ≡ Some (w, rest) → length rest ≤ length bytes
  rest-within bytes w rest found =
      let both = takes-some (IsLineWritten v agents) (written_line_text v agents) bytes (line_at v agents bytes) w rest (line_at-takes v agents bytes) found in
      omega (arith, ap length both.1, length-append (written_line_text v agents w) rest)

  pub plain-stands : (bytes : List ℕ) (l : Line) (rest : List ℕ) (size : ℕ) → line_at v agents bytes ≡ Some (Plain l, rest) → IsTypedLine l
      → size + length rest ≡ length bytes → IsLineAt v agents bytes l size
  plain-stands bytes l rest size found typed behind =
      let both = takes-some (IsLineWritten v agents) (written_line_text v agents) bytes (line_at v agents bytes) (Plain l) rest (line_at-takes v agents bytes) found in
      stands-at bytes l rest size (line-typed l both.0 typed) both.1 behind

  pub replacing-stands : (bytes : List ℕ) (id : CallId) (text : List ℕ) (r : Outcome) (rest : List ℕ) (size : ℕ) (clauses : List Rule)
      → line_at v agents bytes ≡ Some (Replacing id text r, rest) → AreClauses clauses → clauses_text clauses ≡ text → IsTypedOutcome r
      → size + length rest ≡ length bytes → IsLineAt v agents bytes (line.Entry (Called id (SetSpec clauses) r [])) size
  replacing-stands bytes id text r rest size clauses found are same typed behind =
      let both = takes-some (IsLineWritten v agents) (written_line_text v agents) bytes (line_at v agents bytes) (Replacing id text r) rest (line_at-takes v agents bytes) found in
      stands-at bytes (line.Entry (Called id (SetSpec clauses) r [])) rest size
      (record {
        typed = (id-typed id both.0.0, are, typed, All-nil IsTypedItem);
        agent = both.0.0.1;
        written = (tt, both.0.1, refl);
      })
      (both.1 ∙ ap (λ t. written_line_text v agents (Replacing id t r) ++ rest) (sym same)) behind
