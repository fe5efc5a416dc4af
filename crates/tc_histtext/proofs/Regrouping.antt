-- The text of histories and logs is that of its lines.
use Rattle.std.proofs.Common.{◌≡◌, ℕ, List, [], ◌∷◌, ◌++◌, map, codes, refl, sym, ap, ap₂, ◌∙◌, append_assoc, append-nil}
use Rattle.std.specs.List.{flat_map}
use Rattle.std.proofs.lemmas.Grind.{flat_map-append}
use Rattle.tc_lists.specs.Texts.{joined}
use Rattle.tc_model.specs.declared.entries.Entry.{Entry}
use Rattle.tc_model.specs.declared.entries.Entry.TheVariants.{Called, Gave, Looked}
use Rattle.tc_model.specs.declared.items.Item.{Item}
use Rattle.tc_histline.specs.Lines.{line_text}
use Rattle.tc_histline.specs.Text.{agent_heading, call_text, centre_heading, end_text, entry_text, item_text, items_text, op_text, outcome_text, row_text, version_text}
use Rattle.tc_histline.specs.declared.lines.Line.{Line}
use Rattle.tc_histline.specs.declared.lines.Line.TheVariants.{Reaction, Row, End}
use Rattle.tc_histline.specs.declared.lines.TextRow.{TextRow}
use Rattle.tc_histline.specs.declared.versions.Version.{Version}
use Rattle.tc_histtext.specs.ReadTexts.{as_logged, entry_lines, histories_lines, lines_of, logs_lines, text_of}
use Rattle.tc_histtext.specs.Text.{histories_text, logs_text}
use Rattle.tc_histtext.specs.declared.read_texts.Text.{Text}

joined-push : (ts : List (List ℕ)) (x : List ℕ) → joined (ts ++ x ∷ []) ≡ joined ts ++ x
joined-push [] x = append-nil x
joined-push (t ∷ ts) x = ap (λ l. t ++ l) (joined-push ts x) ∙ sym (append_assoc t (joined ts) x)

-- the last part, behind those without it
joined-last : (ts : List (List ℕ)) (x : List ℕ) → joined (ts ++ x ∷ []) ≡ joined (ts ++ [] ∷ []) ++ x
joined-last ts x = joined-push ts x ∙ ap (λ l. l ++ x) (sym (joined-push ts [] ∙ append-nil (joined ts)))

module _ (v : Version) (A : List (List ℕ)) where
  abbrev texts : List Line → List ℕ
  texts ls = flat_map (line_text v A) ls

  reactions-grouped : (items : List Item) → items_text items ≡ texts (map Reaction items)
  reactions-grouped [] = refl
  reactions-grouped (i ∷ items) = ap (λ l. item_text i ++ l) (reactions-grouped items)

  entry-grouped : (e : Entry) → entry_text A e ≡ texts (entry_lines e)
  entry-grouped (Called id op o items) =
      joined-last (codes "call " ∷ call_text A id ∷ codes " " ∷ op_text op ∷ codes " = " ∷ outcome_text o ∷ codes "\n" ∷ []) (items_text items)
      ∙ ap (λ l. entry_text A (Called id op o []) ++ l) (reactions-grouped items)
  entry-grouped (Gave id o items) =
      joined-last (codes "give " ∷ call_text A id ∷ codes " = " ∷ outcome_text o ∷ codes "\n" ∷ []) (items_text items)
      ∙ ap (λ l. entry_text A (Gave id o []) ++ l) (reactions-grouped items)
  entry-grouped (Looked id asked told) = sym (append-nil (entry_text A (Looked id asked told)))

  entries-grouped : (es : List Entry) → flat_map (entry_text A) es ≡ texts (flat_map entry_lines es)
  entries-grouped [] = refl
  entries-grouped (e ∷ es) =
      ap₂ (λ l r. l ++ r) (entry-grouped e) (entries-grouped es) ∙ sym (flat_map-append (line_text v A) (entry_lines e) (flat_map entry_lines es))

  histories-grouped : (ns : List (List ℕ)) (hs : List (List Entry)) → histories_text A ns hs ≡ texts (histories_lines ns hs)
  histories-grouped [] hs = refl
  histories-grouped (n ∷ ns) [] = refl
  histories-grouped (n ∷ ns) (h ∷ hs) =
      ap₂ (λ l r. (centre_heading n ++ l) ++ r) (entries-grouped h) (histories-grouped ns hs)
      ∙ (append_assoc (centre_heading n) (texts (flat_map entry_lines h)) (texts (histories_lines ns hs))
      ∙ ap (λ l. centre_heading n ++ l) (sym (flat_map-append (line_text v A) (flat_map entry_lines h) (histories_lines ns hs))))

  rows-grouped : (l : List TextRow) → flat_map (row_text v) (map as_logged l) ≡ texts (map Row l)
  rows-grouped [] = refl
  rows-grouped (r ∷ l) = ap (λ x. row_text v (as_logged r) ++ x) (rows-grouped l)

  logs-grouped : (ns : List (List ℕ)) (ls : List (List TextRow)) → logs_text v ns (map (map as_logged) ls) ≡ texts (logs_lines ns ls)
  logs-grouped [] ls = refl
  logs-grouped (n ∷ ns) [] = refl
  logs-grouped (n ∷ ns) (l ∷ ls) =
      ap₂ (λ x r. (agent_heading n ++ x) ++ r) (rows-grouped l) (logs-grouped ns ls)
      ∙ (append_assoc (agent_heading n) (texts (map Row l)) (texts (logs_lines ns ls))
      ∙ ap (λ x. agent_heading n ++ x) (sym (flat_map-append (line_text v A) (map Row l) (logs_lines ns ls))))

pub grouped : (C A : List (List ℕ)) (t : Text) → text_of C A t ≡ flat_map (line_text t.version A) (lines_of C A t)
grouped C A t =
    ap₂ (λ h l. version_text t.version ++ (h ++ (l ++ (end_text t.blocked ++ [])))) (histories-grouped t.version A C t.histories) (logs-grouped t.version A A t.logs)
    ∙ ap (λ x. version_text t.version ++ x)
    (ap (λ x. texts t.version A (histories_lines C t.histories) ++ x) (sym (flat_map-append (line_text t.version A) (logs_lines A t.logs) (End t.blocked ∷ [])))
    ∙ sym (flat_map-append (line_text t.version A) (histories_lines C t.histories) (logs_lines A t.logs ++ End t.blocked ∷ [])))
