-- What was written, piece by piece, is the text of the whole.
use Rattle.std.proofs.Common.{◌≡◌, List, ℕ, [], ◌∷◌, ◌++◌, codes, OnOk, ap, subst, sym, ◌∙◌, append_assoc}
use Rattle.std.specs.Fmt.{decimal}
use Rattle.std.specs.declared.result.Result.{Result}
use Rattle.std.proofs.lemmas.Result.{on_ok_weaker}
use Rattle.tc_print.proofs.Parts.{text_after-cell, text_after-tail, text_after-Compound}
use Rattle.tc_print.specs.Printing.{text_after, texts_after, IsEmptyList}
use Rattle.tc_term.specs.Cells.{IsCell, IsNoCell}
use Rattle.tc_term.specs.Text.{Place, Alone, Behind, applied, before_element, name_text, text_in}
use Rattle.tc_term.specs.Tree.{Tree, Trees, Variable, Compound}
use Rattle.tc_term.specs.Variables.{place_in, variables_after, with_number}

module _ {V E : Type 0} (r : Result V E) (old new : List ℕ) where
  pub OnOk-written : (before text whole : List ℕ) → before ++ text ≡ old ++ whole →
      OnOk r (new ≡ before ++ text) → OnOk r (new ≡ old ++ whole)
  OnOk-written before text whole same written = on_ok_weaker r (λ e. e ∙ same) written

  -- a variable: an underscore, and the number
  pub OnOk-variable : (seen seen' opened : List ℕ) (n number : ℕ) → seen' ≡ with_number seen n → number ≡ place_in seen' n →
      opened ≡ old ++ 95 ∷ [] → OnOk r (new ≡ opened ++ decimal number) → OnOk r (new ≡ old ++ text_after seen Alone (Variable n))
  unfolding text_in
  OnOk-variable seen seen' opened n number seen_is number_is opened_is written =
      OnOk-written opened (decimal number) (text_after seen Alone (Variable n))
      (ap (λ l. l ++ decimal number) opened_is ∙ append_assoc old (95 ∷ []) (decimal number)
      ∙ ap (λ k. old ++ (codes "_" ++ decimal k)) (number_is ∙ ap (λ l. place_in l n) seen_is))
      written

  -- a term behind a byte
  pub OnOk-behind : (opened text : List ℕ) (byte : ℕ) → opened ≡ old ++ byte ∷ [] → OnOk r (new ≡ opened ++ text) →
      OnOk r (new ≡ old ++ byte ∷ text)
  OnOk-behind opened text byte opened_is written =
      OnOk-written opened text (byte ∷ text) (ap (λ l. l ++ text) opened_is ∙ append_assoc old (byte ∷ []) text) written

  -- a list cell: its head behind a byte, and what follows behind it
  pub OnOk-cell : (place : Place) (byte : ℕ) (seen seen' first : List ℕ) (t head tail : Tree) → IsCell t head tail →
      before_element place ≡ byte ∷ [] → first ≡ old ++ byte ∷ text_after seen Alone head → seen' ≡ variables_after seen head →
      OnOk r (new ≡ first ++ text_after seen' Behind tail) → OnOk r (new ≡ old ++ text_after seen place t)
  OnOk-cell place byte seen seen' first t head tail cell before first_is seen_is written =
      let one = text_after seen Alone head in
      let rest = text_after (variables_after seen head) Behind tail in
      let whole : text_after seen place t ≡ (byte ∷ one) ++ rest =
      text_after-cell seen place t head tail cell ∙ ap (λ l. l ++ one ++ rest) before in
      OnOk-written first (text_after seen' Behind tail) (text_after seen place t)
      (ap (λ l. first ++ text_after l Behind tail) seen_is ∙ ap (λ l. l ++ rest) first_is
      ∙ append_assoc old (byte ∷ one) rest ∙ ap (λ l. old ++ l) (sym whole))
      written

  -- any other compound: its name, and the arguments between brackets
  pub OnOk-compound : (seen : List ℕ) (t : Tree) (name : List ℕ) (args : Trees) → t ≡ Compound name args → IsNoCell t →
      OnOk r (new ≡ old ++ applied name (texts_after seen args)) → OnOk r (new ≡ old ++ text_after seen Alone t)
  OnOk-compound seen t name args compound no_cell written =
      let whole : applied name (texts_after seen args) ≡ text_after seen Alone t =
      sym (ap (text_after seen Alone) compound
      ∙ text_after-Compound seen name args (λ head tail cell. no_cell head tail (compound ∙ cell))) in
      subst (λ text. OnOk r (new ≡ old ++ text)) whole written

-- a tail that is no list: a bar, the term, and the closing bracket
pub text_after-closed : (seen old written closed : List ℕ) (t : Tree) → (IsEmptyList t → ⊥) → IsNoCell t →
    written ≡ old ++ 124 ∷ text_after seen Alone t → closed ≡ written ++ 93 ∷ [] →
    closed ≡ old ++ text_after seen Behind t
text_after-closed seen old written closed t some no_cell written_is closed_is =
    closed_is ∙ ap (λ l. l ++ 93 ∷ []) written_is
    ∙ append_assoc old (124 ∷ text_after seen Alone t) (93 ∷ [])
    ∙ ap (λ l. old ++ l) (sym (text_after-tail seen t some no_cell))

-- the pieces of a compound, joined
pub applied-joined : (old name text : List ℕ) →
    old ++ name_text name ++ (codes "(" ++ text) ++ codes ")" ≡ old ++ applied name text
applied-joined old name text =
    ap (λ l. l ++ codes ")") (append_assoc old (name_text name) (codes "(" ++ text)
    ∙ ap (λ l. old ++ l) (sym (append_assoc (name_text name) (codes "(") text)))
    ∙ append_assoc old (name_text name ++ codes "(" ++ text) (codes ")")
