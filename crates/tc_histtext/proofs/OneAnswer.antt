-- Bytes are one text, or have one first fault.
use Rattle.std.proofs.Common.{◌≡◌, ◌<◌, ◌+◌, ℕ, List, ◌++◌, length, sym, subst, ◌∙◌, arith, append_assoc}
use Rattle.std.specs.List.{flat_map}
use Rattle.tc_histtext.proofs.LineLaws.{LineLaws}
use Rattle.tc_histtext.specs.ReadTexts.{IsBegun, IsFirstFault, IsText, ended}
use Rattle.tc_histtext.specs.declared.read_texts.Text.{Text}
use Rattle.tc_histtext.proofs.Regrouping.{grouped}
use Rattle.tc_histtext.proofs.Decoding.{texts-same_lines}
use Rattle.tc_histtext.proofs.LineEnds.{lines-longer}
use Rattle.tc_histtext.proofs.OneList.{lines_of-one}

module _ (C A : List (List ℕ)) where
  pub text-one : LineLaws A → (t u : Text) (bytes : List ℕ) → IsText C A t bytes → IsText C A u bytes → t ≡ u
  text-one laws t u bytes is also =
      lines_of-one C A t u is.histories also.histories is.logs also.logs (sym (texts-same_lines A laws.one laws.ends laws.bare C (grouped C A) t u bytes is also))

  -- what begins the beginning of a text begins it
  begun-front : (a b : List ℕ) → IsBegun C A (a ++ b) → IsBegun C A a
  begun-front a b begun = record { text = begun.text; rest = b ++ begun.rest; is = subst (IsText C A begun.text) (append_assoc a b begun.rest) begun.is }

  -- no fault stands behind another
  not_later : (bytes : List ℕ) (n m : ℕ) (f : IsFirstFault C A bytes n) (g : IsFirstFault C A bytes m) → length f.lines < length g.lines → ⊥
  not_later bytes n m f g less =
      let on = lines-longer f.lines g.lines f.rest g.rest f.whole g.whole less (sym f.split ∙ g.split) in
      f.faulty on.0 (on.1 ++ g.rest) on.2 on.3 (begun-front (flat_map ended f.lines ++ ended on.0) on.1 (subst (IsBegun C A) on.4 g.begun))

  pub fault-one : (bytes : List ℕ) (n m : ℕ) → IsFirstFault C A bytes n → IsFirstFault C A bytes m → n ≡ m
  fault-one bytes n m f g =
      let before : (length f.lines < length g.lines) → ⊥ = not_later bytes n m f g in
      let behind : (length g.lines < length f.lines) → ⊥ = not_later bytes m n g f in
      omega (arith, f.counted, g.counted, before, behind)
