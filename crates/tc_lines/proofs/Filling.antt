-- Bytes that were read behind others.
use Rattle.std.proofs.Common.{◌≡◌, ℕ, ◌≤◌, ◌↔◌, List, [], ◌++◌, Option, Some, None, length, take, drop, sym, ap, subst, ◌∙◌, length-take-le, take-append-drop}
use Rattle.std.proofs.lemmas.Option.{same_Some}
use Rattle.tc_io.specs.Sources.{Reads}
use Rattle.tc_lines.specs.Lines.{Fills}

pub fills : (left rest : Option (List ℕ)) (n : ℕ) (old new into : List ℕ) → Reads left rest n into → n ≤ length into
    → new ≡ old ++ take n into → Fills left rest n old new
fills None rest n old new into reads within is = record {
  bytes = take n into;
  count = length-take-le n into within;
  read = reads;
  end = λ all impossible. absurd (cc);
  behind = is;
}
fills (Some left) rest n old new into reads within is = record {
  bytes = take n into;
  count = length-take-le n into within;
  read = (drop n left, sym (take-append-drop n left) ∙ ap (λ l. l ++ drop n left) (sym reads.0.given), reads.1);
  end = λ all same. subst (λ (l : List ℕ). (n ≡ 0) ↔ (l ≡ [])) (same_Some left all same) reads.0.end;
  behind = is;
}
