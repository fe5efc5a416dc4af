-- Where an input is parted.
use Rattle.std.proofs.Common.{◌≡◌, ◌≢◌, ◌≤◌, ◌+◌, ◌-◌, ℕ, List, [], ◌∷◌, ◌++◌, All, take, drop, length, sym, ap, ◌∙◌, arith, append_assoc, append-nil, take-append-drop, length-drop, inl, inr, refl, length-append, take_all}
use Rattle.std.specs.List.{flat_map}
use Rattle.std.proofs.Math.ListN.{drop_of_length-le}
use Rattle.std.proofs.Math.Seq.{take-append_seam}
use Rattle.std.proofs.lemmas.Grind.{flat_map-append}
use Rattle.std.proofs.lemmas.List.Elements.{All-append, All-cons, All-nil}
use Rattle.tc_histline.specs.Lines.{HasNoFeed}
use Rattle.tc_histtext.specs.ReadTexts.{ended}
use Rattle.tc_verify.specs.Inputs.{EndsLine, IsParted, IsPlainLine, mark}

-- how far an input was gone through: plain lines up to a place
pub record HasPassed (input : List ℕ) (from : ℕ) : Type 0 where
  pub inside : from ≤ length input
  pub lines : List (List ℕ)
  pub plain : All IsPlainLine lines
  pub passed : take from input ≡ flat_map ended lines

pub passed-none : (input : List ℕ) → HasPassed input 0
passed-none input = record { inside = omega arith; lines = []; plain = All-nil IsPlainLine; passed = refl }

-- all is what was passed and what is left
passed-split : (input : List ℕ) (from : ℕ) (p : HasPassed input from) → input ≡ flat_map ended p.lines ++ drop from input
passed-split input from p = sym (take-append-drop from input) ∙ ap (λ l. l ++ drop from input) p.passed

-- one more plain line
pub passed-more : (input : List ℕ) (from end : ℕ) → HasPassed input from → EndsLine input from end → (take (end - from) (drop from input) ≢ mark) → HasPassed input (end + 1)
passed-more input from end p e other =
    let line = take (end - from) (drop from input) in
    let lines = p.lines ++ line ∷ [] in
    let text : flat_map ended lines ≡ flat_map ended p.lines ++ ended line = flat_map-append ended p.lines (line ∷ []) ∙ ap (λ l. flat_map ended p.lines ++ l) (append-nil (ended line)) in
    let all : input ≡ flat_map ended lines ++ drop (end + 1) input =
    passed-split input from p ∙ (ap (λ l. flat_map ended p.lines ++ l) e.cut ∙ (sym (append_assoc (flat_map ended p.lines) (ended line) (drop (end + 1) input)) ∙ ap (λ l. l ++ drop (end + 1) input) (sym text))) in
    let long : length (flat_map ended lines) ≡ end + 1 = omega (arith, e.within, ap length all, length-append (flat_map ended lines) (drop (end + 1) input), length-drop (end + 1) input) in
    record {
      inside = omega (arith, e.within);
      lines = lines;
      plain = All-append IsPlainLine p.lines (line ∷ []) p.plain (All-cons IsPlainLine line [] (record { whole = e.whole; other = other }) (All-nil IsPlainLine));
      passed = ap (λ l. take (end + 1) l) all ∙ (ap (λ k. take k (flat_map ended lines ++ drop (end + 1) input)) (sym long) ∙ take-append_seam (flat_map ended lines) (drop (end + 1) input));
    }

-- a line is the one that parts
pub marked-line : (input : List ℕ) (from end : ℕ) → HasPassed input from → EndsLine input from end → take (end - from) (drop from input) ≡ mark
    → IsParted input (take from input) (drop (end + 1) input)
marked-line input from end p e is =
    inl (record {
      lines = p.lines;
      plain = p.plain;
      lines_are = p.passed;
      stands = inl (sym (take-append-drop from input) ∙ ap (λ l. take from input ++ l) (e.cut ∙ ap (λ l. ended l ++ drop (end + 1) input) is));
    })

-- the last one is, without its end
pub marked-end : (input : List ℕ) (from : ℕ) → HasPassed input from → drop from input ≡ mark → IsParted input (take from input) []
marked-end input from p is =
    inl (record {
      lines = p.lines;
      plain = p.plain;
      lines_are = p.passed;
      stands = inr (sym (take-append-drop from input) ∙ ap (λ l. take from input ++ l) is, refl);
    })

-- none is
pub unmarked : (input : List ℕ) (from : ℕ) → HasPassed input from → HasNoFeed (drop from input) → (drop from input ≢ mark) → IsParted input input []
unmarked input from p whole other =
    inr (record {
      lines = p.lines;
      last = drop from input;
      plain = p.plain;
      end = record { whole = whole; other = other };
      lines_are = passed-split input from p;
      first_is = refl;
      second_is = refl;
    })

-- what stands behind a place, as a slice tells it
pub behind-all : (input : List ℕ) (n : ℕ) → take (length input - n) (drop n input) ≡ drop n input
behind-all input n = take_all (length input - n) (drop n input) (omega (arith, length-drop n input))

-- nothing stands behind the end
pub none-behind : (input : List ℕ) → take (length input - length input) (drop (length input) input) ≡ []
none-behind input = behind-all input (length input) ∙ drop_of_length-le input (omega arith)
