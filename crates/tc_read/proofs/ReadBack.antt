-- Canonical text is read back by the readers of terms and of clauses.
use Rattle.std.proofs.Common.{◌≡◌, ◌∙◌, ◌⊎◌, ◌≤◌, ◌+◌, ◌-◌, ℕ, suc, Bool, true, false, nat_lt, List, [], ◌∷◌, ◌++◌, codes, drop, length, MatchOption, refl, sym, ap, inr, subst, append_assoc, append-nil, length-append, arith}
use Rattle.std.proofs.Math.Seq.{drop-append_seam}
use Rattle.std.proofs.lemmas.Bool.Decides.{nat_tests}
use Rattle.tc_term.proofs.Numbered.{renumbered-pattern}
use Rattle.tc_term.specs.Faults.{Ended, Found, TooBig, TooMany, WideInt, ReadsAs, Judged, Parsed, Stopped, When, all_known, first_place, most_open, place_behind}
use Rattle.tc_term.specs.Grammar.{operand}
use Rattle.tc_term.specs.Layouts.{IsBehindEnd, Scan, Stop, TextEnd, ClauseEnd, at_clause_end, at_text_end, no_layout}
use Rattle.tc_term.specs.Text.{Alone, canonical, text_in, text_of}
use Rattle.tc_term.specs.Tree.{Tree, Fits}
use Rattle.tc_term.specs.Variables.{IsPattern}
use Rattle.tc_read.proofs.Blanks.{no_piece, no_piece_empty}
use Rattle.tc_read.proofs.Printed.{TermSpelt, plain, spelled_out}
use Rattle.tc_read.proofs.Spelling.{Follows, length-variable_names}
use Rattle.tc_read.proofs.Spent.{pattern-spent, spent-takes}
use Rattle.tc_read.specs.Budget.{whole}
use Rattle.tc_term.specs.NameBytes.{has_read_names}
use Rattle.tc_term.specs.Readable.{IsReadable}
use Rattle.tc_read.specs.declared.budget.Budget.{Budget}

canonical-text : (t : Tree) → IsPattern t → canonical t ≡ text_in Alone t
canonical-text t pattern = ap text_of (renumbered-pattern t pattern)

-- the last rules, for tokens that are a term
module _ (clauses : Bool) (size place behind : ℕ) (stop : Stop) (t : Tree) (left : Budget) (s : List ℕ) (readable : IsReadable t)
    (few : left.variables ≤ 256) (spelt : TermSpelt clauses size stop s [] whole left t) where
  judged : Judged place behind (length (all_known [] spelt.tokens)) (plain t) (Found t behind)
  judged =
      subst (λ b. When b (Found t behind ≡ TooMany place) (((Found t behind ≡ TooBig place) × (Fits t → ⊥)) ⊎ ((Found t behind ≡ Found t behind) × Fits t)))
      (sym (no_more (length (all_known [] spelt.tokens)) (omega (arith, few, ap length spelt.names, length-variable_names left.variables 0 few (omega arith)))))
      (inr (refl, readable.pattern.template.fits))
    where
      no_more : (n : ℕ) → n ≤ 256 → nat_lt 256 n ≡ false
      no_more n h = grind (arith, nat_tests)

  parsed : Parsed place behind spelt.tokens (Found t behind)
  parsed = inr (plain t, operand spelt.means, judged)

  within : nat_lt 200 (most_open 0 spelt.tokens) ≡ false
  within = no_more (most_open 0 spelt.tokens) (omega (arith, spelt.most 0, readable.few_open))
    where
      no_more : (n : ℕ) → n ≤ 200 → nat_lt 200 n ≡ false
      no_more n h = grind (arith, nat_tests)

ended : (clauses : Bool) (size : ℕ) (stop : Stop) (t : Tree) (left : Budget) (s : List ℕ) → IsReadable t → left.variables ≤ 256 →
    (spelt : TermSpelt clauses size stop s [] whole left t) → Ended size spelt.tokens stop (Found t (place_behind size stop))
ended clauses size stop t left s readable few spelt =
    subst (λ b. When b (Found t (place_behind size stop) ≡ TooBig (first_place size spelt.tokens stop)) (Parsed (first_place size spelt.tokens stop) (place_behind size stop) spelt.tokens (Found t (place_behind size stop))))
    (sym (within clauses size (first_place size spelt.tokens stop) (place_behind size stop) stop t left s readable few spelt))
    (parsed clauses size (first_place size spelt.tokens stop) (place_behind size stop) stop t left s readable few spelt)

-- a template before this end
spelt-read : (clauses : Bool) (size : ℕ) (stop : Stop) (rest : List ℕ) → Follows rest → Scan clauses size rest [] stop → (t : Tree) → IsReadable t →
    (left : Budget) × (left.variables ≤ 256) × TermSpelt clauses size stop (text_in Alone t ++ rest) [] whole left t
spelt-read clauses size stop rest follows scan t readable =
    let (left, e) = pattern-spent t readable.pattern in
    let out = spelled_out clauses size stop t in
    (left, (spent-takes t 1000 whole left e).few (omega arith), out.alone 1000 whole left e (omega arith) readable.pattern.template.fits.integers (readable_names t readable) rest [] follows (λ known. tt) scan)
  where
    readable_names : (t : Tree) → IsReadable t → has_read_names t ≡ true
    readable_names t r = r.names

pub term-read : (t : Tree) → IsReadable t → ReadsAs false (length (canonical t)) (canonical t) (Found t (length (canonical t)))
term-read t readable =
    let size = length (canonical t) in
    let (left, few, spelt) = spelt-read false size TextEnd [] tt (at_text_end (no_layout no_piece_empty)) t readable in
    let text : text_in Alone t ++ [] ≡ canonical t = append-nil (text_in Alone t) ∙ sym (canonical-text t readable.pattern) in (
      spelt.tokens,
      TextEnd,
      subst (λ x. Scan false size x spelt.tokens TextEnd) text spelt.scan,
      subst (λ o. MatchOption o (Stopped false size spelt.tokens TextEnd (Found t size)) (λ place. Found t size ≡ WideInt place)) (sym spelt.wide)
          (ended false size TextEnd t left (text_in Alone t ++ []) readable few spelt),
    )

clause-read : (before after : List ℕ) (t : Tree) → IsReadable t → IsBehindEnd after →
    ReadsAs true (length (before ++ canonical t ++ 46 ∷ after)) (drop (length before) (before ++ canonical t ++ 46 ∷ after))
    (Found t (length before + length (canonical t) + 1))
clause-read before after t readable end =
    let text = before ++ canonical t ++ 46 ∷ after in
    let size = length text in
    let stop = ClauseEnd (size - suc (length after)) in
    let scan : Scan true size (46 ∷ after) [] stop =
    at_clause_end refl (no_layout (no_piece 46 after refl (λ h. omega (arith, h)) (λ h. omega (arith, h)))) end in
    let (left, few, spelt) = spelt-read true size stop (46 ∷ after) (refl, λ h. omega (arith, h)) scan t readable in
    let rest : text_in Alone t ++ 46 ∷ after ≡ drop (length before) text =
    ap (λ x. x ++ 46 ∷ after) (sym (canonical-text t readable.pattern)) ∙ sym (drop-append_seam before (canonical t ++ 46 ∷ after))
    ∙ ap (drop (length before)) (sym (append_assoc before (canonical t) (46 ∷ after))) in
    let place : size - suc (length after) + 1 ≡ length before + length (canonical t) + 1 =
    omega (arith, length-append (before ++ canonical t) (46 ∷ after), length-append before (canonical t)) in
    subst (λ k. ReadsAs true size (drop (length before) text) (Found t k)) place (
      spelt.tokens,
      stop,
      subst (λ x. Scan true size x spelt.tokens stop) rest spelt.scan,
      subst (λ o. MatchOption o (Stopped true size spelt.tokens stop (Found t (place_behind size stop))) (λ place. Found t (place_behind size stop) ≡ WideInt place)) (sym spelt.wide)
          (ended true size stop t left (text_in Alone t ++ 46 ∷ after) readable few spelt),
    )

pub clause-read-back : (before after : List ℕ) (t : Tree) → IsReadable t → IsBehindEnd after →
    ReadsAs true (length (before ++ canonical t ++ codes "." ++ after)) (drop (length before) (before ++ canonical t ++ codes "." ++ after))
    (Found t (length before + length (canonical t) + 1))
clause-read-back before after t readable end =
    subst (λ text. ReadsAs true (length text) (drop (length before) text) (Found t (length before + length (canonical t) + 1)))
    (sym (append_assoc (before ++ canonical t) (codes ".") after)) (clause-read before after t readable end)
