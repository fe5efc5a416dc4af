-- The template at the front: what is read is one, and none that stands there is longer.
use Rattle.std.proofs.Common.{◌≡◌, ◌∙◌, ◌≤◌, ◌+◌, ◌-◌, ◌==◌, ◌&&◌, ℕ, ℤ, Bool, true, false, cond, min, nat_lt, if◌then◌else◌, List, [], ◌∷◌, ◌++◌, codes, length, take, drop, Some, None, refl, sym, ap, subst, length-append, length-drop, length-take, append-nil, append_assoc, arith}
use Rattle.tc_term.specs.Bytes.{is_word, is_name_start}
use Rattle.tc_term.specs.Tree.{HasIntegers}
use Rattle.std.proofs.lemmas.Fmt.{decimal_digit}
use Rattle.std.proofs.lemmas.Bool.{cond_both, false_from_ne_true, and_parts}
use Rattle.std.proofs.lemmas.Slice.Eq.{bytes_eq-Decides}
use Rattle.std.specs.Char.{is_ascii_lowercase}
use Rattle.std.specs.Fmt.{decimal, signed_decimal}
use Rattle.std.specs.List.{list_all, prefix_len}
use Rattle.std.specs.declared.option.Option.{Option}
use Rattle.tc_lists.proofs.Decimals.{IsIntegerRead, integer_at-read}
use Rattle.tc_lists.proofs.Prefixes.{append-same}
use Rattle.std.proofs.Math.Seq.{drop-append_seam}
use Rattle.std.proofs.lemmas.List.FromFn.{length-range_with_len}
use Rattle.tc_lists.specs.Decimals.{integer_at, number_at}
use Rattle.tc_term.specs.Text.{Alone, canonical, is_name, is_nil, name_text, text_in, text_of, texts_of}
use Rattle.tc_term.specs.Tree.{Tree, Variable, Atomic, Number, Compound, Trees}
use Rattle.tc_term.specs.Variables.{IsPattern, renumbered, variables}
use Rattle.tc_term.proofs.Numbered.{renumbered-pattern}
use Rattle.tc_read.proofs.Again.{Ends-stops, again, atom-again, lower_no_quote, name_at-quoted, node-integer, node-named, reads-alone-again, variable-again}
use Rattle.tc_read.proofs.Words.{is_name-word_at}
use Rattle.tc_read.proofs.Lexemes.{lower_is_word}
use Rattle.tc_read.proofs.Spent.{first-variable, pattern-spent, some-paid, spent-pattern, spent-takes}
use Rattle.tc_read.proofs.Taken.{IsTook, IsTookAll, arguments-took, head-took, name_at-took, plain_text, quoted_text, reads-took}
use Rattle.tc_read.proofs.Texts.{text_in-Atomic, text_in-Number, text_in-nil}
use Rattle.tc_read.specs.Budget.{paid, then_in, whole}
use Rattle.tc_read.specs.Canonical.{EndsTerm, IsCanonicalAt, IsLongestCanonicalAt}
use Rattle.tc_read.specs.Front.{Read, arguments, atom, called, canonical_at, compound, head, is_cell, leaf, name_at, named, number, or_head, quoted_at, reads, unplain, word_at}
use Rattle.tc_read.specs.declared.budget.Budget.{Budget}
use Rattle.std.proofs.lemmas.Option.{same_Some}

-- the text of this template stands at the front
pub record Stands (bytes : List ℕ) (t : Tree) (rest : List ℕ) : Type 0 where
  pub pattern : IsPattern t
  pub text : bytes ≡ text_in Alone t ++ rest

abbrev pub IsStanding : List ℕ → Read Tree → Type 0
IsStanding bytes None = Unit {0}
IsStanding bytes (Some (t, left, rest)) = Stands bytes t rest

took-stands : (d : ℕ) (bytes : List ℕ) (found : Read Tree) → d ≤ 1000 → IsTook d Alone whole bytes found → IsStanding bytes found
took-stands d bytes None deep took = tt
took-stands d bytes (Some (t, left, rest)) deep took =
    record { pattern = spent-pattern t d left deep took.spent took.integers; text = took.text }

-- what was spent tells how many variables there are
abbrev pub HasCount : Read Tree → Type 0
HasCount None = Unit {0}
HasCount (Some (t, left, rest)) = left.variables ≡ length (variables t)

took-counts : (d : ℕ) (bytes : List ℕ) (found : Read Tree) → IsTook d Alone whole bytes found → HasCount found
took-counts d bytes None took = tt
took-counts d bytes (Some (t, left, rest)) took =
    sym (ap length (spent-takes t d whole left took.spent).variables ∙ length-range_with_len 0 left.variables)

pub canonical_at-counts : (bytes : List ℕ) → HasCount (canonical_at bytes)
canonical_at-counts bytes = by (reads 1000 Alone whole bytes) (reads-took 1000 Alone whole bytes)
  where
    by : (found : Read Tree) → IsTook 1000 Alone whole bytes found → HasCount (or_head bytes found)
    by None took = took-counts 1 bytes (head (name_at 65535 bytes)) (head-took bytes (name_at 65535 bytes) (name_at-took 65535 bytes))
    by (Some found) took = took-counts 1000 bytes (Some found) took

pub canonical_at-stands : (bytes : List ℕ) → IsStanding bytes (canonical_at bytes)
canonical_at-stands bytes = by (reads 1000 Alone whole bytes) (reads-took 1000 Alone whole bytes)
  where
    by : (found : Read Tree) → IsTook 1000 Alone whole bytes found → IsStanding bytes (or_head bytes found)
    by None took = took-stands 1 bytes (head (name_at 65535 bytes)) (omega arith) (head-took bytes (name_at 65535 bytes) (name_at-took 65535 bytes))
    by (Some found) took = took-stands 1000 bytes (Some found) (omega arith) took

-- what is found is there, and no more is left behind it than this
abbrev pub LeavesAtMost : List ℕ → Read Tree → Type 0
LeavesAtMost more None = ⊥
LeavesAtMost more (Some (t, left, rest)) = length rest ≤ length more

-- what is left behind a compound is shorter than what stands behind its name
abbrev Shorter : List ℕ → Read Tree → Type 0
Shorter s None = Unit {0}
Shorter s (Some (t, left, rest)) = length rest ≤ length s

compound-shorter : (d : ℕ) (budget : Budget) (name s : List ℕ) (found : Read Trees) → IsTookAll d budget s found → Shorter s (compound name found)
compound-shorter d budget name s None took = tt
compound-shorter d budget name s (Some (args, left, rest)) took =
    cond_both (is_cell name args) None (Some (Compound name args, left, rest)) (Shorter s) (λ cell. tt)
    (λ other. omega (arith, ap length took.text, length-append (texts_of args) (41 ∷ rest)))

called-shorter : (d : ℕ) (budget : Budget) (name s : List ℕ) → Shorter s (called (reads d) name budget s)
called-shorter d budget name s = by (paid (length name) budget)
  where
    by : (o : Option Budget) → Shorter s (compound name (then_in o (λ now. arguments (reads d Alone) now.room.nodes now s)))
    by None = tt
    by (Some next) = compound-shorter d next name s (arguments (reads d Alone) next.room.nodes next s) (arguments-took d (reads d Alone) (reads-took d Alone) next.room.nodes next s)

atom-shorter : (budget : Budget) (name rest : List ℕ) → Shorter rest (atom name budget rest)
atom-shorter budget name rest =
    cond_both (is_nil name) None (leaf (paid (length name) budget) (Atomic name) rest) (Shorter rest) (λ nil. tt) (λ other. by (paid (length name) budget))
  where
    by : (o : Option Budget) → Shorter rest (leaf o (Atomic name) rest)
    by None = tt
    by (Some left) = omega arith

longer-shorter : (b : ℕ) (s : List ℕ) (found : Read Tree) → Shorter s found → Shorter (b ∷ s) found
longer-shorter b s None short = tt
longer-shorter b s (Some (t, left, rest)) short = omega (arith, short)

named-shorter : (d : ℕ) (budget : Budget) (name rest : List ℕ) → Shorter rest (named (reads d) budget name rest)
named-shorter d budget name [] = atom-shorter budget name []
named-shorter d budget name (b ∷ s) =
    cond_both (b == 40) (called (reads d) name budget s) (atom name budget (b ∷ s)) (Shorter (b ∷ s))
    (λ bracket. longer-shorter b s (called (reads d) name budget s) (called-shorter d budget name s))
    (λ other. atom-shorter budget name (b ∷ s))

-- where a name of an atom is found, a term is
record AtName (bytes more : List ℕ) : Type 0 where
  name : List ℕ
  rest : List ℕ
  found : name_at 65535 bytes ≡ Some (name, rest)
  some : is_nil name ≡ false
  enough : length name ≤ 65535
  short : length rest ≤ length more

name-longest : (bytes more : List ℕ) → AtName bytes more → LeavesAtMost more (canonical_at bytes)
name-longest bytes more at = by (reads 1000 Alone whole bytes) shorter
  where
    shorter : Shorter at.rest (reads 1000 Alone whole bytes)
    shorter = subst (Shorter at.rest) (sym (node-named 999 whole bytes at.name at.rest at.found)) (named-shorter 999 whole at.name at.rest)

    alone : head (name_at 65535 bytes) ≡ Some (Atomic at.name, record whole { room = record { nodes = whole.room.nodes - 1; name_bytes = whole.room.name_bytes - length at.name } }, at.rest)
    alone = ap head at.found ∙ atom-again at.name whole _ at.rest at.some (some-paid (length at.name) whole (omega arith) at.enough)

    by : (found : Read Tree) → Shorter at.rest found → LeavesAtMost more (or_head bytes found)
    by None short = subst (LeavesAtMost more) (sym alone) at.short
    by (Some (t, left, rest)) short = omega (arith, short, at.short)

-- the name of an atom is found, or a longer one

words-front : (name more : List ℕ) → list_all is_word name ≡ true → length name ≤ prefix_len is_word (name ++ more)
words-front [] more all = omega arith
words-front (b ∷ name) more all =
    let both = and_parts (is_word b) (list_all is_word name) all in
    omega (arith, ap (λ p. cond p (1 + prefix_len is_word (name ++ more)) 0) (both.0), words-front name more both.1)

no_nil : (name : List ℕ) → is_name name ≡ true → is_nil name ≡ false
no_nil name e = false_from_ne_true (is_nil name) (λ nil.
    let same = (bytes_eq-Decides name (codes "[]")).0 nil in
    let no_name : is_name (codes "[]") ≡ true = ap is_name (sym same) ∙ e in absurd (cc))

plain-AtName : (name more : List ℕ) → is_name name ≡ true → length name ≤ 65535 → AtName (name ++ more) more
plain-AtName [] more plain enough = absurd (cc)
plain-AtName (b ∷ s) more plain enough =
    let both = and_parts (is_ascii_lowercase b) (list_all is_word s) plain in
    let bytes = b ∷ (s ++ more) in
    let lower = both.0 in
    let size = min 65535 (prefix_len is_word bytes) in
    let front : length (b ∷ s) ≤ prefix_len is_word bytes = words-front (b ∷ s) more (words b s both.0 both.1) in
    let is_one = is_name-word_at 65535 b (s ++ more) lower refl in
    record {
      name = take size bytes;
      rest = drop size bytes;
      found =
          ap (λ p. if p then unplain (quoted_at (s ++ more)) else (if is_name_start b && nat_lt 0 65535 then Some (word_at 65535 bytes) else None)) (lower_no_quote b both.0)
          ∙ ap (λ p. if p && nat_lt 0 65535 then Some (word_at 65535 bytes) else None) lower;
      some = no_nil (take size bytes) is_one;
      enough = omega (arith, length-take size bytes);
      short = omega (arith, length-drop size bytes, length-append (b ∷ s) more, front, enough);
    }
  where
    words : (b : ℕ) (s : List ℕ) → is_ascii_lowercase b ≡ true → list_all is_word s ≡ true → list_all is_word (b ∷ s) ≡ true
    words b s lower all = ap (λ p. p && list_all is_word s) (lower_is_word b lower) ∙ all

text-AtName : (name more : List ℕ) → is_nil name ≡ false → length name ≤ 65535 → AtName (name_text name ++ more) more
text-AtName name more some enough = by (is_name name) refl
  where
    by : (p : Bool) → is_name name ≡ p → AtName (name_text name ++ more) more
    by true e = subst (λ x. AtName (x ++ more) more) (sym (plain_text name e)) (plain-AtName name more e enough)
    by false e = record {
      name = name;
      rest = more;
      found = ap (λ x. name_at 65535 (x ++ more)) (quoted_text name e) ∙ name_at-quoted 65535 name more e;
      some = some;
      enough = enough;
      short = omega arith;
    }

-- what is read as a whole term
whole-longest : (bytes more : List ℕ) (t : Tree) (left : Budget) → reads 1000 Alone whole bytes ≡ Some (t, left, more) → LeavesAtMost more (canonical_at bytes)
whole-longest bytes more t left e = subst (λ found. LeavesAtMost more (or_head bytes found)) (sym e) (omega arith)

number-longest : (bytes more : List ℕ) (z : ℤ) → HasIntegers (Number z) → bytes ≡ signed_decimal z ++ more → LeavesAtMost more (canonical_at bytes)
number-longest bytes more z fits text =
    subst (λ found. LeavesAtMost more (or_head bytes found)) (sym (node-integer 999 whole z more bytes fits text))
    (by (integer_at bytes) (integer_at-read bytes))
  where
    by : (found : Option (ℤ × List ℕ)) → IsIntegerRead bytes found → LeavesAtMost more (or_head bytes (number whole found))
    by None none = absurd (none z more (record { fits = fits; text = text }))
    by (Some (y, rest)) read = read.longest z more (record { fits = fits; text = text })

-- no template that stands there is longer than what is read
pub canonical_at-longest : (t : Tree) (bytes more : List ℕ) → Stands bytes t more → LeavesAtMost more (canonical_at bytes)
canonical_at-longest (Variable n) bytes more stands =
    let (left, e) = pattern-spent (Variable n) stands.pattern in
    let zero_alone : n ≡ 0 = first-variable n left e in
    let digits : decimal n ++ more ≡ 48 ∷ more = ap (λ k. decimal k ++ more) zero_alone ∙ ap (λ x. x ++ more) (decimal_digit 0 (omega arith)) in
    whole-longest bytes more (Variable n) left
    (ap (reads 1000 Alone whole) stands.text
    ∙ variable-again 999 n whole left more e (ap (number_at 255) digits ∙ ap (λ k. Some (k, more)) (sym zero_alone)))
canonical_at-longest (Atomic name) bytes more stands = by (is_nil name) refl
  where
    by : (p : Bool) → is_nil name ≡ p → LeavesAtMost more (canonical_at bytes)
    by true e =
        subst (λ x. LeavesAtMost more (canonical_at x)) (sym (stands.text ∙ ap (λ x. x ++ more) (text_in-nil Alone name e))) (omega arith)
    by false e =
        subst (λ x. LeavesAtMost more (canonical_at x)) (sym (stands.text ∙ ap (λ x. x ++ more) (text_in-Atomic Alone name e)))
        (name-longest (name_text name ++ more) more (text-AtName name more e stands.pattern.template.fits.name_bytes))
canonical_at-longest (Number z) bytes more stands =
    number-longest bytes more z stands.pattern.template.fits.integers (stands.text ∙ ap (λ x. x ++ more) (text_in-Number Alone z))
canonical_at-longest (Compound name args) bytes more stands =
    let (left, e) = pattern-spent (Compound name args) stands.pattern in
    whole-longest bytes more (Compound name args) left
    (ap (reads 1000 Alone whole) stands.text
    ∙ reads-alone-again (Compound name args) (again (Compound name args)) 1000 whole left more e stands.pattern.template.fits.integers tt)

-- The same in the words of the contract.

pub IsCanonicalAt-stands : (text : List ℕ) (from behind : ℕ) (p : Tree) (at : IsCanonicalAt text from p behind) → Stands (drop from text) p at.rest
IsCanonicalAt-stands text from behind p at = record {
  pattern = at.pattern;
  text = at.stands ∙ ap (λ t. text_of t ++ at.rest) (renumbered-pattern p at.pattern);
}

stands-IsCanonicalAt : (text : List ℕ) (from behind : ℕ) (p : Tree) (rest : List ℕ) → behind + length rest ≡ length text →
    Stands (drop from text) p rest → IsCanonicalAt text from p behind
stands-IsCanonicalAt text from behind p rest place stands = record {
  pattern = stands.pattern;
  rest = rest;
  stands = stands.text ∙ ap (λ t. text_of t ++ rest) (sym (renumbered-pattern p stands.pattern));
  place = place;
}

pub front-none : (text : List ℕ) (from : ℕ) → canonical_at (drop from text) ≡ None → (p : Tree) (behind : ℕ) → IsCanonicalAt text from p behind → ⊥
front-none text from e p behind at =
    subst (LeavesAtMost at.rest) e (canonical_at-longest p (drop from text) at.rest (IsCanonicalAt-stands text from behind p at))

module _ (text : List ℕ) (from : ℕ) (t : Tree) (left : Budget) (rest : List ℕ) (inside : from ≤ length text)
    (e : canonical_at (drop from text) ≡ Some (t, left, rest)) where
  pub front-stands : Stands (drop from text) t rest
  front-stands = subst (IsStanding (drop from text)) e (canonical_at-stands (drop from text))

  pub front-rest : length rest ≤ length text
  front-rest = omega (arith, ap length front-stands.text, length-append (text_in Alone t) rest, length-drop from text)

  pub front-longest : (p : Tree) (behind : ℕ) → p ≡ renumbered t → behind ≡ length text - length rest → IsLongestCanonicalAt text from p behind
  front-longest p behind is_p is_behind =
      let place : behind + length rest ≡ length text = omega (arith, is_behind, front-rest) in
      let same : t ≡ p = sym (is_p ∙ renumbered-pattern t front-stands.pattern) in
      record {
        stands = subst (λ q. IsCanonicalAt text from q behind) same (stands-IsCanonicalAt text from behind t rest place front-stands);
        longest = λ q end at.
            let short : length rest ≤ length at.rest =
            subst (LeavesAtMost at.rest) e (canonical_at-longest q (drop from text) at.rest (IsCanonicalAt-stands text from end q at)) in
            omega (arith, short, at.place, place);
      }

-- one template at most has this text
texts-same : (p q : Tree) → Stands (text_in Alone p) p [] → Stands (text_in Alone p) q [] → p ≡ q
texts-same p q one other =
    let (left, e) = pattern-spent p one.pattern in
    let (left', f) = pattern-spent q other.pattern in
    let same : Some (p, left, []) ≡ Some (q, left', []) =
    sym (ap (reads 1000 Alone whole) one.text ∙ reads-alone-again p (again p) 1000 whole left [] e one.pattern.template.fits.integers (Ends-stops p [] tt))
    ∙ ap (reads 1000 Alone whole) other.text ∙ reads-alone-again q (again q) 1000 whole left' [] f other.pattern.template.fits.integers (Ends-stops q [] tt) in
    ap (λ r. r.0) (same_Some (p, left, []) (q, left', []) same)

pub IsCanonicalAt-same : (text : List ℕ) (from : ℕ) (p q : Tree) (behind : ℕ) → IsCanonicalAt text from p behind → IsCanonicalAt text from q behind → p ≡ q
IsCanonicalAt-same text from p q behind at at' =
    let one = IsCanonicalAt-stands text from behind p at in
    let other = IsCanonicalAt-stands text from behind q at' in
    let long : length at.rest ≡ length at'.rest = omega (arith, at.place, at'.place) in
    let fronts = append-same (text_in Alone p) (text_in Alone q) at.rest at'.rest (sym one.text ∙ other.text) long in
    texts-same p q
    (record { pattern = at.pattern; text = sym (append-nil (text_in Alone p)) })
    (record { pattern = at'.pattern; text = fronts.0 ∙ sym (append-nil (text_in Alone q)) })

pub IsLongestCanonicalAt-same : (text : List ℕ) (from : ℕ) (p q : Tree) (behind end : ℕ) → IsLongestCanonicalAt text from p behind → IsLongestCanonicalAt text from q end →
    (p ≡ q) × (behind ≡ end)
IsLongestCanonicalAt-same text from p q behind end one other =
    let same : behind ≡ end = omega (arith, one.longest q end other.stands, other.longest p behind one.stands) in
    (IsCanonicalAt-same text from p q end (subst (IsCanonicalAt text from p) same one.stands) other.stands, same)

-- what is printed before something that goes on no term is read there
printed-found : (p : Tree) (behind : List ℕ) → Stands (text_in Alone p ++ behind) p behind → EndsTerm behind → (left : Budget) × (canonical_at (text_in Alone p ++ behind) ≡ Some (p, left, behind))
printed-found p behind stands ends =
    let (left, e) = pattern-spent p stands.pattern in
    (left, ap (or_head (text_in Alone p ++ behind)) (reads-alone-again p (again p) 1000 whole left behind e stands.pattern.template.fits.integers (Ends-stops p behind ends)))

pub printed-longest : (before behind : List ℕ) (p : Tree) → IsPattern p → EndsTerm behind →
    IsLongestCanonicalAt (before ++ canonical p ++ behind) (length before) p (length before + length (canonical p))
printed-longest before behind p pattern ends =
    let text = before ++ canonical p ++ behind in
    let same : canonical p ≡ text_in Alone p = ap text_of (renumbered-pattern p pattern) in
    let rest : drop (length before) text ≡ text_in Alone p ++ behind =
    ap (drop (length before)) (append_assoc before (canonical p) behind) ∙ drop-append_seam before (canonical p ++ behind) ∙ ap (λ x. x ++ behind) same in
    let size : length text ≡ length before + length (canonical p) + length behind =
    omega (arith, length-append (before ++ canonical p) behind, length-append before (canonical p)) in
    let stands : Stands (text_in Alone p ++ behind) p behind = record { pattern = pattern; text = refl } in
    let (left, e) = printed-found p behind stands ends in
    front-longest text (length before) p left behind (omega (arith, size)) (ap canonical_at rest ∙ e) p (length before + length (canonical p))
    (sym (renumbered-pattern p pattern)) (omega (arith, size))
