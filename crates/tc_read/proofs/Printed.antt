-- The canonical text of a term is scanned to tokens that are that term.
use Rattle.std.proofs.Common.{◌≡◌, ◌∙◌, ◌<◌, ◌≤◌, ◌+◌, ◌-◌, ◌^◌, ◌&&◌, ℕ, zero, suc, ℤ, pos, negsuc, Bool, true, false, max, nat_lt, if◌then◌else◌, List, [], ◌∷◌, ◌++◌, codes, length, FitsSigned, Some, None, refl, sym, ap, ap₂, subst, append_assoc, eq-eqb, arith}
use Rattle.tc_term.specs.Bytes.{is_word, is_name_byte}
use Rattle.tc_term.specs.Tree.{HasIntegers, HaveIntegers}
use Rattle.std.proofs.Math.Nat.{add-sub_cancel}
use Rattle.std.proofs.lemmas.Bool.Decides.{nat_tests}
use Rattle.std.proofs.lemmas.Slice.Eq.{bytes_eq-Decides}
use Rattle.std.specs.Char.{is_ascii_digit, is_ascii_lowercase}
use Rattle.std.specs.Fmt.{decimal, signed_decimal}
use Rattle.std.specs.List.{list_all}
use Rattle.std.proofs.lemmas.Bool.{and_parts}
use mir.Syntax.{w64}
use Rattle.tc_lists.proofs.Decimals.{decimal-first, decimal-not_nil}
use Rattle.tc_term.specs.Faults.{Reading, all_known, first_wide, is_wide, known_after, most_open, number_of, numbered, open_behind, or_else, reading, terms, trees, wide_at, wide_of_all}
use Rattle.tc_term.specs.Grammar as grammar
use Rattle.tc_term.specs.Grammar.{Arguments, Derives, Items, NotCalled, Operand, Token, operand, variable, integer, negative, atom, compound, no_items, items, last_argument, more_arguments, last_item, list_tail, more_items}
use Rattle.tc_term.specs.Layouts.{At, NoPiece, Scan, Stop, no_layout, token}
use Rattle.tc_term.specs.Text.{Alone, Behind, is_dot, is_name, is_nil, name_text, quoted, text_in, texts_of}
use Rattle.tc_term.specs.Tokens as spelled
use Rattle.tc_term.specs.Tokens.{Lexeme, Word, Quoted, Symbol, Punctuation, Minus, OpenList, CloseList, Comma, Bar, mark_byte}
use Rattle.tc_term.specs.Tree.{Tree, Variable, Atomic, Number, Compound, Trees, Last, More}
use Rattle.tc_read.proofs.Blanks.{no_piece}
use Rattle.tc_read.proofs.Lexemes.{begins_mark, begins_sign}
use Rattle.tc_read.proofs.Spelling.{Follows, Follows-word, known-new, known-old, number-new, number-old, spells_number, spells_quoted, spells_variable, spells_word, variable_name, variable_names}
use Rattle.tc_read.proofs.Spent.{Numbered, numbered-some, old, new, paid-some, spent-takes, then_in-some}
use Rattle.tc_read.proofs.Taken.{plain_text, quoted_text}
use Rattle.tc_read.proofs.Texts.{text_in-Variable, text_in-Number, text_in-nil, text_in-Atomic, text_in-cell, text_in-Compound, texts_of-Last, texts_of-More, text_in-barred}
use Rattle.tc_read.specs.Budget.{numbered as in_room, paid, spent, spent_all, then_in}
use Rattle.tc_read.specs.Front.{is_barred, is_cell}
use Rattle.tc_read.specs.Lexing.{Begins}
use Rattle.tc_term.specs.NameBytes.{has_read_names, have_read_names}
use Rattle.tc_term.specs.Readable.{opened, opened_in_all}
use Rattle.tc_read.specs.declared.budget.Budget.{Budget}

-- a term that is read, with no integer too wide
abbrev pub plain : Tree → Reading
plain t = record { term = t; wide = None }

-- a token that directly follows
abbrev at : ℕ → Lexeme → At
at place lexeme = record { lexeme = lexeme; place = place; glued = true }

-- what stands behind an element, as a list from that element on
abbrev pub GoesOn : Tree → List Token → List Token → Type 0
GoesOn u ts us = (x : List Token) (t : Tree) → Derives reading 999 x (plain t) ts → Items reading x (plain (Compound (codes ".") (More t (Last u)))) us

abbrev first : Trees → Tree
first (Last t) = t
first (More t ts) = t

abbrev others : Trees → List Reading
others (Last t) = []
others (More t ts) = plain (first ts) ∷ others ts

others-trees : (ts : Trees) → trees (first ts) (terms (others ts)) ≡ ts
others-trees (Last t) = refl
others-trees (More t ts) = ap (More t) (others-trees ts)

others-wide : (ts : Trees) → wide_of_all (others ts) ≡ None
others-wide (Last t) = refl
others-wide (More t ts) = others-wide ts

compound-plain : (name : List ℕ) (ts : Trees) → reading.compound name (plain (first ts)) (others ts) ≡ plain (Compound name ts)
compound-plain name ts = ap₂ (λ t w. record { term = Compound name t; wide = w }) (others-trees ts) (others-wide ts)

-- no layout begins so

no_layout_word : (b : ℕ) (s : List ℕ) → is_ascii_lowercase b ≡ true → NoPiece (b ∷ s)
no_layout_word b s e = no_piece b s (grind (arith, nat_tests)) (λ h. grind (arith, nat_tests)) (λ h. grind (arith, nat_tests))

no_layout_digit : (b : ℕ) (s : List ℕ) → is_ascii_digit b ≡ true → NoPiece (b ∷ s)
no_layout_digit b s e = no_piece b s (grind (arith, nat_tests)) (λ h. grind (arith, nat_tests)) (λ h. grind (arith, nat_tests))

no_layout_decimal : (n : ℕ) (rest l : List ℕ) → n < 2 ^ 64 → l ≡ decimal n ++ rest → NoPiece l
no_layout_decimal n rest [] small e = absurd (decimal-not_nil n rest small e)
no_layout_decimal n rest (b ∷ s) small e = no_layout_digit b s (decimal-first n b s rest small e).digit

no_layout_name : (name rest : List ℕ) → is_name name ≡ true → NoPiece (name ++ rest)
no_layout_name [] rest e = absurd (cc)
no_layout_name (b ∷ s) rest e = no_layout_word b (s ++ rest) (and_parts (is_ascii_lowercase b) (list_all is_word s) e).0

-- the number of a variable, and what is known behind it
variable-known : (n : ℕ) (budget left : Budget) → then_in (in_room n budget) (paid 0) ≡ Some left → budget.variables ≤ 256 →
    (number_of (variable_names budget.variables) (variable_name n) ≡ n) × (known_after (variable_names budget.variables) (variable_name n) ≡ variable_names left.variables) × (n < 2 ^ 64)
variable-known n budget left e small =
    let (mid, there, more) = then_in-some (in_room n budget) (paid 0) left e in by mid (numbered-some n budget mid there) (ap (λ r. r.variables) (paid-some 0 mid left more).is)
  where
    by : (mid : Budget) → Numbered n budget mid → mid.variables ≡ left.variables →
        (number_of (variable_names budget.variables) (variable_name n) ≡ n) × (known_after (variable_names budget.variables) (variable_name n) ≡ variable_names left.variables) × (n < 2 ^ 64)
    by mid (old below few is) same =
        let bound : n < 2 ^ 64 = omega (arith, few) in (
          number-old budget.variables n small bound below,
          known-old budget.variables n small bound below ∙ ap variable_names (ap (λ r. r.variables) is ∙ same),
          bound,
        )
    by mid (new next few is) same =
        let bound : n < 2 ^ 64 = omega (arith, few) in (
          number-new budget.variables n small bound next,
          known-new budget.variables n small bound next ∙ ap variable_names (ap (λ r. r.variables) is ∙ same),
          bound,
        )

-- how many brackets are open
opened-Compound : (name : List ℕ) (ts : Trees) → is_cell name ts ≡ false → opened Alone (Compound name ts) ≡ opened_in_all ts + 1
opened-Compound name (Last t) e = refl
opened-Compound name (More t (Last u)) e = ap (λ b. if b then max (opened Alone t) (opened Behind u) + 1 else max (opened Alone t) (opened Alone u) + 1) e
opened-Compound name (More t (More u ts)) e = refl

opened-barred : (t : Tree) → is_barred t ≡ true → opened Behind t ≡ opened Alone t
opened-barred (Variable n) e = refl
opened-barred (Atomic name) e = by (is_nil name) refl
  where
    by : (p : Bool) → is_nil name ≡ p → opened Behind (Atomic name) ≡ opened Alone (Atomic name)
    by true i = let apart : false ≡ true = sym (ap (λ b. if b then false else true) i) ∙ e in absurd (cc)
    by false i = sym (ap (λ b. if b then 1 else 0) i)
opened-barred (Number z) e = refl
opened-barred (Compound name (Last t)) e = refl
opened-barred (Compound name (More t (Last u))) e = by (is_dot name) refl
  where
    by : (p : Bool) → is_dot name ≡ p → opened Behind (Compound name (More t (Last u))) ≡ opened Alone (Compound name (More t (Last u)))
    by true i = let apart : false ≡ true = sym (ap (λ b. if b then false else true) i) ∙ e in absurd (cc)
    by false i =
        ap (λ b. if b then max (opened Alone t) (opened Behind u) else max (opened Alone t) (opened Alone u) + 1) i
        ∙ sym (ap (λ b. if b then max (opened Alone t) (opened Behind u) + 1 else max (opened Alone t) (opened Alone u) + 1) i)
opened-barred (Compound name (More t (More u ts))) e = refl

-- how many of the brackets that are open before a text are open behind it: all, or all but the last
abbrev pub stays : ℕ → ℕ
stays n = n

abbrev pub falls : ℕ → ℕ
falls n = n - 1

-- A text of this size that has this end.
module _ (clauses : Bool) (size : ℕ) (stop : Stop) where
  add : (s after : List ℕ) (lexeme : Lexeme) (ts : List At) → NoPiece s → Begins s lexeme after → Scan clauses size after ts stop →
      Scan clauses size s (at (size - length s) lexeme ∷ ts) stop
  add s after lexeme ts none begins scan =
      subst (λ g. Scan clauses size s (record { lexeme = lexeme; place = size - length s; glued = g } ∷ ts) stop)
      (eq-eqb (length s) (length s) refl) (token (no_layout none) begins.1 scan)

  -- punctuation
  add_mark : (mark : spelled.Mark) (after : List ℕ) (ts : List At) → NoPiece (mark_byte mark ∷ after) → Begins (mark_byte mark ∷ after) (Punctuation mark) after →
      Scan clauses size after ts stop → Scan clauses size (mark_byte mark ∷ after) (at (size - length (mark_byte mark ∷ after)) (Punctuation mark) ∷ ts) stop
  add_mark mark after ts none begins scan = add (mark_byte mark ∷ after) after (Punctuation mark) ts none begins scan

  add_open : (after : List ℕ) (ts : List At) → Scan clauses size after ts stop → Scan clauses size (40 ∷ after) (at (size - length (40 ∷ after)) (Punctuation spelled.Open) ∷ ts) stop
  add_open after ts scan = add_mark spelled.Open after ts (no_piece 40 after refl (λ e. omega (arith, e)) (λ e. omega (arith, e))) (begins_mark spelled.Open after refl) scan

  add_close : (after : List ℕ) (ts : List At) → Scan clauses size after ts stop → Scan clauses size (41 ∷ after) (at (size - length (41 ∷ after)) (Punctuation spelled.Close) ∷ ts) stop
  add_close after ts scan = add_mark spelled.Close after ts (no_piece 41 after refl (λ e. omega (arith, e)) (λ e. omega (arith, e))) (begins_mark spelled.Close after refl) scan

  add_open_list : (after : List ℕ) (ts : List At) → Scan clauses size after ts stop → Scan clauses size (91 ∷ after) (at (size - length (91 ∷ after)) (Punctuation OpenList) ∷ ts) stop
  add_open_list after ts scan = add_mark OpenList after ts (no_piece 91 after refl (λ e. omega (arith, e)) (λ e. omega (arith, e))) (begins_mark OpenList after refl) scan

  add_close_list : (after : List ℕ) (ts : List At) → Scan clauses size after ts stop → Scan clauses size (93 ∷ after) (at (size - length (93 ∷ after)) (Punctuation CloseList) ∷ ts) stop
  add_close_list after ts scan = add_mark CloseList after ts (no_piece 93 after refl (λ e. omega (arith, e)) (λ e. omega (arith, e))) (begins_mark CloseList after refl) scan

  add_comma : (after : List ℕ) (ts : List At) → Scan clauses size after ts stop → Scan clauses size (44 ∷ after) (at (size - length (44 ∷ after)) (Punctuation Comma) ∷ ts) stop
  add_comma after ts scan = add_mark Comma after ts (no_piece 44 after refl (λ e. omega (arith, e)) (λ e. omega (arith, e))) (begins_mark Comma after refl) scan

  add_bar : (after : List ℕ) (ts : List At) → Scan clauses size after ts stop → Scan clauses size (124 ∷ after) (at (size - length (124 ∷ after)) (Punctuation Bar) ∷ ts) stop
  add_bar after ts scan = add_mark Bar after ts (no_piece 124 after refl (λ e. omega (arith, e)) (λ e. omega (arith, e))) (begins_mark Bar after refl) scan

  -- The bytes s are tokens before these: of them no integer is wide, and so many brackets are open at most among them
  -- beyond those that were open before; before them and behind them these variables are known.
  pub record Spelt (s : List ℕ) (ts : List At) (known known' : List (List ℕ)) (bound : ℕ) (level : ℕ → ℕ) (Means : List Token → List Token → Type 0) : Type 0 where
    pub tokens : List At
    pub scan : Scan clauses size s tokens stop
    pub wide : first_wide tokens ≡ first_wide ts
    pub most : (n : ℕ) → most_open n tokens ≤ max (n + bound) (most_open (level n) ts)
    pub names : all_known known tokens ≡ all_known known' ts
    pub means : Means (numbered known tokens) (numbered known' ts)

  abbrev pub TermSpelt : (s : List ℕ) (ts : List At) (budget left : Budget) (t : Tree) → Type 0
  TermSpelt s ts budget left t = Spelt s ts (variable_names budget.variables) (variable_names left.variables) (opened Alone t) stays (λ x y. Operand reading x (plain t) y)

  -- a term behind an element: nothing in it goes on that
  pub record TailSpelt (s : List ℕ) (ts : List At) (budget left : Budget) (t : Tree) : Type 0 where
    pub spelt : Spelt s ts (variable_names budget.variables) (variable_names left.variables) (opened Behind t) falls (GoesOn t)
    pub follows : Follows s
    pub not_called : (known : List (List ℕ)) → NotCalled (numbered known spelt.tokens)

  -- a term, by itself and behind an element
  pub record Spelled (t : Tree) : Type 0 where
    pub alone : (d : ℕ) (budget left : Budget) → spent d budget t ≡ Some left → budget.variables ≤ 256 → HasIntegers t → has_read_names t ≡ true →
        (rest : List ℕ) (ts : List At) → Follows rest → ((known : List (List ℕ)) → NotCalled (numbered known ts)) → Scan clauses size rest ts stop →
        TermSpelt (text_in Alone t ++ rest) ts budget left t
    pub behind : (d : ℕ) (budget left : Budget) → spent d budget t ≡ Some left → budget.variables ≤ 256 → HasIntegers t → has_read_names t ≡ true →
        (rest : List ℕ) (ts : List At) → Scan clauses size rest ts stop → TailSpelt (text_in Behind t ++ rest) ts budget left t

  same_text : (s s' : List ℕ) (ts : List At) (known known' : List (List ℕ)) (most : ℕ) (level : ℕ → ℕ) (Means : List Token → List Token → Type 0) → s ≡ s' →
      Spelt s' ts known known' most level Means → Spelt s ts known known' most level Means
  same_text s s' ts known known' most level Means e spelt = record {
    tokens = spelt.tokens;
    scan = subst (λ x. Scan clauses size x spelt.tokens stop) (sym e) spelt.scan;
    wide = spelt.wide;
    most = spelt.most;
    names = spelt.names;
    means = spelt.means;
  }

  same_tail : (s s' : List ℕ) (ts : List At) (budget left : Budget) (t : Tree) → s ≡ s' → TailSpelt s' ts budget left t → TailSpelt s ts budget left t
  unfolding same_text
  same_tail s s' ts budget left t e tail = record {
    spelt = same_text s s' ts (variable_names budget.variables) (variable_names left.variables) (opened Behind t) falls (GoesOn t) e tail.spelt;
    follows = subst Follows (sym e) tail.follows;
    not_called = tail.not_called;
  }

  variable-spelt : (n : ℕ) (budget left : Budget) → then_in (in_room n budget) (paid 0) ≡ Some left → budget.variables ≤ 256 →
      (rest : List ℕ) (ts : List At) → Follows rest → Scan clauses size rest ts stop → TermSpelt (95 ∷ decimal n ++ rest) ts budget left (Variable n)
  variable-spelt n budget left e small rest ts follows scan =
      let known = variable-known n budget left e small in
      let s = 95 ∷ decimal n ++ rest in
      record {
        tokens = at (size - length s) (spelled.Variable (variable_name n)) ∷ ts;
        scan = add s rest (spelled.Variable (variable_name n)) ts (no_piece 95 (decimal n ++ rest) refl (λ h. omega (arith, h)) (λ h. omega (arith, h)))
            (spells_variable n rest known.2 (Follows-word rest follows)) scan;
        wide = refl;
        most = λ n. omega arith;
        names = ap (λ k. all_known k ts) known.1;
        means = subst (λ x. Operand reading x (plain (Variable n)) (numbered (variable_names left.variables) ts))
            (ap₂ (λ i k. grammar.Variable i ∷ numbered k ts) (sym known.0) (sym known.1)) variable;
      }

  number-spelt : (z : ℤ) (budget left : Budget) → budget.variables ≡ left.variables → FitsSigned w64 z →
      (rest : List ℕ) (ts : List At) → Follows rest → Scan clauses size rest ts stop → TermSpelt (signed_decimal z ++ rest) ts budget left (Number z)
  number-spelt (pos n) budget left same fits rest ts follows scan =
      let bound = fits.sfits in
      let small : n < 2 ^ 63 = omega arith in
      let s = decimal n ++ rest in
      let place = size - length s in
      record {
        tokens = at place (spelled.Number n) ∷ ts;
        scan = add s rest (spelled.Number n) ts (no_layout_decimal n rest s (omega (arith, small)) refl) (spells_number n rest (omega (arith, small)) (Follows-word rest follows)) scan;
        wide = ap (λ b. or_else (if b then Some place else None) (first_wide ts)) (not_less n small);
        most = λ n. omega arith;
        names = ap (λ k. all_known (variable_names k) ts) same;
        means = subst (λ k. Operand reading (grammar.Integer true n place ∷ numbered (variable_names budget.variables) ts) (plain (Number (pos n))) (numbered (variable_names k) ts)) same
            (subst (λ r. Operand reading (grammar.Integer true n place ∷ numbered (variable_names budget.variables) ts) r (numbered (variable_names budget.variables) ts))
            (ap (λ b. record { term = Number (pos n); wide = if b then Some place else None }) (not_wide n small)) integer);
      }
    where
      not_less : (n : ℕ) → n < 2 ^ 63 → nat_lt (2 ^ 63) n ≡ false
      not_less n h = grind (arith, nat_tests)

      not_wide : (n : ℕ) → n < 2 ^ 63 → is_wide false n ≡ false
      not_wide n h = grind (arith, nat_tests)
  number-spelt (negsuc n) budget left same fits rest ts follows scan =
      let bound = fits.sfits in
      let small : suc n ≤ 2 ^ 63 = omega arith in
      let s = decimal (suc n) ++ rest in
      let place = size - length s in
      record {
        tokens = at (size - length (45 ∷ s)) (Symbol Minus) ∷ at place (spelled.Number (suc n)) ∷ ts;
        scan = add (45 ∷ s) s (Symbol Minus) (at place (spelled.Number (suc n)) ∷ ts) (no_piece 45 s refl (λ h. omega (arith, h)) (λ h. omega (arith, h)))
            (begins_sign 45 s s Minus refl (λ h. omega (arith, h)) refl refl refl)
            (add s rest (spelled.Number (suc n)) ts (no_layout_decimal (suc n) rest s (omega (arith, small)) refl) (spells_number (suc n) rest (omega (arith, small)) (Follows-word rest follows)) scan);
        wide = ap (λ b. or_else (if b then Some place else None) (first_wide ts)) (not_less (suc n) small);
        most = λ n. omega arith;
        names = ap (λ k. all_known (variable_names k) ts) same;
        means = subst (λ k. Operand reading (grammar.Symbol Minus ∷ grammar.Integer true (suc n) place ∷ numbered (variable_names budget.variables) ts) (plain (Number (negsuc n))) (numbered (variable_names k) ts)) same
            (subst (λ r. Operand reading (grammar.Symbol Minus ∷ grammar.Integer true (suc n) place ∷ numbered (variable_names budget.variables) ts) r (numbered (variable_names budget.variables) ts))
            (ap (λ b. record { term = Number (negsuc n); wide = if b then Some place else None }) (not_less (suc n) small)) negative);
      }
    where
      not_less : (n : ℕ) → n ≤ 2 ^ 63 → nat_lt (2 ^ 63) n ≡ false
      not_less n h = grind (arith, nat_tests)

  -- a name before these tokens
  record NameSpelt (name : List ℕ) (s : List ℕ) (ts : List At) : Type 0 where
    plainly : Bool
    at_name : At
    scan : Scan clauses size s (at_name ∷ ts) stop
    wide : wide_at at_name.place at_name.lexeme ≡ None
    most : (n : ℕ) → open_behind n at_name.lexeme ≡ n
    names : (known : List (List ℕ)) → all_known known (at_name ∷ ts) ≡ all_known known ts
    means : (known : List (List ℕ)) → numbered known (at_name ∷ ts) ≡ grammar.Name plainly name ∷ numbered known ts

  name-spelt : (name rest : List ℕ) (ts : List At) → list_all is_name_byte name ≡ true → Follows rest → Scan clauses size rest ts stop → NameSpelt name (name_text name ++ rest) ts
  name-spelt name rest ts all follows scan = by (is_name name) refl
    where
      by : (p : Bool) → is_name name ≡ p → NameSpelt name (name_text name ++ rest) ts
      by true e = subst (λ x. NameSpelt name (x ++ rest) ts) (sym (plain_text name e)) (record {
        plainly = true;
        at_name = at (size - length (name ++ rest)) (Word name);
        scan = add (name ++ rest) rest (Word name) ts (no_layout_name name rest e) (spells_word name rest e (Follows-word rest follows)) scan;
        wide = refl;
        most = λ n. refl;
        names = λ known. refl;
        means = λ known. refl;
      })
      by false e = subst (λ x. NameSpelt name (x ++ rest) ts) (sym (quoted_text name e)) (record {
        plainly = false;
        at_name = at (size - length (quoted name ++ rest)) (Quoted name);
        scan = add (quoted name ++ rest) rest (Quoted name) ts (no_piece 39 _ refl (λ h. omega (arith, h)) (λ h. omega (arith, h))) (spells_quoted name rest all follows) scan;
        wide = refl;
        most = λ n. refl;
        names = λ known. refl;
        means = λ known. refl;
      })

  atom-spelt : (name : List ℕ) (budget left : Budget) → is_nil name ≡ false → budget.variables ≡ left.variables → list_all is_name_byte name ≡ true →
      (rest : List ℕ) (ts : List At) → Follows rest → ((known : List (List ℕ)) → NotCalled (numbered known ts)) → Scan clauses size rest ts stop →
      TermSpelt (name_text name ++ rest) ts budget left (Atomic name)
  atom-spelt name budget left some same all rest ts follows not_called scan =
      let spelt = name-spelt name rest ts all follows scan in
      let known = variable_names budget.variables in
      record {
        tokens = spelt.at_name ∷ ts;
        scan = spelt.scan;
        wide = ap (λ o. or_else o (first_wide ts)) spelt.wide;
        most = λ n. omega (arith, ap (λ m. most_open m ts) (spelt.most n));
        names = spelt.names known ∙ ap (λ k. all_known (variable_names k) ts) same;
        means = subst (λ x. Operand reading x (plain (Atomic name)) (numbered (variable_names left.variables) ts)) (sym (spelt.means known))
            (subst (λ k. Operand reading (grammar.Name spelt.plainly name ∷ numbered known ts) (plain (Atomic name)) (numbered (variable_names k) ts)) same (atom (not_called known)));
      }

  -- a term that is no list, behind a bar
  barred-spelled : (t : Tree) → is_barred t ≡ true →
      ((d : ℕ) (budget left : Budget) → spent d budget t ≡ Some left → budget.variables ≤ 256 → HasIntegers t → has_read_names t ≡ true →
      (rest : List ℕ) (ts : List At) → Follows rest → ((known : List (List ℕ)) → NotCalled (numbered known ts)) → Scan clauses size rest ts stop →
      TermSpelt (text_in Alone t ++ rest) ts budget left t) → Spelled t
  barred-spelled t bar alone = record {
    alone = alone;
    behind = λ d budget left e small integers all rest ts scan.
        let close = at (size - length (93 ∷ rest)) (Punctuation CloseList) in
        let spelt = alone d budget left e small integers all (93 ∷ rest) (close ∷ ts) (refl, λ h. omega (arith, h)) (λ known. tt) (add_close_list rest ts scan) in
        let split : text_in Behind t ++ rest ≡ 124 ∷ (text_in Alone t ++ 93 ∷ rest) =
        ap (λ x. x ++ rest) (text_in-barred t bar) ∙ ap (λ x. 124 ∷ x) (append_assoc (text_in Alone t) (codes "]") rest) in
        same_tail (text_in Behind t ++ rest) (124 ∷ (text_in Alone t ++ 93 ∷ rest)) ts budget left t split (record {
          spelt = record {
            tokens = at (size - length (124 ∷ (text_in Alone t ++ 93 ∷ rest))) (Punctuation Bar) ∷ spelt.tokens;
            scan = add_bar (text_in Alone t ++ 93 ∷ rest) spelt.tokens spelt.scan;
            wide = spelt.wide;
            most = λ n. omega (arith, spelt.most n, opened-barred t bar);
            names = spelt.names;
            means = λ x a derives. list_tail derives (operand spelt.means);
          };
          follows = (refl, λ h. omega (arith, h));
          not_called = λ known. tt;
        });
  }

  -- arguments, with the closing bracket
  abbrev EachSpelled : Trees → Type 0
  EachSpelled (Last t) = Spelled t
  EachSpelled (More t ts) = Spelled t × EachSpelled ts

  abbrev ArgumentsSpelt : (s : List ℕ) (us : List At) (budget left : Budget) (ts : Trees) → Type 0
  ArgumentsSpelt s us budget left ts = Spelt s us (variable_names budget.variables) (variable_names left.variables) (opened_in_all ts) falls (λ x y. Arguments reading x (plain (first ts)) (others ts) y)

  arguments-spelt : (ts : Trees) → EachSpelled ts → (d : ℕ) (budget left : Budget) → spent_all d budget ts ≡ Some left → budget.variables ≤ 256 → HaveIntegers ts → have_read_names ts ≡ true →
      (rest : List ℕ) (us : List At) → Scan clauses size rest us stop → ArgumentsSpelt (texts_of ts ++ 41 ∷ rest) us budget left ts
  arguments-spelt (Last t) each d budget left e small integers all rest us scan =
      let close = at (size - length (41 ∷ rest)) (Punctuation spelled.Close) in
      let spelt = each.alone d budget left e small integers all (41 ∷ rest) (close ∷ us) (refl, λ h. omega (arith, h)) (λ known. tt) (add_close rest us scan) in
      same_text (texts_of (Last t) ++ 41 ∷ rest) (text_in Alone t ++ 41 ∷ rest) us (variable_names budget.variables) (variable_names left.variables) (opened Alone t) falls
      (λ x y. Arguments reading x (plain t) [] y) (ap (λ x. x ++ 41 ∷ rest) (texts_of-Last t)) (record {
        tokens = spelt.tokens;
        scan = spelt.scan;
        wide = spelt.wide;
        most = λ n. omega (arith, spelt.most n);
        names = spelt.names;
        means = last_argument (operand spelt.means);
      })
  arguments-spelt (More t ts) each d budget left e small integers all rest us scan =
      let (mid, there, more) = then_in-some (spent d budget t) (λ now. spent_all d now ts) left e in
      let taken = spent-takes t d budget mid there in
      let both = and_parts (has_read_names t) (have_read_names ts) all in
      let after = texts_of ts ++ 41 ∷ rest in
      let last = arguments-spelt ts each.1 d mid left more (taken.few small) integers.1 both.1 rest us scan in
      let comma = at (size - length (44 ∷ after)) (Punctuation Comma) in
      let one = each.0.alone d budget mid there small integers.0 both.0 (44 ∷ after) (comma ∷ last.tokens) (refl, λ h. omega (arith, h)) (λ known. tt) (add_comma after last.tokens last.scan) in
      let split : texts_of (More t ts) ++ 41 ∷ rest ≡ text_in Alone t ++ 44 ∷ after =
      ap (λ x. x ++ 41 ∷ rest) (texts_of-More t ts)
      ∙ append_assoc (text_in Alone t ++ codes ",") (texts_of ts) (41 ∷ rest)
      ∙ append_assoc (text_in Alone t) (codes ",") after in
      same_text (texts_of (More t ts) ++ 41 ∷ rest) (text_in Alone t ++ 44 ∷ after) us (variable_names budget.variables) (variable_names left.variables) (opened_in_all (More t ts)) falls
      (λ x y. Arguments reading x (plain t) (others (More t ts)) y) split (record {
        tokens = one.tokens;
        scan = one.scan;
        wide = one.wide ∙ last.wide;
        most = λ n. omega (arith, one.most n, last.most n);
        names = one.names ∙ last.names;
        means = more_arguments (operand one.means) last.means;
      })

  called-spelt : (name : List ℕ) (ts : Trees) → is_cell name ts ≡ false → EachSpelled ts →
      (d : ℕ) (budget left : Budget) → spent d budget (Compound name ts) ≡ Some left → budget.variables ≤ 256 → HaveIntegers ts → (list_all is_name_byte name && have_read_names ts) ≡ true →
      (rest : List ℕ) (us : List At) → Scan clauses size rest us stop → TermSpelt (text_in Alone (Compound name ts) ++ rest) us budget left (Compound name ts)
  called-spelt name ts other each zero budget left e small integers all rest us scan = absurd (cc)
  called-spelt name ts other each (suc d) budget left e small integers all rest us scan =
      let (mid, there, more) = then_in-some (paid (length name) budget) (λ now. spent_all d now ts) left e in
      let first_paid = paid-some (length name) budget mid there in
      let same : budget.variables ≡ mid.variables = ap (λ r. r.variables) first_paid.is in
      let both = and_parts (list_all is_name_byte name) (have_read_names ts) all in
      let inside = texts_of ts ++ 41 ∷ rest in
      let last = arguments-spelt ts each d mid left more (omega (arith, small, same)) integers both.1 rest us scan in
      let open_bracket = at (size - length (40 ∷ inside)) (Punctuation spelled.Open) in
      let spelt = name-spelt name (40 ∷ inside) (open_bracket ∷ last.tokens) both.0 (refl, λ h. omega (arith, h)) (add_open inside last.tokens last.scan) in
      let split : text_in Alone (Compound name ts) ++ rest ≡ name_text name ++ 40 ∷ inside =
      ap (λ x. x ++ rest) (text_in-Compound Alone name ts other)
      ∙ append_assoc (name_text name ++ codes "(" ++ texts_of ts) (codes ")") rest
      ∙ append_assoc (name_text name ++ codes "(") (texts_of ts) (41 ∷ rest)
      ∙ append_assoc (name_text name) (codes "(") inside in
      let known = variable_names budget.variables in
      let known' = variable_names left.variables in
      let from_mid : variable_names mid.variables ≡ known = ap variable_names (sym same) in
      same_text (text_in Alone (Compound name ts) ++ rest) (name_text name ++ 40 ∷ inside) us known known' (opened Alone (Compound name ts)) stays
      (λ x y. Operand reading x (plain (Compound name ts)) y) split (record {
        tokens = spelt.at_name ∷ open_bracket ∷ last.tokens;
        scan = spelt.scan;
        wide = ap (λ o. or_else o (first_wide last.tokens)) spelt.wide ∙ last.wide;
        most = λ n.
            omega (
              arith,
              ap (λ m. most_open m (open_bracket ∷ last.tokens)) (spelt.most n),
              last.most (n + 1),
              ap (λ m. most_open m us) (add-sub_cancel n 1),
              opened-Compound name ts other,
            );
        names = spelt.names known ∙ ap (λ k. all_known k last.tokens) (sym from_mid) ∙ last.names;
        means = subst (λ x. Operand reading x (plain (Compound name ts)) (numbered known' us)) (sym (spelt.means known))
            (subst (λ k. Operand reading (grammar.Name spelt.plainly name ∷ grammar.Open true ∷ numbered k last.tokens) (plain (Compound name ts)) (numbered known' us)) from_mid
            (subst (λ r. Operand reading (grammar.Name spelt.plainly name ∷ grammar.Open true ∷ numbered (variable_names mid.variables) last.tokens) r (numbered known' us))
            (compound-plain name ts) (compound refl last.means)));
      })

  -- lists
  nil-spelled : Spelled (Atomic (codes "[]"))
  nil-spelled = record {
    alone = λ d budget left e small integers all rest ts follows not_called scan.
        let same : budget.variables ≡ left.variables = nil_same d budget left e in
        let close = at (size - length (93 ∷ rest)) (Punctuation CloseList) in
        same_text (text_in Alone (Atomic (codes "[]")) ++ rest) (91 ∷ 93 ∷ rest) ts (variable_names budget.variables) (variable_names left.variables) 1 stays
        (λ x y. Operand reading x (plain (Atomic (codes "[]"))) y) (ap (λ x. x ++ rest) (text_in-nil Alone (codes "[]") refl)) (record {
          tokens = at (size - length (91 ∷ 93 ∷ rest)) (Punctuation OpenList) ∷ close ∷ ts;
          scan = add_open_list (93 ∷ rest) (close ∷ ts) (add_close_list rest ts scan);
          wide = refl;
          most = λ n. omega (arith, ap (λ m. most_open m ts) (add-sub_cancel n 1));
          names = ap (λ k. all_known (variable_names k) ts) same;
          means = subst (λ k. Operand reading (grammar.OpenList ∷ grammar.CloseList ∷ numbered (variable_names budget.variables) ts) (plain (Atomic (codes "[]"))) (numbered (variable_names k) ts)) same no_items;
        });
    behind = λ d budget left e small integers all rest ts scan.
        let same : budget.variables ≡ left.variables = nil_same d budget left e in
        same_tail (text_in Behind (Atomic (codes "[]")) ++ rest) (93 ∷ rest) ts budget left (Atomic (codes "[]")) (ap (λ x. x ++ rest) (text_in-nil Behind (codes "[]") refl)) (record {
          spelt = record {
            tokens = at (size - length (93 ∷ rest)) (Punctuation CloseList) ∷ ts;
            scan = add_close_list rest ts scan;
            wide = refl;
            most = λ n. omega arith;
            names = ap (λ k. all_known (variable_names k) ts) same;
            means = subst (λ k. GoesOn (Atomic (codes "[]")) (grammar.CloseList ∷ numbered (variable_names budget.variables) ts) (numbered (variable_names k) ts)) same
                (λ x a derives. last_item derives);
          };
          follows = (refl, λ h. omega (arith, h));
          not_called = λ known. tt;
        });
  }
    where
      nil_same : (d : ℕ) (budget left : Budget) → spent d budget (Atomic (codes "[]")) ≡ Some left → budget.variables ≡ left.variables
      nil_same zero budget left e = absurd (cc)
      nil_same (suc d) budget left e = ap (λ r. r.variables) (paid-some 2 budget left e).is

  -- a head, and what follows behind it
  abbrev CellSpelt : (t u : Tree) (ts : List At) (budget left : Budget) (rest : List ℕ) → Type 0
  CellSpelt t u ts budget left rest =
      Spelt (text_in Alone t ++ (text_in Behind u ++ rest)) ts (variable_names budget.variables) (variable_names left.variables) (max (opened Alone t) (opened Behind u)) falls
      (λ x y. Items reading x (plain (Compound (codes ".") (More t (Last u)))) y)

  cell-spelt : (t u : Tree) → Spelled t → Spelled u → (d : ℕ) (budget left : Budget) → spent d budget (Compound (codes ".") (More t (Last u))) ≡ Some left → budget.variables ≤ 256 →
      HasIntegers t × HasIntegers u → (has_read_names t && has_read_names u) ≡ true → (rest : List ℕ) (ts : List At) → Scan clauses size rest ts stop → CellSpelt t u ts budget left rest
  cell-spelt t u one other zero budget left e small integers all rest ts scan = absurd (cc)
  cell-spelt t u one other (suc d) budget left e small integers all rest ts scan =
      let (start, at_start, more) = then_in-some (paid 1 budget) (λ now. then_in (spent d now t) (λ next. spent d next u)) left e in
      let (mid, at_first, at_last) = then_in-some (spent d start t) (λ next. spent d next u) left more in
      let same : start.variables ≡ budget.variables = sym (ap (λ r. r.variables) (paid-some 1 budget start at_start).is) in
      let few : start.variables ≤ 256 = omega (arith, small, same) in
      let taken = spent-takes t d start mid at_first in
      let both = and_parts (has_read_names t) (has_read_names u) all in
      let behind = other.behind d mid left at_last (taken.few few) integers.1 both.1 rest ts scan in
      let last = behind.spelt in
      let head = one.alone d start mid at_first few integers.0 both.0 (text_in Behind u ++ rest) last.tokens behind.follows behind.not_called last.scan in
      record {
        tokens = head.tokens;
        scan = head.scan;
        wide = head.wide ∙ last.wide;
        most = λ n. omega (arith, head.most n, last.most n);
        names = ap (λ k. all_known (variable_names k) head.tokens) (sym same) ∙ head.names ∙ last.names;
        means = subst (λ k. Items reading (numbered (variable_names k) head.tokens) (plain (Compound (codes ".") (More t (Last u)))) (numbered (variable_names left.variables) ts)) same
            (last.means (numbered (variable_names start.variables) head.tokens) t (operand head.means));
      }

  cell-spelled : (t u : Tree) → Spelled t → Spelled u → Spelled (Compound (codes ".") (More t (Last u)))
  cell-spelled t u one other = record {
    alone = λ d budget left e small integers all rest ts follows not_called scan.
        let cell = cell-spelt t u one other d budget left e small integers all rest ts scan in
        let inside = text_in Alone t ++ (text_in Behind u ++ rest) in
        same_text (text_in Alone (Compound (codes ".") (More t (Last u))) ++ rest) (91 ∷ inside) ts (variable_names budget.variables) (variable_names left.variables)
        (max (opened Alone t) (opened Behind u) + 1) stays (λ x y. Operand reading x (plain (Compound (codes ".") (More t (Last u)))) y)
        (ap (λ x. x ++ rest) (text_in-cell Alone (codes ".") t u refl) ∙ ap (λ x. 91 ∷ x) (append_assoc (text_in Alone t) (text_in Behind u) rest)) (record {
          tokens = at (size - length (91 ∷ inside)) (Punctuation OpenList) ∷ cell.tokens;
          scan = add_open_list inside cell.tokens cell.scan;
          wide = cell.wide;
          most = λ n. omega (arith, cell.most (n + 1), ap (λ m. most_open m ts) (add-sub_cancel n 1));
          names = cell.names;
          means = items cell.means;
        });
    behind = λ d budget left e small integers all rest ts scan.
        let cell = cell-spelt t u one other d budget left e small integers all rest ts scan in
        let inside = text_in Alone t ++ (text_in Behind u ++ rest) in
        same_tail (text_in Behind (Compound (codes ".") (More t (Last u))) ++ rest) (44 ∷ inside) ts budget left (Compound (codes ".") (More t (Last u)))
        (ap (λ x. x ++ rest) (text_in-cell Behind (codes ".") t u refl) ∙ ap (λ x. 44 ∷ x) (append_assoc (text_in Alone t) (text_in Behind u) rest)) (record {
          spelt = record {
            tokens = at (size - length (44 ∷ inside)) (Punctuation Comma) ∷ cell.tokens;
            scan = add_comma inside cell.tokens cell.scan;
            wide = cell.wide;
            most = λ n. omega (arith, cell.most n);
            names = cell.names;
            means = λ x a derives. more_items derives cell.means;
          };
          follows = (refl, λ h. omega (arith, h));
          not_called = λ known. tt;
        });
  }

  compound-spelled : (name : List ℕ) (args : Trees) → EachSpelled args → Spelled (Compound name args)
  compound-spelled name args each = by args each (is_cell name args) refl
    where
      by : (args : Trees) → EachSpelled args → (p : Bool) → is_cell name args ≡ p → Spelled (Compound name args)
      by args each false e = barred-spelled (Compound name args) (ap (λ p. if p then false else true) e)
          (λ d budget left spent small integers all rest ts follows not_called scan. called-spelt name args e each d budget left spent small integers all rest ts scan)
      by (Last t) each true e = absurd (cc)
      by (More t (Last u)) each true e = subst (λ n. Spelled (Compound n (More t (Last u)))) (sym ((bytes_eq-Decides name (codes ".")).0 e)) (cell-spelled t u each.0 each.1)
      by (More t (More u ts)) each true e = absurd (cc)

  atom-spelled : (name : List ℕ) → Spelled (Atomic name)
  atom-spelled name = by (is_nil name) refl
    where
      by : (p : Bool) → is_nil name ≡ p → Spelled (Atomic name)
      by true e = subst (λ n. Spelled (Atomic n)) (sym ((bytes_eq-Decides name (codes "[]")).0 e)) nil-spelled
      by false e = barred-spelled (Atomic name) (ap (λ p. if p then false else true) e) (λ d budget left spent small integers all rest ts follows not_called scan.
          same_text (text_in Alone (Atomic name) ++ rest) (name_text name ++ rest) ts (variable_names budget.variables) (variable_names left.variables) (opened Alone (Atomic name)) stays
          (λ x y. Operand reading x (plain (Atomic name)) y) (ap (λ x. x ++ rest) (text_in-Atomic Alone name e))
          (atom-spelt name budget left e (leaf_same d (length name) budget left (Atomic name) spent) all rest ts follows not_called scan))
        where
          leaf_same : (d size : ℕ) (budget left : Budget) (t : Tree) → spent d budget (Atomic name) ≡ Some left → budget.variables ≡ left.variables
          leaf_same zero size budget left t e = absurd (cc)
          leaf_same (suc d) size budget left t e = ap (λ r. r.variables) (paid-some (length name) budget left e).is

  variable-spelled : (n : ℕ) → Spelled (Variable n)
  variable-spelled n = barred-spelled (Variable n) refl by
    where
      by : (d : ℕ) (budget left : Budget) → spent d budget (Variable n) ≡ Some left → budget.variables ≤ 256 → Unit {0} → true ≡ true →
          (rest : List ℕ) (ts : List At) → Follows rest → ((known : List (List ℕ)) → NotCalled (numbered known ts)) → Scan clauses size rest ts stop →
          TermSpelt (text_in Alone (Variable n) ++ rest) ts budget left (Variable n)
      by zero budget left e small integers all rest ts follows not_called scan = absurd (cc)
      by (suc d) budget left e small integers all rest ts follows not_called scan =
          same_text (text_in Alone (Variable n) ++ rest) (95 ∷ decimal n ++ rest) ts (variable_names budget.variables) (variable_names left.variables) 0 stays
          (λ x y. Operand reading x (plain (Variable n)) y) (ap (λ x. x ++ rest) (text_in-Variable Alone n)) (variable-spelt n budget left e small rest ts follows scan)

  number-spelled : (z : ℤ) → Spelled (Number z)
  number-spelled z = barred-spelled (Number z) refl by
    where
      by : (d : ℕ) (budget left : Budget) → spent d budget (Number z) ≡ Some left → budget.variables ≤ 256 → FitsSigned w64 z → true ≡ true →
          (rest : List ℕ) (ts : List At) → Follows rest → ((known : List (List ℕ)) → NotCalled (numbered known ts)) → Scan clauses size rest ts stop →
          TermSpelt (text_in Alone (Number z) ++ rest) ts budget left (Number z)
      by zero budget left e small integers all rest ts follows not_called scan = absurd (cc)
      by (suc d) budget left e small integers all rest ts follows not_called scan =
          same_text (text_in Alone (Number z) ++ rest) (signed_decimal z ++ rest) ts (variable_names budget.variables) (variable_names left.variables) 0 stays
          (λ x y. Operand reading x (plain (Number z)) y) (ap (λ x. x ++ rest) (text_in-Number Alone z))
          (number-spelt z budget left (ap (λ r. r.variables) (paid-some 0 budget left e).is) integers rest ts follows scan)

  -- each term is
  mutual
    pub spelled_out : (t : Tree) → Spelled t
    spelled_out (Variable n) = variable-spelled n
    spelled_out (Atomic name) = atom-spelled name
    spelled_out (Number z) = number-spelled z
    spelled_out (Compound name args) = compound-spelled name args (each_spelled args)

    each_spelled : (ts : Trees) → EachSpelled ts
    each_spelled (Last t) = spelled_out t
    each_spelled (More t ts) = (spelled_out t, each_spelled ts)
