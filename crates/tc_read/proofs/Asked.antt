-- A name, a question mark and canonical text, with a blank on each side of the mark, are read as a compound.
use Rattle.std.proofs.Common.{◌≡◌, ◌∙◌, ◌⊎◌, ◌≤◌, ◌+◌, ◌-◌, ℕ, Bool, true, false, nat_lt, List, [], ◌∷◌, ◌++◌, codes, length, MatchOption, None, refl, sym, ap, inr, subst, append_assoc, append-nil, arith}
use Rattle.std.proofs.lemmas.Bool.{and_parts}
use Rattle.std.proofs.lemmas.Bool.Decides.{nat_tests}
use Rattle.std.specs.Char.{is_ascii_lowercase}
use Rattle.std.specs.List.{list_all}
use Rattle.tc_term.proofs.Numbered.{renumbered-pattern}
use Rattle.tc_term.specs.Bytes.{is_word}
use Rattle.tc_term.specs.Faults.{AnswersTokens, Found, Judged, Parsed, Reading, ReadsAs, Stopped, TooBig, TooMany, WideInt, When, all_known, first_place, first_wide, most_open, numbered, reading}
use Rattle.tc_term.specs.Grammar as grammar
use Rattle.tc_term.specs.Grammar.{Operand, Token, IsTerm, atom, compound, group, infix_term, integer, operand, operator_of}
use Rattle.tc_term.specs.Layouts.{At, NoPiece, Scan, Stop, TextEnd, at_clause_end, at_no_token, at_text_end, blank, layout, no_layout, token}
use Rattle.tc_term.specs.NameBytes.{has_read_names}
use Rattle.tc_term.specs.Readable.{IsReadable}
use Rattle.tc_term.specs.Text.{Alone, canonical, is_name, text_in, text_of}
use Rattle.tc_term.specs.Tokens as spelled
use Rattle.tc_term.specs.Tokens.{Ask, Symbol, Word}
use Rattle.tc_term.specs.Tree.{Tree, Fits}
use Rattle.tc_read.proofs.Blanks.{no_piece, no_piece_empty}
use Rattle.tc_read.proofs.Lexemes.{begins_sign}
use Rattle.tc_read.proofs.Printed.{TermSpelt, plain, spelled_out}
use Rattle.tc_read.proofs.Spelling.{length-variable_names, spells_word}
use Rattle.tc_read.proofs.Spent.{pattern-spent, spent-takes}
use Rattle.tc_read.specs.Asked.{asked_of, asked_text}
use Rattle.tc_read.specs.Budget.{whole}
use Rattle.tc_read.specs.declared.budget.Budget.{Budget}

-- the tokens, of which the first directly follows the one before it or doesn't
abbrev reglued : Bool → List At → List At
reglued glued [] = []
reglued glued (t ∷ ts) = record { lexeme = t.lexeme; place = t.place; glued = glued } ∷ ts

-- a blank before the tokens
after_blank : {clauses : Bool} {size : ℕ} {s : List ℕ} {ts : List At} {stop : Stop} → Scan clauses size s ts stop → (glued : Bool) × Scan clauses size (32 ∷ s) (reglued glued ts) stop
after_blank (at_text_end l) = (false, at_text_end (layout (blank refl) l))
after_blank (at_clause_end c l b) = (false, at_clause_end c (layout (blank refl) l) b)
after_blank (at_no_token l n c) = (false, at_no_token (layout (blank refl) l) n c)
after_blank (token l long scan) = (_, token (layout (blank refl) l) long scan)

-- nothing but its first bracket or integer tells whether an operand directly follows a token

unlike_integer : {g h : Bool} {n place : ℕ} {ts rest : List Token} {r : Reading} → Operand reading (grammar.Integer g n place ∷ ts) r rest → Operand reading (grammar.Integer h n place ∷ ts) r rest
unlike_integer integer = integer
unlike_integer (compound e args) = absurd (cc)

unlike_open : {g h : Bool} {ts rest : List Token} {r : Reading} → Operand reading (grammar.Open g ∷ ts) r rest → Operand reading (grammar.Open h ∷ ts) r rest
unlike_open (compound e args) = absurd (cc)
unlike_open (group derives) = group derives

reglued-means : (glued : Bool) (known : List (List ℕ)) (ts : List At) (r : Reading) (rest : List Token) →
    Operand reading (numbered known ts) r rest → Operand reading (numbered known (reglued glued ts)) r rest
reglued-means glued known [] r rest means = means
reglued-means glued known (t ∷ ts) r rest means = by t.lexeme means
  where
    numbered_of : spelled.Lexeme → Bool → List Token
    numbered_of lexeme g = numbered known (record { lexeme = lexeme; place = t.place; glued = g } ∷ ts)

    by : (lexeme : spelled.Lexeme) → Operand reading (numbered_of lexeme t.glued) r rest → Operand reading (numbered_of lexeme glued) r rest
    by (Word name) means = means
    by (spelled.Variable name) means = means
    by (spelled.Number n) means = unlike_integer means
    by (spelled.Quoted name) means = means
    by (Symbol sign) means = means
    by (spelled.Punctuation spelled.Open) means = unlike_open means
    by (spelled.Punctuation spelled.Close) means = means
    by (spelled.Punctuation spelled.OpenList) means = means
    by (spelled.Punctuation spelled.CloseList) means = means
    by (spelled.Punctuation spelled.Comma) means = means
    by (spelled.Punctuation spelled.Bar) means = means

reglued-wide : (glued : Bool) (ts : List At) → first_wide (reglued glued ts) ≡ first_wide ts
reglued-wide glued [] = refl
reglued-wide glued (t ∷ ts) = refl

reglued-open : (glued : Bool) (n : ℕ) (ts : List At) → most_open n (reglued glued ts) ≡ most_open n ts
reglued-open glued n [] = refl
reglued-open glued n (t ∷ ts) = refl

reglued-known : (glued : Bool) (known : List (List ℕ)) (ts : List At) → all_known known (reglued glued ts) ≡ all_known known ts
reglued-known glued known [] = refl
reglued-known glued known (t ∷ ts) = refl

no_layout_name : (name rest : List ℕ) → is_name name ≡ true → NoPiece (name ++ rest)
no_layout_name [] rest e = absurd (cc)
no_layout_name (b ∷ s) rest e = lower b (s ++ rest) (and_parts (is_ascii_lowercase b) (list_all is_word s) e).0
  where
    lower : (b : ℕ) (s : List ℕ) → is_ascii_lowercase b ≡ true → NoPiece (b ∷ s)
    lower b s e = no_piece b s (grind (arith, nat_tests)) (λ h. grind (arith, nat_tests)) (λ h. grind (arith, nat_tests))

-- the tokens of the name and of the question mark
abbrev named : List ℕ → ℕ → Bool → At
named name place glued = record { lexeme = Word name; place = place; glued = glued }

abbrev mark : ℕ → Bool → At
mark place glued = record { lexeme = Symbol Ask; place = place; glued = glued }

-- a name and a question mark before the tokens
front-scan : (name text : List ℕ) (size : ℕ) (ts : List At) → is_name name ≡ true → Scan false size (32 ∷ text) ts TextEnd →
    (place : ℕ) × (glued : Bool) × (mark_place : ℕ) × (mark_glued : Bool) × Scan false size (name ++ 32 ∷ 63 ∷ 32 ∷ text) (named name place glued ∷ mark mark_place mark_glued ∷ ts) TextEnd
front-scan name text size ts plain scan =
    let sign = token (layout (blank refl) (no_layout (no_piece 63 (32 ∷ text) refl (λ h. omega (arith, h)) (λ h. omega (arith, h)))))
    (begins_sign 63 (32 ∷ text) (32 ∷ text) Ask refl (λ h. omega (arith, h)) refl refl refl).1 scan in
    (_, _, _, _, token (no_layout (no_layout_name name (32 ∷ 63 ∷ 32 ∷ text) plain)) (spells_word name (32 ∷ 63 ∷ 32 ∷ text) plain refl).1 sign)

-- tokens that are a term within the limits
answered : (size : ℕ) (tokens : List At) (t : Tree) → Fits t → IsTerm reading (numbered [] tokens) (plain t) → length (all_known [] tokens) ≤ 256 →
    most_open 0 tokens ≤ 200 → first_wide tokens ≡ None → AnswersTokens false size tokens TextEnd (Found t size)
answered size tokens t fits is few shallow narrow =
    subst (λ o. MatchOption o (Stopped false size tokens TextEnd (Found t size)) (λ wide. Found t size ≡ WideInt wide)) (sym narrow)
    (subst (λ b. When b (Found t size ≡ TooBig place) (Parsed place size tokens (Found t size))) (sym (no_more 200 (most_open 0 tokens) shallow))
    (inr (plain t, is, judged)))
  where
    place : ℕ
    place = first_place size tokens TextEnd

    no_more : (most n : ℕ) → n ≤ most → nat_lt most n ≡ false
    no_more most n h = grind (arith, nat_tests)

    judged : Judged place size (length (all_known [] tokens)) (plain t) (Found t size)
    judged =
        subst (λ b. When b (Found t size ≡ TooMany place) (((Found t size ≡ TooBig place) × (Fits t → ⊥)) ⊎ ((Found t size ≡ Found t size) × Fits t)))
        (sym (no_more 256 (length (all_known [] tokens)) few)) (inr (refl, fits))

-- a template up to the end of a text
alone-spelt : (size : ℕ) (t : Tree) → IsReadable t → (left : Budget) × (left.variables ≤ 256) × TermSpelt false size TextEnd (text_in Alone t ++ []) [] whole left t
alone-spelt size t readable =
    let (left, e) = pattern-spent t readable.pattern in
    let out = spelled_out false size TextEnd t in
    (left, (spent-takes t 1000 whole left e).few (omega arith), out.alone 1000 whole left e (omega arith) readable.pattern.template.fits.integers (names t readable) [] [] tt (λ known. tt) (at_text_end (no_layout no_piece_empty)))
  where
    names : (t : Tree) → IsReadable t → has_read_names t ≡ true
    names t r = r.names

pub asked-read-in : (name : List ℕ) (t : Tree) (size : ℕ) → is_name name ≡ true → IsReadable t → Fits (asked_of name t) →
    ReadsAs false size (name ++ 32 ∷ 63 ∷ 32 ∷ text_in Alone t) (Found (asked_of name t) size)
asked-read-in name t size is_plain readable fits =
    let (left, few, spelt) = alone-spelt size t readable in
    let text = text_in Alone t in
    let (glued, behind) = after_blank (subst (λ x. Scan false size x spelt.tokens TextEnd) (append-nil text) spelt.scan) in
    let ts = reglued glued spelt.tokens in
    let (place, name_glued, mark_place, mark_glued, scan) = front-scan name text size ts is_plain behind in
    let tokens : List At = named name place name_glued ∷ mark mark_place mark_glued ∷ ts in (
      tokens,
      TextEnd,
      scan,
      answered size tokens (asked_of name t) fits
          (infix_term (operator_of Ask) refl (omega arith) (operand (atom tt)) (operand (reglued-means glued [] spelt.tokens (plain t) [] spelt.means)))
          (omega (arith, few, ap length (reglued-known glued [] spelt.tokens), ap length spelt.names, length-variable_names left.variables 0 few (omega arith)))
          (omega (arith, reglued-open glued 0 spelt.tokens, spelt.most 0, readable.few_open))
          (reglued-wide glued spelt.tokens ∙ spelt.wide),
    )

pub asked-read : (name : List ℕ) (t : Tree) → is_name name ≡ true → IsReadable t → Fits (asked_of name t) →
    ReadsAs false (length (asked_text name t)) (asked_text name t) (Found (asked_of name t) (length (asked_text name t)))
asked-read name t is_plain readable fits =
    let size = length (asked_text name t) in
    let same : name ++ 32 ∷ 63 ∷ 32 ∷ text_in Alone t ≡ asked_text name t =
    ap (λ u. name ++ 32 ∷ 63 ∷ 32 ∷ text_of u) (sym (renumbered-pattern t readable.pattern)) ∙ sym (append_assoc name (codes " ? ") (canonical t)) in
    subst (λ s. ReadsAs false size s (Found (asked_of name t) size)) same (asked-read-in name t size is_plain readable fits)
