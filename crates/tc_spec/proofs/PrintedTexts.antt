-- The text of clauses spells them.
use Rattle.std.proofs.Common.{◌≡◌, ◌≤◌, ◌+◌, ◌++◌, ℕ, Bool, true, List, [], ◌∷◌, All, codes, drop, length, map, inr, refl, ap, sym, subst, ◌∙◌, append_assoc, append-nil, length-append, arith}
use Rattle.std.specs.Char.{is_ascii_digit}
use Rattle.std.proofs.lemmas.List.Elements.{All-head, All-tail}
use Rattle.tc_lists.proofs.Parts.{cons_head, drop_front}
use Rattle.tc_term.specs.Faults.{Answer, AnswersTokens, Found, ReadsAs, Nothing}
use Rattle.tc_term.specs.Layouts.{At, Layout, NoPiece, Piece, Scan, Stop, TextEnd, at_clause_end, at_no_token, at_text_end, blank, layout, no_layout, token}
use Rattle.tc_term.specs.Text as text
use Rattle.tc_term.specs.Text.{canonical}
use Rattle.tc_term.specs.Tree.{Tree}
use Rattle.tc_term.specs.Tokens.{Lexeme, SpellsToken, Word, Variable, Number, Quoted, Symbol, Punctuation, Open, Close, OpenList, CloseList, Comma, Bar}
use Rattle.tc_term.specs.declared.comparison.Cmp.TheVariants as cmp
use Rattle.tc_model.specs.Events.{op_name}
use Rattle.tc_model.specs.Reactions.{AreClauses, IsRule, Rule, body_term, clause_of_form, clause_term, clauses_text, goal_term, guard_term, of_one}
use Rattle.tc_model.specs.declared.limits.TheConstants.{MOST_CLAUSES}
use Rattle.tc_model.specs.declared.reactions.Form.{Form}
use Rattle.tc_model.specs.declared.reactions.Form.TheVariants.{Two, Three}
use Rattle.tc_model.specs.declared.goals.Goal.{Goal}
use Rattle.tc_model.specs.declared.goals.Goal.TheVariants.{OutR, InR, RdR, NoR, Pre, Post, Success, Failure, True, Agent, Centre, Operation, Tuple, Equal, Differ, Is, Compare}
use Rattle.tc_read.specs.Clauses.{AnswersAt, LeadsTo}
use Rattle.tc_read.proofs.Blanks.{no_piece, no_piece_empty}
use Rattle.tc_read.proofs.ReadBack.{clause-read-back}
use Rattle.tc_spec.proofs.Shapes.{shaped}
use Rattle.tc_spec.specs.TextAnswers.{IsClauseAt}
use Rattle.tc_spec.specs.Texts.{IsNextRule, IsSpelt, rules_language}
use Rattle.tc_spec.specs.Written.{IsWrittenAs, leaves}

-- the leaves of a body are its goals
leaves-goal : (f : Form) (g : Goal) → leaves (goal_term f g) ≡ goal_term f g ∷ []
leaves-goal f (OutR t) = refl
leaves-goal f (InR t) = refl
leaves-goal f (RdR t) = refl
leaves-goal f (NoR t) = refl
leaves-goal f Pre = refl
leaves-goal f Post = refl
leaves-goal f Success = refl
leaves-goal f Failure = refl
leaves-goal f True = refl
leaves-goal f (Agent t) = refl
leaves-goal f (Centre t) = refl
leaves-goal f (Operation t) = refl
leaves-goal f (Tuple t) = refl
leaves-goal f (Equal s t) = refl
leaves-goal f (Differ s t) = refl
leaves-goal f (Is s t) = refl
leaves-goal f (Compare cmp.Eq s t) = refl
leaves-goal f (Compare cmp.Ne s t) = refl
leaves-goal f (Compare cmp.Lt s t) = refl
leaves-goal f (Compare cmp.Gt s t) = refl
leaves-goal f (Compare cmp.Le s t) = refl
leaves-goal f (Compare cmp.Ge s t) = refl

leaves-body : (f : Form) (gs : List Goal) → 1 ≤ length gs → leaves (body_term f gs) ≡ map (goal_term f) gs
leaves-body f [] some = absurd (omega (arith, some))
leaves-body f (g ∷ []) some = leaves-goal f g
leaves-body f (g ∷ h ∷ gs) some =
    ap (λ ts. ts ++ leaves (body_term f (h ∷ gs))) (leaves-goal f g)
    ∙ ap (λ ts. goal_term f g ∷ ts) (leaves-body f (h ∷ gs) (omega arith))

-- a rule's clause is written as the rule
written : (r : Rule) → IsRule r → IsWrittenAs (clause_term r) r
written r rule = record {
  spells = record {
    body = body_term r.form r.goals;
    parts = shaped r.form (of_one (op_name r.op) r.head) r.guard (body_term r.form r.goals) rule.guard;
    goals = leaves-body r.form r.goals rule.some;
  };
  rule = rule;
}

-- a token that begins with the letter r is no number and no bracket
abbrev IsPlain : Lexeme → Type 0
IsPlain (Number n) = ⊥
IsPlain (Punctuation Open) = ⊥
IsPlain _ = Unit {0}

plain_letter : (s rest front after : List ℕ) (lexeme : Lexeme) → s ≡ 114 ∷ rest → s ≡ front ++ after → SpellsToken front lexeme → IsPlain lexeme
plain_letter s rest [] after (Number n) is split spelt = spelt.1
plain_letter s rest (b ∷ front) after (Number n) is split spelt =
    let digit : is_ascii_digit 114 ≡ true =
    subst (λ c. is_ascii_digit c ≡ true) (cons_head (sym split ∙ is)) spelt.1.0 in
    cc
plain_letter s rest front after (Punctuation Open) is split spelt =
    absurd (omega (arith, cons_head (sym (ap (λ f. f ++ after) spelt) ∙ sym split ∙ is)))
plain_letter s rest front after (Word w) is split spelt = tt
plain_letter s rest front after (Variable w) is split spelt = tt
plain_letter s rest front after (Quoted w) is split spelt = tt
plain_letter s rest front after (Symbol w) is split spelt = tt
plain_letter s rest front after (Punctuation Close) is split spelt = tt
plain_letter s rest front after (Punctuation OpenList) is split spelt = tt
plain_letter s rest front after (Punctuation CloseList) is split spelt = tt
plain_letter s rest front after (Punctuation Comma) is split spelt = tt
plain_letter s rest front after (Punctuation Bar) is split spelt = tt

-- of a plain token it doesn't matter whether layout stands before it
abbrev first_token : ℕ → Lexeme → Bool → List At → List At
first_token place lexeme glued ts = record { lexeme = lexeme; place = place; glued = glued } ∷ ts

glued_or_not : (size place : ℕ) (g h : Bool) (lexeme : Lexeme) (ts : List At) (stop : Stop) (a : Answer) → IsPlain lexeme
    → AnswersTokens true size (first_token place lexeme g ts) stop a → AnswersTokens true size (first_token place lexeme h ts) stop a
glued_or_not size place g h (Word w) ts stop a p x = x
glued_or_not size place g h (Variable w) ts stop a p x = x
glued_or_not size place g h (Number n) ts stop a p x = absurd p
glued_or_not size place g h (Quoted w) ts stop a p x = x
glued_or_not size place g h (Symbol w) ts stop a p x = x
glued_or_not size place g h (Punctuation Open) ts stop a p x = absurd p
glued_or_not size place g h (Punctuation Close) ts stop a p x = x
glued_or_not size place g h (Punctuation OpenList) ts stop a p x = x
glued_or_not size place g h (Punctuation CloseList) ts stop a p x = x
glued_or_not size place g h (Punctuation Comma) ts stop a p x = x
glued_or_not size place g h (Punctuation Bar) ts stop a p x = x

-- no layout stands at the letter r
stays : {s mid : List ℕ} → NoPiece s → Layout s mid → s ≡ mid
stays none (no_layout n) = refl
stays none (layout p l) = absurd (none _ p)

no_layout_letter : (s rest : List ℕ) → s ≡ 114 ∷ rest → NoPiece s
no_layout_letter s rest is = subst NoPiece (sym is) (no_piece 114 rest refl (λ h. omega (arith, h)) (λ h. omega (arith, h)))

-- a line feed before a clause changes nothing
line_feed : (s : List ℕ) → Piece (10 ∷ s) s
line_feed s = blank refl

scanned : (size : ℕ) (s rest : List ℕ) (a : Answer) → s ≡ 114 ∷ rest → {ts : List At} {stop : Stop} → Scan true size s ts stop
    → AnswersTokens true size ts stop a → ReadsAs true size (10 ∷ s) a
scanned size s rest a is (at_text_end l) x = ([], TextEnd, at_text_end (layout (line_feed s) l), x)
scanned size s rest a is (at_clause_end e l b) x = ([], _, at_clause_end e (layout (line_feed s) l) b, x)
scanned size s rest a is (at_no_token l n f) x = ([], _, at_no_token (layout (line_feed s) l) n f, x)
scanned size s rest a is (token {mid} {front} {after} {lexeme} {ts} {stop} l longest scan) x = (
  _,
  stop,
  token (layout (line_feed s) l) longest scan,
  glued_or_not size _ _ _ lexeme ts stop a
      (plain_letter s rest front after lexeme is (stays (no_layout_letter s rest is) l ∙ longest.split) longest.spelled) x,
)

behind_line_feed : (size : ℕ) (s rest : List ℕ) (a : Answer) → s ≡ 114 ∷ rest → ReadsAs true size s a → ReadsAs true size (10 ∷ s) a
behind_line_feed size s rest a is x = scanned size s rest a is x.2 x.3

-- nothing is left at the end, nor at a line feed there
nothing_left : (size : ℕ) → ReadsAs true size [] Nothing
nothing_left size = ([], TextEnd, at_text_end (no_layout no_piece_empty), refl)

nothing_behind : (size : ℕ) → ReadsAs true size (10 ∷ []) Nothing
nothing_behind size = ([], TextEnd, at_text_end (layout (line_feed []) (no_layout no_piece_empty)), refl)

-- the text from a rule's clause on
abbrev clause_on : Rule → List ℕ → List ℕ
clause_on r more = canonical (clause_term r) ++ 46 ∷ 10 ∷ more

-- the place behind the clause
abbrev place_behind : ℕ → Rule → ℕ
place_behind from r = from + length (canonical (clause_term r)) + 1

-- it begins with the letter r
begins_by : (f : Form) (h g b : Tree) (more : List ℕ)
    → canonical (clause_of_form f h g b) ++ more ≡ 114 ∷ drop 1 (canonical (clause_of_form f h g b) ++ more)
unfolding text.text_in
begins_by Two h g b more = refl
begins_by Three h g b more = refl

begins : (r : Rule) (more : List ℕ) → clause_on r more ≡ 114 ∷ drop 1 (clause_on r more)
begins r more =
    begins_by r.form (of_one (op_name r.op) r.head) (guard_term r.guard) (body_term r.form r.goals) (46 ∷ 10 ∷ more)

text_on : (rs : List Rule) (r : Rule) → clauses_text (r ∷ rs) ≡ clause_on r (clauses_text rs)
text_on rs r = append_assoc (canonical (clause_term r)) (codes ".\n") (clauses_text rs)

clause_read : (text before more : List ℕ) (r : Rule) → IsRule r → text ≡ before ++ clause_on r more
    → AnswersAt text (length before) (Found (clause_term r) (place_behind (length before) r))
clause_read text before more r rule is =
    let c = canonical (clause_term r) in
    let whole : before ++ c ++ codes "." ++ (10 ∷ more) ≡ text =
    append_assoc (before ++ c) (codes ".") (10 ∷ more) ∙ append_assoc before c (46 ∷ 10 ∷ more) ∙ sym is in
    subst (λ s. AnswersAt s (length before) (Found (clause_term r) (place_behind (length before) r))) whole
    (clause-read-back before (10 ∷ more) (clause_term r) rule.clause (inr (more, line_feed more)))

-- behind the line feed of the clause before it
clause_read_behind : (text before more : List ℕ) (r : Rule) → IsRule r → text ≡ before ++ 10 ∷ clause_on r more
    → AnswersAt text (length before) (Found (clause_term r) (place_behind (length before + 1) r))
clause_read_behind text before more r rule is =
    let fed = before ++ 10 ∷ [] in
    let there : text ≡ fed ++ clause_on r more = is ∙ sym (append_assoc before (10 ∷ []) (clause_on r more)) in
    let far : length fed ≡ length before + 1 = length-append before (10 ∷ []) in
    let a = Found (clause_term r) (place_behind (length before + 1) r) in
    let read : ReadsAs true (length text) (clause_on r more) a =
    subst (λ s. ReadsAs true (length text) s a) (drop_front text fed (clause_on r more) (length fed) there refl)
    (subst (λ k. AnswersAt text (length fed) (Found (clause_term r) (place_behind k r))) far (clause_read text fed more r rule there)) in
    subst (λ s. ReadsAs true (length text) s a) (sym (drop_front text before (10 ∷ clause_on r more) (length before) is refl))
    (behind_line_feed (length text) (clause_on r more) (drop 1 (clause_on r more)) a (begins r more) read)

-- clauses of these rules stand in the text, one behind another, from one place to another
abbrev AreClausesAt : List ℕ → ℕ → List Rule → ℕ → Type 0
AreClausesAt text from [] end = end ≡ from
AreClausesAt text from (r ∷ rs) end = (behind : ℕ) × IsClauseAt text from r behind × AreClausesAt text behind rs end

-- so they are added to those before them, where there is room
added : (text : List ℕ) (from end : ℕ) (before rs : List Rule) → AreClausesAt text from rs end
    → length before + length rs ≤ MOST_CLAUSES
    → (ts : List Tree) × LeadsTo rules_language text from before ts end (before ++ rs)
added text from end before [] clauses few = ([], (clauses, append-nil before))
added text from end before (r ∷ rs) clauses few =
    let grown = before ++ r ∷ [] in
    let next : IsNextRule before clauses.1.term grown =
    record { rule = r; written = clauses.1.written; room = omega (arith, few); added = refl } in
    let rest = added text clauses.0 end grown rs clauses.2 (omega (arith, few, length-append before (r ∷ []))) in (
      clauses.1.term ∷ rest.0,
      (
        clauses.0,
        grown,
        clauses.1.found,
        next,
        subst (λ all. LeadsTo rules_language text clauses.0 grown rest.0 end all) (append_assoc before (r ∷ []) rs) rest.1,
      ),
    )

-- the clauses are spelt from a place on, and nothing else
abbrev AreAllSpelt : List ℕ → ℕ → List Rule → Type 0
AreAllSpelt text from rs = (end : ℕ) × AreClausesAt text from rs end × AnswersAt text end Nothing

one_more : (text : List ℕ) (from behind : ℕ) (r : Rule) (rs : List Rule) → IsRule r → AnswersAt text from (Found (clause_term r) behind)
    → AreAllSpelt text behind rs → AreAllSpelt text from (r ∷ rs)
one_more text from behind r rs rule read rest =
    (rest.0, (behind, record { term = clause_term r; found = read; written = written r rule }, rest.1), rest.2)

spelt_behind : (text before : List ℕ) (rs : List Rule) → All IsRule rs → text ≡ before ++ 10 ∷ clauses_text rs
    → AreAllSpelt text (length before) rs
spelt_behind text before [] rules is =
    (length before, refl, subst (λ s. ReadsAs true (length text) s Nothing) (sym (drop_front text before (10 ∷ []) (length before) is refl)) (nothing_behind (length text)))
spelt_behind text before (r ∷ rs) rules is =
    let c = canonical (clause_term r) in
    let front = before ++ (10 ∷ c ++ codes ".") in
    let this : text ≡ before ++ 10 ∷ clause_on r (clauses_text rs) = is ∙ ap (λ s. before ++ 10 ∷ s) (text_on rs r) in
    let next : text ≡ front ++ 10 ∷ clauses_text rs =
    this ∙ ap (λ s. before ++ 10 ∷ s) (sym (append_assoc c (codes ".") (10 ∷ clauses_text rs)))
    ∙ sym (append_assoc before (10 ∷ c ++ codes ".") (10 ∷ clauses_text rs)) in
    let far : length front ≡ place_behind (length before + 1) r =
    omega (arith, length-append before (10 ∷ c ++ codes "."), length-append c (codes ".")) in
    one_more text (length before) (place_behind (length before + 1) r) r rs (All-head IsRule r rs rules)
    (clause_read_behind text before (clauses_text rs) r (All-head IsRule r rs rules) this)
    (subst (λ k. AreAllSpelt text k rs) far (spelt_behind text front rs (All-tail IsRule r rs rules) next))

all_spelt : (rs : List Rule) → All IsRule rs → AreAllSpelt (clauses_text rs) 0 rs
all_spelt [] rules = (0, refl, nothing_left 0)
all_spelt (r ∷ rs) rules =
    let c = canonical (clause_term r) in
    let text = clauses_text (r ∷ rs) in
    let front = c ++ codes "." in
    let next : text ≡ front ++ 10 ∷ clauses_text rs = text_on rs r ∙ sym (append_assoc c (codes ".") (10 ∷ clauses_text rs)) in
    let far : length front ≡ place_behind 0 r = omega (arith, length-append c (codes ".")) in
    one_more text 0 (place_behind 0 r) r rs (All-head IsRule r rs rules)
    (clause_read text [] (clauses_text rs) r (All-head IsRule r rs rules) (text_on rs r))
    (subst (λ k. AreAllSpelt text k rs) far (spelt_behind text front rs (All-tail IsRule r rs rules) next))

pub printed-spelt : (rs : List Rule) → AreClauses rs → IsSpelt (clauses_text rs) rs
printed-spelt rs clauses =
    let all = all_spelt rs clauses.rules in
    let led = added (clauses_text rs) 0 all.0 [] rs all.1 (omega (arith, clauses.few)) in
    record { terms = led.0; end = all.0; clauses = led.1; nothing = all.2 }
