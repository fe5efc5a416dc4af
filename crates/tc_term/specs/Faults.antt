-- What the reader answers: the term that the tokens are, or the first fault by the order of the
-- rules.
use Rattle.std.specs.Prelude.{◌≡◌, ℕ, ◌+◌, ◌-◌, ◌^◌, ◌⊎◌, max, Bool, true, false, if◌then◌else◌}
use Rattle.std.specs.Prelude.{nat_lt, nat_le, List, [], ◌∷◌, ◌++◌, length, Option, Some, None}
use Rattle.std.specs.Prelude.{MatchOption, position, codes, bytes_eq, ℤ, pos, neg_ℤ}
use Rattle.tc_term.specs.Limits.{most_variables, most_brackets}
use Rattle.tc_term.specs.Tree.{Tree, Trees, Last, More, Atomic, Compound, Fits}
use Rattle.tc_term.specs.Tree as tree
use Rattle.tc_term.specs.Tokens.{Lexeme, Word, Variable, Number, Quoted, Symbol, Punctuation}
use Rattle.tc_term.specs.Tokens.{Mark, Open, Close, OpenList, CloseList, Comma, Bar}
use Rattle.tc_term.specs.Layouts.{At, Stop, TextEnd, ClauseEnd, NoToken, Scan}
use Rattle.tc_term.specs.Grammar as grammar
use Rattle.tc_term.specs.Grammar.{Token, Meaning, IsTerm}

-- Variables are numbered by first appearance. Known are the variables so far: the names, and an
-- empty list for each _ alone, which is new each time. Beyond the 257th none is told apart any
-- more, since more than 256 are refused.

-- the known variables and one more
abbrev pub learned : List (List ℕ) → List ℕ → List (List ℕ)
learned known name = if nat_le (length known) most_variables then known ++ name ∷ [] else known

-- whether the name is that of a variable of its own
abbrev pub is_anonymous : List ℕ → Bool
is_anonymous name = bytes_eq name (codes "_")

-- the number of a variable that stands at this place, or is new
abbrev pub number_by : List (List ℕ) → Option ℕ → ℕ
number_by known (Some i) = i
number_by known None = length known

-- the number of the variable of this name
abbrev pub number_of : List (List ℕ) → List ℕ → ℕ
number_of known name = if is_anonymous name then length known
    else number_by known (position (bytes_eq name) known)

-- what is known behind a named variable that stands at this place, or is new
abbrev pub known_by : List (List ℕ) → List ℕ → Option ℕ → List (List ℕ)
known_by known name (Some i) = known
known_by known name None = learned known name

-- what is known behind the variable of this name
abbrev pub known_after : List (List ℕ) → List ℕ → List (List ℕ)
known_after known name = if is_anonymous name then learned known []
    else known_by known name (position (bytes_eq name) known)

-- the mark as the grammar sees it
abbrev pub mark_of : Bool → Mark → Token
mark_of glued Open = grammar.Open glued
mark_of glued Close = grammar.Close
mark_of glued OpenList = grammar.OpenList
mark_of glued CloseList = grammar.CloseList
mark_of glued Comma = grammar.Comma
mark_of glued Bar = grammar.Bar

-- the token as the grammar sees it, behind these variables
abbrev pub token_of : List (List ℕ) → Bool → ℕ → Lexeme → Token
token_of known glued place (Word name) = grammar.Name true name
token_of known glued place (Variable name) = grammar.Variable (number_of known name)
token_of known glued place (Number n) = grammar.Integer glued n place
token_of known glued place (Quoted name) = grammar.Name false name
token_of known glued place (Symbol sign) = grammar.Symbol sign
token_of known glued place (Punctuation mark) = mark_of glued mark

-- the variables that are known behind the token
abbrev pub known_behind : List (List ℕ) → Lexeme → List (List ℕ)
known_behind known (Variable name) = known_after known name
known_behind known _ = known

-- the tokens as the grammar sees them, behind these variables
abbrev pub numbered : List (List ℕ) → List At → List Token
numbered known [] = []
numbered known (t ∷ ts) =
    token_of known t.glued t.place t.lexeme ∷ numbered (known_behind known t.lexeme) ts

-- the variables that are known behind all the tokens
abbrev pub all_known : List (List ℕ) → List At → List (List ℕ)
all_known known [] = known
all_known known (t ∷ ts) = all_known (known_behind known t.lexeme) ts

-- the place of an integer above 9223372036854775808
abbrev pub wide_at : ℕ → Lexeme → Option ℕ
wide_at place (Number n) = if nat_lt (2 ^ 63) n then Some place else None
wide_at place _ = None

-- the first that is there
abbrev pub or_else : Option ℕ → Option ℕ → Option ℕ
or_else (Some n) other = Some n
or_else None other = other

-- the place of the first integer above 9223372036854775808
abbrev pub first_wide : List At → Option ℕ
first_wide [] = None
first_wide (t ∷ ts) = or_else (wide_at t.place t.lexeme) (first_wide ts)

-- how many brackets are open behind a token, where n are open before it: each closing one closes
-- the last of either kind
abbrev pub open_behind : ℕ → Lexeme → ℕ
open_behind n (Punctuation Open) = n + 1
open_behind n (Punctuation OpenList) = n + 1
open_behind n (Punctuation Close) = n - 1
open_behind n (Punctuation CloseList) = n - 1
open_behind n _ = n

-- how many brackets are open at most, where n are open now
abbrev pub most_open : ℕ → List At → ℕ
most_open n [] = n
most_open n (t ∷ ts) = max n (most_open (open_behind n t.lexeme) ts)

-- The meaning of a term: its tree, and the place of its first integer that is no 64-bit number, as
-- 9223372036854775808 is where no - directly precedes it.

-- what a term is read as
pub record Reading : Type 0 where
  pub term : Tree
  pub wide : Option ℕ

-- one tree and more as arguments
abbrev pub trees : Tree → List Tree → Trees
trees t [] = Last t
trees t (u ∷ ts) = More t (trees u ts)

-- the trees of what is read
abbrev pub terms : List Reading → List Tree
terms [] = []
terms (r ∷ rs) = r.term ∷ terms rs

-- the first such place in several terms
abbrev pub wide_of_all : List Reading → Option ℕ
wide_of_all [] = None
wide_of_all (r ∷ rs) = or_else r.wide (wide_of_all rs)

-- the number of this sign and size isn't from -9223372036854775808 to 9223372036854775807
abbrev pub is_wide : Bool → ℕ → Bool
is_wide true n = nat_lt (2 ^ 63) n
is_wide false n = nat_le (2 ^ 63) n

-- the number with a minus where it is negative
abbrev pub signed : Bool → ℕ → ℤ
signed true n = neg_ℤ (pos n)
signed false n = pos n

-- what each form of a term is read as
abbrev pub reading : Meaning Reading
reading = record {
  variable = λ n. record { term = tree.Variable n; wide = None };
  number = λ negative n place. record {
    term = tree.Number (signed negative n);
    wide = if is_wide negative n then Some place else None;
  };
  atom = λ name. record { term = Atomic name; wide = None };
  compound = λ name r more. record {
    term = Compound name (trees r.term (terms more));
    wide = or_else r.wide (wide_of_all more);
  };
}

-- What is answered: that nothing but layout is left; a fault with its place; or the term and the
-- place behind it, with its end token.
pub data Answer : Type 0 where
  Nothing : Answer
  Syntax : ℕ → Answer
  WideInt : ℕ → Answer
  TooMany : ℕ → Answer
  TooBig : ℕ → Answer
  Found : Tree → ℕ → Answer

-- the place of the first token
abbrev pub first_place : ℕ → List At → Stop → ℕ
first_place size [] (ClauseEnd place) = place
first_place size [] stop = size
first_place size (t ∷ ts) stop = t.place

-- the place behind the tokens and the end token
abbrev pub place_behind : ℕ → Stop → ℕ
place_behind size (ClauseEnd place) = place + 1
place_behind size _ = size

-- the first claim where the test is true, else the second
abbrev pub When : Bool → Type 0 → Type 0 → Type 0
When true P Q = P
When false P Q = Q

-- the fourth to the last rule, for what the tokens are read as
abbrev pub Judged : ℕ → ℕ → ℕ → Reading → Answer → Type 0
Judged place behind count r a = MatchOption r.wide
    (When (nat_lt most_variables count)
    (a ≡ TooMany place)
    (((a ≡ TooBig place) × (Fits r.term → ⊥)) ⊎ ((a ≡ Found r.term behind) × Fits r.term)))
    (λ wide. a ≡ WideInt wide)

-- the third rule: the tokens are no term, or they are read as r and the next rules decide
abbrev pub Parsed : ℕ → ℕ → List At → Answer → Type 0
Parsed place behind ts a =
    ((a ≡ Syntax place) × ((r : Reading) → IsTerm reading (numbered [] ts) r → ⊥))
    ⊎ ((r : Reading) × IsTerm reading (numbered [] ts) r
    × Judged place behind (length (all_known [] ts)) r a)

-- the second rule and the next ones, for tokens that all begin and end
abbrev pub Ended : ℕ → List At → Stop → Answer → Type 0
Ended size ts stop a =
    When (nat_lt most_brackets (most_open 0 ts))
    (a ≡ TooBig (first_place size ts stop))
    (Parsed (first_place size ts stop) (place_behind size stop) ts a)

-- what is answered where the text of a clause ends without an end token
abbrev pub Unended : ℕ → List At → Answer → Type 0
Unended size [] a = a ≡ Nothing
Unended size ts a = a ≡ Syntax size

-- where no integer is too wide
abbrev pub Stopped : Bool → ℕ → List At → Stop → Answer → Type 0
Stopped clauses size ts (NoToken place) a = a ≡ Syntax place
Stopped clauses size ts (ClauseEnd place) a = Ended size ts (ClauseEnd place) a
Stopped true size ts TextEnd a = Unended size ts a
Stopped false size ts TextEnd a = Ended size ts TextEnd a

-- the first rule that applies decides
abbrev pub AnswersTokens : Bool → ℕ → List At → Stop → Answer → Type 0
AnswersTokens clauses size ts stop a =
    MatchOption (first_wide ts) (Stopped clauses size ts stop a) (λ place. a ≡ WideInt place)

-- the bytes s, at the end of a text of this size, are read so
abbrev pub ReadsAs : Bool → ℕ → List ℕ → Answer → Type 0
ReadsAs clauses size s a = (ts : List At) × (stop : Stop) × Scan clauses size s ts stop
    × AnswersTokens clauses size ts stop a
