-- What is gathered from tokens, as the code has it.
use Rattle.std.specs.Prelude.{◌≡◌, ℕ, List, [], ◌∷◌, ◌++◌, map, max, Option, Some, None}
use Rattle.tc_term.specs.Layouts.{At}
use Rattle.tc_term.specs.Faults.{all_known, first_wide, known_behind, most_open, numbered}
use Rattle.tc_term.specs.Faults.{open_behind, or_else, token_of, wide_at}
use Rattle.tc_read.specs.Brackets.{CountsTo}
use Rattle.tc_read.specs.Variables.{names_view}
use Rattle.tc_read.specs.Views.{token_view}
use Rattle.tc_read.specs.declared.scanner.Scanner.{Scanner}
use Rattle.tc_read.specs.declared.tokens.Token.{Token}

abbrev pub first_at : List At → Option ℕ
first_at [] = None
first_at (t ∷ ts) = Some t.place

-- how many brackets are open behind the tokens, where n are open before them
abbrev pub open_after : ℕ → List At → ℕ
open_after n [] = n
open_after n (t ∷ ts) = open_after (open_behind n t.lexeme) ts

-- the token stands behind those so far, and nothing else has changed
pub record IsPushed (s s' : Scanner) (token : Token) : Type 0 where
  pub tokens : s'.tokens.items ≡ s.tokens.items ++ token ∷ []
  pub variables : s'.variables ≡ s.variables
  pub brackets : s'.brackets ≡ s.brackets
  pub wide : s'.wide ≡ s.wide
  pub first : s'.first ≡ s.first

-- what the next token changes, but for the place of the first
pub record Takes (s s' : Scanner) (t : At) : Type 0 where
  pub wide : s'.wide ≡ or_else s.wide (wide_at t.place t.lexeme)
  pub tokens : wide_at t.place t.lexeme ≡ None → map token_view s'.tokens.items
      ≡ map token_view s.tokens.items
      ++ token_of (names_view s.variables) t.glued t.place t.lexeme ∷ []
  pub names : names_view s'.variables ≡ known_behind (names_view s.variables) t.lexeme
  pub brackets : (n most : ℕ) → CountsTo s.brackets n most
      → CountsTo s'.brackets (open_behind n t.lexeme) (max most (open_behind n t.lexeme))
  pub first : s'.first ≡ s.first

-- what is gathered from these tokens
pub record Gathers (s : Scanner) (ts : List At) : Type 0 where
  pub wide : s.wide ≡ first_wide ts
  pub tokens : first_wide ts ≡ None → map token_view s.tokens.items ≡ numbered [] ts
  pub names : names_view s.variables ≡ all_known [] ts
  pub brackets : CountsTo s.brackets (open_after 0 ts) (most_open 0 ts)
  pub first : s.first ≡ first_at ts
