-- Layout: blanks and comments, and the tokens of a text with what ends them.
use Rattle.std.specs.Prelude.{◌≡◌, ◌≢◌, ℕ, suc, ◌-◌, Bool, true, ◌||◌, ◌==◌, List, [], ◌∷◌, length, ◌⊎◌}
use Rattle.tc_term.specs.Tokens.{Lexeme, Longest, BeginsNone}

-- a space, a tab, a line feed or a carriage return
abbrev pub is_blank : ℕ → Bool
is_blank b = b == 32 || b == 9 || b == 10 || b == 13

-- ToLineEnd s rest: rest stands behind the next line feed of s, or at its end where there is none.
pub data ToLineEnd : List ℕ → List ℕ → Type 0 where
  at_end : ToLineEnd [] []
  at_line_feed : {rest : List ℕ} → ToLineEnd (10 ∷ rest) rest
  in_line : {b : ℕ} {s rest : List ℕ} → b ≢ 10 → ToLineEnd s rest → ToLineEnd (b ∷ s) rest

-- the bytes begin with */
abbrev pub ClosesBlock : List ℕ → Type 0
ClosesBlock (b ∷ c ∷ s) = (b ≡ 42) × (c ≡ 47)
ClosesBlock _ = ⊥

-- ToBlockEnd s rest: rest stands behind the next */ of s.
pub data ToBlockEnd : List ℕ → List ℕ → Type 0 where
  at_block_end : {rest : List ℕ} → ToBlockEnd (42 ∷ 47 ∷ rest) rest
  in_block : {b : ℕ} {s rest : List ℕ} → (ClosesBlock (b ∷ s) → ⊥) → ToBlockEnd s rest
      → ToBlockEnd (b ∷ s) rest

-- a piece of layout: a blank, a comment from % to the end of the line, or one from /* to */
pub data Piece : List ℕ → List ℕ → Type 0 where
  blank : {b : ℕ} {rest : List ℕ} → is_blank b ≡ true → Piece (b ∷ rest) rest
  line : {s rest : List ℕ} → ToLineEnd s rest → Piece (37 ∷ s) rest
  block : {s rest : List ℕ} → ToBlockEnd s rest → Piece (47 ∷ 42 ∷ s) rest

-- the bytes begin with no layout
abbrev pub NoPiece : List ℕ → Type 0
NoPiece s = (rest : List ℕ) → Piece s rest → ⊥

-- Layout s rest: rest stands behind all the layout at the front of s.
pub data Layout : List ℕ → List ℕ → Type 0 where
  no_layout : {s : List ℕ} → NoPiece s → Layout s s
  layout : {s mid rest : List ℕ} → Piece s mid → Layout mid rest → Layout s rest

-- what stands behind a . that ends a clause: the end of the text, or layout
abbrev pub IsBehindEnd : List ℕ → Type 0
IsBehindEnd s = (s ≡ []) ⊎ ((rest : List ℕ) × Piece s rest)

-- a token with its place, and whether no layout stands before it
pub record At : Type 0 where
  pub lexeme : Lexeme
  pub place : ℕ
  pub glued : Bool

-- what ends the tokens: the end of the text, the . that ends a clause, or the place where no token
-- begins
pub data Stop : Type 0 where
  TextEnd : Stop
  ClauseEnd : ℕ → Stop
  NoToken : ℕ → Stop

-- Scan clauses size s ts stop: the bytes s, at the end of a text of this size, are the tokens ts up
-- to this end. A . ends them only where clauses are read.
pub data Scan (clauses : Bool) (size : ℕ) : List ℕ → List At → Stop → Type 0 where
  at_text_end : {s : List ℕ} → Layout s [] → Scan clauses size s [] TextEnd
  at_clause_end : {s after : List ℕ} → clauses ≡ true → Layout s (46 ∷ after) → IsBehindEnd after
      → Scan clauses size s [] (ClauseEnd (size - suc (length after)))
  at_no_token : {b : ℕ} {s rest : List ℕ} → Layout s (b ∷ rest) → BeginsNone (b ∷ rest)
      → (clauses ≡ true → b ≡ 46 → IsBehindEnd rest → ⊥)
      → Scan clauses size s [] (NoToken (size - suc (length rest)))
  token : {s mid front after : List ℕ} {lexeme : Lexeme} {ts : List At} {stop : Stop}
      → Layout s mid → Longest mid front lexeme after → Scan clauses size after ts stop
      → Scan clauses size s (record {
        lexeme = lexeme;
        place = size - length mid;
        glued = length s == length mid;
      } ∷ ts) stop
