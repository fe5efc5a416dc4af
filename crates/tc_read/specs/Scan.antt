-- What the scanner finds.
use Rattle.std.specs.Prelude.{◌≡◌, ◌<◌, ℕ, Bool, List, [], ◌∷◌, length}
use Rattle.tc_term.specs.Layouts as scanned
use Rattle.tc_term.specs.Layouts.{At, IsBehindEnd, Scan}
use Rattle.tc_read.specs.Lexemes.{lexeme_view}
use Rattle.tc_read.specs.Scanner.{Gathers}
use Rattle.tc_read.specs.declared.scan.Stop.{Stop}
use Rattle.tc_read.specs.declared.scan.Stop.TheVariants.{TextEnd, ClauseEnd, NoToken}
use Rattle.tc_read.specs.declared.scan.Found.{Found}
use Rattle.tc_read.specs.declared.scan.Found.TheVariants.{End, Token}
use Rattle.tc_read.specs.declared.scan.Scanned.{Scanned}

abbrev pub stop_view : Stop → scanned.Stop
stop_view TextEnd = scanned.TextEnd
stop_view (ClauseEnd place) = scanned.ClauseEnd place
stop_view (NoToken place) = scanned.NoToken place

-- a . that ends a clause stands at the front
abbrev pub IsClauseEnd : List ℕ → Type 0
IsClauseEnd [] = ⊥
IsClauseEnd (b ∷ s) = (b ≡ 46) × IsBehindEnd s

-- the bytes, at the end of a text of this size, have no token before this end, or one before other
-- tokens
abbrev pub StandsNext : Bool → ℕ → List ℕ → Found → Type 0
StandsNext clauses size s (End stop) = Scan clauses size s [] (stop_view stop)
StandsNext clauses size s (Token lexeme place direct after) =
    ((ts : List At) (stop : scanned.Stop) → Scan clauses size after.now ts stop →
    Scan clauses size s (record { lexeme = lexeme_view lexeme; place = place; glued = direct }
    ∷ ts) stop)
    × (length after.now < length s)

-- these are all tokens, and what is gathered from them
abbrev pub IsScanned : Bool → ℕ → List ℕ → Scanned → Type 0
IsScanned clauses size s r = (ts : List At) × Scan clauses size s ts (stop_view r.stop)
    × Gathers r.gathered ts
