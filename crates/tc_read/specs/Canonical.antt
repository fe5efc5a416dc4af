-- The canonical text of templates in a text.
use Rattle.std.specs.Prelude.{◌≡◌, ◌≢◌, ℕ, ◌+◌, ◌≤◌, false, List, []}
use Rattle.std.specs.Prelude.{◌∷◌, ◌++◌, drop, length}
use Rattle.tc_term.specs.Bytes.{is_word}
use Rattle.tc_term.specs.Text.{canonical}
use Rattle.tc_term.specs.Tree.{Tree}
use Rattle.tc_term.specs.Variables.{IsPattern}

-- the canonical text of this template stands in the text at this place, and ends at the place
-- behind it
pub record IsCanonicalAt (text : List ℕ) (from : ℕ) (p : Tree) (behind : ℕ) : Type 0 where
  pub pattern : IsPattern p
  pub rest : List ℕ
  pub stands : drop from text ≡ canonical p ++ rest
  pub place : behind + length rest ≡ length text

-- it stands there, and no longer canonical text of a template does
pub record IsLongestCanonicalAt (text : List ℕ) (from : ℕ) (p : Tree) (behind : ℕ)
    : Type 0 where
  pub stands : IsCanonicalAt text from p behind
  pub longest : (q : Tree) (end : ℕ) → IsCanonicalAt text from q end → end ≤ behind

-- nothing stands here that could go on a term: no letter, no digit, no underscore and no opening
-- round bracket
abbrev pub EndsTerm : List ℕ → Type 0
EndsTerm [] = Unit {0}
EndsTerm (b ∷ s) = (is_word b ≡ false) × (b ≢ 40)
