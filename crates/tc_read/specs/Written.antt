-- Quoted texts as they are printed.
use Rattle.std.specs.Prelude.{◌≡◌, ℕ, ◌+◌, List, ◌∷◌, ◌++◌, drop, length}
use Rattle.tc_term.specs.Text.{quoted, quoted_byte}
use Rattle.tc_read.specs.declared.quote.Written.{Written}
use Rattle.tc_read.specs.declared.quote.Written.TheVariants.{Closing, Byte, Fault}

-- the quoted text of the bytes stands in the text at this place, and ends at the place behind it
pub record IsQuotedAt (text : List ℕ) (from : ℕ) (bytes : List ℕ) (behind : ℕ)
    : Type 0 where
  pub rest : List ℕ
  pub stands : drop from text ≡ quoted bytes ++ rest
  pub place : behind + length rest ≡ length text

-- the text begins with the closing quote, with this byte as it is written between quotes, or with
-- neither
abbrev pub IsWritten : List ℕ → Written → Type 0
IsWritten text (Closing rest) = text ≡ 39 ∷ rest.now
IsWritten text (Byte b rest) = text ≡ quoted_byte b ++ rest.now
IsWritten text Fault = ((rest : List ℕ) → text ≡ 39 ∷ rest → ⊥) ×
    ((b : ℕ) (rest : List ℕ) → text ≡ quoted_byte b ++ rest → ⊥)
