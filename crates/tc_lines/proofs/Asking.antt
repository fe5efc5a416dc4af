-- What lines ask.
use Rattle.std.proofs.Common.{◌≡◌, ℕ, List, Err, inl, inr}
use Rattle.tc_term.specs.Faults.{WideInt, TooMany, TooBig}
use Rattle.tc_term.specs.Tree.{Tree}
use Rattle.tc_model.specs.Lines.{line_term}
use Rattle.tc_model.specs.declared.lines.Line.{Line}
use Rattle.tc_lines.specs.Requests.{AsksNothing, IsRequest, IsWord, LineReadsAs}
use Rattle.tc_lines.specs.declared.requests.BadLine.TheVariants.{Size}
use Rattle.tc_lines.specs.declared.requests.LineAsk.TheVariants.{Call, Poll, Wait, Quit}

-- a term that is no word and no line of a script asks nothing
pub asks_nothing : (t : Tree) → (IsWord t → ⊥) → ((line : Line) → t ≡ line_term line → ⊥) → AsksNothing t
asks_nothing t word line (Call centre asked) is = line (record { centre = centre; ask = asked }) is
asks_nothing t word line Poll is = word (inl is)
asks_nothing t word line Wait is = word (inr (inl is))
asks_nothing t word line Quit is = word (inr (inr is))

-- a line beyond a limit
pub has_wide_number : (line : List ℕ) (place : ℕ) → LineReadsAs line (WideInt place) → IsRequest line (Err Size)
has_wide_number line place reads = (place, inl reads)

pub has_many_variables : (line : List ℕ) (place : ℕ) → LineReadsAs line (TooMany place) → IsRequest line (Err Size)
has_many_variables line place reads = (place, inr (inl reads))

pub is_big : (line : List ℕ) (place : ℕ) → LineReadsAs line (TooBig place) → IsRequest line (Err Size)
is_big line place reads = (place, inr (inr reads))

-- how a line may be beyond the limits
pub ruleset beyond_the_limits = (has_wide_number, has_many_variables, is_big)
