-- What lines ask.
use Rattle.std.specs.Prelude.{◌≡◌, ℕ, ◌⊎◌, false, List, ◌∷◌, ◌++◌, length, codes, Result, Ok, Err}
use Rattle.tc_term.specs.Faults.{Answer, Found, WideInt, TooMany, TooBig, ReadsAs}
use Rattle.tc_term.specs.Faults as answer
use Rattle.tc_term.specs.Tree.{Tree, Atomic}
use Rattle.tc_model.specs.Lines.{line_term}
use Rattle.tc_lines.specs.Lines.{IsLine, IsReadAs}
use Rattle.tc_lines.specs.declared.requests.LineAsk.{LineAsk}
use Rattle.tc_lines.specs.declared.requests.LineAsk.TheVariants.{Call, Poll, Wait, Quit}
use Rattle.tc_lines.specs.declared.requests.BadLine.{BadLine}
use Rattle.tc_lines.specs.declared.requests.BadLine.TheVariants as bad

-- a request, as it is written
abbrev pub request_term : LineAsk → Tree
request_term (Call centre asked) = line_term (record { centre = centre; ask = asked })
request_term Poll = Atomic (codes "poll")
request_term Wait = Atomic (codes "wait")
request_term Quit = Atomic (codes "quit")

-- the whole line is read so
abbrev pub LineReadsAs : List ℕ → Answer → Type 0
LineReadsAs line a = ReadsAs false (length line) line a

-- the term is a request that is a word alone
abbrev pub IsWord : Tree → Type 0
IsWord t = (t ≡ request_term Poll) ⊎ ((t ≡ request_term Wait) ⊎ (t ≡ request_term Quit))

-- no request is written as this term
abbrev pub AsksNothing : Tree → Type 0
AsksNothing t = (asked : LineAsk) → t ≡ request_term asked → ⊥

-- what a line asks that is read as this term
abbrev pub IsRequestAs : Tree → Result LineAsk BadLine → Type 0
IsRequestAs t (Ok asked) = t ≡ request_term asked
IsRequestAs t (Err bad.Syntax) = ⊥
IsRequestAs t (Err bad.Size) = ⊥
IsRequestAs t (Err bad.Shape) = AsksNothing t
IsRequestAs t (Err bad.NoMemory) = Unit {0}

-- what the line asks, or why it asks nothing; memory may run out at any line
abbrev pub IsRequest : List ℕ → Result LineAsk BadLine → Type 0
IsRequest line (Ok asked) = LineReadsAs line (Found (request_term asked) (length line))
IsRequest line (Err bad.Syntax) = (place : ℕ) × LineReadsAs line (answer.Syntax place)
IsRequest line (Err bad.Size) = (place : ℕ)
    × (LineReadsAs line (WideInt place)
    ⊎ (LineReadsAs line (TooMany place) ⊎ LineReadsAs line (TooBig place)))
IsRequest line (Err bad.Shape) =
    (t : Tree) × LineReadsAs line (Found t (length line)) × AsksNothing t
IsRequest line (Err bad.NoMemory) = Unit {0}

-- the line of these bytes asks this
pub record AsksThis (raw : List ℕ) (asked : Result LineAsk BadLine) : Type 0 where
  pub is : IsLine raw
  pub line : List ℕ
  pub read : IsReadAs raw line
  pub request : IsRequest line asked

-- these bytes begin with a line that asks this, and these stand behind it
pub record BeginsWith (bytes : List ℕ) (asked : Result LineAsk BadLine) (rest : List ℕ)
    : Type 0 where
  pub raw : List ℕ
  pub asks : AsksThis raw asked
  pub is : bytes ≡ raw ++ 10 ∷ rest
