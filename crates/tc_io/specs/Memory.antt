-- Sources and sinks in memory.
use Rattle.std.specs.Prelude.{◌≡◌, ℕ, ◌+◌, ◌-◌, ◌^◌, ◌<◌, ◌↔◌, min, Bool}
use Rattle.std.specs.Prelude.{List, ◌++◌, ◌==◌, length, take, drop}
use Rattle.std.specs.List.{Contains}
use Rattle.tc_io.specs.Faults.{Counts}

-- one more, up to the end of a count
abbrev pub one_more : ℕ → ℕ
one_more n = min (n + 1) (2 ^ 64 - 1)

-- which calls fail, how many were made, and how many of them have failed
pub record Calls : Type 0 where
  pub failing : List ℕ
  pub made : ℕ
  pub failed : ℕ

-- no call is made yet, and these will fail
abbrev pub no_call : List ℕ → Calls
no_call failing = record { failing = failing; made = 0; failed = 0 }

-- no call fails
abbrev pub never_fails : Calls → Bool
never_fails calls = length calls.failing == 0

-- one call more is made, and it fails exactly where its number is one of the failing
pub record MakesCall (old new : Calls) (failure : Type 0) : Type 0 where
  pub fails : failure ↔ Contains old.failing (one_more old.made)
  pub made : new.made ≡ one_more old.made
  pub failing : new.failing ≡ old.failing
  pub counted : Counts failure old.failed new.failed

-- a source: what is left, how much a call gives at most, and its calls
pub record MemReading : Type 0 where
  pub left : List ℕ
  pub piece : ℕ
  pub calls : Calls

-- n bytes are read to the front of the buffer: as many as what is left, the piece and the buffer's
-- room allow; behind them it stays
pub record GivesPiece (old new : MemReading) (n : ℕ) (before buffer : List ℕ) : Type 0 where
  pub size : n ≡ min (min (length old.left) old.piece) (length before)
  pub given : buffer ≡ take n old.left ++ drop n before
  pub left : new.left ≡ drop n old.left
  pub some : 0 < old.piece

-- a sink: what was taken, how much a call takes at most, and its calls
pub record MemWriting : Type 0 where
  pub taken : List ℕ
  pub piece : ℕ
  pub calls : Calls

-- n bytes are taken from the front of these: as many as there are, and no more than a piece
pub record TakesPiece (old new : MemWriting) (n : ℕ) (bytes : List ℕ) : Type 0 where
  pub size : n ≡ min (length bytes) old.piece
  pub taken : new.taken ≡ old.taken ++ take n bytes
  pub some : 0 < old.piece
