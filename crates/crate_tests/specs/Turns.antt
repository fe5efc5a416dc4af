-- Passes of a turnstile whose entries are the numbers of their owners, between turns.
use Rattle.std.specs.Prelude.{◌≡◌, ℕ, false}
use Rattle.tc_turn.specs.Passes.{TurnstileState, PassState, IsPassOfTurnstile}

-- the pass is of the turnstile, and holds no turn
abbrev pub IsFree : TurnstileState ℕ → PassState ℕ ℕ → Type 0
IsFree t p = IsPassOfTurnstile t p × (p.holds ≡ false)

-- after turns the pass holds none, and has its number still
pub record StaysFree (t : TurnstileState ℕ) (p q : PassState ℕ ℕ) : Type 0 where
  pub free : IsFree t q
  pub number : q.number ≡ p.number
