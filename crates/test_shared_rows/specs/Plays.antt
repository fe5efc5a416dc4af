-- What agents leave that have made their moves at a shared centre.
use Rattle.std.specs.Prelude.{◌≡◌, ℕ, ◌+◌, ◌<◌, false, List, All, length, map, slice_index_or}
use Rattle.tc_model.specs.Calls.{id_of}
use Rattle.tc_model.specs.State.{Origin}
use Rattle.tc_model.specs.declared.entries.Entry.{Entry}
use Rattle.tc_shared.specs.Passes.{IsPassOf, KeepsPass}
use Rattle.tc_turn.specs.Passes.{TurnstileState, PassState, EndedState}
use Rattle.test_shared_rows.specs.declared.playing.Played.{Played}

-- the agent's entries have numbers below this one
abbrev pub NumbersBelow : ℕ → PassState Entry Origin → Type 0
NumbersBelow number p = All (λ e. (id_of e).number < number) p.mine

-- the pass is of the centre, holds no turn, and its agent's entries have numbers below this one
pub record MayMove (t : TurnstileState Origin) (p : PassState Entry Origin) (number : ℕ) : Type 0 where
  pub own : IsPassOf t p
  pub free : p.holds ≡ false
  pub next : NumbersBelow number p

-- q is the pass p after a move of this number
pub record Moves (t : TurnstileState Origin) (p : PassState Entry Origin) (number : ℕ)
    (q : PassState Entry Origin) : Type 0 where
  pub kept : KeepsPass t p q
  pub next : NumbersBelow (number + 1) q

-- the pass that has ended is this one of the centre
pub record IsPlayed (t : TurnstileState Origin) (p : PassState Entry Origin) (r : Played) : Type 0 where
  pub table : r.pass.table ≡ t.table
  pub number : r.pass.number ≡ p.number

-- each of these passes of the centre has ended
pub record ArePlayed (t : TurnstileState Origin) (passes : List (PassState Entry Origin))
    (played : List Played) : Type 0 where
  pub whole : length played ≡ length passes
  pub each : (k : ℕ) (p : PassState Entry Origin) (r : Played) → k < length passes
      → IsPlayed t (slice_index_or passes k p) (slice_index_or played k r)

-- the passes, in order
abbrev pub passes_of : List Played → List (EndedState Entry)
passes_of played = map (λ (r : Played). r.pass) played
