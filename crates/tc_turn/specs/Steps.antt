-- What each step on the turnstile's table tells: of the step, the seat before, the number found and
-- the seat after.
use Rattle.std.specs.Prelude.{◌≡◌, ℕ, ◌≤◌, List, ◌∷◌, Option, Some, length}
use mathlib.Core.List.{IsPrefix}
use Rattle.atomic_table.specs.Table.{Me, Step, rest}
use Rattle.tc_turn.specs.declared.view.View.{View}
use Rattle.tc_turn.specs.Owners.{entries_of, own_entries}
use Rattle.tc_turn.specs.Views.{blank_view, with_ticket, with_turn, with_entries, without_turn, with_floor}

module _ {C E O : Type 0} (history : C → List E) (origin : C → O) (owner : E → Option ℕ) where
  -- the seat is on turn, and holds the value, whose history it knows and has its own entries of
  abbrev pub TakesTurn : Me (Option C) (View E O) → Me (Option C) (View E O) → Type 0
  TakesTurn m n = (value : C)
      × (n ≡ (with_turn m.0 (history value), (0, Some value) ∷ m.1))
      × IsPrefix m.0.seen (history value)
      × (m.0.floor ≤ length (history value))
      × ((o : O) → m.0.origin ≡ Some o → origin value ≡ o)
      × ((k : ℕ) → m.0.number ≡ Some k → entries_of owner k (history value) ≡ m.0.mine)

  -- it takes its turn where the number found is its ticket, and stays as it was elsewhere
  abbrev pub SeesTurn : Step (Option C) → Me (Option C) (View E O) → ℕ → Me (Option C) (View E O)
      → Type 0
  SeesTurn st m r n = (m.0.ticket ≡ Some r → TakesTurn m n) × (¬ (m.0.ticket ≡ Some r) → n ≡ m)

module _ {C E O : Type 0} (history : C → List E) (owner : E → Option ℕ) where
  -- the history of the value that it holds is known
  abbrev pub Publishes : Step (Option C) → Me (Option C) (View E O) → ℕ → Me (Option C) (View E O)
      → Type 0
  Publishes st m r n = (value : C) → m.1 ≡ (0, Some value) ∷ rest m.1
      → n ≡ (with_entries m.0 (history value) (own_entries owner m.0.number (history value)), m.1)

module _ {S E O : Type 0} where
  -- the number found is its ticket
  abbrev pub TakesTicket : Step S → Me S (View E O) → ℕ → Me S (View E O) → Type 0
  TakesTicket st m r n = n ≡ (with_ticket m.0 r, m.1)

  -- it has given the slot back, and its turn is over
  abbrev pub PassesTurn : Step S → Me S (View E O) → ℕ → Me S (View E O) → Type 0
  PassesTurn st m r n = n ≡ (without_turn m.0, rest m.1)

  -- the number found is a count, no smaller than the last one and than the number of its known entries
  abbrev pub ReadsCount : Step S → Me S (View E O) → ℕ → Me S (View E O) → Type 0
  ReadsCount st m r n = (n ≡ (with_floor m.0 r, m.1)) × (m.0.floor ≤ r) × (length m.0.seen ≤ r)

  -- a new seat, which is nobody's
  abbrev pub Gathers : Step S → Me S (View E O) → ℕ → Me S (View E O) → Type 0
  Gathers st m r n = n.0 ≡ blank_view
