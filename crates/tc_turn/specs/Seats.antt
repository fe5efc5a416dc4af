-- What a step on the turnstile's table needs of the seat that makes it.
use Rattle.std.specs.Prelude.{◌≡◌, ℕ, ◌<◌, ◌^◌, List, [], ◌∷◌, ◌++◌, true, false, Option, None, Some, length}
use Rattle.atomic_table.specs.Table.{Me}
use Rattle.tc_turn.specs.declared.view.View.{View}
use Rattle.tc_turn.specs.Owners.{own_entries, OthersOwnNone}

module _ {S E O : Type 0} where
  -- the seat is a pass's
  abbrev pub HasNumber : Me (Option S) (View E O) → Type 0
  HasNumber me = (k : ℕ) × (me.0.number ≡ Some k)

  -- it has a turn left, and no ticket
  abbrev pub IsIdle : Me (Option S) (View E O) → Type 0
  IsIdle me = HasNumber me × (me.0.ticket ≡ None) × (me.0.on_turn ≡ false) × (0 < me.0.turns)

  -- it has this ticket, and is not on turn
  abbrev pub Awaits : ℕ → Me (Option S) (View E O) → Type 0
  Awaits ticket me = (me.0.ticket ≡ Some ticket) × (me.0.on_turn ≡ false)

  -- it holds the slot, with this in it
  abbrev pub Holds : Option S → Me (Option S) (View E O) → Type 0
  Holds slot me = me.1 ≡ (0, slot) ∷ []

module _ {C E O : Type 0} (history : C → List E) (origin : C → O) (owner : E → Option ℕ) where
  -- it is on turn, and the history of the value that it holds goes on where its knowledge ends, by so
  -- many entries of its own or of nobody
  abbrev pub HasNewEntries : ℕ → Me (Option C) (View E O) → Type 0
  HasNewEntries count me = (k : ℕ) × (value : C) × (new : List E)
      × (me.0.number ≡ Some k)
      × (me.0.on_turn ≡ true)
      × Holds (Some value) me
      × (history value ≡ me.0.seen ++ new)
      × OthersOwnNone owner k new
      × (length new ≡ count)
      × (length (history value) < 2 ^ 64)

  -- it is on turn, and knows the whole history of the value that it holds, its turnstile's
  abbrev pub HasAllKnown : Me (Option C) (View E O) → Type 0
  HasAllKnown me = (value : C) × (x : O)
      × (me.0.on_turn ≡ true)
      × Holds (Some value) me
      × (history value ≡ me.0.seen)
      × (me.0.origin ≡ Some x)
      × (origin value ≡ x)

-- its entries are those that its number owns in what it knows
abbrev pub KnowsItsOwn : {S E O : Type 0} → (E → Option ℕ) → Me (Option S) (View E O) → Type 0
KnowsItsOwn owner me = own_entries owner me.0.number me.0.seen ≡ me.0.mine
