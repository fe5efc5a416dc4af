-- What contracts see of a turnstile, a pass and an ended pass, and how each call changes a pass.
use Rattle.std.specs.Prelude.{◌≡◌, ℕ, zero, suc, ◌+◌, ◌-◌, ◌*◌, ◌<◌, ◌≤◌, List, [], ◌∷◌, Bool}
use Rattle.std.specs.Prelude.{true, false, Option, None, Some, length, sum_by, unwrap_or}
use mathlib.Core.List.{IsPrefix}
use Rattle.atomic_table.specs.Table.{Me}
use Rattle.atomic_table.specs.Seated.{TableId}
use Rattle.tc_turn.specs.declared.view.View.{View}
use Rattle.tc_turn.specs.declared.view.PassRecord.{PassRecord}
use Rattle.tc_turn.specs.Owners.{entries_of}
use Rattle.tc_turn.specs.Order.{one_if_same}

-- a turnstile: which table it has, the origin of its value, and its number of passes
pub record TurnstileState (O : Type 0) : Type 0 where
  pub table : TableId
  pub origin : O
  pub passes : ℕ

-- a pass: of which turnstile it is, its number, the beginning of the history that it knows, its own
-- entries, the last count that it read, how many turns it has left, and whether it holds a turn
pub record PassState (E O : Type 0) : Type 0 where
  pub table : TableId
  pub origin : Option O
  pub number : ℕ
  pub seen : List E
  pub mine : List E
  pub floor : ℕ
  pub turns : ℕ
  pub holds : Bool

-- a pass that has ended: of which turnstile it was, its number, the beginning of the history that it
-- knew, and its own entries
pub record EndedState (E : Type 0) : Type 0 where
  pub table : TableId
  pub number : ℕ
  pub seen : List E
  pub mine : List E

module _ {E O : Type 0} where
  -- the pass whose seat has this view
  abbrev pub pass_state : TableId → View E O → PassState E O
  pass_state table v = record {
    table = table;
    origin = v.origin;
    number = unwrap_or v.number 0;
    seen = v.seen;
    mine = v.mine;
    floor = v.floor;
    turns = v.turns;
    holds = v.on_turn;
  }

  -- the ended pass whose seat has this view
  abbrev pub ended_state : TableId → View E O → EndedState E
  ended_state table v =
      record { table = table; number = unwrap_or v.number 0; seen = v.seen; mine = v.mine }

  -- the pass p after its end
  abbrev pub end_of : PassState E O → EndedState E
  end_of p = record { table = p.table; number = p.number; seen = p.seen; mine = p.mine }

  -- the pass k of a new turnstile
  abbrev pub new_pass : TableId → O → ℕ → ℕ → PassState E O
  new_pass table origin turns k = record {
    table = table;
    origin = Some origin;
    number = k;
    seen = [];
    mine = [];
    floor = 0;
    turns = turns;
    holds = false;
  }

  -- so many passes of a new turnstile, from the pass k on
  abbrev pub new_passes : TableId → O → ℕ → ℕ → ℕ → List (PassState E O)
  new_passes table origin turns k zero = []
  new_passes table origin turns k (suc n) =
      new_pass table origin turns k ∷ new_passes table origin turns (k + 1) n

  -- p is a pass of the turnstile t
  abbrev pub IsPassOfTurnstile : TurnstileState O → PassState E O → Type 0
  IsPassOfTurnstile t p = (p.table ≡ t.table) × (p.origin ≡ Some t.origin)

  -- q is the pass p after it has taken a turn: it knows the whole history, of which it knew a
  -- beginning, and of which its number owns just the entries that it had
  pub record Enters (owner : E → Option ℕ) (p : PassState E O) (history : List E) (q : PassState E O)
      : Type 0 where
    pub left : 0 < p.turns
    pub state : q ≡ record p { turns = p.turns - 1; seen = history; holds = true }
    pub floor : p.floor ≤ length history
    pub seen : IsPrefix p.seen history
    pub mine : entries_of owner p.number history ≡ p.mine

  -- q is the pass p after it has given its turn back: it knows the whole history, and has the entries
  -- of it that its number owns
  abbrev pub Leaves : (E → Option ℕ) → PassState E O → List E → PassState E O → Type 0
  Leaves owner p history q =
      q ≡ record p { seen = history; mine = entries_of owner p.number history; holds = false }

  -- q is the pass p after it has read the count n, which is no smaller than the last one and than the
  -- number of entries that it knows
  pub record LearnsCount (p : PassState E O) (n : ℕ) (q : PassState E O) : Type 0 where
    pub state : q ≡ record p { floor = n }
    pub floor : p.floor ≤ n
    pub seen : length p.seen ≤ n

-- how many of these ended passes have the number n
abbrev pub ended_count : {E : Type 0} → ℕ → List (EndedState E) → ℕ
ended_count n ended = sum_by (λ e. one_if_same e.number n) ended

-- an ended pass knew a beginning of the history, and has the entries of it that its number owns
abbrev pub AgreesWith : {E : Type 0} → (E → Option ℕ) → List E → EndedState E → Type 0
AgreesWith owner history e = IsPrefix e.seen history × (entries_of owner e.number history ≡ e.mine)

-- what the table keeps of an ended pass
abbrev pub record_of_ended : {E : Type 0} → EndedState E → PassRecord E
record_of_ended e = record { number = e.number; seen = e.seen; mine = e.mine }

module _ {S E O : Type 0} where
  -- the seat of a pass: what the pass counts is what its view has, and the seat holds the emptied slot
  -- exactly while it is on turn
  pub record IsPassSeat (owner : E → Option ℕ) (me : Me (Option S) (View E O)) (number turns known : ℕ)
      : Type 0 where
    pub own_number : me.0.number ≡ Some number
    pub turns_left : me.0.turns ≡ turns
    pub length_seen : length me.0.seen ≡ known
    pub mine : entries_of owner number me.0.seen ≡ me.0.mine
    pub origin : (x : O) × (me.0.origin ≡ Some x)
    pub no_next : me.0.next ≡ None
    pub none_ended : me.0.ended ≡ []
    pub off : me.0.on_turn ≡ false → (me.0.ticket ≡ None) × (me.1 ≡ [])
    pub on : me.0.on_turn ≡ true → me.1 ≡ (0, None) ∷ []

  -- the seat of a pass that has ended
  pub record IsEndedSeat (me : Me (Option S) (View E O)) : Type 0 where
    pub number : (n : ℕ) × (me.0.number ≡ Some n)
    pub ticket : me.0.ticket ≡ None
    pub off : me.0.on_turn ≡ false
    pub no_next : me.0.next ≡ None
    pub none_ended : me.0.ended ≡ []
    pub empty : me.1 ≡ []

module _ {E O : Type 0} where
  -- the maker's view, once the passes below k are made
  pub record IsMaker (v : View E O) (first : O) (passes k share : ℕ) : Type 0 where
    pub next : v.next ≡ Some k
    pub each : v.share ≡ share
    pub left : v.turns + k * share ≡ passes * share
    pub origin : v.origin ≡ Some first
