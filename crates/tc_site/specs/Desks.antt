-- What contracts see of an agent's desk.
use Rattle.std.specs.Prelude.{◌≡◌, ℕ, ◌+◌, ◌<◌, nat_eq, Bool, true, false, List, []}
use Rattle.std.specs.Prelude.{◌∷◌, ◌++◌, length, map}
use Rattle.std.specs.Prelude.{Option, None, Some, slice_get, slice_index}
use Rattle.std.specs.List.{list_any}
use Rattle.std.specs.Option.{is_none}
use Rattle.std.proofs.Common.{get_or}
use Rattle.tc_model.specs.Calls.{call_of}
use Rattle.tc_desk.specs.Decided.{IsDecided}
use Rattle.tc_desk.specs.Desks.{DeskState}
use Rattle.tc_desk.specs.Logs.{any_pending, is_served}
use Rattle.tc_desk.specs.declared.rows.LogRow.{LogRow}
use Rattle.tc_desk.specs.declared.rows.LogResult.TheVariants.{Pending}
use Rattle.tc_model.specs.Replies.{reply_in}
use Rattle.tc_model.specs.State.{Origin}
use Rattle.tc_model.specs.declared.asks.Primitive.{Primitive}
use Rattle.tc_model.specs.declared.entries.Entry.{Entry}
use Rattle.tc_turn.specs.Passes.{PassState}
use Rattle.tc_site.specs.Sites.{SiteState, IsSite, ArePasses, AgreesSeen, TURNS, histories_of}
use Rattle.tc_site.specs.declared.waiting.WaitingAt.{WaitingAt}

-- an agent's desk: its site, the agent, its passes, its log, where it has a pending row, and at
-- which centre it holds a turn
pub record AgentState (W : Type 0) : Type 0 where
  pub site : SiteState W
  pub agent : ℕ
  pub passes : List (PassState Entry Origin)
  pub log : List LogRow
  pub pending : Option WaitingAt
  pub held : Option ℕ

-- the turns that are left at each centre, and the number of entries seen
abbrev pub turns_of : List (PassState Entry Origin) → List ℕ
turns_of passes = map (λ (p : PassState Entry Origin). p.turns) passes

abbrev pub counts_of : List (PassState Entry Origin) → List ℕ
counts_of passes = map (λ (p : PassState Entry Origin). length p.seen) passes

-- the pending row has no reply in what the agent's pass of its centre has seen
abbrev pub waits_in : List (List Entry) → ℕ → Option WaitingAt → Bool
waits_in histories agent None = false
waits_in histories agent (Some w) =
    is_none (reply_in (get_or histories w.centre []) (call_of agent (w.row + 1)))

-- the desk, as one that makes calls
abbrev pub desk_of : {W : Type 0} → AgentState W → DeskState
desk_of d = record {
  log = d.log;
  names = d.site.names;
  turns = turns_of d.passes;
  seen = counts_of d.passes;
  waits = waits_in (histories_of d.passes) d.agent d.pending;
  free = is_none d.held;
}

-- the row at this place alone is pending, and it is one of this centre; no row behind it was
-- served, but there may be refused ones and ones that polled
pub record IsWaitingAt (names : List (List ℕ)) (log : List LogRow) (w : WaitingAt) : Type 0 where
  pub front : List LogRow
  pub row_is : LogRow
  pub back : List LogRow
  pub from : log ≡ front ++ row_is ∷ back
  pub place : w.row ≡ length front
  pub pending : row_is.result ≡ Pending
  pub settled : any_pending front ≡ false
  pub unserved_behind : list_any (λ (row : LogRow). is_served row.result) back ≡ false
  pub named : slice_get names w.centre ≡ Some row_is.centre

-- where the pending row is, if there is one
abbrev pub WaitsAt : List (List ℕ) → List LogRow → Option WaitingAt → Type 0
WaitsAt names log None = any_pending log ≡ false
WaitsAt names log (Some w) = IsWaitingAt names log w

-- whether a turn is held at this place
abbrev pub is_held : Option ℕ → ℕ → Bool
is_held None k = false
is_held (Some place) k = nat_eq place k

-- what the type promises of a desk: its site is one, the passes are the agent's, the turn that is
-- held is known, the log agrees with what the passes have seen, and the row that is pending is
-- known
pub record IsDesk {W : Type 0} (d : AgentState W) : Type 0 where
  pub site : IsSite d.site.names d.site.centres d.site.roles
  pub agent_is : d.agent < length d.site.roles
  pub are : ArePasses d.agent d.site.centres d.passes
  pub holds : (k : ℕ) (p : PassState Entry Origin) → slice_get d.passes k ≡ Some p
      → p.holds ≡ is_held d.held k
  pub agrees : AgreesSeen d.site.centres d.site.names d.passes d.agent d.log
  pub waits : WaitsAt d.site.names d.log d.pending

-- the warden permits the role to use the primitive on the centre
abbrev pub WardenPermits : {W : Type 0} → (W → ℕ → ℕ → Primitive → Option ℕ)
    → W → ℕ → ℕ → Primitive → Type 0
WardenPermits permits warden role place primitive =
    (number : ℕ) × (permits warden role place primitive ≡ Some number)

-- the log is decided by the site's warden, for the agent's role
abbrev pub IsDecidedLog : {W : Type 0} → (W → ℕ → ℕ → Primitive → Option ℕ)
    → SiteState W → ℕ → List LogRow → Type 0
IsDecidedLog permits s agent log = (role : ℕ) → slice_get s.roles agent ≡ Some role
    → IsDecided (WardenPermits permits s.warden role) s.names log

-- a desk that has made no call: all turns of its passes are left
pub record IsNewDesk (names : List (List ℕ)) (d : DeskState) : Type 0 where
  pub log_is : d.log ≡ []
  pub names_are : d.names ≡ names
  pub wide : length d.turns ≡ length names
  pub turns_are : (k : ℕ) → k < length names → slice_index d.turns k ≡ TURNS
  pub waits_not : d.waits ≡ false
  pub is_free : d.free ≡ true
