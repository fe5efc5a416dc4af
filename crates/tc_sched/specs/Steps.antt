-- What the steps of agents do.
use Rattle.std.specs.Prelude.{◌≡◌, ◌≢◌, ℕ, ◌+◌, ◌-◌, ◌*◌, ◌<◌, ◌≤◌, ◌⊎◌}
use Rattle.std.specs.Prelude.{true, false, if◌then◌else◌}
use Rattle.std.specs.Prelude.{List, All, length, slice_index, slice_get, sum_by, Some}
use Rattle.tc_model.specs.Scripts.{Lines}
use Rattle.tc_model.specs.declared.asks.Ask.{Ask}
use Rattle.tc_model.specs.declared.scripts.ScriptItem.{ScriptItem}
use Rattle.std.specs.List.{AllZip}
use Rattle.tc_asks.specs.Nexts.{IsNextAsk}
use Rattle.tc_asks.specs.declared.next.Next.{Next}
use Rattle.tc_desk.specs.Asks.{steps_of}
use Rattle.tc_desk.specs.Desks.{DeskState, Keeps, Spends, Makes, Refuses, Looks}
use Rattle.tc_desk.specs.Logs.{any_pending}
use Rattle.tc_desk.specs.declared.desks.Seen.TheVariants as seen
use Rattle.tc_desk.specs.declared.desks.Served.{Served}
use Rattle.tc_desk.specs.declared.rows.Refusal.{Refusal}
use Rattle.tc_desk.specs.declared.rows.Refusal.TheVariants as refusal
use Rattle.tc_sched.specs.Clients.{Client}
use Rattle.tc_sched.specs.declared.actor.Step.{Step}
use Rattle.tc_sched.specs.declared.actor.Step.TheVariants as step

-- the centre of each item is one of so many
abbrev pub ArePlaced : ℕ → List Lines → Type 0
ArePlaced count scripts =
    All (λ (s : Lines). All (λ (i : ScriptItem). i.centre < count) s.items) scripts

-- one call was made, which was served, or refused; but not for want of memory
abbrev pub IsCall : DeskState → List ℕ → Ask → DeskState → Type 0
IsCall d centre ask e = ((how : Served) × Makes d centre ask how e)
    ⊎ ((why : Refusal) × (why ≢ refusal.NoMemory) × Refuses d centre ask why e)

-- the ask of the first item that has no row was made, at the item's centre
pub record AsksNext (scripts : List Lines) (d e : DeskState) : Type 0 where
  pub idle : any_pending d.log ≡ false
  pub next : Next
  pub is : IsNextAsk scripts d.log next
  pub centre : List ℕ
  pub named : slice_get d.names next.centre ≡ Some centre
  pub made : IsCall d centre next.ask e

-- how often an agent may still move: twice for each item that has no row, and once where a row is
-- pending
abbrev pub left : DeskState → List Lines → ℕ
left d scripts =
    2 * (length (steps_of scripts) - length d.log) + (if any_pending d.log then 1 else 0)

module _ {D : Type 0} (state : D → DeskState) where
  -- the agent can make steps: its desk is free, at centres of these names, where so many turns are
  -- left at each, and these are the centres of its items
  pub record IsReady (turns : ℕ) (centres : List (List ℕ)) (c : Client D) : Type 0 where
    pub free : (state c.desk).free ≡ true
    pub names : (state c.desk).names ≡ centres
    pub placed : ArePlaced (length centres) c.scripts
    pub turns_left : (k : ℕ) → k < length centres
        → turns ≤ slice_index (state c.desk).turns k

  -- each item has its row, and none is pending
  pub record HasEnded (c : Client D) : Type 0 where
    pub all : length (state c.desk).log ≡ length (steps_of c.scripts)
    pub idle : any_pending (state c.desk).log ≡ false

  -- a row of the agent, which is its last, is pending
  abbrev pub Waits : Client D → Type 0
  Waits c = any_pending (state c.desk).log ≡ true

  -- the agent has ended, or waits
  abbrev pub Rests : Client D → Type 0
  Rests c = HasEnded c ⊎ Waits c

  -- the agent is as it was, or waits now
  abbrev pub Stays : Client D → Client D → Type 0
  Stays c e = (e ≡ c) ⊎ Waits e

  -- how many turns a step may take of an agent that takes none while it waits
  abbrev pub turns_of : Client D → ℕ
  turns_of c = if any_pending (state c.desk).log then 0 else 1

  -- the agent can make a step, unless it waits
  abbrev pub IsReadyIfIdle : List (List ℕ) → Client D → Type 0
  IsReadyIfIdle centres c = IsReady (turns_of c) centres c

  -- what a step has done: the pending row got its reply, or else the next ask was made; a look
  -- found the row still pending; or there was nothing left to do
  abbrev pub Steps : Client D → Step → Client D → Type 0
  Steps c step.Moved e =
      Looks (state c.desk) seen.Answered (state e.desk)
      ⊎ AsksNext c.scripts (state c.desk) (state e.desk)
  Steps c step.Blocked e = Looks (state c.desk) seen.StillPending (state e.desk)
  Steps c step.Ended e = HasEnded c × (e ≡ c)

  abbrev pub left_of : Client D → ℕ
  left_of c = left (state c.desk) c.scripts

  -- how often all agents may still move
  abbrev pub left_in : List (Client D) → ℕ
  left_in clients = sum_by left_of clients

module _ {D B : Type 0} (state : D → DeskState) (bond : D → B) (is_sound : D → Type 0) where
  -- the agent is the same, and has taken at most so many turns at each centre
  pub record Went (turns : ℕ) (c e : Client D) : Type 0 where
    pub bound : bond e.desk ≡ bond c.desk
    pub agent : e.agent ≡ c.agent
    pub scripts : e.scripts ≡ c.scripts
    pub kept : Keeps (state c.desk) (state e.desk)
    pub spent : Spends turns (state c.desk) (state e.desk)
    pub sound : is_sound c.desk → is_sound e.desk
    pub left : left_of state e ≤ left_of state c

  -- the agent is the same, and has taken at most a turn at each centre, and none if it waited
  abbrev pub WentIfIdle : Client D → Client D → Type 0
  WentIfIdle c e = Went (turns_of state c) c e

  -- each agent is the same, and has taken at most so many turns at each centre
  abbrev pub AllWent : ℕ → List (Client D) → List (Client D) → Type 0
  AllWent turns cs es = AllZip (Went turns) cs es

  -- the agents moved some times in all, and each has taken at most one turn more than that
  pub record Settles (cs es : List (Client D)) : Type 0 where
    pub left : left_in state es ≤ left_in state cs
    pub went : AllWent (left_in state cs - left_in state es + 1) cs es

  -- the agents moved, and each has taken at most as many turns as all moved
  pub record Moves (cs es : List (Client D)) : Type 0 where
    pub left : left_in state es < left_in state cs
    pub went : AllWent (left_in state cs - left_in state es) cs es

-- 1 where it moved
abbrev pub moves_of : Step → ℕ
moves_of step.Moved = 1
moves_of step.Blocked = 0
moves_of step.Ended = 0
