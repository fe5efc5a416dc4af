-- The passes of a site by columns: each agent has one column, with a pass for each centre, in
-- order.
use Rattle.std.specs.Prelude.{◌≡◌, ℕ, suc, ◌≤◌, false, List, [], ◌∷◌, ◌++◌}
use Rattle.std.specs.Prelude.{All, length, map, Some, slice_get, Vec}
use Rattle.std.specs.Global.{Global}
use mathlib.Core.List.{IsPrefix}
use Rattle.tc_centre.specs.Centre.{Centre}
use Rattle.tc_model.specs.Calls.{calls_of}
use Rattle.tc_model.specs.State.{Origin}
use Rattle.tc_model.specs.declared.entries.Entry.{Entry}
use Rattle.tc_shared.specs.Passes.{IsAtRest}
use Rattle.tc_turn.specs.Passes as turnstile
use Rattle.tc_turn.specs.Passes.{TurnstileState, PassState, end_of}
use Rattle.tc_site.specs.Sites.{ArePasses, AreFresh, HasPasses, IsOwnPass, origins_of}

-- the passes in each column
abbrev pub columns_of : List (Vec (PassState Entry Origin) Global)
    → List (List (PassState Entry Origin))
columns_of columns = map (λ (column : Vec (PassState Entry Origin) Global). column.items) columns

-- each column got one pass more, in order
pub record AreDealt (olds : List (List (PassState Entry Origin)))
    (passes : List (PassState Entry Origin))
    (news : List (List (PassState Entry Origin))) : Type 0 where
  pub whole : length news ≡ length olds
  pub each : (agent : ℕ) (old new : List (PassState Entry Origin))
      → slice_get olds agent ≡ Some old
      → slice_get news agent ≡ Some new
      → (p : PassState Entry Origin) × (slice_get passes agent ≡ Some p)
      × (new ≡ old ++ p ∷ [])

-- each column has fresh passes of its agent
abbrev pub AreFreshColumns : List (TurnstileState Origin) → List (List (PassState Entry Origin))
    → Type 0
AreFreshColumns centres columns = (agent : ℕ) (column : List (PassState Entry Origin))
    → slice_get columns agent ≡ Some column → AreFresh agent centres column

-- shared centres that begin as these cores did, with a column of fresh passes for each of so many
-- agents
pub record AreOpened (agents : ℕ) (cores : List Centre) (centres : List (TurnstileState Origin))
    (columns : List (List (PassState Entry Origin))) : Type 0 where
  pub origins : origins_of centres ≡ map (λ (x : Centre). x.origin) cores
  pub passes : All (HasPasses agents) centres
  pub whole : length columns ≡ agents
  pub fresh : AreFreshColumns centres columns

-- each column has passes of its agent, none of which holds a turn
pub record AreColumns (centres : List (TurnstileState Origin))
    (columns : List (List (PassState Entry Origin))) : Type 0 where
  pub are : (agent : ℕ) (column : List (PassState Entry Origin))
      → slice_get columns agent ≡ Some column → ArePasses agent centres column
  pub free : (agent : ℕ) (column : List (PassState Entry Origin))
      → slice_get columns agent ≡ Some column
      → All (λ (p : PassState Entry Origin). p.holds ≡ false) column

-- the column's last pass is the agent's pass of this centre, and holds no turn
pub record HasLast (t : TurnstileState Origin) (agent : ℕ)
    (column : List (PassState Entry Origin))
    : Type 0 where
  pub front : List (PassState Entry Origin)
  pub p : PassState Entry Origin
  pub is : column ≡ front ++ p ∷ []
  pub own : IsOwnPass agent t p
  pub free : p.holds ≡ false

abbrev pub HaveLasts : TurnstileState Origin → List (List (PassState Entry Origin)) → Type 0
HaveLasts t columns = (agent : ℕ) (column : List (PassState Entry Origin))
    → slice_get columns agent ≡ Some column → HasLast t agent column

-- the column lost its last pass, the agent's of this centre, which has ended
pub record LosesLast (t : TurnstileState Origin) (agent : ℕ) (old : List (PassState Entry Origin))
    (ended : turnstile.EndedState Entry) (new : List (PassState Entry Origin)) : Type 0 where
  pub p : PassState Entry Origin
  pub is : old ≡ new ++ p ∷ []
  pub own : IsOwnPass agent t p
  pub end_is : ended ≡ end_of p

-- each column lost its last pass, and these have ended, in order
pub record AreTaken (t : TurnstileState Origin) (olds : List (List (PassState Entry Origin)))
    (row : List (turnstile.EndedState Entry)) (news : List (List (PassState Entry Origin)))
    : Type 0 where
  pub whole : length news ≡ length olds
  pub wide : length row ≡ length olds
  pub each : (agent : ℕ) (old new : List (PassState Entry Origin))
      → slice_get olds agent ≡ Some old
      → slice_get news agent ≡ Some new
      → (e : turnstile.EndedState Entry) × (slice_get row agent ≡ Some e)
      × LosesLast t agent old e new

-- the history goes on from what the agent's pass has seen, and the agent has made nothing since
pub record IsSeenBy (history : List Entry) (agent : ℕ) (p : PassState Entry Origin) : Type 0 where
  pub seen : IsPrefix p.seen history
  pub mine : calls_of agent history ≡ calls_of agent p.seen

-- what is left of a centre that was closed: it begins as the centre did, its history is at rest,
-- and nobody but the agents has made an entry
pub record IsLeftOf (t : TurnstileState Origin) (core : Centre) : Type 0 where
  pub origin_is : core.origin ≡ t.origin
  pub rest : IsAtRest core.origin core.history
  pub others : (agent : ℕ) → t.passes ≤ agent → calls_of agent core.history ≡ []

-- the centre was closed, once the last pass of each column had ended
pub record IsClosedOver (t : TurnstileState Origin) (olds : List (List (PassState Entry Origin)))
    (core : Centre) (news : List (List (PassState Entry Origin))) : Type 0 where
  pub left : IsLeftOf t core
  pub whole : length news ≡ length olds
  pub each : (agent : ℕ) (old new : List (PassState Entry Origin))
      → slice_get olds agent ≡ Some old
      → slice_get news agent ≡ Some new
      → (p : PassState Entry Origin) × (old ≡ new ++ p ∷ []) × IsSeenBy core.history agent p

-- what is left of the centre at this place, of which the columns have the passes
pub record IsClosedAt (columns : List (List (PassState Entry Origin))) (place : ℕ)
    (t : TurnstileState Origin) (core : Centre) : Type 0 where
  pub left : IsLeftOf t core
  pub each : (agent : ℕ) (column : List (PassState Entry Origin)) (p : PassState Entry Origin)
      → slice_get columns agent ≡ Some column → slice_get column place ≡ Some p
      → IsSeenBy core.history agent p

-- what is left of these centres, of which the first is at this place
abbrev pub AreClosedFrom : List (List (PassState Entry Origin)) → ℕ
    → List (TurnstileState Origin)
    → List Centre → Type 0
AreClosedFrom columns place [] [] = Unit {0}
AreClosedFrom columns place [] (core ∷ cores) = ⊥
AreClosedFrom columns place (t ∷ ts) [] = ⊥
AreClosedFrom columns place (t ∷ ts) (core ∷ cores) =
    IsClosedAt columns place t core × AreClosedFrom columns (suc place) ts cores
