-- A row beside the item whose ask is known.
use Rattle.std.specs.Prelude.{◌≡◌, ◌≢◌, ◌+◌, ◌<◌, ◌⊎◌, ℕ, Bool, true, false, List, Contains, Some}
use Rattle.std.specs.Prelude.{length, slice_get}
use Rattle.tc_asks.specs.declared.next.Next.{Next}
use Rattle.tc_config.specs.Configurations.{Configuration}
use Rattle.tc_config.specs.Good.{Permits, origin_of}
use Rattle.tc_config.specs.declared.configs.AgentConf.{AgentConf}
use Rattle.tc_config.specs.declared.configs.CentreConf.{CentreConf}
use Rattle.tc_desk.specs.Logs.{is_served}
use Rattle.tc_desk.specs.declared.rows.LogResult.TheVariants.{Pending}
use Rattle.tc_histline.specs.declared.lines.TextRow.{TextRow}
use Rattle.tc_histline.specs.declared.versions.Version.{Version}
use Rattle.tc_model.specs.Asks.{primitive_of}
use Rattle.tc_model.specs.Calls.{call_of, calls_of, id_of}
use Rattle.tc_model.specs.declared.entries.Entry.{Entry}
use Rattle.tc_rows.specs.Made.{AreAllMade, HasNoEntry, lists_of}
use Rattle.tc_rows.specs.Told.{IsToldResult}
use Rattle.tc_rows.specs.declared.index.CentreIndex.{CentreIndex}
use Rattle.tc_rows.specs.declared.index.Index.{Index}
use Rattle.tc_rows.specs.declared.made.Made.{Made}

-- the centre at the place has this name
pub record HasName (c : Configuration) (place : ℕ) (name : List ℕ) : Type 0 where
  pub centre : CentreConf
  pub known : slice_get c.centres place ≡ Some centre
  pub named : name ≡ centre.name

-- no history has an entry of the agent's with this number, but for the one at the place where the
-- ask was served
abbrev pub IsAlone : List (List Entry) → ℕ → ℕ → Bool → ℕ → Type 0
IsAlone histories agent number served centre =
    (place : ℕ) (history : List Entry) → slice_get histories place ≡ Some history
    → (served ≡ false) ⊎ (place ≢ centre) → HasNoEntry agent number history

-- what the row tells of the ask, by the history of its centre
pub record IsToldThere (version : Version) (c : Configuration) (histories : List (List Entry))
    (agent : ℕ) (a : AgentConf) (next : Next) (row : TextRow) : Type 0 where
  pub centre : CentreConf
  pub known : slice_get c.centres next.centre ≡ Some centre
  pub history : List Entry
  pub there : slice_get histories next.centre ≡ Some history
  pub told : IsToldResult version (Permits c a.role next.centre (primitive_of next.ask))
      (origin_of c centre) history (call_of agent row.number) next.ask row.result

-- the row has the number of place k and the name of its centre, is pending only as the last, and no
-- other history has an entry of its number
pub record IsPlaced (c : Configuration) (histories : List (List Entry)) (agent centre k : ℕ)
    (is_last : Bool) (row : TextRow) : Type 0 where
  pub number : row.number ≡ k + 1
  pub named : HasName c centre row.centre
  pub last : row.result ≡ Pending → is_last ≡ true
  pub alone : IsAlone histories agent row.number (is_served row.result) centre

-- the row at place k is sound of an agent that asks this there
pub record IsSoundAt (version : Version) (c : Configuration) (histories : List (List Entry))
    (agent : ℕ) (a : AgentConf) (next : Next) (k : ℕ) (is_last : Bool) (row : TextRow) : Type 0 where
  pub placed : IsPlaced c histories agent next.centre k is_last row
  pub told : IsToldThere version c histories agent a next row

-- the index has what agents made in each history
pub record HasMade (histories : List (List Entry)) (index : Index) : Type 0 where
  pub whole : length index.centres.items ≡ length histories
  pub each : (place : ℕ) (history : List Entry) (indexed : CentreIndex)
      → slice_get histories place ≡ Some history
      → slice_get index.centres.items place ≡ Some indexed
      → AreAllMade (lists_of indexed.makers.items) history

-- an entry is numbered 0, or beyond so many rows
pub record HasStrayMade (made : List Made) (rows : ℕ) : Type 0 where
  pub one : Made
  pub stands : Contains made one
  pub stray : (one.number ≡ 0) ⊎ (rows < one.number)

-- an entry of the agent's in the history is
pub record HasStrayIn (history : List Entry) (agent rows : ℕ) : Type 0 where
  pub entry : Entry
  pub made : Contains (calls_of agent history) entry
  pub stray : ((id_of entry).number ≡ 0) ⊎ (rows < (id_of entry).number)

-- one in some history is
pub record HasStray (histories : List (List Entry)) (agent rows : ℕ) : Type 0 where
  pub history : List Entry
  pub stands : Contains histories history
  pub has : HasStrayIn history agent rows
