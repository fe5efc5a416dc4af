-- What a text may tell of an ask, by the history of the centre that it went to.
use Rattle.std.specs.Prelude.{◌≡◌, ℕ, List, None}
use Rattle.tc_model.specs.Replies.{reply_in}
use Rattle.tc_model.specs.State.{Origin}
use Rattle.tc_model.specs.declared.asks.Ask.{Ask}
use Rattle.tc_model.specs.declared.calls.CallId.{CallId}
use Rattle.tc_model.specs.declared.calls.Op.{Op}
use Rattle.tc_model.specs.declared.entries.Entry.{Entry}
use Rattle.tc_model.specs.declared.entries.Entry.TheVariants.{Called, Gave, Looked}
use Rattle.tc_desk.specs.Served.{IsResult, IsServedAs, WasFull}
use Rattle.tc_desk.specs.declared.rows.LogResult.{LogResult}
use Rattle.tc_desk.specs.declared.rows.LogResult.TheVariants.{Pending}
use Rattle.tc_desk.specs.declared.rows.Refusal.{Refusal}
use Rattle.tc_desk.specs.declared.rows.Refusal.TheVariants.{Full}
use Rattle.tc_histline.specs.declared.versions.Version.{Version}
use Rattle.tc_rows.specs.Rows.{told, told_refusal}
use Rattle.tc_rows.specs.declared.fulls.Load.{Load}

-- it tells a result that an ask may have come to that was permitted, and where it is pending, the
-- history has no reply
pub record IsToldServed (version : Version) (origin : Origin) (history : List Entry) (id : CallId)
    (asked : Ask) (became : LogResult) : Type 0 where
  pub whole : LogResult
  pub tells : told version whole ≡ became
  pub is : IsServedAs origin history id asked whole
  pub waits : became ≡ Pending → reply_in history id ≡ None

-- the same of any ask
pub record IsToldResult (version : Version) (permits : Type 0) (origin : Origin)
    (history : List Entry) (id : CallId) (asked : Ask) (became : LogResult) : Type 0 where
  pub whole : LogResult
  pub tells : told version whole ≡ became
  pub is : IsResult permits origin history id asked whole
  pub waits : became ≡ Pending → reply_in history id ≡ None

-- the refusal tells that the centre was full, with its load where the version tells one
pub record IsToldFull (version : Version) (origin : Origin) (history : List Entry) (id : CallId)
    (why : Refusal) : Type 0 where
  pub heavy : ℕ
  pub waiting : ℕ
  pub tells : told_refusal version (Full heavy waiting) ≡ why
  pub full : WasFull origin history id heavy waiting

-- the entry is a call with this operation
abbrev pub HasOp : Op → Entry → Type 0
HasOp op (Called id other result items) = other ≡ op
HasOp op (Gave id result items) = ⊥
HasOp op (Looked id asked reply) = ⊥

-- no load is told
pub record IsUntold (load : Load) : Type 0 where
  pub weight : load.weight ≡ 0
  pub pending : load.pending ≡ 0
