-- What is known of a row before its history is looked at, and of an entry that is a look.
use Rattle.std.specs.Prelude.{◌≡◌, ℕ, List, Option, Some, None, slice_get}
use Rattle.tc_config.specs.declared.configs.CentreConf.{CentreConf}
use Rattle.tc_desk.specs.Agreeing.{IsLastServed}
use Rattle.tc_desk.specs.declared.rows.LogRow.{LogRow}
use Rattle.tc_histline.specs.declared.lines.TextRow.{TextRow}
use Rattle.tc_model.specs.declared.asks.Primitive.{Primitive}
use Rattle.tc_model.specs.declared.entries.Entry.{Entry}
use Rattle.tc_model.specs.declared.entries.Entry.TheVariants.{Called, Gave, Looked}
use Rattle.tc_model.specs.declared.outcomes.Reply.{Reply}
use Rattle.tc_rows.specs.Rows.{logged}
use Rattle.tc_rows.specs.ServedRows.{op_primitive}

-- the centre at this place has the name
pub record IsCentreOf (centres : List CentreConf) (name : List ℕ) (place : ℕ) : Type 0 where
  pub centre : CentreConf
  pub known : slice_get centres place ≡ Some centre
  pub named : centre.name ≡ name

-- the row at this place is the last one before place k that was served; without one none was
abbrev pub IsLastAt : List TextRow → ℕ → Option ℕ → Type 0
IsLastAt rows k None = (row : LogRow) → IsLastServed (logged rows) k row → ⊥
IsLastAt rows k (Some place) =
    (row : LogRow) × (slice_get (logged rows) place ≡ Some row) × IsLastServed (logged rows) k row

-- the entry is a look at the call of this number, and tells this
abbrev pub IsLookOf : ℕ → Option Reply → Entry → Type 0
IsLookOf number told (Called id op result items) = ⊥
IsLookOf number told (Gave id result items) = ⊥
IsLookOf number told (Looked id asked reply) = (asked ≡ number) × (reply ≡ told)

-- the entry is a call with an operation that is permitted
abbrev pub IsPermittedEntry : (Primitive → Type 0) → Entry → Type 0
IsPermittedEntry permits (Called id op result items) = permits (op_primitive op)
IsPermittedEntry permits (Gave id result items) = ⊥
IsPermittedEntry permits (Looked id asked reply) = ⊥
