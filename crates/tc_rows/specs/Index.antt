-- What the histories tell of each agent's rows.
use Rattle.std.specs.Prelude.{◌≡◌, ℕ, List, Some, length, slice_get}
use Rattle.tc_calls.specs.Places.{ArePlaces}
use Rattle.tc_calls.specs.Places as replies
use Rattle.tc_config.specs.Configurations.{Configuration}
use Rattle.tc_config.specs.Good.{origin_of}
use Rattle.tc_config.specs.declared.configs.CentreConf.{CentreConf}
use Rattle.tc_model.specs.State.{Origin}
use Rattle.tc_model.specs.declared.entries.Entry.{Entry}
use Rattle.tc_rows.specs.Fulls.{ArePoints}
use Rattle.tc_rows.specs.Made.{AreAllMade, lists_of}
use Rattle.tc_rows.specs.declared.index.CentreIndex.{CentreIndex}
use Rattle.tc_rows.specs.declared.index.Index.{Index}

-- it has the replies of the history, what each agent made in it, and where its centre was full
pub record IsIndexed (origin : Origin) (history : List Entry) (index : CentreIndex) : Type 0 where
  pub replies : ArePlaces (replies.lists_of index.replies.items) history
  pub makers : AreAllMade (lists_of index.makers.items) history
  pub points : ArePoints origin history index.points.items

-- the same, from some beginning
abbrev pub IsSomeIndex : List Entry → CentreIndex → Type 0
IsSomeIndex history index = (origin : Origin) × IsIndexed origin history index

-- it has that of each history
pub record IsIndexOf (c : Configuration) (histories : List (List Entry)) (index : Index)
    : Type 0 where
  pub whole : length index.centres.items ≡ length c.centres
  pub each : (place : ℕ) (centre : CentreConf) (history : List Entry) (indexed : CentreIndex)
      → slice_get c.centres place ≡ Some centre → slice_get histories place ≡ Some history
      → slice_get index.centres.items place ≡ Some indexed
      → IsIndexed (origin_of c centre) history indexed
