use Rattle.std.proofs.Common.{◌≡◌, ℕ, List, Some, length, slice_get}
use Rattle.tc_config.specs.Good.{origin_of}
use Rattle.tc_config.specs.declared.configs.CentreConf.{CentreConf}
use Rattle.tc_model.specs.declared.entries.Entry.{Entry}
use Rattle.tc_rows.specs.Index.{IsIndexed}
use Rattle.tc_rows.specs.declared.index.CentreIndex.{CentreIndex}
use Rattle.tc_rows.proofs.index.Index.of.Given as goal

-- the histories so far have their indexes
abbrev pub invariant-loop-place : goal.invariant-loop-place
invariant-loop-place l = record {
  many : length l.indexes.items ≡ l.place;
  each : (k : ℕ) (centre : CentreConf) (history : List Entry) (indexed : CentreIndex)
      → slice_get l.config.centres k ≡ Some centre → slice_get l.histories k ≡ Some history
      → slice_get l.indexes.items k ≡ Some indexed
      → IsIndexed (origin_of l.config centre) history indexed;
}
