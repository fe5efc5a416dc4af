use Rattle.std.proofs.Common.{◌≡◌, ◌<◌, ℕ, Some, slice_get}
use Rattle.tc_config.specs.declared.configs.AgentConf.{AgentConf}
use Rattle.tc_histline.specs.declared.lines.TextRow.{TextRow}
use Rattle.tc_rows.specs.Beside.{IsLastAt}
use Rattle.tc_rows.specs.ServedRows.{IsServedRow}
use Rattle.tc_rows.proofs.served_rows.first_unserved.Given as goal

-- the rows so far may stand there, and the last of them that was served is known
abbrev pub invariant-loop-place : goal.invariant-loop-place
invariant-loop-place l = record {
  last : IsLastAt l.rows l.place l.last;
  before : (a : AgentConf) (k : ℕ) (row : TextRow) → slice_get l.config.agents l.agent ≡ Some a
      → k < l.place → slice_get l.rows k ≡ Some row
      → IsServedRow l.version l.config l.histories l.agent a l.rows k row;
}
