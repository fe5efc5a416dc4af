use Rattle.std.proofs.Common.{◌≡◌, ◌<◌, ℕ, false, Some, length, slice_get, take}
use Rattle.tc_asks.specs.Progress.{HasTakenIn}
use Rattle.tc_config.specs.declared.configs.AgentConf.{AgentConf}
use Rattle.tc_desk.specs.Logs.{any_pending}
use Rattle.tc_histline.specs.declared.lines.TextRow.{TextRow}
use Rattle.tc_rows.specs.Rows.{IsSoundRow, logged}
use Rattle.tc_rows.proofs.rows.first_faulty.Given as goal

-- the rows so far are sound, stand in the log, and only the last of all may be pending
abbrev pub invariant-loop-row : goal.invariant-loop-row
invariant-loop-row l = record {
  log : l.log.items ≡ logged (take l.row-index l.rows);
  taken : (a : AgentConf) → slice_get l.config.agents l.agent ≡ Some a
      → HasTakenIn a.scripts l.log.items l.asker;
  before : (a : AgentConf) (k : ℕ) (row : TextRow) → slice_get l.config.agents l.agent ≡ Some a
      → k < l.row-index → slice_get l.rows k ≡ Some row
      → IsSoundRow l.version l.config l.histories l.agent a l.rows k row;
  settled : l.row-index < length l.rows → any_pending l.log.items ≡ false;
}
