use Rattle.std.proofs.Common.{◌≡◌, ◌<◌, ℕ, Some, slice_get}
use Rattle.tc_config.specs.declared.configs.CentreConf.{CentreConf}
use Rattle.tc_rows.proofs.served_rows.centre_of.Given as goal

-- no centre so far has the name
abbrev pub invariant-loop-place : goal.invariant-loop-place
invariant-loop-place l = (k : ℕ) (s : CentreConf) → k < l.place → slice_get l.centres k ≡ Some s → s.name ≡ l.name → ⊥
