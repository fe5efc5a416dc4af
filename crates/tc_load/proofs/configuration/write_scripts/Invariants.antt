use Rattle.std.proofs.Common.{◌≡◌, ◌++◌, take}
use Rattle.std.specs.List.{flat_map}
use Rattle.tc_load.specs.Workload.{script_text}
use Rattle.tc_load.proofs.configuration.write_scripts.Given as goal

-- the scripts so far are written
abbrev pub invariant-loop-word : goal.invariant-loop-word
invariant-loop-word l = l.into.items ≡ l.fn.into.items ++ flat_map (script_text l.agent) (take l.word-index l.words)
