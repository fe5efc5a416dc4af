use Rattle.std.proofs.Common.{◌≡◌, ◌++◌, drop}
use Rattle.tc_read.specs.Views.{unquoted, unquoted_from}
use Rattle.tc_read.proofs.begin.unquoted.Given as goal

abbrev pub invariant-loop-byte : goal.invariant-loop-byte
invariant-loop-byte l = l.bytes.items ++ unquoted_from l.paired (drop l.byte-index l.inside) ≡ unquoted l.inside
