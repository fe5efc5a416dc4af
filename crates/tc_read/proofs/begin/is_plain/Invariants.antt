use Rattle.std.proofs.Common.{◌≡◌, drop}
use Rattle.tc_read.specs.Views.{unquoted}
use Rattle.tc_read.proofs.begin.is_plain.Given as goal

abbrev pub invariant-loop-byte : goal.invariant-loop-byte
invariant-loop-byte l = unquoted (drop l.byte-index l.inside) ≡ drop l.byte-index l.inside → unquoted l.inside ≡ l.inside
