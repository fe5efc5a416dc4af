use Rattle.std.proofs.Common.{◌≡◌, take}
use Rattle.std.specs.List.{fold}
use Rattle.tc_lists.specs.Codes.{mixed}
use Rattle.tc_lists.proofs.codes.mix_all.Given as goal

abbrev pub invariant-loop-byte : goal.invariant-loop-byte
invariant-loop-byte l = l.all ≡ fold mixed l.fn.code (take l.byte-index l.bytes)
