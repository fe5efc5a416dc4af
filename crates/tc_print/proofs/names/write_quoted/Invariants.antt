use Rattle.std.proofs.Common.{◌≡◌, ◌++◌, codes, take}
use Rattle.std.specs.List.{flat_map}
use Rattle.tc_term.specs.Text.{quoted_byte}
use Rattle.tc_print.proofs.names.write_quoted.Given as goal

-- the opening quote and the bytes so far are written
abbrev pub invariant-loop-byte : goal.invariant-loop-byte
invariant-loop-byte l = l.into.items ≡ (l.fn.into.items ++ codes "'") ++ flat_map quoted_byte (take l.byte-index l.bytes)
