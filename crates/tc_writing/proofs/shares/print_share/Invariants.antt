use Rattle.std.proofs.Common.{◌≡◌, take}
use Rattle.tc_writing.specs.Lines.{texts, whole}
use Rattle.tc_writing.proofs.shares.print_share.Given as goal

-- the first lines were printed
abbrev pub invariant-loop-place : goal.invariant-loop-place
invariant-loop-place l = l.text.items ≡ whole (take l.place (texts l.share))
