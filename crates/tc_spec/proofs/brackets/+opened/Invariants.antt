use Rattle.std.proofs.Common.{◌≡◌, take}
use Rattle.tc_spec.proofs.Opened.{opened_in}
use Rattle.tc_spec.proofs.brackets.+opened.Given as goal

-- the most of the arguments so far
abbrev pub invariant-opened_in_all-loop-arg : goal.invariant-opened_in_all-loop-arg
invariant-opened_in_all-loop-arg l = l.most ≡ opened_in (take l.arg-index l.arg-items)
