use Rattle.std.proofs.Common.{ℕ, arith, length-append, length-take}
use Rattle.tc_lists.proofs.Results.{OnErr-always}
use Rattle.tc_io.proofs.Inputs.{ReadsBytes-more, ReadsBytes-count}
use Rattle.tc_io.proofs.whole.read_all.Goals as goal

pub returns-in_err-extend_from_slice-clause-rest :
    goal.returns-in_err-extend_from_slice-clause-rest
returns-in_err-extend_from_slice-clause-rest g c =
    let before = c.loop-buffer.invariant in
    let read = ReadsBytes-more _ _ _ c.in_ok-n.n _ _ before.read c.in_ok-n.ensures.bytes in
    OnErr-always _ _ (ReadsBytes-count _ _ _ _ read (simp length-append (omega (arith, c.in_ok-n.ensures.count, length-take {A = ℕ}))))
