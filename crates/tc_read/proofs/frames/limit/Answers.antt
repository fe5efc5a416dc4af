use Rattle.std.proofs.Common.{◌≡◌, ◌-◌, suc, length, reverse, Some, sym, ◌∙◌, ap, arith}
use Rattle.std.specs.List.{slice_get}
use Rattle.std.proofs.lemmas.Option.{slice_get_within}
use Rattle.tc_read.specs.Frames.{framed}
use Rattle.tc_read.specs.Machine.{limit}
use Rattle.tc_read.proofs.frames.limit.Goals as goal
use Rattle.tc_lists.proofs.Reversals.{reverse_last}

pub returns-in-Some : goal.returns-in-Some
returns-in-Some c =
    let frames = c.deref.result.now in
    let e : slice_get frames (length frames - 1) ≡ Some c.in-Some.frame.now = sym c.in-Some.ensures.value in
    let n : suc (length frames - 1) ≡ length frames = omega (arith, slice_get_within frames (length frames - 1) c.in-Some.frame.now e) in
    let r = reverse_last frames (length frames - 1) c.in-Some.frame.now n e in
    λ ks. c.frame_limit.ensures r.0 ks ∙ ap (λ fs. limit (framed fs ks)) (sym r.1 ∙ ap reverse c.deref.ensures.value)
