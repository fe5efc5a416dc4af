use Rattle.std.proofs.Common.{◌≡◌, ◌-◌, suc, length, vec_len, Some, sym, ◌∙◌, ap, arith}
use Rattle.tc_read.specs.Frames.{counted_more}
use Rattle.tc_read.proofs.Framed.{reverse-set_last}
use Rattle.tc_read.proofs.frames.Stack.count_item.Goals as goal

pub returns-in-Some-clause-counted : goal.returns-in-Some-clause-counted
returns-in-Some-clause-counted c = λ counted.
    let frames = c.args.self.now.frames in
    let n : suc (vec_len frames - 1) ≡ length frames.items = omega (arith, c.in-Some.ensures.item.3.0, frames.ok.0) in
    let r = reverse-set_last frames.items (vec_len frames - 1) c.in-Some.frame.now c.count_in.new.frame n c.in-Some.ensures.item.1 in
    ap counted_more r.1 ∙ c.count_in.ensures.counted counted r.0 ∙ ap Some (sym r.2)
