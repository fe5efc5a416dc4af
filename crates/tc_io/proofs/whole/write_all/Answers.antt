use Rattle.std.proofs.Common.{ℕ, arith, ◌∙◌, length-take, length-drop}
use Rattle.tc_io.proofs.Outputs.{appended-take}
use Rattle.tc_io.proofs.whole.write_all.Goals as goal

pub loop-at-preserved : goal.loop-at-preserved
loop-at-preserved g c =
    let before = c.loop-at.invariant in
    record {
      within = omega (arith, c.in_ok-at.ensures.count, length-take {A = ℕ}, length-drop {A = ℕ});
      taken = appended-take _ _ _ c.args.bytes.now c.loop-at.at c.in_ok-at.field-0 before.taken c.in_ok-at.ensures.bytes;
      faults = c.in_ok-at.ensures.counted.unfailed (λ failed. cc) ∙ before.faults;
      sure = c.write.ensures.stays_sure ∙ before.sure;
      other = c.write.ensures.other ∙ before.other;
    }
