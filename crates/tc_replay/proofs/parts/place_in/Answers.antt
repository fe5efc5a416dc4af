use Rattle.std.proofs.Common.{length, refl, arith}
use Rattle.std.proofs.lemmas.Option.{slice_get_read}
use Rattle.tc_replay.proofs.parts.place_in.Goals as goal

pub returns-then-left-count-clause-some : goal.returns-then-left-count-clause-some
returns-then-left-count-clause-some g c =
    let parts = c.args.parts.now.items in
    record {
      part = c.index.result.now;
      stands = slice_get_read parts (length parts) c.loop-at.at c.index.result.now refl
          (omega (arith, c.loop-at-test.true, c.len-at-end.ensures)) c.index.ensures;
      inside = omega (arith, c.if-left-count.true, c.count-count.ensures);
      counted = c.loop-at.invariant;
    }
