use Rattle.std.proofs.Common.{rules}
use Rattle.tc_turn.proofs.PassLists.{IsMaker-same, new_passes-more}
use Rattle.tc_turn.proofs.turnstile.Turnstile.new.Goals as goal

pub loop-number-preserved : goal.loop-number-preserved
loop-number-preserved g c =
    let before = c.loop-number.invariant in
    let made = c.make_pass-pass.ensures in
    record {
      table = search rules;
      maker = IsMaker-same _ _ _ _ _ _ _ before.origin before.passes made.left;
      made = new_passes-more _ _ _ _ _ _ _ _ before.origin before.made made.pass c.push_reserved-in-loop-number.ensures.items;
      long = search rules;
      room = search rules;
      passes = before.passes;
      origin = before.origin;
    }
