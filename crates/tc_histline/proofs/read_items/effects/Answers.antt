use Rattle.std.proofs.Common.{◌-◌, ◌+◌, length, sym, ap, ◌∙◌, arith}
use Rattle.std.proofs.Math.Nat.{sub-eq-zero_of_le}
use Rattle.tc_lists.specs.Seen.{seen}
use Rattle.tc_histline.specs.Items.{several}
use Rattle.tc_histline.specs.Outcomes.{effect_at}
use Rattle.tc_histline.proofs.ReadItems.{all_ahead, all_ahead-end, several-last, several-more}
use Rattle.tc_histline.proofs.read_items.effects.Goals as goal

pub returns-in_default : goal.returns-in_default
returns-in_default c =
    ap (λ es. (es, c.loop.rest.now)) c.new.ensures
    ∙ several-last effect_at c.loop.effects.items (length c.args.bytes.now - c.loop.counter) c.loop.rest.now
    (ap seen (sym c.in_default.is) ∙ c.in_ok-effect.ensures)
    ∙ c.loop.invariant

pub loop-preserved : goal.loop-preserved
loop-preserved c =
    several-more effect_at c.loop.effects.items c.push.new.self.items (length c.args.bytes.now - c.loop.counter) (length c.args.bytes.now - (c.loop.counter + 1))
    c.loop.rest.now c.in-Some.effect c.in-Some.behind.now (omega (arith, c.loop-test.true))
    (ap seen (sym c.in-Some.is) ∙ c.in_ok-effect.ensures) c.in_ok-push.ensures.items
    ∙ c.loop.invariant

pub returns : goal.returns
returns c =
    ap (λ es. (es, c.loop.rest.now)) c.new-2.ensures
    ∙ all_ahead-end c.loop.effects.items c.loop.rest.now
    ∙ (ap (λ k. all_ahead c.loop.effects.items (several effect_at k c.loop.rest.now)) (sym (sub-eq-zero_of_le c.loop-test.false)) ∙ c.loop.invariant)
