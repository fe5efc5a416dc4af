use Rattle.std.proofs.Common.{◌≡◌, ◌<◌, ◌≤◌, List, length, refl, sym, subst, arith, Some, slice_get}
use Rattle.std.proofs.lemmas.Option.{slice_get_read}
use Rattle.tc_lists.proofs.Options.{IfNone-at, IfSome-at}
use Rattle.tc_lists.proofs.Sets.{slice_get_inside}
use Rattle.tc_model.specs.declared.entries.Entry.{Entry}
use Rattle.tc_verify.specs.Verdicts.{AreRowsOf, IsFirstAtFault}
use Rattle.tc_verify.proofs.OneFaulty.{sound-all, sound-more, sound-start}
use Rattle.tc_verify.proofs.agents.first_agent_of.Goals as goal

pub loop-agent-init : goal.loop-agent-init
loop-agent-init c = sound-start c.args.question c.args.config.now c.args.told.now

pub returns-in-Some-clause-faulty : goal.returns-in-Some-clause-faulty
returns-in-Some-clause-faulty c =
    let t = c.args.told.now in
    let agent = c.loop-agent.agent in
    let rows = c.items-rows.result.now in
    let inside : agent < length t.logs = subst (λ l. agent < length l) c.items-logs.ensures c.loop-agent-test.true in
    let known = slice_get_inside c.args.config.now.agents agent (omega (arith, inside, c.requires.whole)) in
    let first = IfSome-at (IsFirstAtFault c.args.question t.version c.args.config.now c.items-histories.result.now agent known.0 rows) c.in_ok-number.field-0 c.in-Some.number c.in-Some.is
    (c.in_ok-number.ensures.faulty known.0 known.1) in
    record {
      before = c.loop-agent.invariant;
      a = known.0;
      known = known.1;
      rows = rows;
      there = subst (λ l. slice_get l agent ≡ Some rows) c.items-logs.ensures
          (subst (λ r. slice_get c.items-logs.result.now agent ≡ Some r) (sym c.items-rows.ensures)
          (slice_get_read c.items-logs.result.now (length c.items-logs.result.now) agent c.index-logs-agent.result refl c.loop-agent-test.true c.index-logs-agent.is));
      first = subst (λ (hs : List (List Entry)). IsFirstAtFault c.args.question t.version c.args.config.now hs agent known.0 rows c.in-Some.number) c.items-histories.ensures first;
    }

pub loop-agent-preserved : goal.loop-agent-preserved
loop-agent-preserved c =
    let t = c.args.told.now in
    let agent = c.loop-agent.agent in
    let rows = c.items-rows.result.now in
    let inside : agent < length t.logs = subst (λ l. agent < length l) c.items-logs.ensures c.loop-agent-test.true in
    let known = slice_get_inside c.args.config.now.agents agent (omega (arith, inside, c.requires.whole)) in
    let sound = IfNone-at (AreRowsOf c.args.question t.version c.args.config.now c.items-histories.result.now agent known.0 rows) c.in_ok-number.field-0 c.in_default.is
    (c.in_ok-number.ensures.sound known.0 known.1) in
    let there = subst (λ l. slice_get l agent ≡ Some rows) c.items-logs.ensures
    (subst (λ r. slice_get c.items-logs.result.now agent ≡ Some r) (sym c.items-rows.ensures)
    (slice_get_read c.items-logs.result.now (length c.items-logs.result.now) agent c.index-logs-agent.result refl c.loop-agent-test.true c.index-logs-agent.is)) in
    sound-more c.args.question c.args.config.now t agent known.0 rows known.1 there
    (subst (λ (hs : List (List Entry)). AreRowsOf c.args.question t.version c.args.config.now hs agent known.0 rows) c.items-histories.ensures sound)
    c.loop-agent.invariant

pub returns-clause-sound : goal.returns-clause-sound
returns-clause-sound c =
    sound-all c.args.question c.args.config.now c.args.told.now c.loop-agent.agent
    (subst (λ l. length l ≤ c.loop-agent.agent) c.items-logs.ensures (omega (arith, c.loop-agent-test.false))) c.loop-agent.invariant
