use Rattle.std.proofs.Common.{◌≢◌}
use Rattle.tc_lists.proofs.Pairs.{AllPairs-before, AllPairs-take_read, AllPairs-from_take}
use Rattle.tc_model.proofs.origins.all_differ.Goals as goal

pub returns-then-not-is_new-clause-no : goal.returns-then-not-is_new-clause-no
returns-then-not-is_new-clause-no c told pairs =
    c.is_new.ensures.no c.if-not-is_new.true
    (AllPairs-before ◌≢◌ c.args.names.now c.loop-place.place c.index-names-place.result c.loop-place-test.true
    c.index-names-place.is pairs)

pub loop-place-preserved : goal.loop-place-preserved
loop-place-preserved c =
    AllPairs-take_read ◌≢◌ c.args.names.now c.loop-place.place c.index-names-place.result c.loop-place-test.true
    c.index-names-place.is c.loop-place.invariant (c.is_new.ensures.yes c.if-not-is_new.false)

pub returns-clause-yes : goal.returns-clause-yes
returns-clause-yes c told =
    AllPairs-from_take ◌≢◌ c.args.names.now c.loop-place.place c.loop-place-test.false c.loop-place.invariant
