use Rattle.std.proofs.Common.{◌≡◌, false}
use Rattle.tc_desk.specs.Logs.{any_pending}
use Rattle.tc_asks.specs.Progress.{HasTakenIn}
use Rattle.crate_tests.proofs.asking.asks_after.Given as goal

abbrev pub invariant-loop-one : goal.invariant-loop-one
invariant-loop-one l = record {
  taken : HasTakenIn l.scripts l.log.items l.asker;
  settled : any_pending l.log.items ≡ false;
}
