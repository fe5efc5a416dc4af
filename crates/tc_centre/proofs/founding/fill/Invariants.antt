use Rattle.std.proofs.Common.{◌≡◌, [], length}
use Rattle.tc_bag.specs.Stock.{tuples_of}
use Rattle.tc_centre.proofs.founding.fill.Given as goal

abbrev pub invariant-loop-tuple : goal.invariant-loop-tuple
invariant-loop-tuple l = record {
  tuples : tuples_of l.bag.now ≡ l.yielded;
  next : l.bag.next ≡ length l.yielded;
  unmarked : l.bag.saved ≡ [];
}
