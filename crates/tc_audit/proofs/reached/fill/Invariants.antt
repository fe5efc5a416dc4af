use Rattle.std.proofs.Common.{◌≡◌, [], take}
use Rattle.tc_bag.specs.Stock.{tuples_of}
use Rattle.tc_audit.proofs.reached.fill.Given as goal

-- the tuples so far are in the bag
abbrev pub invariant-loop-tuple : goal.invariant-loop-tuple
invariant-loop-tuple l = record {
  tuples : tuples_of l.bag.now ≡ take l.tuple-index l.tuples;
  next : l.bag.next ≡ l.tuple-index;
  unmarked : l.bag.saved ≡ [];
}
