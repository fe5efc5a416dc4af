use Rattle.std.proofs.Common.{◌≡◌, ◌≢◌, ◌≤◌, ◌-◌, ℕ, length}
use Rattle.tc_asks.specs.Places.{IsPlaced}
use Rattle.tc_asks.proofs.places.next_place.Given as goal

-- as many items stand before the place that was reached, which is the first one or begins a script
abbrev pub invariant-loop-at : goal.invariant-loop-at
invariant-loop-at l = record {
  placed : (rows : ℕ) → IsPlaced l.scripts l.fn.place.script l.fn.place.item rows → IsPlaced l.scripts l.at.script l.at.item rows;
  same : l.at.script ≡ l.fn.place.script → l.at.item ≡ l.fn.place.item;
  first : l.at.script ≢ l.fn.place.script → l.at.item ≡ 0;
  onward : l.fn.place.script ≤ l.at.script;
}

abbrev pub decreases-loop-at : goal.decreases-loop-at
decreases-loop-at l = length l.scripts - l.at.script
