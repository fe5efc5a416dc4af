use Rattle.std.proofs.Common.{◌≡◌, ℕ, ◌<◌, ◌⊎◌, length, get_or, drop, All}
use Rattle.tc_unify.specs.declared.walk.Mark.TheVariants.{Unseen}
use Rattle.tc_unify.specs.WalkMarks.{IsListed}
use Rattle.tc_unify.proofs.walk.take_back.Given as goal

abbrev pub invariant-loop-node : goal.invariant-loop-node
invariant-loop-node l = record {
  listed : (k : ℕ) → (get_or l.marks.items k Unseen ≡ Unseen) ⊎ IsListed (drop l.node-index l.seen) k;
  size : length l.marks.items ≡ length l.fn.marks.items;
  within : All (λ k. k < length l.marks.items) l.seen;
}
