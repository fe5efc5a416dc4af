use Rattle.std.proofs.Common.{◌≡◌, ◌++◌, ℕ, Some, length}
use Rattle.std.specs.List.{slice_get}
use Rattle.tc_site.specs.Sites.{KitState}
use Rattle.tc_site.proofs.sharing.kits.Given as goal

-- the agents so far have their kits
abbrev pub invariant-loop-passes : goal.invariant-loop-passes
invariant-loop-passes g l = record {
  from : l.fn.columns.items ≡ l.yielded ++ l.passes-iterator.rest.items;
  many : length l.kits.items ≡ length l.yielded;
  are : (k : ℕ) (kit : KitState _) → slice_get l.kits.items k ≡ Some kit → (kit.site ≡ l.site) × (kit.agent ≡ k);
}
