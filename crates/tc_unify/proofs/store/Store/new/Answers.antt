use Rattle.std.proofs.Common.{refl}
use Rattle.tc_unify.proofs.Variables.{store_new, unmarked_new}
use Rattle.tc_unify.proofs.store.Store.new.Goals as goal

pub invariant_of-store : goal.invariant_of-store
invariant_of-store c = (
  store_new _ _ _ c.new.ensures.items c.new-2.ensures.items refl
      c.new-3.ensures.items c.in_ok-with_capacity.ensures.items c.in_ok-with_capacity-2.ensures.items c.in_ok-with_capacity-3.ensures.items,
  unmarked_new _ c.new-4.ensures.items c.new-5.ensures.items c.new-6.ensures.items,
)
