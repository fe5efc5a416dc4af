use Rattle.tc_unify.proofs.Additions.{store_solvable}
use Rattle.tc_unify.proofs.store.Store.add.Goals as goal

pub returns-clause-solvable : goal.returns-clause-solvable
returns-clause-solvable g c =
    let new = c.add_to.new.state in
    store_solvable new.arena new.links new.added.items c.add_to.ensures.store
