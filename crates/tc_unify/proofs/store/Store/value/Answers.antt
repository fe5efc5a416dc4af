use Rattle.std.proofs.Common.{◌≤◌, sym, subst}
use Rattle.tc_term.specs.Tree.{Tree}
use Rattle.tc_term.specs.TreeView.{tree_of}
use Rattle.tc_term.specs.Variables.{raised, var_bound}
use Rattle.tc_term.specs.Equations.{Equations, HasValue}
use Rattle.tc_unify.proofs.Additions.{store_solved}
use Rattle.tc_unify.proofs.StoreValues.{value_found, ground_found, small_found, no_value}
use Rattle.tc_unify.proofs.store.Store.value.Goals as goal

pub part_value-requires-clause-solved : goal.part_value-requires-clause-solved
part_value-requires-clause-solved c =
    let s = c.self.inside.state in
    store_solved s.arena s.links s.added.items c.self.invariant.0

pub tuple_of-requires-clause-ground : goal.tuple_of-requires-clause-ground
tuple_of-requires-clause-ground c =
    let s = c.self.inside.state in
    ground_found s.arena s.links s.added.items c.self.invariant.0 c.args.t.shift c.args.t.term.now
    c.whole-room.result c.part_value.new.room c.whole-room.ensures c.in_ok-found.found c.in_ok-found.ensures
    c.in-Some.term c.in-Some.is
    (subst (λ (e : Equations). var_bound (raised c.args.t.shift (tree_of c.args.t.term.now)) ≤ e.vars) (sym c.self.view_is) c.requires)

pub tuple_of-requires-clause-small : goal.tuple_of-requires-clause-small
tuple_of-requires-clause-small c =
    let s = c.self.inside.state in
    small_found s.arena s.links s.added.items c.self.invariant.0 c.args.t.shift c.args.t.term.now
    c.whole-room.result c.part_value.new.room c.whole-room.ensures c.in_ok-found.found c.in_ok-found.ensures
    c.in-Some.term c.in-Some.is

pub returns-in-Some-clause-found : goal.returns-in-Some-clause-found
returns-in-Some-clause-found c =
    let s = c.self.inside.state in
    let term = raised c.args.t.shift (tree_of c.args.t.term.now) in
    subst (HasValue c.args.self.now.vars c.args.self.now.pairs term) (sym c.tuple_of.ensures.term)
    (subst (λ (e : Equations). HasValue e.vars e.pairs term (tree_of c.in-Some.term)) c.self.view_is
    (value_found s.arena s.links s.added.items c.self.invariant.0 c.args.t.shift c.args.t.term.now
    c.whole-room.result c.part_value.new.room c.whole-room.ensures c.in_ok-found.found c.in_ok-found.ensures
    c.in-Some.term c.in-Some.is c.tuple_of.ensures.tuple))

pub returns-in-None-clause-none : goal.returns-in-None-clause-none
returns-in-None-clause-none c =
    let s = c.self.inside.state in
    let term = raised c.args.t.shift (tree_of c.args.t.term.now) in
    subst (λ (e : Equations). (t : Tree) → HasValue e.vars e.pairs term t → ⊥) c.self.view_is
    (no_value s.arena s.links s.added.items c.self.invariant.0 c.args.t.shift c.args.t.term.now
    c.whole-room.result c.part_value.new.room c.whole-room.ensures c.in_ok-found.found c.in_ok-found.ensures c.in-None.is)
