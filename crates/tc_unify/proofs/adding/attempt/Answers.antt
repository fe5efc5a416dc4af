use Rattle.std.proofs.Common.{◌∙◌, reverse, sym, subst}
use Rattle.tc_term.specs.TreeView.{tree_of}
use Rattle.tc_term.specs.Variables.{raised}
use Rattle.tc_unify.specs.declared.nodes.Arena.{Arena}
use Rattle.tc_unify.specs.Splits.{AreEqual, Always, Asks}
use Rattle.tc_unify.specs.Stores.{said_of, IsGrown, IsAdded}
use Rattle.tc_unify.proofs.Growing.{IsLinked-grown, past_tables}
use Rattle.tc_unify.proofs.Additions.{means_prepared, never_adds, demands_asked, IsGrown-solved}
use Rattle.tc_unify.proofs.adding.attempt.Goals as goal

pub solve-requires-clause-linked : goal.solve-requires-clause-linked
solve-requires-clause-linked c =
    let a = c.args.state.now.arena in
    let l = c.args.state.now.links in
    let old = c.requires.linked in
    let longer = c.make_room.ensures.longer in
    let past = past_tables a l old.terms old.variables in
    IsLinked-grown a c.split.new.arena l c.make_room.new.links old.arena c.split.ensures.arena c.split.ensures.grows
    old.linked old.inside past old.trail c.make_room.ensures.link longer.trail
    (c.in_ok-make_room.ensures.terms ∙ c.len.ensures ∙ c.split.new.arena.nodes.ok.0) (longer.variables ∙ old.variables)

pub returns-in_err-solved-clause-grown : goal.returns-in_err-solved-clause-grown
returns-in_err-solved-clause-grown c =
    let a = c.args.state.now.arena in
    let l = c.args.state.now.links in
    let new = c.solve.new.state.links in
    let longer = c.make_room.ensures.longer in
    subst (λ (b : Arena). IsGrown a l b new) (sym c.solve.ensures.arena)
    (IsGrown-solved a c.split.new.arena l c.make_room.new.links new c.split.ensures.grows c.make_room.ensures.link
    longer.trail longer.terms longer.variables c.solve.ensures.extends c.solve.ensures.linked)

pub returns-clause-grown : goal.returns-clause-grown
returns-clause-grown c =
    let a = c.args.state.now.arena in
    let l = c.args.state.now.links in
    let new = c.solve.new.state.links in
    let longer = c.make_room.ensures.longer in
    subst (λ (b : Arena). IsGrown a l b new) (sym c.solve.ensures.arena)
    (IsGrown-solved a c.split.new.arena l c.make_room.new.links new c.split.ensures.grows c.make_room.ensures.link
    longer.trail longer.terms longer.variables c.solve.ensures.extends c.solve.ensures.linked)

pub returns-clause-added : goal.returns-clause-added
returns-clause-added c = λ added before store.
    let a = c.args.state.now.arena in
    let b = c.split.new.arena in
    let s = raised c.args.s.shift (tree_of c.args.s.term.now) in
    let t = raised c.args.t.shift (tree_of c.args.t.term.now) in
    let pairs = c.split.new.waiting.items in
    let asks = subst (λ ws. Asks a ws (AreEqual s t) b pairs Always) c.clear.ensures.items (c.in_ok-split.ensures.asks c.if-not-branch.false) in
    let means = means_prepared a c.args.state.now.links before store b c.split.ensures.arena c.split.ensures.grows
    c.make_room.new.links c.make_room.ensures.link in
    subst (λ (x : Arena). IsAdded x c.solve.new.state.links before s t) (sym c.solve.ensures.arena) (record {
      linked = c.solve.ensures.linked;
      means = c.in_ok-solved.ensures.solved added (said_of (reverse before)) s t means (demands_asked a b s t pairs asks);
    })

pub returns-clause-never : goal.returns-clause-never
returns-clause-never c = λ never before store.
    let a = c.args.state.now.arena in
    let l = c.args.state.now.links in
    let b = c.split.new.arena in
    let s = raised c.args.s.shift (tree_of c.args.s.term.now) in
    let t = raised c.args.t.shift (tree_of c.args.t.term.now) in
    let pairs = c.split.new.waiting.items in
    let asks = subst (λ ws. Asks a ws (AreEqual s t) b pairs Always) c.clear.ensures.items (c.in_ok-split.ensures.asks c.if-not-branch.false) in
    let means = means_prepared a l before store b c.split.ensures.arena c.split.ensures.grows
    c.make_room.new.links c.make_room.ensures.link in
    never_adds a l before store b c.split.ensures.arena c.split.ensures.grows c.make_room.new.links c.make_room.ensures.link
    pairs s t (demands_asked a b s t pairs asks)
    (c.in_ok-solved.ensures.never never (said_of (reverse before)) means)
