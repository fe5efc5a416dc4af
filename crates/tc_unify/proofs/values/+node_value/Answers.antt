use Rattle.std.proofs.Common.{◌≤◌, ◌≡◌, ◌∙◌, sym, ap, [], subst, arith, length, reverse, refl, rules, to_z, of_z, w64}
use Rattle.std.specs.Prelude.{Some}
use Rattle.std.proofs.lemmas.List.Elements.{All-pop}
use Rattle.tc_lists.proofs.Options.{IfSome-at, IfNone-at}
use Rattle.tc_term.specs.Tree.{Number}
use Rattle.tc_term.specs.Equations.{at}
use Rattle.tc_term.specs.declared.terms.Term.TheVariants.{Int}
use Rattle.tc_unify.specs.Nodes.{AtomNode, label}
use Rattle.tc_unify.specs.Arena.{IsNodeOf, shape_of}
use Rattle.tc_unify.specs.Values.{IsFixed, of_node}
use Rattle.tc_unify.proofs.Meetings.{root_term, root_node}
use Rattle.tc_unify.proofs.Spines.{term_inside, head_read, head_outer, named_spine}
use Rattle.tc_unify.proofs.Fixed.{IsSpent-head, spent_next, builds_next, none_next, number_fixed, free_value, full_value, leaf_value, none_value, name_least, spine_builds}
use Rattle.tc_unify.proofs.values.+node_value.Goals.{then-end-lt-FIRST_NAME+in_default, else-end-lt-FIRST_NAME}
use Rattle.tc_unify.proofs.values.+node_value.Goals as goal
use Rattle.tc_lists.proofs.Reversals.{reverse_push}

pub returns-then-end-ge-FIRST_VARIABLE : goal.returns-then-end-ge-FIRST_VARIABLE
returns-then-end-ge-FIRST_VARIABLE t c =
    free_value c.args.arena.now c.args.links.now c.requires.solved c.args.node c.end-end.result c.requires.node c.end-end.ensures c.if-end-ge-FIRST_VARIABLE.true c.args.depth c.args.room.now

pub index-requires : goal.index-requires
index-requires t c =
    let below = root_term c.args.arena.now c.args.links.now c.requires.solved.linked c.args.node c.end-end.result c.requires.node c.end-end.ensures c.if-end-lt-FIRST_NAME.true in
    omega arith

pub returns-then-not-take : goal.returns-then-not-take
returns-then-not-take t c =
    full_value c.args.arena.now c.args.links.now c.requires.solved (of_node c.args.arena.now c.args.node) c.args.depth c.args.room.now c.take.new.self 0 (λ u fixed. omega arith) (c.take.ensures.full c.if-not-take.true)

pub returns-in-Int : goal.returns-in-Int
returns-in-Int t c =
    let a = c.args.arena.now in
    let l = c.args.links.now in
    let below = root_term a l c.requires.solved.linked c.args.node c.end-end.result c.requires.node c.end-end.ensures c.if-end-lt-FIRST_NAME.true in
    let same : to_z w64 (of_z w64 c.in-Int.n) ≡ c.in-Int.n = search rules in
    leaf_value a l c.requires.solved (of_node a c.args.node) (Int (to_z w64 (of_z w64 c.in-Int.n))) c.args.depth c.args.room.now c.take.new.self 0
    (subst (λ n. IsFixed a l (of_node a c.args.node) (Number n)) (sym same) (number_fixed a l c.requires.solved c.args.node c.end-end.result c.index.result.now c.in-Int.n c.end-end.ensures below c.index.ensures c.in-Int.is))
    refl refl refl (c.take.ensures.depth c.if-not-take.false) (c.take.ensures.nodes c.if-not-take.false) (c.take.ensures.bytes c.if-not-take.false)

pub spine-requires : goal.spine-requires
spine-requires t c =
    let a = c.args.arena.now in
    let l = c.args.links.now in
    let inside = subst (IsNodeOf a) (sym c.end-end.ensures) (root_node a l c.requires.solved.linked c.args.node c.requires.node) in
    record {
      arena = c.requires.solved.linked.arena;
      node = inside;
      head =
          elim c.if-end-lt-FIRST_NAME.branch [
            | then-end-lt-FIRST_NAME+in_default w ↦
                head_read a c.end-end.result w.index.result.now c.requires.solved.linked.arena (term_inside a c.end-end.result inside w.if-end-lt-FIRST_NAME.true) w.index.ensures w.in_default.not-Int
            | else-end-lt-FIRST_NAME w ↦ head_outer a c.end-end.result w.if-end-lt-FIRST_NAME.false c.if-end-ge-FIRST_VARIABLE.false
          ];
    }

pub returns-in_default-2 : goal.returns-in_default-2
returns-in_default-2 t c =
    let a = c.args.arena.now in
    let l = c.args.links.now in
    let spine = c.in_ok-spine.ensures in
    let long = IfNone-at _ c.in_ok-name.field-0 c.in_default-2.is c.in_ok-name.ensures.longer in
    let name = long.0 in
    full_value a l c.requires.solved (of_node a c.args.node) c.args.depth c.args.room.now c.args.room.now (length name)
    (name_least a l c.requires.solved (λ v. label (shape_of a) (at v)) (of_node a c.args.node) name (reverse c.in_ok-spine.spine.arguments.items) (length name) refl
    (spine_builds a l c.requires.solved c.args.node c.end-end.result name [] c.in_ok-spine.spine.arguments.items name c.end-end.ensures refl refl
    (λ v. named_spine a v (label (shape_of a) v c.end-end.result) c.in_ok-spine.spine.atom name (reverse c.in_ok-spine.spine.arguments.items) c.requires.solved.linked.arena long.1 (spine.tree v))))
    (λ one two three. omega (arith, long.2, three))

pub returns-then-not-take-2 : goal.returns-then-not-take-2
returns-then-not-take-2 t c =
    let a = c.args.arena.now in
    let l = c.args.links.now in
    let spine = c.in_ok-spine.ensures in
    let name = c.in-Some.name in
    let shape : shape_of a c.in_ok-spine.spine.atom ≡ AtomNode name = IfSome-at _ c.in_ok-name.field-0 c.in-Some.name c.in-Some.is c.in_ok-name.ensures.name in
    full_value a l c.requires.solved (of_node a c.args.node) c.args.depth c.args.room.now c.take-2.new.self (length name)
    (name_least a l c.requires.solved (λ v. label (shape_of a) (at v)) (of_node a c.args.node) name (reverse c.in_ok-spine.spine.arguments.items) (length name) refl
    (spine_builds a l c.requires.solved c.args.node c.end-end.result name [] c.in_ok-spine.spine.arguments.items name c.end-end.ensures refl refl
    (λ v. named_spine a v (label (shape_of a) v c.end-end.result) c.in_ok-spine.spine.atom name (reverse c.in_ok-spine.spine.arguments.items) c.requires.solved.linked.arena shape (spine.tree v))))
    (λ one two three. c.take-2.ensures.full c.if-not-take-2.true one two (subst (λ bytes. length bytes ≤ c.args.room.now.name_bytes) (sym c.bytes.ensures) three))

pub loop-argument-init : goal.loop-argument-init
loop-argument-init t c =
    let a = c.args.arena.now in
    let l = c.args.links.now in
    let spine = c.in_ok-spine.ensures in
    let name = c.in-Some.name in
    let shape : shape_of a c.in_ok-spine.spine.atom ≡ AtomNode name = IfSome-at _ c.in_ok-name.field-0 c.in-Some.name c.in-Some.is c.in_ok-name.ensures.name in
    record {
      deep = c.take-2.ensures.depth c.if-not-take-2.false;
      arguments = spine.arguments;
      spent = IsSpent-head a l c.requires.solved name c.new-values.result.items c.args.depth c.args.room.now c.take-2.new.self (length c.bytes.result.now) c.new-values.ensures.items
          (ap length c.bytes.ensures)
          (c.take-2.ensures.depth c.if-not-take-2.false) (c.take-2.ensures.nodes c.if-not-take-2.false) (c.take-2.ensures.bytes c.if-not-take-2.false);
      value = spine_builds a l c.requires.solved c.args.node c.end-end.result name c.new-values.result.items c.in_ok-spine.spine.arguments.items name c.end-end.ensures refl c.new-values.ensures.items
          (λ v. named_spine a v (label (shape_of a) v c.end-end.result) c.in_ok-spine.spine.atom name (reverse c.in_ok-spine.spine.arguments.items) c.requires.solved.linked.arena shape (spine.tree v));
    }

pub node_value-requires : goal.node_value-requires
node_value-requires t c =
    let deep = c.loop-argument.invariant.deep in
    let falls = c.decreases in (
      omega arith,
      (
        c.requires.solved,
        (All-pop (IsNodeOf c.args.arena.now) c.loop-argument.spine.arguments.items c.pop.new.self.items (Some c.in-Some-pop.argument) c.in-Some-pop.ensures.items c.loop-argument.invariant.arguments).1,
      ),
    )

pub loop-argument-preserved : goal.loop-argument-preserved
loop-argument-preserved t c =
    let a = c.args.arena.now in
    let l = c.args.links.now in
    let inv = c.loop-argument.invariant in
    let rest = c.pop.new.self.items in
    let next = ap reverse c.in-Some-pop.ensures.items ∙ reverse_push rest c.in-Some-pop.argument in
    record {
      deep = inv.deep;
      arguments = (All-pop (IsNodeOf a) c.loop-argument.spine.arguments.items rest (Some c.in-Some-pop.argument) c.in-Some-pop.ensures.items inv.arguments).0;
      spent = spent_next a l c.requires.solved (λ v. label (shape_of a) (at v)) (of_node a c.args.node) c.in-Some.name c.loop-argument.values.items c.in-Some-pop.argument (reverse c.loop-argument.spine.arguments.items) (reverse rest) c.args.depth c.args.room.now c.loop-argument.room
          next inv.deep inv.spent inv.value c.in_ok-value.field-0 c.node_value.new.room c.in-Some-2.value c.push.new.self.items c.in-Some-2.is c.in_ok-value.ensures c.in_ok-push-in-Some-2.ensures.items;
      value = builds_next a l c.requires.solved (λ v. label (shape_of a) (at v)) (of_node a c.args.node) c.in-Some.name c.loop-argument.values.items c.in-Some-pop.argument (reverse c.loop-argument.spine.arguments.items) (reverse rest) c.args.depth c.args.room.now c.loop-argument.room
          next inv.deep inv.spent inv.value c.in_ok-value.field-0 c.node_value.new.room c.in-Some-2.value c.push.new.self.items c.in-Some-2.is c.in_ok-value.ensures c.in_ok-push-in-Some-2.ensures.items;
    }

pub returns-in-None : goal.returns-in-None
returns-in-None t c =
    let a = c.args.arena.now in
    let l = c.args.links.now in
    let inv = c.loop-argument.invariant in
    let rest = c.pop.new.self.items in
    let next = ap reverse c.in-Some-pop.ensures.items ∙ reverse_push rest c.in-Some-pop.argument in
    none_value a l c.requires.solved (of_node a c.args.node) c.args.depth c.args.room.now c.node_value.new.room
    (none_next a l c.requires.solved (λ v. label (shape_of a) (at v)) (of_node a c.args.node) c.in-Some.name c.loop-argument.values.items c.in-Some-pop.argument (reverse c.loop-argument.spine.arguments.items) (reverse rest) c.args.depth c.args.room.now c.loop-argument.room
    next inv.deep inv.spent inv.value c.in_ok-value.field-0 c.node_value.new.room c.in-None.is c.in_ok-value.ensures)
