use Rattle.std.proofs.Common.{◌+◌, ap, subst, arith, drop, length, IfOk}
use Rattle.std.proofs.Math.Path.{fun_ext}
use Rattle.tc_term.specs.TreeView.{tree_of}
use Rattle.tc_unify.specs.Values.{IsValue, of_term}
use Rattle.tc_unify.proofs.Copied.{args_fit}
use Rattle.tc_unify.proofs.Fixed.{IsSpent-head, spent_next, builds_next, none_next, none_value, term_builds, of_variable}
use Rattle.tc_unify.proofs.values.+part_value.Goals as goal
use Rattle.tc_lists.proofs.Parts.{drop_read}

pub loop-arg-init : goal.loop-arg-init
loop-arg-init t c =
    let a = c.args.arena.now in
    let l = c.args.links.now in
    let items = c.items-arg-items.result.now in
    record {
      deep = c.take-in-Comp.ensures.depth c.if-not-take.false;
      args = λ i x h e. (args_fit c.args.shift c.args.term.now c.in-Comp.name c.in-Comp.args items a.variables (ap tree_of c.in-Comp.is) c.items-arg-items.ensures.trees c.items-arg-items.ensures.depth c.requires.variables i x h e).1;
      spent = IsSpent-head a l c.requires.solved c.in-Comp.name c.new-values.result.items c.args.depth c.args.room.now c.take-in-Comp.new.self (length c.bytes-in-Comp.result.now) c.new-values.ensures.items (ap length c.bytes-in-Comp.ensures)
          (c.take-in-Comp.ensures.depth c.if-not-take.false) (c.take-in-Comp.ensures.nodes c.if-not-take.false) (c.take-in-Comp.ensures.bytes c.if-not-take.false);
      value = term_builds a l c.requires.solved c.args.shift c.args.term.now c.in-Comp.name c.in-Comp.args items c.new-values.result.items (ap tree_of c.in-Comp.is) c.items-arg-items.ensures.trees c.items-arg-items.ensures.some c.new-values.ensures.items;
    }

pub part_value-requires : goal.part_value-requires
part_value-requires t c =
    let deep = c.loop-arg.invariant.deep in
    let falls = c.decreases in (
      omega arith,
      (c.requires.solved, c.loop-arg.invariant.args c.loop-arg.arg-index c.arg-item.result c.loop-arg-test.true c.arg-item.is),
    )

pub returns-in-None : goal.returns-in-None
returns-in-None t c =
    let a = c.args.arena.now in
    let l = c.args.links.now in
    let items = c.items-arg-items.result.now in
    let inv = c.loop-arg.invariant in
    none_value a l c.requires.solved (of_term c.args.shift c.args.term.now) c.args.depth c.args.room.now c.part_value.new.room
    (none_next a l c.requires.solved (λ v x. of_term c.args.shift x v) (of_term c.args.shift c.args.term.now) c.in-Comp.name c.loop-arg.values.items c.arg-item.result (drop c.loop-arg.arg-index items) (drop (c.loop-arg.arg-index + 1) items) c.args.depth c.args.room.now c.loop-arg.room
    (drop_read items c.loop-arg.arg-index c.arg-item.result c.loop-arg-test.true c.arg-item.is) inv.deep inv.spent inv.value c.in_ok-value-in-Comp.field-0 c.part_value.new.room c.in-None.is c.in_ok-value-in-Comp.ensures)

pub loop-arg-preserved : goal.loop-arg-preserved
loop-arg-preserved t c =
    let a = c.args.arena.now in
    let l = c.args.links.now in
    let items = c.items-arg-items.result.now in
    let inv = c.loop-arg.invariant in
    let next = drop_read items c.loop-arg.arg-index c.arg-item.result c.loop-arg-test.true c.arg-item.is in
    record {
      deep = inv.deep;
      args = inv.args;
      spent = spent_next a l c.requires.solved (λ v x. of_term c.args.shift x v) (of_term c.args.shift c.args.term.now) c.in-Comp.name c.loop-arg.values.items c.arg-item.result (drop c.loop-arg.arg-index items) (drop (c.loop-arg.arg-index + 1) items) c.args.depth c.args.room.now c.loop-arg.room
          next inv.deep inv.spent inv.value c.in_ok-value-in-Comp.field-0 c.part_value.new.room c.in-Some.value c.push.new.self.items c.in-Some.is c.in_ok-value-in-Comp.ensures c.in_ok-push-in-Some.ensures.items;
      value = builds_next a l c.requires.solved (λ v x. of_term c.args.shift x v) (of_term c.args.shift c.args.term.now) c.in-Comp.name c.loop-arg.values.items c.arg-item.result (drop c.loop-arg.arg-index items) (drop (c.loop-arg.arg-index + 1) items) c.args.depth c.args.room.now c.loop-arg.room
          next inv.deep inv.spent inv.value c.in_ok-value-in-Comp.field-0 c.part_value.new.room c.in-Some.value c.push.new.self.items c.in-Some.is c.in_ok-value-in-Comp.ensures c.in_ok-push-in-Some.ensures.items;
    }

pub returns-in-Var : goal.returns-in-Var
returns-in-Var t c =
    subst (λ V. IfOk c.node_value.result (IsValue c.args.arena.now c.args.links.now V c.args.depth c.args.room.now c.node_value.new.room))
    (fun_ext (of_variable c.args.arena.now c.args.links.now c.requires.solved c.args.shift c.args.term.now c.in-Var.n (9295712209692852481 + c.in-Var.n + c.args.shift) (ap tree_of c.in-Var.is) (omega arith)))
    c.node_value.ensures
