use Rattle.std.proofs.Common.{◌++◌, ◌∷◌, [], sym, ap, subst, ◌∙◌}
use Rattle.std.specs.List.{All}
use Rattle.tc_model.specs.Typed.{IsTypedCall}
use Rattle.tc_model.specs.declared.entries.Entry.TheVariants.{Called}
use Rattle.tc_centre.specs.Held.{origin_of, IsHeld}
use Rattle.tc_centre.specs.Operations.{op_of}
use Rattle.tc_centre.proofs.Typed.{typed-push}
use Rattle.tc_centre.proofs.Called.{called}
use Rattle.tc_centre.proofs.Known.{known-still}
use Rattle.tc_centre.proofs.serving.call.Goals as goal

pub returns-clause-run : goal.returns-clause-run
returns-clause-run g c =
    let old = c.args.held.now in
    let new = c.perform.new.held in
    let done = c.in_ok-outcome.ensures.done in
    subst (λ f. IsHeld (origin_of f) c.push.new.self.items new.spec new.bag.now new.bag.next new.pending.now)
    (sym c.perform.ensures.keeps.founding)
    (called (origin_of old.founding) old.history.items c.push.new.self.items old.spec old.bag.now old.bag.next
    old.pending.now c.args.id c.requires.may.rest c.requires.may.next c.requires.may.room
    new.spec new.bag.now new.bag.next new.pending.now (op_of c.args.op) c.in_ok-outcome.outcome c.in_ok-outcome.items
    done.served done.state done.few done.next
    (c.in_ok-push.ensures.items
    ∙ ap (λ es. es ++ Called c.args.id c.into_op-op.result c.in_ok-outcome.outcome c.in_ok-outcome.items ∷ []) c.perform.ensures.keeps.history
    ∙ ap (λ op. old.history.items ++ Called c.args.id op c.in_ok-outcome.outcome c.in_ok-outcome.items ∷ []) c.into_op-op.ensures))

pub returns-clause-known : goal.returns-clause-known
returns-clause-known g c =
    known-still c.args.held.now c.perform.new.held c.requires.may.rest.quiescent c.in_ok-outcome.ensures.done.keeps
    c.requires.marked c.perform.ensures.keeps.bag

pub returns-clause-typed : goal.returns-clause-typed
returns-clause-typed g c all =
    typed-push c.perform.new.held.history.items c.push.new.self.items
    (Called c.args.id c.into_op-op.result c.in_ok-outcome.outcome c.in_ok-outcome.items) c.in_ok-push.ensures.items
    (c.typed_id.ensures, c.typed.ensures, c.typed-2.ensures)
    (subst (All IsTypedCall) (sym c.perform.ensures.keeps.history) all)
