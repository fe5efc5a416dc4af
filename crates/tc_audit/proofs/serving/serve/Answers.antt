use Rattle.std.proofs.Common.{length, take, refl, sym, ap, ◌∙◌}
use Rattle.tc_bag.specs.Stock.{AddsYounger, Stock, tuples_of}
use Rattle.std.proofs.Common.{subst}
use Rattle.tc_model.specs.State.{State, after_call}
use Rattle.tc_audit.specs.Beginnings.{origin_in}
use Rattle.tc_audit.specs.Reached.{state_of}
use Rattle.tc_audit.proofs.Resting.{requests-stay, same-state, sound-call}
use Rattle.tc_audit.proofs.serving.serve.Goals as goal

pub returns-clause-state : goal.returns-clause-state
returns-clause-state c served =
    let s : State = state_of c.args.reached.now in
    same-state (state_of c.settle.new.reached)
    (after_call c.args.id c.args.op.now c.args.outcome.now c.args.items.now s)
    (ap (λ (b : Stock). tuples_of b.now) c.settle.ensures.bag
    ∙ c.in_ok-is_served.ensures.tuples (origin_in c.args.beginning.now) s c.args.id
    (record { clauses_are = refl; tuples_are = refl; setting_is = sym c.in_ok-context.ensures; budget_is = refl })
    c.if-not-branch.false)
    (c.in_ok-settle.ensures.clauses s c.args.items.now refl)
    (c.in_ok-settle.ensures.requests s c.args.items.now refl)

pub returns-clause-sound : goal.returns-clause-sound
returns-clause-sound c served =
    let s : State = state_of c.args.reached.now in
    sound-call c.args.reached.now c.settle.new.reached c.requires
    (subst (AddsYounger c.args.reached.now.bag) (sym c.settle.ensures.bag) c.is_served.ensures.adds)
    (ap (λ (b : Stock). b.saved) c.settle.ensures.bag ∙ c.is_served.ensures.saved)
    (ap (take (length c.args.reached.now.pending.now)) (c.in_ok-settle.ensures.requests s c.args.items.now refl)
    ∙ requests-stay c.args.id c.args.op.now c.args.outcome.now c.args.items.now s)
    c.settle.ensures.known
