use Rattle.std.proofs.Common.{◌≡◌, ◌+◌, ◌-◌, List, drop, refl, sym, ap, subst, ◌∙◌, arith}
use Rattle.tc_model.specs.Triggers.{Member}
use Rattle.tc_cascade.specs.Batches.{triggered_in, IsQueue}
use Rattle.tc_cascade.proofs.Passing.{next_triggered, batch_done, queue_done}
use Rattle.tc_cascade.proofs.queue.Queue.pass.Goals as goal

pub invariant_of-self : goal.invariant_of-self
invariant_of-self c =
    let bs = c.self.inside.batches.items in
    let some = c.in-Some.ensures.variant.0 refl in
    let ok = c.self.inside.batches.ok.0 in
    let end = c.if-self-end.true in
    let len = c.len-end.ensures in
    let all = c.in-Some.batch.now.numbers.ok in
    subst (λ cs. IsQueue cs 0 (c.self.inside.len - 1)) (sym c.pop_front.ensures.rest)
    (queue_done bs c.in-Some.batch.now c.self.inside.place c.self.inside.len (omega (arith, some, ok)) c.in-Some.ensures.lookup c.self.invariant (omega (arith, end, len, all)))

pub returns-then-self-end : goal.returns-then-self-end
returns-then-self-end c =
    let bs = c.self.inside.batches.items in
    let place = c.self.inside.place in
    let some = c.in-Some.ensures.variant.0 refl in
    let ok = c.self.inside.batches.ok.0 in
    let end = c.if-self-end.true in
    let len = c.len-end.ensures in
    let all = c.in-Some.batch.now.numbers.ok in
    subst (λ (ms : List Member). triggered_in c.pop_front.new.self.items 0 ≡ drop 1 ms) c.self.view_is
    (ap (λ cs. triggered_in cs 0) c.pop_front.ensures.rest
    ∙ sym (next_triggered bs place ∙ batch_done bs c.in-Some.batch.now (place + 1) (omega (arith, some, ok)) c.in-Some.ensures.lookup (omega (arith, end, len, all))))

pub returns-else-self-end : goal.returns-else-self-end
returns-else-self-end c =
    let bs = c.self.inside.batches.items in
    let place = c.self.inside.place in
    subst (λ (ms : List Member). triggered_in bs (place + 1) ≡ drop 1 ms) c.self.view_is (sym (next_triggered bs place))
