use Rattle.std.proofs.Common.{◌≡◌, List, ◌∷◌, drop, arith, refl, sym, ap, subst, ◌∙◌}
use Rattle.tc_model.specs.Triggers.{Member}
use Rattle.tc_cascade.proofs.Passing.{first_triggered, next_triggered}
use Rattle.tc_cascade.proofs.queue.Queue.first.Goals as goal

pub returns-clause-some : goal.returns-clause-some
returns-clause-some c =
    let bs = c.self.inside.batches.items in
    let place = c.self.inside.place in
    let some = c.in_ok-batch.ensures.variant.0 refl in
    let ok = c.self.inside.batches.ok.0 in
    let here = first_triggered bs c.in_ok-batch.batch.now place c.self.inside.len c.index.result.now (omega (arith, some, ok)) c.in_ok-batch.ensures.lookup c.self.invariant c.index.ensures in
    subst (λ (ms : List Member). ms ≡ record { clause = c.index.result.now; event = c.in_ok-batch.batch.now.event } ∷ drop 1 ms) c.self.view_is
    (here ∙ ap (λ ms. record { clause = c.index.result.now; event = c.in_ok-batch.batch.now.event } ∷ ms) (sym (next_triggered bs place)))
