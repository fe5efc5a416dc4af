use Rattle.std.proofs.Common.{◌≡◌, ◌-◌, List, ℕ, ◌++◌, take, length, sym, ap, subst, ◌∙◌}
use Rattle.std.proofs.lemmas.List.{take-map}
use Rattle.tc_model.specs.Triggers.{Member, members}
use Rattle.tc_cascade.specs.declared.queue.Batch.{Batch}
use Rattle.tc_cascade.specs.Batches.{triggered_in, members_of}
use Rattle.tc_cascade.proofs.Passing.{more_triggered}
use Rattle.tc_cascade.proofs.queue.Queue.add.Goals as goal

pub returns : goal.returns
returns c =
    let bs = c.self.inside.batches.items in
    let place = c.self.inside.place in
    let ns = c.args.numbers.items in
    let before = triggered_in bs place in
    let b : Batch = record { event = c.args.event; numbers = c.truncate.new.self } in
    let left : c.saturating_sub.result ≡ c.args.room - length before =
    c.saturating_sub.ensures ∙ ap (λ n. c.args.room - n) c.self.invariant.count in
    let kept : members_of b ≡ take (c.args.room - length before) (members c.args.event ns) =
    ap (members c.args.event) (c.truncate.ensures.items ∙ ap (λ n. take n ns) left)
    ∙ sym (take-map (λ (n : ℕ). record { clause = n; event = c.args.event }) (c.args.room - length before) ns) in
    subst (λ (ms : List Member). triggered_in c.push_back.new.self.items place ≡ ms ++ take (c.args.room - length ms) (members c.args.event ns)) c.self.view_is
    (ap (λ bs. triggered_in bs place) c.in_ok-push_back.ensures.items
    ∙ (more_triggered bs b place c.self.inside.len c.self.invariant ∙ ap (λ ms. before ++ ms) kept))
