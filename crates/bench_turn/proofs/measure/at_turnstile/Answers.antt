use Rattle.bench_turn.proofs.Passes.{new_passes-popped, free_some, free_at}
use Rattle.bench_turn.proofs.measure.at_turnstile.Goals as goal

pub for_each_mut-requires-clause-accepts : goal.for_each_mut-requires-clause-accepts
for_each_mut-requires-clause-accepts g c =
    let made = c.in_ok-turnstile.ensures in
    let free = new_passes-popped c.in_ok-turnstile.turnstile 0 _ _ _ _ _ made.turnstile.0 made.passes c.pop.ensures.items in
    λ κs live i p below is. free_at c.in_ok-turnstile.turnstile _ _ i p.now c.as_mut_slice.ensures.value free.0 below is

pub turns_made-requires-clause-own : goal.turns_made-requires-clause-own
turns_made-requires-clause-own g c =
    let made = c.in_ok-turnstile.ensures in
    let free = new_passes-popped c.in_ok-turnstile.turnstile 0 _ _ _ _ _ made.turnstile.0 made.passes c.pop.ensures.items in
    (free_some c.in_ok-turnstile.turnstile _ _ c.in-Some.is free.1).0

pub turns_made-requires-clause-free : goal.turns_made-requires-clause-free
turns_made-requires-clause-free g c =
    let made = c.in_ok-turnstile.ensures in
    let free = new_passes-popped c.in_ok-turnstile.turnstile 0 _ _ _ _ _ made.turnstile.0 made.passes c.pop.ensures.items in
    (free_some c.in_ok-turnstile.turnstile _ _ c.in-Some.is free.1).1
