use Rattle.std.proofs.Common.{◌≡◌, ℕ, ◌<◌, ◌≤◌, List, length, get_or, sum_by, ap, ◌∙◌, arith}
use Rattle.tc_lists.proofs.Parts.{take-append_all}
use Rattle.std.proofs.lemmas.List.Elements.{All-same}
use Rattle.std.proofs.lemmas.List.Sums.{get_or-le-sum_by}
use Rattle.tc_turn.specs.Order.{one_if_same}
use Rattle.tc_turn.specs.Passes.{TurnstileState, PassState, EndedState, new_pass, new_passes, ended_count}
use Rattle.tc_turn.proofs.Sums.{one_if_same-same}
use Rattle.tc_turn.proofs.PassLists.{new_passes-own, length-new_passes, number-new_passes}
use Rattle.crate_tests.specs.Turns.{IsFree}
use Rattle.crate_tests.proofs.turnstile.history_of.Goals as goal

-- each number stands among the passes, and so among the ended ones
each_ended : (t : TurnstileState ℕ) (turns passes : ℕ) (xs ys : List (PassState ℕ ℕ)) (ended : List (EndedState ℕ)) → xs ≡ new_passes t.table 0 turns 0 passes → length ys ≡ length xs
    → ((k : ℕ) (d : PassState ℕ ℕ) → k < length xs → (get_or ys k d).number ≡ (get_or xs k d).number)
    → ((n : ℕ) → ended_count n ended ≡ sum_by (λ (p : PassState ℕ ℕ). one_if_same p.number n) ys)
    → (n : ℕ) → n < passes → 0 < ended_count n ended
each_ended t turns passes xs ys ended made same numbers counts n below =
    let d = new_pass t.table 0 turns 0 in
    let long : length xs ≡ passes = ap length made ∙ length-new_passes ℕ t.table 0 turns 0 passes in
    let number : (get_or ys n d).number ≡ n = numbers n d (omega arith) ∙ ap (λ (l : List (PassState ℕ ℕ)). (get_or l n d).number) made ∙ number-new_passes t.table 0 turns 0 passes n d below ∙ omega arith in
    let one : one_if_same (get_or ys n d).number n ≡ 1 = one_if_same-same (get_or ys n d).number n number in
    let least : one_if_same (get_or ys n d).number n ≤ sum_by (λ (p : PassState ℕ ℕ). one_if_same p.number n) ys = get_or-le-sum_by (λ (p : PassState ℕ ℕ). one_if_same p.number n) ys n d (omega arith) in
    omega (arith, counts n, one, least)

pub in_threads-requires-clause-free : goal.in_threads-requires-clause-free
in_threads-requires-clause-free g c =
    let t = c.in_ok-turnstile.turnstile in
    let made = c.in_ok-turnstile.ensures in
    λ κs live. All-same (IsFree t) _ _ (c.as_mut_slice.ensures.value ∙ made.passes) (new_passes-own t 0 _ 0 _ made.turnstile.0)

pub end_all-requires : goal.end_all-requires
end_all-requires g c =
    let t = c.in_ok-turnstile.turnstile in
    let all = c.in_ok-turnstile.all in
    let long : all.len ≡ length all.items = omega (arith, all.ok.0) in
    let same : length c.in_threads.new.passes ≡ length all.items = c.in_threads.auto.passes ∙ ap length c.as_mut_slice.ensures.value in
    record { free = All-same (IsFree t) _ _ (take-append_all c.in_threads.new.passes all.items all.len same long) c.in_threads.ensures.free }

pub close-requires-clause-whole : goal.close-requires-clause-whole
close-requires-clause-whole g c =
    let t = c.in_ok-turnstile.turnstile in
    let all = c.in_ok-turnstile.all in
    let made = c.in_ok-turnstile.ensures in
    let long : all.len ≡ length all.items = omega (arith, all.ok.0) in
    let same : length c.in_threads.new.passes ≡ length all.items = c.in_threads.auto.passes ∙ ap length c.as_mut_slice.ensures.value in
    let back = take-append_all c.in_threads.new.passes all.items all.len same long in
    let counts : (n : ℕ) → ended_count n c.in_ok-done.ended.items ≡ sum_by (λ (p : PassState ℕ ℕ). one_if_same p.number n) c.in_threads.new.passes = λ n. c.in_ok-done.ensures.numbers n ∙ ap (sum_by (λ (p : PassState ℕ ℕ). one_if_same p.number n)) back in
    λ n below. each_ended t _ c.args.passes c.as_mut_slice.result.now c.in_threads.new.passes c.in_ok-done.ended.items (c.as_mut_slice.ensures.value ∙ made.passes) c.in_threads.auto.passes c.in_threads.ensures.numbers counts n (omega (arith, below, made.turnstile.1))
