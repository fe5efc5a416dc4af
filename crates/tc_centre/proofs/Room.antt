-- Room for the answers: each needs at most one weight more than the budget.
use Rattle.std.proofs.Common.{◌+◌, ◌*◌, ◌≤◌, ℕ, arith}
use Rattle.std.proofs.Math.Nat.{mul-le-mul_right}

-- w weighs the history, p requests wait and then q, b is the budget, and k items come
pub room_for_call : {most : ℕ} (w p q b k : ℕ) → w + (p + 2) * (b + 1) ≤ most → q ≤ p + 1 → k ≤ b
    → w + (1 + k) + q * (b + 1) ≤ most
room_for_call w p q b k room few within =
    let fewer : q * (b + 1) ≤ (p + 1) * (b + 1) = mul-le-mul_right (b + 1) few in
    omega (arith, fewer, room, within)

pub room_for_answer : {most : ℕ} (w p q b k : ℕ) → w + p * (b + 1) ≤ most → q + 1 ≤ p → k ≤ b
    → w + (1 + k) + q * (b + 1) ≤ most
room_for_answer w p q b k room fewer within =
    let less : (q + 1) * (b + 1) ≤ p * (b + 1) = mul-le-mul_right (b + 1) fewer in
    omega (arith, less, room, within)
