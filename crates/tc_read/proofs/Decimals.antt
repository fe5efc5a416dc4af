use Rattle.std.proofs.Common.{◌≡◌, ℕ, suc, ◌+◌, ◌-◌, ◌*◌, ◌<◌, ◌≤◌, List, [], ◌∷◌, drop, get_or, length, ap, arith, drop-cons}
use Rattle.tc_term.specs.Tokens.{decimal_from}

-- a number doesn't fall when digits are added
pub grows : (bs : List ℕ) (n : ℕ) → n ≤ decimal_from n bs
grows [] n = omega arith
grows (b ∷ bs) n = omega (arith, grows bs (10 * n + (b - 48)))

pub decimal_step : (xs : List ℕ) (i n : ℕ) → i < length xs → decimal_from n (drop i xs) ≡ decimal_from (10 * n + (get_or xs i 0 - 48)) (drop (suc i) xs)
decimal_step xs i n h = ap (decimal_from n) (drop-cons xs i 0 h)

pub decimal_grows : (xs : List ℕ) (i n : ℕ) → i < length xs → 10 * n + (get_or xs i 0 - 48) ≤ decimal_from n (drop i xs)
decimal_grows xs i n h = omega (arith, grows (drop (suc i) xs) (10 * n + (get_or xs i 0 - 48)), decimal_step xs i n h)
