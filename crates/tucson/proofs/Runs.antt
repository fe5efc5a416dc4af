-- Cores and logs of a run.
use Rattle.std.proofs.Common.{◌≡◌, ◌<◌, ◌||◌, ◌∙◌, ℕ, zero, suc, true, List, [], ◌∷◌, Vec, Global, length, get_or, sym, ap, arith}
use Rattle.std.proofs.Math.Bool.{or-true}
use Rattle.tc_desk.specs.Logs.{any_pending, is_blocked, rows_of}
use Rattle.tc_desk.specs.declared.rows.LogRow.{LogRow}

-- an ask of one of the logs is pending
pub blocked_at : (logs : List (Vec LogRow Global)) (i : ℕ) (log : Vec LogRow Global) → i < length logs → log ≡ get_or logs i log
    → any_pending log.items ≡ true → true ≡ is_blocked (rows_of logs)
blocked_at [] i log within is pending = absurd (omega arith)
blocked_at (l ∷ ls) zero log within is pending =
    sym (ap (λ b. b || is_blocked (rows_of ls)) (ap (λ (v : Vec LogRow Global). any_pending v.items) (sym is) ∙ pending))
blocked_at (l ∷ ls) (suc i) log within is pending =
    sym (ap (λ b. any_pending l.items || b) (sym (blocked_at ls i log (omega (arith, within)) is pending)) ∙ or-true (any_pending l.items))
