-- Logs in which each row is refused for its operand exactly where this is faulty.
use Rattle.std.proofs.Common.{◌≡◌, ◌<◌, List, [], ◌∷◌, ◌++◌, Some, length, sym, subst, ⊎_elim}
use Rattle.std.specs.List.{slice_get}
use Rattle.tc_desk.specs.Decided.{IsRead, IsReadAs}
use Rattle.tc_desk.specs.declared.rows.LogRow.{LogRow}
use Rattle.tc_lists.proofs.Places.{slice_get_push}
use Rattle.tc_model.specs.declared.asks.Ask.{Ask}

pub read-push : (log : List LogRow) (row : LogRow) → ((ask : Ask) → row.ask ≡ Some ask → IsReadAs ask row.result) → IsRead log → IsRead (log ++ row ∷ [])
read-push log row is read k x ask at asked =
    ⊎_elim
    (λ (before : (k < length log) × (slice_get log k ≡ Some x)). read k x ask before.1 asked)
    (λ (last : (k ≡ length log) × (x ≡ row)).
    subst (λ (r : LogRow). IsReadAs ask r.result) (sym last.1) (is ask (subst (λ (r : LogRow). r.ask ≡ Some ask) last.1 asked)))
    (slice_get_push log row k x at)
