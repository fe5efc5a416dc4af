-- What a log says.
use Rattle.std.specs.Prelude.{◌≡◌, ℕ, ◌+◌, Bool, true, false, List, Vec, map, length}
use Rattle.std.specs.Prelude.{Some, slice_get}
use Rattle.std.specs.Global.{Global}
use Rattle.std.specs.List.{list_any}
use Rattle.tc_desk.specs.declared.rows.LogRow.{LogRow}
use Rattle.tc_desk.specs.declared.rows.LogResult.{LogResult}
use Rattle.tc_desk.specs.declared.rows.LogResult.TheVariants.{Replied, Pending, Refused, Polled}

-- whether the ask waits
abbrev pub is_pending : LogResult → Bool
is_pending (Replied reply) = false
is_pending Pending = true
is_pending (Refused why) = false
is_pending (Polled reply) = false

-- whether a centre served the ask, so that its call stands in the centre's history
abbrev pub is_served : LogResult → Bool
is_served (Replied reply) = true
is_served Pending = true
is_served (Refused why) = false
is_served (Polled reply) = false

-- the results of the rows, in order
abbrev pub results_of : List LogRow → List LogResult
results_of log = map (λ (row : LogRow). row.result) log

-- the rows of each log, in order
abbrev pub rows_of : List (Vec LogRow Global) → List (List LogRow)
rows_of logs = map (λ (log : Vec LogRow Global). log.items) logs

-- whether some row of the log is pending
abbrev pub any_pending : List LogRow → Bool
any_pending log = list_any (λ row. is_pending row.result) log

-- only the last row of the log may be pending
abbrev pub PendsLast : List LogRow → Type 0
PendsLast log = (k : ℕ) (row : LogRow) → slice_get log k ≡ Some row → row.result ≡ Pending
    → k + 1 ≡ length log

-- whether some agent's ask is pending
abbrev pub is_blocked : List (List LogRow) → Bool
is_blocked logs = list_any any_pending logs
