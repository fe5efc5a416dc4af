-- What a line came to, with the replies that are kept before and after it.
use Rattle.std.specs.Prelude.{◌≡◌, ℕ, List, ◌++◌, false, codes, slice_get, Option, Some, None}
use Rattle.std.specs.Prelude.{Result, Ok, Err}
use Rattle.std.specs.declared.alloc.AllocError.{AllocError}
use Rattle.tc_desk.specs.Desks.{DeskState}
use Rattle.tc_desk.specs.Logs.{any_pending}
use Rattle.tc_desk.specs.declared.rows.LogRow.{LogRow}
use Rattle.tc_desk.specs.declared.rows.LogResult.TheVariants.{Pending}
use Rattle.tc_lines.specs.Replies.{error_line, reply_line}
use Rattle.tc_lines.specs.declared.requests.BadLine.{BadLine}
use Rattle.tc_lines.specs.declared.requests.LineAsk.{LineAsk}
use Rattle.tc_lines.specs.declared.requests.LineAsk.TheVariants.{Quit}
use Rattle.tc_session.specs.Answers.{Answers, FindsNoMemory}
use Rattle.tc_session.specs.declared.answering.Came.{Came}
use Rattle.tc_session.specs.declared.answering.Came.TheVariants as came

-- it was answered; it asked for the end; no memory was found for it; or its reply found no room
abbrev pub IsCame :
    DeskState → Result LineAsk BadLine → List ℕ → Came → List ℕ → DeskState → Type 0
IsCame d asked old came.GoesOn new e =
    (reply : List ℕ) × Answers d asked reply e × (new ≡ old ++ reply)
IsCame d asked old came.Quits new e =
    (asked ≡ Ok Quit) × (e ≡ d) × (new ≡ old ++ reply_line (codes "bye"))
IsCame d asked old came.NoMemory new e =
    FindsNoMemory d asked e × (new ≡ old ++ error_line (codes "no memory"))
IsCame d asked old came.Unwritten new e =
    (reply : List ℕ) × Answers d asked reply e × (new ≡ old)

-- a row that is pending stands at this place
abbrev pub IsPendingPlace : List LogRow → ℕ → Type 0
IsPendingPlace log place =
    (row : LogRow) × (slice_get log place ≡ Some row) × (row.result ≡ Pending)

-- the row of the log that is pending stands at this place, if one is pending
abbrev pub PendsAt : List LogRow → Option ℕ → Type 0
PendsAt log (Some place) = IsPendingPlace log place
PendsAt log None = any_pending log ≡ false

-- whether a reply was appended
abbrev pub came_of : Result (Unit {0}) AllocError → Came
came_of (Ok done) = came.GoesOn
came_of (Err fault) = came.Unwritten

-- this reply was appended, or found no room
abbrev pub IsPushed : List ℕ → List ℕ → Came → List ℕ → Type 0
IsPushed reply old came.GoesOn new = new ≡ old ++ reply
IsPushed reply old came.Unwritten new = new ≡ old
IsPushed reply old came.Quits new = ⊥
IsPushed reply old came.NoMemory new = ⊥
