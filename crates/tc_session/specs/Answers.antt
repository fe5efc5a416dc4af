-- What lines come to at a desk, and what is replied.
use Rattle.std.specs.Prelude.{◌≡◌, ◌≢◌, ℕ, ◌+◌, ◌≤◌, true, false, List, length, slice_index}
use Rattle.std.specs.Prelude.{codes, None, Some, Result, Ok, Err}
use Rattle.tc_model.specs.declared.asks.Ask.{Ask}
use Rattle.tc_model.specs.declared.outcomes.Reply.{Reply}
use Rattle.tc_desk.specs.Desks.{DeskState, Keeps, Makes, Refuses, HasRowOfPoll, TellsFull, Stays}
use Rattle.tc_desk.specs.Desks.{Gets, Leaves}
use Rattle.tc_histline.specs.Text.{refusal_text, reply_text, result_text}
use Rattle.tc_histline.specs.declared.versions.Version.TheVariants.{One}
use Rattle.tc_desk.specs.declared.rows.Refusal.{Refusal}
use Rattle.tc_desk.specs.declared.rows.Refusal.TheVariants as refusal
use Rattle.tc_desk.specs.declared.desks.Served.{Served}
use Rattle.tc_desk.specs.declared.desks.Seen.{Seen}
use Rattle.tc_desk.specs.declared.desks.Seen.TheVariants.{Answered, StillPending}
use Rattle.tc_desk.specs.declared.desks.DeskFault.{DeskFault}
use Rattle.tc_desk.specs.declared.desks.DeskFault.TheVariants as fault
use Rattle.tc_lines.specs.Replies.{error_line, reply_line}
use Rattle.tc_lines.specs.declared.requests.LineAsk.{LineAsk}
use Rattle.tc_lines.specs.declared.requests.LineAsk.TheVariants.{Call, Poll, Wait, Quit}
use Rattle.tc_lines.specs.declared.requests.BadLine.{BadLine}
use Rattle.tc_lines.specs.declared.requests.BadLine.TheVariants as bad

-- what a call came to: it was served, and the reply is read off its row; or it was refused, and the
-- reply says why
abbrev pub AnswersCall :
    DeskState → List ℕ → Ask → Result Served Refusal → List ℕ → DeskState → Type 0
AnswersCall d centre asked (Ok how) reply e =
    (made : Makes d centre asked how e) × (reply ≡ reply_line (result_text One made.result))
AnswersCall d centre asked (Err why) reply e = (why ≢ refusal.NoMemory)
    × Refuses d centre asked why e × (reply ≡ error_line (refusal_text One why))

-- what a poll came to: the reply that it told, or that there is none yet; that the centre is
-- full; or that none was made, since no call is pending or no turn is left
abbrev pub AnswersPoll :
    DeskState → Result Seen DeskFault → List ℕ → DeskState → Type 0
AnswersPoll d (Ok Answered) reply e = (told : Reply) × HasRowOfPoll d (Some told) e
    × (e.waits ≡ false) × (reply ≡ reply_line (reply_text told))
AnswersPoll d (Ok StillPending) reply e =
    HasRowOfPoll d None e × (e.waits ≡ true) × (reply ≡ reply_line (codes "pending"))
AnswersPoll d (Err (fault.Full weight pending)) reply e =
    TellsFull d weight pending e × (reply ≡ error_line (codes "full"))
AnswersPoll d (Err fault.Idle) reply e =
    Stays d fault.Idle e × (reply ≡ error_line (codes "idle"))
AnswersPoll d (Err fault.TurnsSpent) reply e =
    Stays d fault.TurnsSpent e × (reply ≡ error_line (codes "turns spent"))
AnswersPoll d (Err fault.NoMemory) reply e = ⊥

-- what a wait came to: the reply that the pending call has got; or none, since no call is pending
-- or no turn is left
abbrev pub AnswersWait :
    DeskState → Result (Unit {0}) DeskFault → List ℕ → DeskState → Type 0
AnswersWait d (Ok done) reply e =
    (got : Gets d e) × (reply ≡ reply_line (reply_text got.reply))
AnswersWait d (Err fault.Idle) reply e =
    Leaves d fault.Idle e × (reply ≡ error_line (codes "idle"))
AnswersWait d (Err fault.TurnsSpent) reply e =
    Leaves d fault.TurnsSpent e × (reply ≡ error_line (codes "turns spent"))
AnswersWait d (Err (fault.Full weight pending)) reply e = ⊥
AnswersWait d (Err fault.NoMemory) reply e = ⊥

-- what a line came to that asks this, and its reply; none has a reply of this kind that asks for
-- the end, or for which memory runs out
abbrev pub Answers : DeskState → Result LineAsk BadLine → List ℕ → DeskState → Type 0
Answers d (Ok (Call centre asked)) reply e =
    (became : Result Served Refusal) × AnswersCall d centre asked became reply e
Answers d (Ok Poll) reply e = (became : Result Seen DeskFault) × AnswersPoll d became reply e
Answers d (Ok Wait) reply e = (became : Result (Unit {0}) DeskFault) × AnswersWait d became reply e
Answers d (Ok Quit) reply e = ⊥
Answers d (Err bad.Syntax) reply e = (e ≡ d) × (reply ≡ error_line (codes "line syntax"))
Answers d (Err bad.Size) reply e = (e ≡ d) × (reply ≡ error_line (codes "line size"))
Answers d (Err bad.Shape) reply e = (e ≡ d) × (reply ≡ error_line (codes "line shape"))
Answers d (Err bad.NoMemory) reply e = ⊥

-- no memory was found: by the desk for what a line asks, or to read the line
abbrev pub FindsNoMemory : DeskState → Result LineAsk BadLine → DeskState → Type 0
FindsNoMemory d (Ok (Call centre asked)) e = Refuses d centre asked refusal.NoMemory e
FindsNoMemory d (Ok Poll) e = Stays d fault.NoMemory e
FindsNoMemory d (Ok Wait) e = Leaves d fault.NoMemory e
FindsNoMemory d (Ok Quit) e = ⊥
FindsNoMemory d (Err bad.NoMemory) e = e ≡ d
FindsNoMemory d (Err bad.Syntax) e = ⊥
FindsNoMemory d (Err bad.Size) e = ⊥
FindsNoMemory d (Err bad.Shape) e = ⊥

-- at each centre the turns fall by at most one more than the entries seen there rise
pub record UsesTurns (d e : DeskState) : Type 0 where
  pub wide : length e.turns ≡ length d.turns
  pub fell : (k : ℕ) → slice_index e.turns k ≤ slice_index d.turns k
  pub most : (k : ℕ)
      → slice_index d.turns k + slice_index d.seen k
      ≤ slice_index e.turns k + slice_index e.seen k + 1

-- what every line keeps, whatever it came to
pub record KeepsDesk (d e : DeskState) : Type 0 where
  pub kept : Keeps d e
  pub turns : UsesTurns d e
