-- What a line came to.
use Rattle.std.proofs.Common.{◌≡◌, ℕ, ◌+◌, ◌-◌, ◌<◌, List, [], ◌∷◌, ◌++◌, Option, Some, None, Result, Ok, Err, OnOk, OnErr, IfSome, length, refl, sym, ap, subst, ◌∙◌, length-append, arith}
use Rattle.std.specs.Prelude.{codes, slice_get}
use Rattle.std.specs.declared.alloc.AllocError.{AllocError}
use Rattle.tc_lists.proofs.Places.{slice_get_longer, slice_get_pushed}
use Rattle.tc_model.specs.declared.asks.Ask.{Ask}
use Rattle.tc_model.specs.declared.outcomes.Reply.{Reply}
use Rattle.tc_desk.specs.Desks.{DeskState, Gets, IsRowAnswered, Makes, Polls, Refuses, replied}
use Rattle.tc_desk.specs.declared.rows.LogRow.{LogRow}
use Rattle.tc_desk.specs.declared.rows.Refusal.{Refusal}
use Rattle.tc_desk.specs.declared.rows.Refusal.TheVariants as refusal
use Rattle.tc_desk.specs.declared.desks.Served.{Served}
use Rattle.tc_desk.specs.declared.desks.Served.TheVariants as desk_served
use Rattle.tc_desk.specs.declared.desks.Seen.TheVariants.{Answered}
use Rattle.tc_histline.specs.Text.{refusal_text, reply_text, result_text}
use Rattle.tc_histline.specs.declared.versions.Version.TheVariants.{One}
use Rattle.tc_lines.specs.Replies.{error_line, reply_line}
use Rattle.tc_lines.specs.declared.requests.BadLine.{BadLine}
use Rattle.tc_lines.specs.declared.requests.LineAsk.{LineAsk}
use Rattle.tc_lines.specs.declared.requests.LineAsk.TheVariants.{Call, Poll, Wait}
use Rattle.tc_session.specs.Answering.{IsCame, IsPushed, PendsAt, came_of}
use Rattle.tc_session.specs.Answers.{Answers}
use Rattle.tc_session.specs.declared.answering.Came.{Came}
use Rattle.tc_session.specs.declared.answering.Came.TheVariants as came
use Rattle.tc_session.proofs.Pending.{has_reply}

-- a line that was answered, whose reply was appended or found no room
pub told : (d : DeskState) (asked : Result LineAsk BadLine) (reply : List ℕ) (e : DeskState) (old new : List ℕ) (c : Came)
    → Answers d asked reply e → IsPushed reply old c new → IsCame d asked old c new e
told d asked reply e old new came.GoesOn answers pushed = (reply, answers, pushed)
told d asked reply e old new came.Unwritten answers pushed = (reply, answers, pushed)
told d asked reply e old new came.Quits answers pushed = absurd pushed
told d asked reply e old new came.NoMemory answers pushed = absurd pushed

pub pushed_so : (reply old new : List ℕ) (written : Result (Unit {0}) AllocError) → OnOk written (new ≡ old ++ reply) → OnErr written (new ≡ old)
    → IsPushed reply old (came_of written) new
pushed_so reply old new (Ok done) all none = all
pushed_so reply old new (Err fault) all none = none

row_pushed : (old new : List ℕ) (written : Result (Unit {0}) AllocError) (row : LogRow) (log : List LogRow) (place : ℕ)
    → slice_get log place ≡ Some row
    → OnOk written ((r : LogRow) → slice_get log place ≡ Some r → new ≡ old ++ reply_line (result_text One r.result)) → OnErr written (new ≡ old)
    → IsPushed (reply_line (result_text One row.result)) old (came_of written) new
row_pushed old new (Ok done) row log place at all none = all row at
row_pushed old new (Err fault) row log place at all none = none

-- what was pushed of a list's last element
pub last_pushed : (log front : List LogRow) (row : LogRow) (place : ℕ) (written : Result (Unit {0}) AllocError) (old new : List ℕ)
    → log ≡ front ++ row ∷ [] → place ≡ length log - 1
    → OnOk written ((r : LogRow) → slice_get log place ≡ Some r → new ≡ old ++ reply_line (result_text One r.result)) → OnErr written (new ≡ old)
    → IsPushed (reply_line (result_text One row.result)) old (came_of written) new
last_pushed log front row place written old new is last all none =
    let long : length log - 1 ≡ length front = omega (arith, ap length is, length-append front (row ∷ [])) in
    row_pushed old new written row log place
    (ap (λ l. slice_get l place) is ∙ ap (λ k. slice_get (front ++ row ∷ []) k) (last ∙ long) ∙ slice_get_pushed front row) all none

-- a call that was served, whose row is the last one
pub served : (d : DeskState) (centre : List ℕ) (ask : Ask) (how : Served) (e : DeskState) (log : List LogRow)
    (c : Came) (old new : List ℕ) → Makes d centre ask how e → log ≡ e.log
    → ((front : List LogRow) (row : LogRow) → log ≡ front ++ row ∷ [] → IsPushed (reply_line (result_text One row.result)) old c new)
    → IsCame d (Ok (Call centre ask)) old c new e
served d centre ask how e log c old new made is pushed =
    told d (Ok (Call centre ask)) (reply_line (result_text One made.result)) e old new c (Ok how, (made, refl))
    (pushed d.log (record { number = length d.log + 1; centre = centre; ask = Some ask; result = made.result }) (is ∙ made.log))

-- a log has a row once a call was served
pub some_row : (d : DeskState) (centre : List ℕ) (ask : Ask) (how : Served) (e : DeskState) (log : List LogRow)
    → Makes d centre ask how e → log ≡ e.log → 0 < length log
some_row d centre ask how e log made is =
    let row : LogRow = record { number = length d.log + 1; centre = centre; ask = Some ask; result = made.result } in
    omega (arith, ap length (is ∙ made.log), length-append d.log (row ∷ []))

-- a call that was refused
pub refused : (d : DeskState) (centre : List ℕ) (ask : Ask) (why : Refusal) (e : DeskState)
    (c : Came) (old new : List ℕ) → Refuses d centre ask why e → (why ≡ refusal.NoMemory → ⊥)
    → IsPushed (error_line (refusal_text One why)) old c new
    → IsCame d (Ok (Call centre ask)) old c new e
refused d centre ask why e c old new refuses not pushed =
    told d (Ok (Call centre ask)) (error_line (refusal_text One why)) e old new c (Err why, (not, refuses, refl)) pushed

-- a call that was served and waits, of which so much is told
pub waits_so : (d : DeskState) (centre : List ℕ) (ask : Ask) (e : DeskState) (old new : List ℕ)
    → Makes d centre ask desk_served.Pending e → new ≡ old ++ reply_line (codes "pending")
    → IsCame d (Ok (Call centre ask)) old came.GoesOn new e
waits_so d centre ask e old new made is =
    (reply_line (result_text One made.result), (Ok desk_served.Pending, (made, refl)), is ∙ ap (λ r. old ++ reply_line (result_text One r)) (sym made.served))

-- the pending call's reply, read off its row at the place where it was pending
got_row : (before after : List LogRow) (reply : Reply) (place : Option ℕ) → (answered : IsRowAnswered before reply after)
    → PendsAt before place → IfSome place (λ k. slice_get after k ≡ Some (replied answered.row reply))
got_row before after reply None answered pends = tt
got_row before after reply (Some k) answered pends = has_reply before after reply k pends.0 answered pends.1 pends.2

longer : (middle log : List LogRow) (behind row : LogRow) (place : Option ℕ) → log ≡ middle ++ behind ∷ []
    → IfSome place (λ k. slice_get middle k ≡ Some row) → IfSome place (λ k. slice_get log k ≡ Some row)
longer middle log behind row None is at = at
longer middle log behind row (Some k) is at = ap (λ l. slice_get l k) is ∙ slice_get_longer middle (behind ∷ []) k row at

-- what was told of a pending call
pub polled : (d e : DeskState) (log : List LogRow) (place : Option ℕ) (c : Came) (old new : List ℕ)
    → Polls d (Ok Answered) e → log ≡ e.log → PendsAt d.log place
    → ((row : LogRow) → IfSome place (λ k. slice_get log k ≡ Some row) → IsPushed (reply_line (result_text One row.result)) old c new)
    → IsCame d (Ok Poll) old c new e
polled d e log place c old new polls is pends pushed =
    let reply = polls.0 in
    let has = polls.1 in
    told d (Ok Poll) (reply_line (reply_text reply)) e old new c (Ok Answered, (reply, has, polls.2, refl))
    (pushed (replied has.answered.row reply)
    (longer has.middle log _ (replied has.answered.row reply) place (is ∙ has.log) (got_row d.log has.middle reply place has.answered pends)))

-- the reply for which a wait was
pub waited : (d e : DeskState) (log : List LogRow) (place : Option ℕ) (c : Came) (old new : List ℕ)
    → Gets d e → log ≡ e.log → PendsAt d.log place
    → ((row : LogRow) → IfSome place (λ k. slice_get log k ≡ Some row) → IsPushed (reply_line (result_text One row.result)) old c new)
    → IsCame d (Ok Wait) old c new e
waited d e log place c old new got is pends pushed =
    told d (Ok Wait) (reply_line (reply_text got.reply)) e old new c (Ok tt, (got, refl))
    (pushed (replied got.answered.row got.reply)
    (subst (λ (l : List LogRow). IfSome place (λ k. slice_get l k ≡ Some (replied got.answered.row got.reply))) (sym is)
    (got_row d.log e.log got.reply place got.answered pends)))
