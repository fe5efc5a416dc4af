-- The row that was pending, once it has its reply.
use Rattle.std.proofs.Common.{◌≡◌, ◌≢◌, ℕ, ◌+◌, ◌-◌, ◌<◌, ◌≤◌, List, [], ◌∷◌, ◌++◌, Bool, true, false, IsTrue, nat_eq, Option, Some, None, Ok, Err, IsSomeAnd, length, refl, sym, ap, subst, ◌∙◌, append-nil, length-append, eq-eqb, ⊎_elim, arith}
use Rattle.std.proofs.lemmas.Option.{slice_get-get_or, slice_get_within}
use Rattle.std.proofs.lemmas.Bool.{cases_Bool, eqb-true, true≢false}
use Rattle.std.specs.List.{slice_get}
use Rattle.tc_lists.proofs.Places.{slice_get_beside, slice_get_longer, slice_get_pushed, slice_get_seam}
use Rattle.tc_desk.proofs.Logs.{any_pending-front, any_pending-none, any_pending-push_settled}
use Rattle.tc_desk.specs.Logs.{any_pending, is_pending}
use Rattle.tc_desk.specs.Desks.{DeskState, Gets, IsAnsweredIf, IsPendingRow, IsRowAnswered, Makes, Polls, Refuses, replied}
use Rattle.tc_desk.specs.declared.desks.DeskFault.{DeskFault}
use Rattle.tc_desk.specs.declared.desks.DeskFault.TheVariants as fault
use Rattle.tc_desk.specs.declared.desks.Seen.TheVariants.{Answered, StillPending}
use Rattle.tc_desk.specs.declared.desks.Served.TheVariants as served
use Rattle.tc_desk.specs.declared.rows.LogRow.{LogRow}
use Rattle.tc_desk.specs.declared.rows.LogResult.{LogResult}
use Rattle.tc_desk.specs.declared.rows.LogResult.TheVariants.{Pending, Polled, Refused}
use Rattle.tc_desk.specs.declared.rows.Refusal.{Refusal}
use Rattle.tc_desk.specs.declared.rows.Refusal.TheVariants as refusal
use Rattle.tc_session.specs.Answering.{PendsAt}
use Rattle.tc_model.specs.declared.asks.Ask.{Ask}
use Rattle.tc_model.specs.declared.outcomes.Reply.{Reply}

-- the row that was pending has the reply
pub has_reply : (before after : List LogRow) (reply : Reply) (place : ℕ) (row : LogRow)
    → (answered : IsRowAnswered before reply after) → slice_get before place ≡ Some row → row.result ≡ Pending
    → slice_get after place ≡ Some (replied answered.row reply)
has_reply before after reply place row answered at pending =
    let new = replied answered.row reply in
    let n = length answered.front in
    ⊎_elim
    (λ (here : nat_eq place n ≡ true). ap (λ k. slice_get after k) (eqb-true place n here)
    ∙ ap (λ l. slice_get l n) answered.to ∙ slice_get_seam answered.front new answered.back)
    (λ (elsewhere : nat_eq place n ≡ false). absurd (any_pending-none after place row answered.settled
    (ap (λ l. slice_get l place) answered.to
    ∙ sym (slice_get_beside answered.front answered.row new answered.back place (λ is. true≢false (sym (eq-eqb place n is) ∙ elsewhere)))
    ∙ ap (λ l. slice_get l place) (sym answered.from) ∙ at) pending))
    (cases_Bool (nat_eq place n))

-- a log without a row that is pending
pub none_pending : (log : List LogRow) → ((k : ℕ) (row : LogRow) → slice_get log k ≡ Some row → row.result ≡ Pending → ⊥) → any_pending log ≡ false
none_pending log none =
    any_pending-front log [] (λ k row at pending. absurd (none k row (ap (λ l. slice_get l k) (sym (append-nil log)) ∙ at) pending))

-- one row more was looked at, from the back, and isn't pending
pub behind_more : (log : List LogRow) (behind place : ℕ) (found : Bool) → place ≡ length log - 1 - behind
    → ((row : LogRow) → slice_get log place ≡ Some row → row.result ≡ Pending → IsTrue found) → (IsTrue found → ⊥)
    → ((k : ℕ) (row : LogRow) → slice_get log k ≡ Some row → row.result ≡ Pending → k + behind < length log)
    → (k : ℕ) (row : LogRow) → slice_get log k ≡ Some row → row.result ≡ Pending → k + (behind + 1) < length log
behind_more log behind place found is told unfound before k row at pending =
    let low = before k row at pending in
    ⊎_elim
    (λ (here : nat_eq k place ≡ true). absurd (unfound (told row (ap (λ n. slice_get log n) (sym (eqb-true k place here)) ∙ at) pending)))
    (λ (elsewhere : nat_eq k place ≡ false).
    let other : k ≢ place = λ same. true≢false (sym (eq-eqb k place same) ∙ elsewhere) in omega (arith, low, is, other))
    (cases_Bool (nat_eq k place))

-- a log with a pending row
pub has_pending : (log : List LogRow) (row : LogRow) → IsPendingRow log row → any_pending log ≡ false → ⊥
has_pending log row is none =
    let at = slice_get-get_or log is.stands.0 row is.stands.1 ∙ ap Some is.stands.2 in
    any_pending-none log is.stands.0 row none at is.pending

-- a reply in a row leaves the log as long
pub as_long : (log middle : List LogRow) (told : Option Reply) → IsAnsweredIf log told middle → length middle ≡ length log
as_long log middle (Some reply) answered =
    omega (arith, ap length answered.from, ap length answered.to, length-append answered.front (answered.row ∷ answered.back), length-append answered.front (replied answered.row reply ∷ answered.back))
as_long log middle None answered = ap length answered

within_middle : (log middle : List LogRow) (place : Option ℕ) → length log ≤ length middle → PendsAt log place
    → (any_pending log ≡ false → ⊥) → IsSomeAnd place (λ k. k < length middle)
within_middle log middle None long pends pending = absurd (pending pends)
within_middle log middle (Some k) long pends pending = let within = slice_get_within log k pends.0 pends.1 in omega (arith, within, long)

-- a poll that told a reply finds the place where the row was pending
pub polled_within : (d e : DeskState) (log : List LogRow) (place : Option ℕ) → Polls d (Ok Answered) e → log ≡ e.log
    → PendsAt d.log place → IsSomeAnd place (λ k. k < length log)
polled_within d e log place polls is pends =
    let row = polls.1 in
    let long = as_long d.log row.middle (Some polls.0) row.answered in
    within_middle d.log log place
    (omega (arith, long, ap length (is ∙ row.log), length-append row.middle (record { number = length row.middle + 1; centre = row.row.centre; ask = None; result = Polled (Some polls.0) } ∷ [])))
    pends (has_pending d.log row.row row.is)

-- and so does a wait
pub waited_within : (d e : DeskState) (log : List LogRow) (place : Option ℕ) → Gets d e → log ≡ e.log
    → PendsAt d.log place → IsSomeAnd place (λ k. k < length log)
waited_within d e log place got is pends =
    let a = got.answered in
    let long = as_long d.log e.log (Some got.reply) a in
    within_middle d.log log place (omega (arith, long, ap length is)) pends
    (λ settled. any_pending-none d.log (length a.front) a.row settled
    (ap (λ l. slice_get l (length a.front)) a.from ∙ slice_get_seam a.front a.row a.back) a.pending)

-- a row behind that isn't pending changes nothing
pends_behind : (log after : List LogRow) (row : LogRow) (place : Option ℕ) → PendsAt log place → is_pending row.result ≡ false
    → after ≡ log ++ row ∷ [] → PendsAt after place
pends_behind log after row None pends settled is = ap any_pending is ∙ any_pending-push_settled log row pends settled
pends_behind log after row (Some k) pends settled is =
    (pends.0, ap (λ l. slice_get l k) is ∙ slice_get_longer log (row ∷ []) k pends.0 pends.1, pends.2)

-- neither does a log that is the same
pub pends_same : (log after : List LogRow) (place : Option ℕ) → PendsAt log place → after ≡ log → PendsAt after place
pends_same log after place pends is = subst (λ (l : List LogRow). PendsAt l place) (sym is) pends

-- the row of a call with this result
abbrev made_row : DeskState → List ℕ → Ask → LogResult → LogRow
made_row d centre ask result = record { number = length d.log + 1; centre = centre; ask = Some ask; result = result }

-- a call that was replied to isn't pending
pub pends_made : (d : DeskState) (centre : List ℕ) (ask : Ask) (e : DeskState) (place : Option ℕ)
    → Makes d centre ask served.Replied e → PendsAt d.log place → PendsAt e.log place
pends_made d centre ask e place made pends =
    pends_behind d.log e.log (made_row d centre ask made.result) place pends (ap is_pending made.served.1) made.log

-- a call that waits is pending in the last row
pub pends_last : (d : DeskState) (centre : List ℕ) (ask : Ask) (e : DeskState) (log : List LogRow) (place : ℕ)
    → Makes d centre ask served.Pending e → log ≡ e.log → place ≡ length log - 1 → PendsAt e.log (Some place)
pends_last d centre ask e log place made is last =
    let row = made_row d centre ask made.result in
    let here : place ≡ length d.log = omega (arith, last, ap length (is ∙ made.log), length-append d.log (row ∷ [])) in
    (row, ap (λ l. slice_get l place) made.log ∙ ap (λ k. slice_get (d.log ++ row ∷ []) k) here ∙ slice_get_pushed d.log row, made.served)

-- a call that was refused isn't pending
pub pends_refused : (d : DeskState) (centre : List ℕ) (ask : Ask) (why : Refusal) (e : DeskState) (place : Option ℕ)
    → Refuses d centre ask why e → PendsAt d.log place → PendsAt e.log place
pends_refused d centre ask refusal.UnknownCentre e place refuses pends =
    pends_behind d.log e.log (made_row d centre ask (Refused refusal.UnknownCentre)) place pends refl refuses.log
pends_refused d centre ask refusal.Waiting e place refuses pends =
    pends_behind d.log e.log (made_row d centre ask (Refused refusal.Waiting)) place pends refl refuses.log
pends_refused d centre ask refusal.Denied e place refuses pends =
    pends_behind d.log e.log (made_row d centre ask (Refused refusal.Denied)) place pends refl refuses.log
pends_refused d centre ask refusal.TooBig e place refuses pends =
    pends_behind d.log e.log (made_row d centre ask (Refused refusal.TooBig)) place pends refl refuses.log
pends_refused d centre ask refusal.NotGround e place refuses pends =
    pends_behind d.log e.log (made_row d centre ask (Refused refusal.NotGround)) place pends refl refuses.log
pends_refused d centre ask (refusal.BadSpec bad) e place refuses pends =
    pends_behind d.log e.log (made_row d centre ask (Refused (refusal.BadSpec bad))) place pends refl refuses.log
pends_refused d centre ask refusal.TurnsSpent e place refuses pends =
    pends_behind d.log e.log (made_row d centre ask (Refused refusal.TurnsSpent)) place pends refl refuses.log
pends_refused d centre ask (refusal.Full weight pending) e place refuses pends =
    pends_behind d.log e.log (made_row d centre ask (Refused (refusal.Full weight pending))) place pends refl refuses.log
pends_refused d centre ask refusal.NoMemory e place refuses pends = pends_same d.log e.log place pends refuses.log

-- the row of a poll with this result
abbrev poll_row : List LogRow → List ℕ → LogResult → LogRow
poll_row log centre result = record { number = length log + 1; centre = centre; ask = None; result = result }

-- no call is pending once a poll told its reply
pub pends_told : (d e : DeskState) → Polls d (Ok Answered) e → PendsAt e.log None
pends_told d e polls =
    let has = polls.1 in
    ap any_pending has.log ∙ any_pending-push_settled has.middle (poll_row has.middle has.row.centre (Polled (Some polls.0))) has.answered.settled refl

-- the call stays pending that a poll found so
pub pends_still : (d e : DeskState) (place : Option ℕ) → Polls d (Ok StillPending) e → PendsAt d.log place → PendsAt e.log place
pends_still d e place polls pends =
    let has = polls.0 in
    pends_behind has.middle e.log (poll_row has.middle has.row.centre (Polled None)) place (pends_same d.log has.middle place pends has.answered) refl has.log

-- and where a poll told nothing
pub pends_unpolled : (d e : DeskState) (why : DeskFault) (place : Option ℕ) → Polls d (Err why) e → PendsAt d.log place → PendsAt e.log place
pends_unpolled d e (fault.Full weight pending) place told pends =
    pends_behind d.log e.log (poll_row d.log told.row.centre (Refused (refusal.Full weight pending))) place pends refl told.log
pends_unpolled d e fault.Idle place stays pends = pends_same d.log e.log place pends stays.log
pends_unpolled d e fault.TurnsSpent place stays pends = pends_same d.log e.log place pends stays.log
pends_unpolled d e fault.NoMemory place stays pends = pends_same d.log e.log place pends stays.log
