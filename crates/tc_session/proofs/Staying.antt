-- Where a line leaves the log as it was, and what turns and replies of lines add up to.
use Rattle.std.proofs.Common.{◌≡◌, ◌⊎◌, ℕ, ◌+◌, ◌≤◌, List, [], ◌∷◌, ◌++◌, false, Some, None, Result, Ok, Err, length, inl, inr, refl, sym, ap, subst, ◌∙◌, append_assoc, length-append, arith}
use Rattle.std.specs.Prelude.{slice_get, slice_index}
use Rattle.tc_lists.proofs.Places.{slice_get_seam}
use Rattle.tc_desk.proofs.Logs.{any_pending-none}
use Rattle.tc_desk.specs.Desks.{DeskState, Gets, HasNoTurnLeft, IsPendingRow, TakesTurn, refused_log}
use Rattle.tc_desk.specs.Logs.{any_pending}
use Rattle.tc_model.specs.declared.asks.Ask.{Ask}
use Rattle.tc_desk.specs.declared.rows.LogRow.{LogRow}
use Rattle.tc_desk.specs.declared.rows.Refusal.{Refusal}
use Rattle.tc_desk.specs.declared.rows.Refusal.TheVariants as refusal
use Rattle.tc_desk.specs.declared.desks.Seen.TheVariants.{Answered, StillPending}
use Rattle.tc_desk.specs.declared.desks.DeskFault.TheVariants as fault
use Rattle.tc_lines.specs.declared.requests.BadLine.{BadLine}
use Rattle.tc_lines.specs.declared.requests.BadLine.TheVariants as bad
use Rattle.tc_lines.specs.declared.requests.LineAsk.{LineAsk}
use Rattle.tc_lines.specs.declared.requests.LineAsk.TheVariants.{Call, Poll, Wait, Quit}
use Rattle.tc_session.proofs.Pending.{as_long, has_pending}
use Rattle.tc_session.specs.Answers.{Answers}
use Rattle.tc_session.specs.Sessions.{LeadTo}
use Rattle.tc_session.specs.Staying.{HasOneCall, LogStays}

-- the turns and the entries seen, over several lines
pub turns_fall : (d : DeskState) (raws : List (List ℕ)) (text : List ℕ) (e : DeskState) → LeadTo d raws text e → (k : ℕ)
    → slice_index d.turns k + slice_index d.seen k ≤ slice_index e.turns k + slice_index e.seen k + length raws
turns_fall d [] text e leads k =
    let is : e ≡ d = leads.1 in
    subst (λ (m : DeskState). slice_index d.turns k + slice_index d.seen k ≤ slice_index m.turns k + slice_index m.seen k + 0) (sym is) (omega arith)
turns_fall d (raw ∷ raws) text e leads k =
    let mid = leads.2 in
    let first = leads.6.turns.most k in
    let rest = turns_fall mid raws leads.3 e leads.7 k in
    omega (arith, first, rest)

-- several lines, and more behind them
pub replies_split : (d : DeskState) (raws more : List (List ℕ)) (text : List ℕ) (e : DeskState) → LeadTo d (raws ++ more) text e
    → (mid : DeskState) × (front : List ℕ) × (rest : List ℕ)
    × LeadTo d raws front mid × LeadTo mid more rest e × (text ≡ front ++ rest)
replies_split d [] more text e leads = (d, [], text, (refl, refl), leads, refl)
replies_split d (raw ∷ raws) more text e leads =
    let behind = replies_split leads.2 raws more leads.3 e leads.7 in (
      behind.0,
      leads.1 ++ behind.1,
      behind.2,
      (leads.0, leads.1, leads.2, behind.1, leads.4, leads.5, leads.6, behind.3, refl),
      behind.4,
      leads.8 ∙ ap (λ l. leads.1 ++ l) behind.5 ∙ sym (append_assoc leads.1 behind.1 behind.2),
    )

-- a log that has grown is another
grown : (log middle : List LogRow) (row : LogRow) → length middle ≡ length log → log ≡ middle ++ row ∷ [] → ⊥
grown log middle row long same = omega (arith, long, ap length same, length-append middle (row ∷ []))

-- a call that was refused has a row, but for want of memory
refused_grown : (d : DeskState) (centre : List ℕ) (asked : Ask) (why : Refusal) → (why ≡ refusal.NoMemory → ⊥)
    → d.log ≡ refused_log d.log centre asked why → ⊥
refused_grown d centre asked refusal.UnknownCentre not same = grown d.log d.log _ refl same
refused_grown d centre asked refusal.Waiting not same = grown d.log d.log _ refl same
refused_grown d centre asked refusal.Denied not same = grown d.log d.log _ refl same
refused_grown d centre asked refusal.TooBig not same = grown d.log d.log _ refl same
refused_grown d centre asked refusal.NotGround not same = grown d.log d.log _ refl same
refused_grown d centre asked (refusal.BadSpec why) not same = grown d.log d.log _ refl same
refused_grown d centre asked refusal.TurnsSpent not same = grown d.log d.log _ refl same
refused_grown d centre asked (refusal.Full weight pending) not same = grown d.log d.log _ refl same
refused_grown d centre asked refusal.NoMemory not same = not refl

got_none : (d e : DeskState) → Gets d e → e.log ≡ d.log → ⊥
got_none d e got same =
    let a = got.answered in
    any_pending-none d.log (length a.front) a.row (ap any_pending (sym same) ∙ a.settled)
    (ap (λ l. slice_get l (length a.front)) a.from ∙ slice_get_seam a.front a.row a.back) a.pending

-- a line that left the log as it was
pub stays_only : (d : DeskState) (asked : Result LineAsk BadLine) (reply : List ℕ) (e : DeskState)
    → Answers d asked reply e → e.log ≡ d.log → LogStays d asked e
stays_only d (Ok (Call centre ask)) reply e (Ok how, came) same = grown d.log d.log _ refl (sym same ∙ came.0.log)
stays_only d (Ok (Call centre ask)) reply e (Err why, came) same = refused_grown d centre ask why came.0 (sym same ∙ came.1.log)
stays_only d (Ok Poll) reply e (Ok Answered, came) same =
    let row = came.1 in absurd (grown d.log row.middle _ (as_long d.log row.middle (Some came.0) row.answered) (sym same ∙ row.log))
stays_only d (Ok Poll) reply e (Ok StillPending, came) same =
    let row = came.0 in absurd (grown d.log row.middle _ (as_long d.log row.middle None row.answered) (sym same ∙ row.log))
stays_only d (Ok Poll) reply e (Err (fault.Full weight pending), came) same = absurd (grown d.log d.log _ refl (sym same ∙ came.0.log))
stays_only d (Ok Poll) reply e (Err fault.Idle, came) same = inl came.0.can.0
stays_only d (Ok Poll) reply e (Err fault.TurnsSpent, came) same = inr came.0.can.0
stays_only d (Ok Poll) reply e (Err fault.NoMemory, came) same = absurd came
stays_only d (Ok Wait) reply e (Ok done, came) same = absurd (got_none d e came.0 same)
stays_only d (Ok Wait) reply e (Err fault.Idle, came) same = inl came.0.can.0
stays_only d (Ok Wait) reply e (Err fault.TurnsSpent, came) same = inr came.0.can.0
stays_only d (Ok Wait) reply e (Err (fault.Full weight pending), came) same = absurd came
stays_only d (Ok Wait) reply e (Err fault.NoMemory, came) same = absurd came
stays_only d (Ok Quit) reply e came same = tt
stays_only d (Err why) reply e came same = tt

-- no turn is taken where none is left
no_turn : (d e : DeskState) (row : LogRow) → HasOneCall d → IsPendingRow d.log row → TakesTurn d row.centre e → HasNoTurnLeft d → ⊥
no_turn d e row one is turn left =
    let same : row.centre ≡ left.row.centre = ap (λ (r : LogRow). r.centre) (one.one row left.row is left.is) in
    let place : turn.place ≡ left.none.place = one.named turn.place left.none.place row.centre turn.named (left.none.named ∙ ap Some (sym same)) in
    omega (arith, turn.one, ap (λ k. slice_index d.turns k) place, left.none.none)

polled_so : (d e : DeskState) (row : LogRow) → HasOneCall d → IsPendingRow d.log row → TakesTurn d row.centre e
    → (any_pending d.log ≡ false) ⊎ HasNoTurnLeft d → ⊥
polled_so d e row one is turn (inl none) = has_pending d.log row is none
polled_so d e row one is turn (inr left) = no_turn d e row one is turn left

got_so : (d e : DeskState) → Gets d e → (any_pending d.log ≡ false) ⊎ HasNoTurnLeft e → ⊥
got_so d e got (inl none) =
    let a = got.answered in
    any_pending-none d.log (length a.front) a.row none (ap (λ l. slice_get l (length a.front)) a.from ∙ slice_get_seam a.front a.row a.back) a.pending
got_so d e got (inr left) = has_pending e.log left.row left.is got.answered.settled

-- a line that leaves the log as it was
pub stays_always : (d : DeskState) (asked : Result LineAsk BadLine) (reply : List ℕ) (e : DeskState)
    → Answers d asked reply e → HasOneCall d → LogStays d asked e → e.log ≡ d.log
stays_always d (Ok (Call centre ask)) reply e came one stays = absurd stays
stays_always d (Ok Poll) reply e (Ok Answered, came) one stays = absurd (polled_so d e came.1.row one came.1.is came.1.turn stays)
stays_always d (Ok Poll) reply e (Ok StillPending, came) one stays = absurd (polled_so d e came.0.row one came.0.is came.0.turn stays)
stays_always d (Ok Poll) reply e (Err (fault.Full weight pending), came) one stays = absurd (polled_so d e came.0.row one came.0.is came.0.turn stays)
stays_always d (Ok Poll) reply e (Err fault.Idle, came) one stays = came.0.log
stays_always d (Ok Poll) reply e (Err fault.TurnsSpent, came) one stays = came.0.log
stays_always d (Ok Poll) reply e (Err fault.NoMemory, came) one stays = absurd came
stays_always d (Ok Wait) reply e (Ok done, came) one stays = absurd (got_so d e came.0 stays)
stays_always d (Ok Wait) reply e (Err fault.Idle, came) one stays = came.0.log
stays_always d (Ok Wait) reply e (Err fault.TurnsSpent, came) one stays = came.0.log
stays_always d (Ok Wait) reply e (Err (fault.Full weight pending), came) one stays = absurd came
stays_always d (Ok Wait) reply e (Err fault.NoMemory, came) one stays = absurd came
stays_always d (Ok Quit) reply e came one stays = absurd came
stays_always d (Err bad.Syntax) reply e came one stays = ap (λ (m : DeskState). m.log) came.0
stays_always d (Err bad.Size) reply e came one stays = ap (λ (m : DeskState). m.log) came.0
stays_always d (Err bad.Shape) reply e came one stays = ap (λ (m : DeskState). m.log) came.0
stays_always d (Err bad.NoMemory) reply e came one stays = absurd came
