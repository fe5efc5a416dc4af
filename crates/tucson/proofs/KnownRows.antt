-- Pending rows of a session stand at its centres, and at the end have no reply in the histories of these.
use Rattle.std.proofs.Common.{◌≡◌, ◌⊎◌, ◌+◌, ℕ, false, Option, Some, None, List, [], ◌∷◌, All, Contains, length, zero, suc}
use Rattle.std.proofs.Common.{refl, sym, subst, ap, ◌∙◌, ⊎_elim, arith, inl, inr}
use Rattle.std.specs.Prelude.{Result, Ok, Err}
use Rattle.std.proofs.lemmas.Bool.{true≢false}
use Rattle.std.proofs.lemmas.List.Elements.{All-append, All-cons, All-head, All-nil, All-tail}
use Rattle.std.proofs.lemmas.Option.{slice_get_within}
use Rattle.tc_lists.proofs.Elements.{All-append_left, All-append_right, All-slice_get}
use Rattle.tc_lists.proofs.Places.{slice_get-Contains}
use Rattle.tc_lists.proofs.Sets.{slice_get_inside}
use Rattle.tc_model.specs.Calls.{call_of}
use Rattle.tc_model.specs.Replies.{reply_in}
use Rattle.tc_model.specs.declared.asks.Ask.{Ask}
use Rattle.tc_model.specs.declared.entries.Entry.{Entry}
use Rattle.tc_model.specs.declared.outcomes.Reply.{Reply}
use Rattle.tc_desk.specs.Desks.{DeskState, HasRowOfPoll, IsRowAnswered, Refuses, refused_log, replied, with_row}
use Rattle.tc_desk.specs.Logs.{is_pending}
use Rattle.tc_desk.specs.declared.desks.DeskFault.{DeskFault}
use Rattle.tc_desk.specs.declared.desks.DeskFault.TheVariants as fault
use Rattle.tc_desk.specs.declared.desks.Seen.{Seen}
use Rattle.tc_desk.specs.declared.desks.Seen.TheVariants as seen
use Rattle.tc_desk.specs.declared.desks.Served.{Served}
use Rattle.tc_desk.specs.declared.rows.LogResult.{LogResult}
use Rattle.tc_desk.specs.declared.rows.LogResult.TheVariants.{Replied, Pending, Refused, Polled}
use Rattle.tc_desk.specs.declared.rows.LogRow.{LogRow}
use Rattle.tc_desk.specs.declared.rows.Refusal.{Refusal}
use Rattle.tc_desk.specs.declared.rows.Refusal.TheVariants as refusal
use Rattle.tc_lines.specs.declared.requests.BadLine.{BadLine}
use Rattle.tc_lines.specs.declared.requests.BadLine.TheVariants as bad
use Rattle.tc_lines.specs.declared.requests.LineAsk.{LineAsk}
use Rattle.tc_lines.specs.declared.requests.LineAsk.TheVariants.{Call, Poll, Wait, Quit}
use Rattle.tc_rows.specs.ServedRows.{AreUnanswered}
use Rattle.tc_session.specs.Answers.{Answers, AnswersCall, AnswersPoll, AnswersWait, FindsNoMemory}
use Rattle.tc_session.specs.Sessions.{EndsBy, EndsForMemory, LeadTo}
use Rattle.tc_session.specs.declared.endings.SessionEnd.{SessionEnd}
use Rattle.tc_session.specs.declared.endings.SessionEnd.TheVariants as end
use Rattle.tc_site.specs.Settling.{IsSettled, settled_by}
use Rattle.tc_visits.specs.Service.{log_left}
use Rattle.tc_visits.specs.Sessions.{IsSessionAt, SessionState}

-- whether a result is pending
pends : (r : LogResult) → (r ≡ Pending) ⊎ (r ≡ Pending → ⊥)
pends (Replied reply) = inr (λ is. true≢false (sym (ap is_pending is)))
pends Pending = inl refl
pends (Refused why) = inr (λ is. true≢false (sym (ap is_pending is)))
pends (Polled told) = inr (λ is. true≢false (sym (ap is_pending is)))

module _ (names : List (List ℕ)) where
  -- the row is pending at one of the centres alone
  abbrev IsKnown : LogRow → Type 0
  IsKnown row = row.result ≡ Pending → Contains names row.centre

  unless-pending : (row : LogRow) → is_pending row.result ≡ false → IsKnown row
  unless-pending row isnt is = absurd (true≢false (sym (ap is_pending is) ∙ isnt))

  more-known : (log : List LogRow) (centre : List ℕ) (ask : Option Ask) (became : LogResult)
      → (became ≡ Pending → Contains names centre) → All IsKnown log → All IsKnown (with_row log centre ask became)
  more-known log centre ask became known all =
      let row : LogRow = record { number = length log + 1; centre = centre; ask = ask; result = became } in
      All-append IsKnown log (row ∷ []) all (All-cons IsKnown row [] known (All-nil IsKnown))

  refused-known : (log : List LogRow) (centre : List ℕ) (ask : Ask) (why : Refusal) → All IsKnown log
      → ((r : Refusal) → All IsKnown (with_row log centre (Some ask) (Refused r)))
      → All IsKnown (refused_log log centre ask why)
  refused-known log centre ask refusal.UnknownCentre all one = one refusal.UnknownCentre
  refused-known log centre ask refusal.Waiting all one = one refusal.Waiting
  refused-known log centre ask refusal.Denied all one = one refusal.Denied
  refused-known log centre ask refusal.TooBig all one = one refusal.TooBig
  refused-known log centre ask refusal.NotGround all one = one refusal.NotGround
  refused-known log centre ask (refusal.BadSpec faulty) all one = one (refusal.BadSpec faulty)
  refused-known log centre ask refusal.TurnsSpent all one = one refusal.TurnsSpent
  refused-known log centre ask (refusal.Full weight pending) all one = one (refusal.Full weight pending)
  refused-known log centre ask refusal.NoMemory all one = all

  never-pending : (log : List LogRow) (centre : List ℕ) (ask : Option Ask) (became : LogResult) → is_pending became ≡ false
      → All IsKnown log → All IsKnown (with_row log centre ask became)
  never-pending log centre ask became isnt all =
      more-known log centre ask became (λ is. absurd (true≢false (sym (ap is_pending is) ∙ isnt))) all

  answered-known : (before : List LogRow) (reply : Reply) (after : List LogRow) → IsRowAnswered before reply after
      → All IsKnown before → All IsKnown after
  answered-known before reply after is all =
      let parts = subst (All IsKnown) is.from all in
      subst (All IsKnown) (sym is.to)
      (All-append IsKnown is.front (replied is.row reply ∷ is.back) (All-append_left IsKnown is.front (is.row ∷ is.back) parts)
      (All-cons IsKnown (replied is.row reply) is.back (unless-pending (replied is.row reply) refl)
      (All-tail IsKnown is.row is.back (All-append_right IsKnown is.front (is.row ∷ is.back) parts))))

  -- the desk is at these centres, and its pending rows are
  record IsKnownDesk (d : DeskState) : Type 0 where
    pub names_are : d.names ≡ names
    pub rows : All IsKnown d.log

  same-log : (d e : DeskState) → e.log ≡ d.log → IsKnownDesk d → All IsKnown e.log
  same-log d e same is = subst (All IsKnown) (sym same) is.rows

  refuses-known : (d : DeskState) (centre : List ℕ) (ask : Ask) (why : Refusal) (e : DeskState) → Refuses d centre ask why e
      → IsKnownDesk d → All IsKnown e.log
  refuses-known d centre ask why e refuses is =
      subst (All IsKnown) (sym refuses.log)
      (refused-known d.log centre ask why is.rows (λ r. never-pending d.log centre (Some ask) (Refused r) refl is.rows))

  call-known : (d : DeskState) (centre : List ℕ) (ask : Ask) (became : Result Served Refusal) (reply : List ℕ) (e : DeskState)
      → AnswersCall d centre ask became reply e → IsKnownDesk d → All IsKnown e.log
  call-known d centre ask (Ok how) reply e (made, told) is =
      subst (All IsKnown) (sym made.log)
      (more-known d.log centre (Some ask) made.result (λ _. subst (λ ns. Contains ns centre) is.names_are made.ready.known) is.rows)
  call-known d centre ask (Err why) reply e (found, refuses, told) is = refuses-known d centre ask why e refuses is

  polled-known : (d : DeskState) (told : Option Reply) (e : DeskState) (has : HasRowOfPoll d told e) → All IsKnown has.middle
      → All IsKnown e.log
  polled-known d told e has all =
      subst (All IsKnown) (sym has.log) (never-pending has.middle has.row.centre None (Polled told) refl all)

  poll-known : (d : DeskState) (became : Result Seen DeskFault) (reply : List ℕ) (e : DeskState) → AnswersPoll d became reply e
      → IsKnownDesk d → All IsKnown e.log
  poll-known d (Ok seen.Answered) reply e (told, has, waits, line) is =
      polled-known d (Some told) e has (answered-known d.log told has.middle has.answered is.rows)
  poll-known d (Ok seen.StillPending) reply e (has, waits, line) is =
      polled-known d None e has (subst (All IsKnown) (sym has.answered) is.rows)
  poll-known d (Err (fault.Full weight pending)) reply e (tells, line) is =
      subst (All IsKnown) (sym tells.log) (never-pending d.log tells.row.centre None (Refused (refusal.Full weight pending)) refl is.rows)
  poll-known d (Err fault.Idle) reply e (stays, line) is = same-log d e stays.log is
  poll-known d (Err fault.TurnsSpent) reply e (stays, line) is = same-log d e stays.log is
  poll-known d (Err fault.NoMemory) reply e never is = absurd never

  wait-known : (d : DeskState) (became : Result (Unit {0}) DeskFault) (reply : List ℕ) (e : DeskState) → AnswersWait d became reply e
      → IsKnownDesk d → All IsKnown e.log
  wait-known d (Ok done) reply e (got, line) is = answered-known d.log got.reply e.log got.answered is.rows
  wait-known d (Err fault.Idle) reply e (leaves, line) is = same-log d e leaves.log is
  wait-known d (Err fault.TurnsSpent) reply e (leaves, line) is = same-log d e leaves.log is
  wait-known d (Err (fault.Full weight pending)) reply e never is = absurd never
  wait-known d (Err fault.NoMemory) reply e never is = absurd never

  answers-known : (d : DeskState) (asked : Result LineAsk BadLine) (reply : List ℕ) (e : DeskState) → Answers d asked reply e
      → IsKnownDesk d → All IsKnown e.log
  answers-known d (Ok (Call centre ask)) reply e (became, came) is = call-known d centre ask became reply e came is
  answers-known d (Ok Poll) reply e (became, came) is = poll-known d became reply e came is
  answers-known d (Ok Wait) reply e (became, came) is = wait-known d became reply e came is
  answers-known d (Ok Quit) reply e never is = absurd never
  answers-known d (Err bad.Syntax) reply e (same, line) is = same-log d e (ap (λ (x : DeskState). x.log) same) is
  answers-known d (Err bad.Size) reply e (same, line) is = same-log d e (ap (λ (x : DeskState). x.log) same) is
  answers-known d (Err bad.Shape) reply e (same, line) is = same-log d e (ap (λ (x : DeskState). x.log) same) is
  answers-known d (Err bad.NoMemory) reply e never is = absurd never

  wanting-known : (d : DeskState) (asked : Result LineAsk BadLine) (e : DeskState) → FindsNoMemory d asked e → IsKnownDesk d
      → All IsKnown e.log
  wanting-known d (Ok (Call centre ask)) e refuses is = refuses-known d centre ask refusal.NoMemory e refuses is
  wanting-known d (Ok Poll) e stays is = same-log d e stays.log is
  wanting-known d (Ok Wait) e leaves is = same-log d e leaves.log is
  wanting-known d (Ok Quit) e never is = absurd never
  wanting-known d (Err bad.NoMemory) e same is = same-log d e (ap (λ (x : DeskState). x.log) same) is
  wanting-known d (Err bad.Syntax) e never is = absurd never
  wanting-known d (Err bad.Size) e never is = absurd never
  wanting-known d (Err bad.Shape) e never is = absurd never

  lines-known : (d : DeskState) (raws : List (List ℕ)) (text : List ℕ) (e : DeskState) → LeadTo d raws text e → IsKnownDesk d
      → IsKnownDesk e
  lines-known d [] text e (told, same) is = subst IsKnownDesk (sym same) is
  lines-known d (raw ∷ raws) text e (asked, reply, mid, rest, asks, answers, keeps, leads, told) is =
      lines-known mid raws rest e leads
      (record { names_are = keeps.kept.names ∙ is.names_are; rows = answers-known d asked reply mid answers is })

  wanted-known : (d : DeskState) (bytes last : List ℕ) (e : DeskState) → EndsForMemory d bytes last e → IsKnownDesk d → All IsKnown e.log
  wanted-known d bytes last e (inl (told, same)) is = same-log d e (ap (λ (x : DeskState). x.log) same) is
  wanted-known d bytes last e (inr (inl (asked, rest, begins, answers, keeps))) is = answers-known d asked last e answers is
  wanted-known d bytes last e (inr (inr (asked, rest, begins, wants, keeps, told))) is = wanting-known d asked e wants is

  ended-known : (d : DeskState) (bytes : List ℕ) (due : SessionEnd) (last : List ℕ) (e : DeskState) → EndsBy d bytes due last e
      → IsKnownDesk d → All IsKnown e.log
  ended-known d bytes end.Quit last e (begins, told, same) is = same-log d e (ap (λ (x : DeskState). x.log) same) is
  ended-known d bytes end.EndOfInput last e (whole, short, told, same) is = same-log d e (ap (λ (x : DeskState). x.log) same) is
  ended-known d bytes end.LineTooLong last e (whole, long, told, same) is = same-log d e (ap (λ (x : DeskState). x.log) same) is
  ended-known d bytes end.ReadFault last e (clear, few, told, same) is = same-log d e (ap (λ (x : DeskState). x.log) same) is
  ended-known d bytes end.WriteFault last e (told, same) is = same-log d e (ap (λ (x : DeskState). x.log) same) is
  ended-known d bytes end.NoMemory last e ends is = wanted-known d bytes last e ends is

  session-known : (s : SessionState) → IsSessionAt names s → All IsKnown s.log
  session-known s was =
      let session = was.session.session in
      let new : IsKnownDesk was.desk =
      record { names_are = was.new.names_are; rows = subst (All IsKnown) (sym was.new.log_is) (All-nil IsKnown) } in
      subst (All IsKnown) was.log_is
      (ended-known session.mid session.bytes session.due session.last was.after session.ends
      (lines-known was.desk session.raws session.text session.mid session.leads new))

  -- pending rows of what a session has left are at these centres
  left-known : (sessions : List SessionState) (agent : ℕ) → All (IsSessionAt names) sessions → All IsKnown (log_left sessions agent)
  left-known [] agent were = All-nil IsKnown
  left-known (s ∷ sessions) zero were = session-known s (All-head (IsSessionAt names) s sessions were)
  left-known (s ∷ sessions) (suc agent) were = left-known sessions agent (All-tail (IsSessionAt names) s sessions were)

  settled-centre : (o : Option Reply) (row : LogRow) → (settled_by o row).centre ≡ row.centre
  settled-centre None row = refl
  settled-centre (Some reply) row = refl

  settled-none : (o : Option Reply) (row : LogRow) → (settled_by o row).result ≡ Pending → o ≡ None
  settled-none None row is = refl
  settled-none (Some reply) row is = absurd (true≢false (sym (ap is_pending is)))

  -- a log that is settled has pending rows without a reply alone
  pub settled-unanswered : (histories : List (List Entry)) (agent : ℕ) (sessions : List SessionState) (log : List LogRow)
      → length histories ≡ length names → All (IsSessionAt names) sessions
      → IsSettled names histories agent (log_left sessions agent) log → AreUnanswered names histories agent log
  settled-unanswered histories agent sessions log whole were settled k place row history at waits named there =
      let left = log_left sessions agent in
      let old = slice_get_inside left k (omega (arith, slice_get_within log k row at, settled.whole)) in
      let step = settled.each k old.0 row old.1 at in
      ⊎_elim
      (λ (pending : old.0.result ≡ Pending).
      let known = All-slice_get IsKnown left k old.0 (left-known sessions agent were) old.1 pending in
      let other = slice_get_inside histories known.0 (omega (arith, known.1, whole)) in
      let settles : row ≡ settled_by (reply_in other.0 (call_of agent (k + 1))) old.0 =
      step.waits known.0 other.0 pending (slice_get-Contains names old.0.centre known) other.1 in
      let centre : row.centre ≡ old.0.centre =
      ap (λ (r : LogRow). r.centre) settles ∙ settled-centre (reply_in other.0 (call_of agent (k + 1))) old.0 in
      let now : row ≡ settled_by (reply_in history (call_of agent (k + 1))) old.0 =
      step.waits place history pending (named ∙ ap Some centre) there in
      settled-none (reply_in history (call_of agent (k + 1))) old.0 (sym (ap (λ (r : LogRow). r.result) now) ∙ waits))
      (λ (never : old.0.result ≡ Pending → ⊥).
      absurd (never (sym (ap (λ (r : LogRow). r.result) (step.others never)) ∙ waits)))
      (pends old.0.result)
