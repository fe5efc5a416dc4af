-- A desk after a poll: its pass of the pending row's centre has gone on, and its log has a row of the poll.
use Rattle.std.proofs.Common.{◌≡◌, ℕ, zero, suc, ◌+◌, ◌<◌, true, false, List, [], ◌∷◌, ◌++◌, Option, Some, None, Ok, Err, Result, All, Contains, length, set, refl, sym, ap, ◌∙◌, subst, arith, ◌⊎◌, inl, inr, ⊎_elim}
use Rattle.std.specs.List.{slice_get, list_any}
use Rattle.std.specs.Option.{is_none}
use Rattle.std.proofs.lemmas.Bool.{or_parts, true≢false}
use Rattle.std.proofs.lemmas.List.{append_assoc, length-append}
use Rattle.std.proofs.lemmas.List.Elements.{All-cons, All-nil, Contains-append_right}
use Rattle.std.proofs.lemmas.Option.{none-some, same_Some, slice_get_within, get_or_from_slice_get}
use Rattle.tc_centre.specs.declared.answers.Poll.{Poll}
use Rattle.tc_centre.specs.declared.answers.Poll.TheVariants as poll
use Rattle.tc_desk.specs.Agreeing.{AgreesRow, HasRow, IsLastServed}
use Rattle.tc_desk.specs.Decided.{IsDecided, IsRead}
use Rattle.tc_desk.specs.Desks as desks
use Rattle.tc_desk.specs.Desks.{IsRowAnswered, Keeps, Polls, Spends, StandsStill, TakesTurn, TakesTurnAtPending, TellsFull, replied, with_row}
use Rattle.tc_desk.specs.Logs.{is_served}
use Rattle.tc_desk.specs.declared.desks.DeskFault.{DeskFault}
use Rattle.tc_desk.specs.declared.desks.DeskFault.TheVariants as fault
use Rattle.tc_desk.specs.declared.desks.Seen.{Seen}
use Rattle.tc_desk.specs.declared.desks.Seen.TheVariants as seen
use Rattle.tc_desk.specs.declared.rows.LogResult.{LogResult}
use Rattle.tc_desk.specs.declared.rows.LogResult.TheVariants.{Refused, Polled}
use Rattle.tc_desk.specs.declared.rows.LogRow.{LogRow}
use Rattle.tc_desk.specs.declared.rows.Refusal.TheVariants as refusal
use Rattle.tc_desk.proofs.Fitting.{reply-fits_ask}
use Rattle.tc_lists.proofs.Places.{slice_get_push, slice_get_pushed, Contains-slice_get}
use Rattle.tc_model.specs.Calls.{id_of, same_id, call_of}
use Rattle.tc_model.specs.Replies.{reply_in}
use Rattle.tc_model.specs.State.{Origin}
use Rattle.tc_model.specs.declared.asks.Primitive.{Primitive}
use Rattle.tc_model.specs.declared.entries.Entry.{Entry}
use Rattle.tc_model.specs.declared.entries.Entry.TheVariants.{Looked}
use Rattle.tc_model.specs.declared.outcomes.Reply.{Reply}
use Rattle.tc_model.proofs.Histories.{same_id-below}
use Rattle.tc_model.proofs.NextEntry.{reply_in-other, same_id-back}
use Rattle.tc_shared.specs.Passes as passes
use Rattle.tc_shared.specs.Passes.{SeesFull, SeesRoom, PollsInTurn}
use Rattle.tc_turn.specs.Passes.{TurnstileState, PassState}
use Rattle.tc_site.specs.Desks.{AgentState, IsDesk, IsDecidedLog, IsWaitingAt, WardenPermits, counts_of, desk_of, turns_of}
use Rattle.tc_site.specs.Looking.{HasRowReply, still_of}
use Rattle.tc_site.specs.Polling.{HasToldReply, IsPolled}
use Rattle.tc_site.specs.Sites.{IsOwnPass, histories_of}
use Rattle.tc_site.specs.Turns.{HasGrown}
use Rattle.tc_site.specs.declared.waiting.WaitingAt.{WaitingAt}
use Rattle.tc_site.proofs.Calling.{grown-same, grown-sees}
use Rattle.tc_lists.proofs.Sets.{slice_get-map_at, slice_get-set_same, set-slice_get}
use Rattle.tc_site.proofs.Putting.{put-settled, unserved-settled}
use Rattle.tc_site.proofs.Seeing.{HasSeen, answered-desk, answered-read, answered-sound, later-desk, none-left, pending-row, pending-some, row-at, same-desk, seen-same, seen-sees, stands}
use Rattle.tc_site.proofs.Told.{Goes, goes-after, goes-same, keeps-gone, spends-gone, takes-gone}
use Rattle.tc_site.proofs.Turned.{desk-pushed, own-pass, pass-free, pass-next, rows-made, rows-same, waits-behind, was-full}

-- a log with a row of a poll behind it
module _ (log : List LogRow) (centre : List ℕ) (result : LogResult) where
  abbrev new : LogRow
  new = record { number = length log + 1; centre = centre; ask = None; result = result }

  pub read-polled : IsRead log → IsRead (with_row log centre None result)
  read-polled read k x ask at has =
      ⊎_elim
      (λ (before : (k < length log) × (slice_get log k ≡ Some x)). read k x ask before.1 has)
      (λ (last : (k ≡ length log) × (x ≡ new)).
      absurd (none-some ask (sym (ap (λ (r : LogRow). r.ask) last.1) ∙ has)))
      (slice_get_push log new k x at)

  pub decided-polled : (permits : ℕ → Primitive → Type 0) (names : List (List ℕ)) → IsDecided permits names log → IsDecided permits names (with_row log centre None result)
  decided-polled permits names decided = record {
    read = read-polled decided.read;
    decided = λ k x ask place at has named.
        ⊎_elim
        (λ (before : (k < length log) × (slice_get log k ≡ Some x)). decided.decided k x ask place before.1 has named)
        (λ (last : (k ≡ length log) × (x ≡ new)).
        absurd (none-some ask (sym (ap (λ (r : LogRow). r.ask) last.1) ∙ has)))
        (slice_get_push log new k x at);
  }

-- no row of these was served
none-served : (rows : List LogRow) (k : ℕ) (x : LogRow) → list_any (λ (r : LogRow). is_served r.result) rows ≡ false → slice_get rows k ≡ Some x
    → is_served x.result ≡ true → ⊥
none-served [] k x none at served = none-some x at
none-served (y ∷ ys) zero x none at served =
    let parts = or_parts (is_served y.result) (list_any (λ (r : LogRow). is_served r.result) ys) none in
    true≢false (sym served ∙ ap (λ (r : LogRow). is_served r.result) (sym (same_Some y x at)) ∙ parts.0)
none-served (y ∷ ys) (suc k) x none at served =
    let parts = or_parts (is_served y.result) (list_any (λ (r : LogRow). is_served r.result) ys) none in
    none-served ys k x parts.1 at served

-- what stands behind the middle of a list
behind-middle : (front : List LogRow) (row : LogRow) (back : List LogRow) (j : ℕ) (x : LogRow) → length front < j → slice_get (front ++ row ∷ back) j ≡ Some x
    → (k : ℕ) × (slice_get back k ≡ Some x)
behind-middle [] row back zero x before at = absurd (omega (arith, before))
behind-middle [] row back (suc j) x before at = (j, at)
behind-middle (y ∷ front) row back zero x before at = absurd (omega (arith, before))
behind-middle (y ∷ front) row back (suc j) x before at = behind-middle front row back j x (omega (arith, before)) at

-- the pending row is the last one that was served
last-served : (names : List (List ℕ)) (log : List LogRow) (w : WaitingAt) (waiting : IsWaitingAt names log w) → slice_get log w.row ≡ Some waiting.row_is
    → IsLastServed log (length log) waiting.row_is
last-served names log w waiting here = record {
  place = w.row;
  before = slice_get_within log w.row waiting.row_is here;
  stands = here;
  served = ap is_served waiting.pending;
  last = λ j other behind inside at served.
      let place = waiting.place in
      let after = behind-middle waiting.front waiting.row_is waiting.back j other (omega (arith, place, behind))
      (sym (ap (λ l. slice_get l j) waiting.from) ∙ at) in
      none-served waiting.back after.0 other waiting.unserved_behind after.1 served;
}

module _ {W : Type 0} (d : AgentState W) (is : IsDesk d) (free : is_none d.held ≡ true)
    (w : WaitingAt) (waiting : IsWaitingAt d.site.names d.log w) (t : TurnstileState Origin) (p : PassState Entry Origin)
    (at-t : slice_get d.site.centres w.centre ≡ Some t) (at-p : slice_get d.passes w.centre ≡ Some p) where
  abbrev centre : List ℕ
  centre = waiting.row_is.centre

  abbrev next : ℕ
  next = length d.log + 1

  abbrev asked : ℕ
  asked = w.row + 1

  -- the row of a poll
  abbrev row-of : LogResult → LogRow
  row-of result = record { number = length d.log + 1; centre = waiting.row_is.centre; ask = None; result = result }

  pub polled-next : All (λ e. (id_of e).number < length d.log + 1) p.mine
  polled-next = pass-next d is free w.centre waiting.row_is.centre waiting.named t p at-t at-p (length d.log + 1) refl

  own : IsOwnPass d.agent t p
  own = own-pass d is free w.centre centre waiting.named t p at-t at-p

  held : p.holds ≡ false
  held = pass-free d is free w.centre centre waiting.named t p at-t at-p

  here : slice_get d.log w.row ≡ Some waiting.row_is
  here = stands d is w waiting

  module _ (q : PassState Entry Origin) (keeps : passes.KeepsPass t p q) where
    -- the desk with this log
    abbrev now : List LogRow → Option WaitingAt → AgentState W
    now log pending = record { site = d.site; agent = d.agent; passes = set d.passes w.centre q; log = log; pending = pending; held = d.held }

    at-q : slice_get (set d.passes w.centre q) w.centre ≡ Some q
    at-q = slice_get-set_same d.passes w.centre q p at-p

    seen-at : slice_get (histories_of (set d.passes w.centre q)) w.centre ≡ Some q.seen
    seen-at = slice_get-map_at (λ (x : PassState Entry Origin). x.seen) (set d.passes w.centre q) w.centre q at-q

    -- a poll that was told something
    module _ (told : Poll) (m : PollsInTurn t p (length d.log + 1) (w.row + 1) told q) where
      abbrev entry : Entry
      entry = Looked (call_of p.number next) asked m.reply

      abbrev row : LogRow
      row = row-of (Polled m.reply)

      seen-is : q.seen ≡ m.found ++ entry ∷ []
      seen-is = ap (λ (x : PassState Entry Origin). x.seen) m.after

      mine-is : q.mine ≡ p.mine ++ entry ∷ []
      mine-is = ap (λ (x : PassState Entry Origin). x.mine) m.after

      told-grown : HasGrown (length d.log) p q
      told-grown = record {
        more = m.finds.known.0 ++ entry ∷ [];
        grown = seen-is ∙ ap (λ es. es ++ entry ∷ []) (sym m.finds.known.1) ∙ append_assoc p.seen m.finds.known.0 (entry ∷ []);
        mine = entry ∷ [];
        mine_is = mine-is;
        above = All-cons (λ e. length d.log < (id_of e).number) entry [] (omega arith) (All-nil (λ e. length d.log < (id_of e).number));
      }

      entry-stands : Contains q.seen (Looked (call_of d.agent next) waiting.row_is.number m.reply)
      entry-stands =
          let head : Contains (entry ∷ []) entry = (0, omega arith, refl) in
          let there : Contains q.seen entry = subst (λ es. Contains es entry) (sym seen-is) (Contains-append_right m.found (entry ∷ []) entry head) in
          subst (λ n. Contains q.seen (Looked (call_of d.agent next) n m.reply)) (sym (is.agrees.numbers w.row waiting.row_is here))
          (subst (λ n. Contains q.seen (Looked (call_of n next) asked m.reply)) own.number there)

      told-agrees : AgreesRow t.origin q.seen (call_of d.agent (length d.log + 1)) d.log (length d.log) row (Polled m.reply)
      told-agrees = record {
        earlier = waiting.row_is;
        last = last-served d.site.names d.log w waiting here;
        there = refl;
        stands = entry-stands;
      }

      entry-row : HasRow (d.log ++ row ∷ []) centre entry
      entry-row = record {
        k = length d.log;
        counted = refl;
        row = row;
        stands = slice_get_pushed d.log row;
        there = refl;
        made = refl;
      }

      told-desk : IsDesk (now (with_row d.log centre None (Polled m.reply)) (Some w))
      told-desk =
          desk-pushed d is free w.centre centre waiting.named t p at-t at-p q keeps row (Some w) refl refl told-grown told-agrees
          (Contains-slice_get d.site.names w.centre centre waiting.named)
          (rows-made d is free w.centre centre waiting.named t p at-t at-p q keeps row entry mine-is entry-row)
          (waits-behind d.site.names d.log w row waiting refl)

      -- the reply that was told is the one that is known
      told-reply : reply_in q.seen (call_of p.number asked) ≡ m.reply
      told-reply =
          let within = slice_get_within d.log w.row waiting.row_is here in
          let less : w.row + 1 < length d.log + 1 = omega (arith, within) in
          let other : same_id (call_of p.number next) (call_of p.number asked) ≡ false =
          same_id-back (call_of p.number asked) (call_of p.number next) (same_id-below (call_of p.number asked) (call_of p.number next) (λ same. less)) in
          ap (λ es. reply_in es (call_of p.number asked)) seen-is ∙ reply_in-other m.found entry (call_of p.number asked) other ∙ sym m.is

      told-takes : (log : List LogRow) (pending : Option WaitingAt) → TakesTurn (desk_of d) centre (desk_of (now log pending))
      told-takes log pending =
          takes-gone d w.centre p q at-p log pending centre waiting.named m.finds.left (ap (λ (x : PassState Entry Origin). x.turns) m.after)

      told-goes : Goes p q
      told-goes = goes-after t p q (m.found ++ entry ∷ []) (p.mine ++ entry ∷ []) m.after

    -- a poll that found no reply
    module _ (m : PollsInTurn t p (length d.log + 1) (w.row + 1) poll.NotYet q) (log : List LogRow) (log-is : log ≡ with_row d.log waiting.row_is.centre None (Polled None)) where
      waiting-desk : IsDesk (now log (Some w))
      waiting-desk =
          subst (λ l. IsDesk (now l (Some w))) (sym log-is)
          (subst (λ o. IsDesk (now (with_row d.log centre None (Polled o)) (Some w))) m.poll (told-desk poll.NotYet m))

      waiting-waits : (desk_of (now log (Some w))).waits ≡ true
      waiting-waits =
          ap (λ h. is_none (reply_in h (call_of d.agent asked))) (get_or_from_slice_get (histories_of (set d.passes w.centre q)) w.centre q.seen [] seen-at)
          ∙ ap (λ n. is_none (reply_in q.seen (call_of n asked))) (sym own.number) ∙ ap is_none (told-reply poll.NotYet m ∙ m.poll)

      waiting-tells : desks.HasRowOfPoll (desk_of d) None (desk_of (now log (Some w)))
      waiting-tells = record {
        row = waiting.row_is;
        is = pending-row d is w waiting;
        turn = told-takes poll.NotYet m log (Some w);
        middle = d.log;
        answered = refl;
        log = log-is;
      }

    -- a poll that found the reply
    module _ (log : List LogRow) (m : HasToldReply t w.row p waiting.row_is.centre d.log q log) where
      abbrev found : Poll
      found = poll.Answered m.reply m.again

      abbrev last : LogRow
      last = row-of (Polled (Some m.again))

      -- the desk before the pending row gets the reply
      abbrev d1 : AgentState W
      d1 = now (with_row d.log centre None (Polled (Some m.again))) (Some w)

      told-again : m.tells.reply ≡ Some m.again
      told-again = m.tells.poll.0 ∙ ap Some (sym m.tells.poll.1)

      is1 : IsDesk d1
      is1 = subst (λ o. IsDesk (now (with_row d.log centre None (Polled o)) (Some w))) told-again (told-desk found m.tells)

      abbrev waiting1 : IsWaitingAt d.site.names (d.log ++ last ∷ []) w
      waiting1 = waits-behind d.site.names d.log w last waiting refl

      kept1 : passes.KeepsPass t q q
      kept1 = record { own = keeps.own; number = refl; free = keeps.free }

      reply-at : reply_in q.seen (call_of d.agent asked) ≡ Some m.reply
      reply-at = ap (λ n. reply_in q.seen (call_of n asked)) (sym own.number) ∙ told-reply found m.tells ∙ m.tells.poll.0

      has : HasRowReply w.row d1.log q log
      has = record {
        reply = m.reply;
        told = ap (λ n. reply_in q.seen (call_of n asked)) (keeps.number ∙ own.number) ∙ reply-at;
        put = m.put;
      }

      found-desk : IsDesk (now log None)
      found-desk =
          subst (λ xs. IsDesk (record { site = d.site; agent = d.agent; passes = xs; log = log; pending = None; held = d.held }))
          (set-slice_get (set d.passes w.centre q) w.centre q at-q)
          (answered-desk d1 is1 w waiting1 t q at-t at-q q kept1 keeps.free (seen-same q q refl) log has)

      found-read : IsRead d.log → IsRead log
      found-read read =
          answered-read d1 is1 w waiting1 t q at-t at-q q kept1 keeps.free (seen-same q q refl) log has
          (read-polled d.log centre (Polled (Some m.again)) read)

      found-sound : (permits : W → ℕ → ℕ → Primitive → Option ℕ) → IsDecidedLog permits d.site d.agent d.log → IsDecidedLog permits d.site d.agent log
      found-sound permits sound =
          answered-sound d1 is1 w waiting1 t q at-t at-q q kept1 keeps.free (seen-same q q refl) log has permits
          (λ role at. decided-polled d.log centre (Polled (Some m.again)) (WardenPermits permits d.site.warden role) d.site.names (sound role at))

      abbrev middle : List LogRow
      middle = waiting.front ++ replied waiting.row_is m.reply ∷ waiting.back

      middle-count : length d.log ≡ length middle
      middle-count =
          ap length waiting.from ∙ length-append waiting.front (waiting.row_is ∷ waiting.back)
          ∙ sym (length-append waiting.front (replied waiting.row_is m.reply ∷ waiting.back))

      found-log : log ≡ with_row middle centre None (Polled (Some m.reply))
      found-log =
          let row-at-n : ℕ → Reply → LogRow = λ n r. record { number = n + 1; centre = waiting.row_is.centre; ask = None; result = Polled (Some r) } in
          m.put waiting.front waiting.row_is (waiting.back ++ last ∷ []) waiting1.from waiting.place
          ∙ sym (append_assoc waiting.front (replied waiting.row_is m.reply ∷ waiting.back) (last ∷ []))
          ∙ ap (λ n. middle ++ row-at-n n m.again ∷ []) middle-count ∙ ap (λ r. middle ++ row-at-n (length middle) r ∷ []) m.tells.poll.1

      found-answered : IsRowAnswered d.log m.reply middle
      found-answered =
          let row = row-at d1 is1 w waiting1 t q at-t at-q (histories_of (set d.passes w.centre q)) q.seen is1.agrees seen-at in
          record {
            front = waiting.front;
            row = waiting.row_is;
            back = waiting.back;
            from = waiting.from;
            pending = waiting.pending;
            to = refl;
            settled = put-settled waiting.front waiting.row_is waiting.back m.reply waiting.pending waiting.settled
                (unserved-settled waiting.back waiting.unserved_behind);
            ask = row.0.ask;
            asked = row.0.asked;
            fits = reply-fits_ask t.origin q.seen (call_of d.agent asked) row.0.ask keeps.own.rest.run row.0.served m.reply reply-at;
          }

      found-tells : desks.HasRowOfPoll (desk_of d) (Some m.reply) (desk_of (now log None))
      found-tells = record {
        row = waiting.row_is;
        is = pending-row d is w waiting;
        turn = told-takes found m.tells log None;
        middle = middle;
        answered = found-answered;
        log = found-log;
      }

    -- a poll that found the centre full
    module _ (weight many : ℕ) (h : SeesFull t p weight many q) (log : List LogRow)
        (log-is : log ≡ with_row d.log waiting.row_is.centre None (Refused (refusal.Full weight many))) where
      abbrev full : LogResult
      full = Refused (refusal.Full weight many)

      full-desk : IsDesk (now log (Some w))
      full-desk =
          subst (λ l. IsDesk (now l (Some w))) (sym log-is)
          (desk-pushed d is free w.centre centre waiting.named t p at-t at-p q keeps (row-of full) (Some w) refl refl
          (grown-sees t p q (length d.log) h.sees)
          (was-full d is free w.centre centre waiting.named t p at-t at-p q keeps weight many h)
          (Contains-slice_get d.site.names w.centre centre waiting.named)
          (rows-same d is free w.centre centre waiting.named t p at-t at-p q keeps (row-of full)
          (ap (λ (x : PassState Entry Origin). x.mine) h.sees.after))
          (waits-behind d.site.names d.log w (row-of full) waiting refl))

      full-tells : TellsFull (desk_of d) weight many (desk_of (now log (Some w)))
      full-tells = record {
        row = waiting.row_is;
        is = pending-row d is w waiting;
        turn = takes-gone d w.centre p q at-p log (Some w) centre waiting.named h.sees.finds.left (ap (λ (x : PassState Entry Origin). x.turns) h.sees.after);
        log = log-is;
      }

    -- a poll that left the log as it was
    kept-desk : (log : List LogRow) → log ≡ d.log → HasSeen p q → IsDesk (now log (Some w))
    kept-desk log same more =
        subst (λ l. IsDesk (now l (Some w))) (sym same) (later-desk d is w waiting t p at-t at-p q keeps held more)

    lost-seen : SeesRoom t p q ⊎ (q ≡ p) → HasSeen p q
    lost-seen lost = ⊎_elim (λ (room : SeesRoom t p q). seen-sees t p q room.sees) (λ same. seen-same p q same) lost

    lost-grown : SeesRoom t p q ⊎ (q ≡ p) → HasGrown (length d.log) p q
    lost-grown lost =
        ⊎_elim (λ (room : SeesRoom t p q). grown-sees t p q (length d.log) room.sees)
        (λ same. grown-same t p q (length d.log) same) lost

    lost-goes : SeesRoom t p q ⊎ (q ≡ p) → Goes p q
    lost-goes lost =
        ⊎_elim (λ (room : SeesRoom t p q). goes-after t p q q.seen p.mine room.sees.after) (λ same. goes-same t p q same) lost

    lost-turn : (log : List LogRow) → SeesRoom t p q ⊎ (q ≡ p)
        → StandsStill (desk_of d) (desk_of (now log (Some w))) ⊎ TakesTurnAtPending (desk_of d) (desk_of (now log (Some w)))
    lost-turn log lost =
        ⊎_elim
        (λ (room : SeesRoom t p q).
        inr (record {
          row = waiting.row_is;
          is = pending-row d is w waiting;
          turn = takes-gone d w.centre p q at-p log (Some w) centre waiting.named room.sees.finds.left
              (ap (λ (x : PassState Entry Origin). x.turns) room.sees.after);
        }))
        (λ (same : q ≡ p).
        let whole : set d.passes w.centre q ≡ d.passes = ap (λ x. set d.passes w.centre x) same ∙ set-slice_get d.passes w.centre p at-p in
        inl (record { turns = ap turns_of whole; seen = ap counts_of whole }))
        lost

    abbrev Came : Result Seen DeskFault → List LogRow → Type 0
    Came r log = IsPolled t w.row p waiting.row_is.centre d.log r q log

    pub polled-desk : (log : List LogRow) (r : Result Seen DeskFault) → IsPolled t w.row p waiting.row_is.centre d.log r q log
        → IsDesk (record { site = d.site; agent = d.agent; passes = set d.passes w.centre q; log = log; pending = still_of w r; held = d.held })
    polled-desk log (Ok seen.Answered) came = found-desk log came
    polled-desk log (Ok seen.StillPending) came = waiting-desk came.0 log came.1
    polled-desk log (Err (fault.Full weight many)) came = full-desk weight many came.0 log came.1
    polled-desk log (Err fault.TurnsSpent) came = kept-desk log came.1 (seen-same p q came.0.1)
    polled-desk log (Err fault.NoMemory) came = kept-desk log came.1 (lost-seen came.0)
    polled-desk log (Err fault.Idle) came = absurd came

    polled-grown : (log : List LogRow) (r : Result Seen DeskFault) → Came r log → HasGrown (length d.log) p q
    polled-grown log (Ok seen.Answered) came = told-grown (poll.Answered came.reply came.again) came.tells
    polled-grown log (Ok seen.StillPending) came = told-grown poll.NotYet came.0
    polled-grown log (Err (fault.Full weight many)) came = grown-sees t p q (length d.log) came.0.sees
    polled-grown log (Err fault.TurnsSpent) came = grown-same t p q (length d.log) came.0.1
    polled-grown log (Err fault.NoMemory) came = lost-grown came.0
    polled-grown log (Err fault.Idle) came = absurd came

    polled-goes : (log : List LogRow) (r : Result Seen DeskFault) → Came r log → Goes p q
    polled-goes log (Ok seen.Answered) came = told-goes (poll.Answered came.reply came.again) came.tells
    polled-goes log (Ok seen.StillPending) came = told-goes poll.NotYet came.0
    polled-goes log (Err (fault.Full weight many)) came = goes-after t p q q.seen p.mine came.0.sees.after
    polled-goes log (Err fault.TurnsSpent) came = goes-same t p q came.0.1
    polled-goes log (Err fault.NoMemory) came = lost-goes came.0
    polled-goes log (Err fault.Idle) came = absurd came

    polled-read : (log : List LogRow) (r : Result Seen DeskFault) → Came r log → IsRead d.log → IsRead log
    polled-read log (Ok seen.Answered) came read = found-read log came read
    polled-read log (Ok seen.StillPending) came read = subst IsRead (sym came.1) (read-polled d.log centre (Polled None) read)
    polled-read log (Err (fault.Full weight many)) came read =
        subst IsRead (sym came.1) (read-polled d.log centre (Refused (refusal.Full weight many)) read)
    polled-read log (Err fault.TurnsSpent) came read = subst IsRead (sym came.1) read
    polled-read log (Err fault.NoMemory) came read = subst IsRead (sym came.1) read
    polled-read log (Err fault.Idle) came read = absurd came

    pub polled-keeps : (log : List LogRow) (r : Result Seen DeskFault) → (desk_of d).free ≡ true → IsPolled t w.row p waiting.row_is.centre d.log r q log
        → Keeps (desk_of d) (desk_of (record { site = d.site; agent = d.agent; passes = set d.passes w.centre q; log = log; pending = still_of w r; held = d.held }))
    polled-keeps log r none came =
        keeps-gone d w.centre p q at-p log (still_of w r) d refl none (length d.log) (polled-grown log r came) (polled-read log r came)

    pub polled-spends : (log : List LogRow) (r : Result Seen DeskFault) → IsPolled t w.row p waiting.row_is.centre d.log r q log
        → Spends 1 (desk_of d) (desk_of (record { site = d.site; agent = d.agent; passes = set d.passes w.centre q; log = log; pending = still_of w r; held = d.held }))
    polled-spends log r came = spends-gone d w.centre p q at-p log (still_of w r) d refl (polled-goes log r came)

    decided-one : (permits : W → ℕ → ℕ → Primitive → Option ℕ) (result : LogResult) (log : List LogRow) → log ≡ with_row d.log centre None result
        → IsDecidedLog permits d.site d.agent d.log → IsDecidedLog permits d.site d.agent log
    decided-one permits result log log-is sound =
        subst (IsDecidedLog permits d.site d.agent) (sym log-is)
        (λ role at. decided-polled d.log centre result (WardenPermits permits d.site.warden role) d.site.names (sound role at))

    pub polled-sound : (permits : W → ℕ → ℕ → Primitive → Option ℕ) (log : List LogRow) (r : Result Seen DeskFault)
        → IsPolled t w.row p waiting.row_is.centre d.log r q log → IsDecidedLog permits d.site d.agent d.log → IsDecidedLog permits d.site d.agent log
    polled-sound permits log (Ok seen.Answered) came sound = found-sound log came permits sound
    polled-sound permits log (Ok seen.StillPending) came sound = decided-one permits (Polled None) log came.1 sound
    polled-sound permits log (Err (fault.Full weight many)) came sound = decided-one permits (Refused (refusal.Full weight many)) log came.1 sound
    polled-sound permits log (Err fault.TurnsSpent) came sound = subst (IsDecidedLog permits d.site d.agent) (sym came.1) sound
    polled-sound permits log (Err fault.NoMemory) came sound = subst (IsDecidedLog permits d.site d.agent) (sym came.1) sound
    polled-sound permits log (Err fault.Idle) came sound = absurd came

    pub polled-became : (log : List LogRow) (r : Result Seen DeskFault) → d.pending ≡ Some w → IsPolled t w.row p waiting.row_is.centre d.log r q log
        → Polls (desk_of d) r
        (desk_of (record { site = d.site; agent = d.agent; passes = set d.passes w.centre q; log = log; pending = still_of w r; held = d.held }))
    polled-became log (Ok seen.Answered) at came = (came.reply, found-tells log came, refl)
    polled-became log (Ok seen.StillPending) at came = (waiting-tells came.0 log came.1, waiting-waits came.0 log came.1)
    polled-became log (Err (fault.Full weight many)) at came = full-tells weight many came.0 log came.1
    polled-became log (Err fault.TurnsSpent) at came = record {
      can = (
        none-left d is w waiting t p q at-t at-p keeps held came.0.0,
        same-desk d is w waiting t p q at-t at-p keeps held came.0.1 at log came.1,
      );
      log = came.1;
    }
    polled-became log (Err fault.NoMemory) at came = record {
      can = (pending-some d is w waiting, lost-turn log came.0);
      log = came.1;
    }
    polled-became log (Err fault.Idle) at came = absurd came
