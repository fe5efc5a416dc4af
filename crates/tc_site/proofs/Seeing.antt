-- A desk whose pass of the pending row's centre has seen more.
use Rattle.std.proofs.Common.{◌≡◌, ℕ, zero, suc, ◌+◌, ◌-◌, ◌<◌, ◌≤◌, ◌||◌, true, false, List, [], ◌∷◌, ◌++◌, Option, Some, None, Ok, Err, MatchResult, Result, All, Contains, length, map, get_or, set, refl, sym, ap, ◌∙◌, subst, arith, ◌⊎◌, inl, inr, ⊎_elim}
use Rattle.std.specs.List.{slice_get, slice_index}
use Rattle.std.specs.Option.{is_none}
use mathlib.Core.List.{IsPrefix}
use Rattle.std.proofs.lemmas.Bool.{cases_eq}
use Rattle.std.proofs.lemmas.List.{append-nil, length-append, length-map, length-set, set-get_or}
use Rattle.std.proofs.lemmas.List.Elements.{All-nil}
use Rattle.std.proofs.lemmas.List.Folds.{list_any-append}
use Rattle.std.proofs.lemmas.Option.{same_Some, slice_get_read, slice_get_within, get_or_from_slice_get}
use Rattle.std.proofs.Math.Bool.{or-true}
use Rattle.tc_desk.proofs.Fitting.{reply-fits_ask}
use Rattle.tc_desk.proofs.Growing.{Agrees-answered, Agrees-longer}
use Rattle.tc_desk.specs.Agreeing.{Agrees, AgreesRow, HasReply, HasRow, HaveRows}
use Rattle.tc_desk.specs.Decided.{IsDecided, IsRead}
use Rattle.tc_desk.specs.Desks.{Gets, IsPendingRow, Keeps, Leaves, Looks, Spends, Stays, TakesTurn, TakesTurnAtPending, replied}
use Rattle.tc_desk.specs.Desks as desks
use Rattle.tc_desk.specs.declared.desks.DeskFault.{DeskFault}
use Rattle.tc_desk.specs.declared.desks.DeskFault.TheVariants as fault
use Rattle.tc_desk.specs.declared.desks.Seen.{Seen}
use Rattle.tc_desk.specs.declared.desks.Seen.TheVariants as seen
use Rattle.tc_desk.specs.Logs.{any_pending, is_pending}
use Rattle.tc_desk.specs.declared.rows.LogRow.{LogRow}
use Rattle.tc_desk.specs.declared.rows.LogResult.TheVariants.{Pending}
use Rattle.tc_model.specs.Calls.{id_of, calls_of, call_of}
use Rattle.tc_model.specs.Replies.{reply_in}
use Rattle.tc_model.specs.Run.{HasCall}
use Rattle.tc_model.specs.State.{Origin}
use Rattle.tc_model.specs.declared.asks.Primitive.{Primitive}
use Rattle.tc_model.specs.declared.entries.Entry.{Entry}
use Rattle.tc_model.specs.declared.entries.Entry.TheVariants.{Called}
use Rattle.tc_model.specs.declared.outcomes.Outcome.TheVariants as outcome
use Rattle.tc_model.specs.declared.outcomes.Reply.TheVariants as reply
use Rattle.tc_shared.specs.Passes as passes
use Rattle.tc_shared.specs.Passes.{Sees}
use Rattle.tc_turn.specs.Passes.{TurnstileState, PassState}
use Rattle.tc_site.specs.Desks.{AgentState, IsDesk, IsDecidedLog, IsWaitingAt, WardenPermits, WaitsAt, desk_of, is_held}
use Rattle.tc_site.specs.Looking.{HasRowReply, HasWaitedInVain, IsLook, IsWait, MayLook, left_of, still_of}
use Rattle.tc_site.specs.Sites.{AgreesSeen, ArePasses, IsOwnPass, histories_of, origins_of}
use Rattle.tc_site.specs.Turns.{HasGrown}
use Rattle.tc_site.specs.declared.waiting.WaitingAt.{WaitingAt}
use Rattle.tc_site.proofs.Calling.{are-set, longer-set}
use Rattle.tc_lists.proofs.Sets.{slice_get-map_at, slice_get-map_from, slice_get-set_other, slice_get-set_same}
use Rattle.tc_lists.proofs.Places.{slice_get_seam, slice_get_beside}
use Rattle.tc_desk.proofs.Logs.{any_pending-none}
use Rattle.tc_lists.proofs.Pairs.{AllPairs-one_place}
use Rattle.tc_site.proofs.Putting.{put-contains, put-decided, put-read, put-settled, unserved-settled}
use Rattle.tc_site.proofs.Turned.{none-held}

-- the pass q is p, which has seen more; its agent has made nothing more
pub record HasSeen (p q : PassState Entry Origin) : Type 0 where
  pub known : IsPrefix p.seen q.seen
  pub mine : q.mine ≡ p.mine

pub seen-sees : (t : TurnstileState Origin) (p q : PassState Entry Origin) → Sees t p q → HasSeen p q
seen-sees t p q sees = record {
  known = sees.finds.known;
  mine = ap (λ (x : PassState Entry Origin). x.mine) sees.after;
}

pub seen-same : (p q : PassState Entry Origin) → q ≡ p → HasSeen p q
seen-same p q same = record {
  known = ([], append-nil p.seen ∙ ap (λ (x : PassState Entry Origin). x.seen) (sym same));
  mine = ap (λ (x : PassState Entry Origin). x.mine) same;
}

-- numbers of passes, one of which was replaced
module _ (f : PassState Entry Origin → ℕ) where
  index-other : (xs : List (PassState Entry Origin)) (place k : ℕ) (q : PassState Entry Origin) → (k ≡ place → ⊥)
      → slice_index (map f (set xs place q)) k ≡ slice_index (map f xs) k
  index-other [] place k q other = refl
  index-other (x ∷ xs) zero zero q other = absurd (other refl)
  index-other (x ∷ xs) zero (suc k) q other = refl
  index-other (x ∷ xs) (suc place) zero q other = refl
  index-other (x ∷ xs) (suc place) (suc k) q other = index-other xs place k q (λ e. other (ap suc e))

  module _ (xs : List (PassState Entry Origin)) (place : ℕ) (p q : PassState Entry Origin) (at : slice_get xs place ≡ Some p) where
    index-was : slice_index (map f xs) place ≡ f p
    index-was = get_or_from_slice_get (map f xs) place (f p) 0 (slice_get-map_at f xs place p at)

    index-here : slice_index (map f (set xs place q)) place ≡ f q
    index-here =
        get_or_from_slice_get (map f (set xs place q)) place (f q) 0
        (slice_get-map_at f (set xs place q) place q (slice_get-set_same xs place q p at))

    index-each : (R : ℕ → ℕ → Type 0) → ((n : ℕ) → R n n) → R (f p) (f q) → (k : ℕ)
        → R (slice_index (map f xs) k) (slice_index (map f (set xs place q)) k)
    index-each R same one k =
        ⊎_elim
        (λ (here : k ≡ place).
        subst (R (slice_index (map f xs) k)) (sym index-here ∙ ap (slice_index (map f (set xs place q))) (sym here))
        (subst (λ n. R n (f q)) (sym index-was ∙ ap (slice_index (map f xs)) (sym here)) one))
        (λ (other : k ≡ place → ⊥).
        subst (R (slice_index (map f xs) k)) (sym (index-other xs place k q other)) (same (slice_index (map f xs) k)))
        (cases_eq k place)

any-middle : (front : List LogRow) (row : LogRow) (back : List LogRow) → row.result ≡ Pending → any_pending (front ++ row ∷ back) ≡ true
any-middle front row back pending =
    list_any-append (λ (r : LogRow). is_pending r.result) front (row ∷ back)
    ∙ ap (λ b. any_pending front || (b || any_pending back)) (ap is_pending pending) ∙ or-true (any_pending front)

module _ {W : Type 0} (d : AgentState W) (is : IsDesk d) (w : WaitingAt)
    (waiting : IsWaitingAt d.site.names d.log w) where
  pub waits-centre : w.centre < length d.site.centres
  waits-centre =
      let within = slice_get_within d.site.names w.centre waiting.row_is.centre waiting.named in
      let whole = is.site.whole in
      omega (arith, within, whole)

  pub waits-pass : w.centre < length d.passes
  waits-pass = let within = waits-centre in let wide = is.are.wide in omega (arith, within, wide)

  pub waits-row : w.row < length d.log
  waits-row =
      let same = ap length waiting.from in
      let place = waiting.place in
      omega (arith, same, place, length-append waiting.front (waiting.row_is ∷ waiting.back))

  pub stands : slice_get d.log w.row ≡ Some waiting.row_is
  stands =
      ap (λ l. slice_get l w.row) waiting.from ∙ ap (slice_get (waiting.front ++ waiting.row_is ∷ waiting.back)) waiting.place
      ∙ slice_get_seam waiting.front waiting.row_is waiting.back

  pub pending-row : IsPendingRow d.log waiting.row_is
  pending-row = record {
    stands = subst (λ l. Contains l waiting.row_is) (sym waiting.from)
        (put-contains waiting.front waiting.row_is waiting.back reply.Done waiting.pending);
    pending = waiting.pending;
  }

  pub pending-some : any_pending d.log ≡ true
  pending-some = ap any_pending waiting.from ∙ any-middle waiting.front waiting.row_is waiting.back waiting.pending

  -- no other row is pending
  one-pending : (k : ℕ) (row : LogRow) → slice_get d.log k ≡ Some row → row.result ≡ Pending → row ≡ waiting.row_is
  one-pending k row at pending =
      let at-k : slice_get (waiting.front ++ waiting.row_is ∷ waiting.back) k ≡ Some row = ap (λ l. slice_get l k) (sym waiting.from) ∙ at in
      let done : LogRow = replied waiting.row_is reply.Done in
      ⊎_elim
      (λ (here : k ≡ length waiting.front).
      same_Some row waiting.row_is
      (sym at-k ∙ ap (slice_get (waiting.front ++ waiting.row_is ∷ waiting.back)) here ∙ slice_get_seam waiting.front waiting.row_is waiting.back))
      (λ (other : k ≡ length waiting.front → ⊥).
      absurd
      (any_pending-none (waiting.front ++ done ∷ waiting.back) k row
      (put-settled waiting.front waiting.row_is waiting.back reply.Done waiting.pending waiting.settled (unserved-settled waiting.back waiting.unserved_behind))
      (slice_get_beside waiting.front done waiting.row_is waiting.back k other ∙ at-k) pending))
      (cases_eq k (length waiting.front))

  -- where the desk has no turn left, the pass of the pending row's centre has none
  pub pass-spent : (p : PassState Entry Origin) → slice_get d.passes w.centre ≡ Some p → desks.HasNoTurnLeft (desk_of d) → p.turns ≡ 0
  pass-spent p at-p spent =
      let f : PassState Entry Origin → ℕ = λ x. x.turns in
      let stands = spent.is.stands in
      let row-is : spent.row ≡ waiting.row_is =
      one-pending stands.0 spent.row (slice_get_read d.log (length d.log) stands.0 spent.row refl stands.1 (sym stands.2)) spent.is.pending in
      let place : spent.none.place ≡ w.centre =
      AllPairs-one_place d.site.names spent.none.place w.centre waiting.row_is.centre is.site.differ
      (spent.none.named ∙ ap (λ (r : LogRow). Some r.centre) row-is) waiting.named in
      sym (index-was f d.passes w.centre p p at-p) ∙ ap (slice_index (map f d.passes)) (sym place) ∙ spent.none.none

  module _ (t : TurnstileState Origin) (p : PassState Entry Origin) (at-t : slice_get d.site.centres w.centre ≡ Some t)
      (at-p : slice_get d.passes w.centre ≡ Some p) where
    pub own-pass : IsOwnPass d.agent t p
    own-pass = is.are.each w.centre t p at-t at-p

    pub row-at : (histories : List (List Entry)) (history : List Entry) → Agrees (origins_of d.site.centres) d.site.names histories d.agent d.log → slice_get histories w.centre ≡ Some history
        → AgreesRow t.origin history (call_of d.agent (w.row + 1)) d.log w.row waiting.row_is Pending
    row-at histories history agrees there =
        subst (AgreesRow t.origin history (call_of d.agent (w.row + 1)) d.log w.row waiting.row_is) waiting.pending
        (agrees.rows w.row w.centre waiting.row_is t.origin history stands waiting.named
        (slice_get-map_at (λ (x : TurnstileState Origin). x.origin) d.site.centres w.centre t at-t) there)

    pub waits-called : HasCall (call_of p.number (w.row + 1)) p.seen
    waits-called =
        let row = row-at (histories_of d.passes) p.seen is.agrees
        (slice_get-map_at (λ (x : PassState Entry Origin). x.seen) d.passes w.centre p at-p) in
        let has : HasCall (call_of d.agent (w.row + 1)) p.seen = record {
          entry = Called (call_of d.agent (w.row + 1)) row.1.op outcome.Pending row.1.items;
          stands = row.1.stands;
          call = refl;
        } in
        subst (λ n. HasCall (call_of n (w.row + 1)) p.seen) (sym own-pass.number) has

    module _ (q : PassState Entry Origin) (kept : passes.KeepsPass t p q) (held : p.holds ≡ false) (more : HasSeen p q) where
      abbrev later : List (PassState Entry Origin)
      later = set d.passes w.centre q

      -- the desk with this log
      abbrev with_log : List LogRow → Option WaitingAt → AgentState W
      with_log log pending = record { site = d.site; agent = d.agent; passes = set d.passes w.centre q; log = log; pending = pending; held = d.held }

      agent-is : q.number ≡ d.agent
      agent-is = kept.number ∙ own-pass.number

      grown : HasGrown (length d.log) p q
      grown = record {
        more = more.known.0;
        grown = sym more.known.1;
        mine = [];
        mine_is = more.mine ∙ sym (append-nil p.mine);
        above = All-nil (λ e. length d.log < (id_of e).number);
      }

      same-calls : calls_of d.agent q.seen ≡ calls_of d.agent p.seen
      same-calls =
          ap (λ n. calls_of n q.seen) (sym agent-is) ∙ kept.own.mine ∙ more.mine ∙ sym own-pass.own.mine
          ∙ ap (λ n. calls_of n p.seen) own-pass.number

      is-later : (k : ℕ) (x : PassState Entry Origin) → k ≡ w.centre → slice_get later k ≡ Some x → x ≡ q
      is-later k x here at =
          same_Some x q (sym at ∙ ap (slice_get later) here ∙ slice_get-set_same d.passes w.centre q p at-p)

      are-later : ArePasses d.agent d.site.centres (set d.passes w.centre q)
      are-later = are-set d.agent (length d.log) w.centre d.site.centres d.passes is.are t p q at-t at-p kept.own kept.number

      have-rows : HaveRows d.site.names (histories_of later) d.agent d.log
      have-rows place centre history named there =
          let f : PassState Entry Origin → List Entry = λ x. x.seen in
          let after = slice_get-map_from f later place history there in
          ⊎_elim
          (λ (here : place ≡ w.centre).
          let e : calls_of d.agent history ≡ calls_of d.agent p.seen =
          ap (calls_of d.agent) (sym after.2 ∙ ap f (is-later place after.0 here after.1)) ∙ same-calls in
          subst (All (HasRow d.log centre)) (sym e)
          (is.agrees.calls place centre p.seen named (slice_get-map_at f d.passes place p (ap (slice_get d.passes) here ∙ at-p))))
          (λ (other : place ≡ w.centre → ⊥).
          is.agrees.calls place centre history named
          (slice_get-map_at f d.passes place after.0 (sym (slice_get-set_other d.passes w.centre place q other) ∙ after.1) ∙ ap Some after.2))
          (cases_eq place w.centre)

      agrees-later : AgreesSeen d.site.centres d.site.names (set d.passes w.centre q) d.agent d.log
      agrees-later =
          Agrees-longer (origins_of d.site.centres) d.site.names (histories_of d.passes) (histories_of later) d.agent d.log is.agrees
          (longer-set d.agent (length d.log) w.centre d.site.centres d.passes is.are t p q at-t at-p kept.own kept.number grown) have-rows

      holds-later : (k : ℕ) (x : PassState Entry Origin) → slice_get later k ≡ Some x → x.holds ≡ is_held d.held k
      holds-later k x at =
          ⊎_elim
          (λ (here : k ≡ w.centre).
          ap (λ (y : PassState Entry Origin). y.holds) (is-later k x here at) ∙ kept.free ∙ sym held ∙ is.holds w.centre p at-p
          ∙ ap (is_held d.held) (sym here))
          (λ (other : k ≡ w.centre → ⊥). is.holds k x (sym (slice_get-set_other d.passes w.centre k q other) ∙ at))
          (cases_eq k w.centre)

      -- the desk has seen more
      pub later-desk : IsDesk (with_log d.log (Some w))
      later-desk = record {
        site = is.site;
        agent_is = is.agent_is;
        are = are-later;
        holds = holds-later;
        agrees = agrees-later;
        waits = waiting;
      }

      seen-at : slice_get (histories_of later) w.centre ≡ Some q.seen
      seen-at =
          slice_get-map_at (λ (x : PassState Entry Origin). x.seen) later w.centre q (slice_get-set_same d.passes w.centre q p at-p)

      row-later : AgreesRow t.origin q.seen (call_of d.agent (w.row + 1)) d.log w.row waiting.row_is Pending
      row-later = row-at (histories_of later) q.seen agrees-later seen-at

      later-waits : reply_in q.seen (call_of q.number (w.row + 1)) ≡ None → (desk_of (with_log d.log (Some w))).waits ≡ true
      later-waits none =
          ap (λ h. is_none (reply_in h (call_of d.agent (w.row + 1)))) (get_or_from_slice_get (histories_of later) w.centre q.seen [] seen-at)
          ∙ ap (λ n. is_none (reply_in q.seen (call_of n (w.row + 1)))) (sym agent-is) ∙ ap is_none none

      later-takes : p.turns ≡ q.turns + 1 → (log : List LogRow) (pending : Option WaitingAt)
          → TakesTurn (desk_of d) waiting.row_is.centre (desk_of (with_log log pending))
      later-takes one log pending =
          let f : PassState Entry Origin → ℕ = λ x. x.turns in
          record {
            place = w.centre;
            named = waiting.named;
            one = index-was f d.passes w.centre p q at-p ∙ one ∙ ap (λ n. n + 1) (sym (index-here f d.passes w.centre p q at-p));
            others = λ k other. index-other f d.passes w.centre k q other;
          }

      later-spends : q.turns ≤ p.turns → p.turns ≤ q.turns + 1 → (log : List LogRow) (pending : Option WaitingAt)
          → Spends 1 (desk_of d) (desk_of (with_log log pending))
      later-spends fell most log pending =
          let f : PassState Entry Origin → ℕ = λ x. x.turns in
          record {
            wide = length-map later f ∙ length-set d.passes w.centre q ∙ sym (length-map d.passes f);
            fell = index-each f d.passes w.centre p q at-p (λ m n. n ≤ m) (λ n. omega arith) fell;
            most = index-each f d.passes w.centre p q at-p (λ m n. m ≤ n + 1) (λ n. omega arith) most;
          }

      later-keeps : (desk_of d).free ≡ true → (log : List LogRow) (pending : Option WaitingAt) → (IsRead d.log → IsRead log)
          → Keeps (desk_of d) (desk_of (with_log log pending))
      later-keeps free log pending read =
          let f : PassState Entry Origin → ℕ = λ x. length x.seen in
          let whole = ap length more.known.1 in
          let grows : length p.seen ≤ length q.seen = omega (arith, whole, length-append p.seen more.known.0) in
          record {
            names = refl;
            free = free;
            seen = index-each f d.passes w.centre p q at-p (λ m n. m ≤ n) (λ n. omega arith) grows;
            read = read;
          }

      -- the pending row has got its reply
      module _ (log : List LogRow) (has : HasRowReply w.row d.log q log) where
        abbrev answered : List LogRow
        answered = waiting.front ++ replied waiting.row_is has.reply ∷ waiting.back

        log-is : log ≡ answered
        log-is = has.put waiting.front waiting.row_is waiting.back waiting.from waiting.place

        told-at : reply_in q.seen (call_of d.agent (w.row + 1)) ≡ Some has.reply
        told-at = ap (λ n. reply_in q.seen (call_of n (w.row + 1))) (sym agent-is) ∙ has.told

        has-reply : HasReply d.site.names (histories_of later) d.agent (length waiting.front) waiting.row_is has.reply
        has-reply = record {
          pending = waiting.pending;
          told = λ k history named there.
              let place = AllPairs-one_place d.site.names k w.centre waiting.row_is.centre is.site.differ named waiting.named in
              let e : history ≡ q.seen = same_Some history q.seen (sym there ∙ ap (slice_get (histories_of later)) place ∙ seen-at) in
              ap (λ h. reply_in h (call_of d.agent (length waiting.front + 1))) e
              ∙ ap (λ n. reply_in q.seen (call_of d.agent (n + 1))) (sym waiting.place) ∙ told-at;
        }

        answered-settled : any_pending log ≡ false
        answered-settled =
            ap any_pending log-is
            ∙ put-settled waiting.front waiting.row_is waiting.back has.reply waiting.pending waiting.settled (unserved-settled waiting.back waiting.unserved_behind)

        pub answered-desk : IsDesk (with_log log None)
        answered-desk = record {
          site = is.site;
          agent_is = is.agent_is;
          are = are-later;
          holds = holds-later;
          agrees = subst (Agrees (origins_of d.site.centres) d.site.names (histories_of later) d.agent) (sym log-is)
              (Agrees-answered waiting.front waiting.row_is waiting.back has.reply waiting.pending
              (origins_of d.site.centres) d.site.names (histories_of later) d.agent
              (subst (Agrees (origins_of d.site.centres) d.site.names (histories_of later) d.agent) waiting.from agrees-later) has-reply);
          waits = answered-settled;
        }

        pub answered-read : IsRead d.log → IsRead log
        answered-read read =
            subst IsRead (sym log-is)
            (put-read waiting.front waiting.row_is waiting.back has.reply waiting.pending (subst IsRead waiting.from read))

        pub answered-sound : (permits : W → ℕ → ℕ → Primitive → Option ℕ) → IsDecidedLog permits d.site d.agent d.log → IsDecidedLog permits d.site d.agent log
        answered-sound permits sound role at =
            subst (IsDecided (WardenPermits permits d.site.warden role) d.site.names) (sym log-is)
            (put-decided waiting.front waiting.row_is waiting.back has.reply waiting.pending (WardenPermits permits d.site.warden role) d.site.names
            (subst (IsDecided (WardenPermits permits d.site.warden role) d.site.names) waiting.from (sound role at)))

        answered-gets : Gets (desk_of d) (desk_of (with_log log None))
        answered-gets = record {
          reply = has.reply;
          answered = record {
            front = waiting.front;
            row = waiting.row_is;
            back = waiting.back;
            from = waiting.from;
            pending = waiting.pending;
            to = log-is;
            settled = answered-settled;
            ask = row-later.0.ask;
            asked = row-later.0.asked;
            fits = reply-fits_ask t.origin q.seen (call_of d.agent (w.row + 1)) row-later.0.ask kept.own.rest.run row-later.0.served has.reply told-at;
          };
          waits = refl;
        }

  -- a look
  module _ (t : TurnstileState Origin) (p q : PassState Entry Origin) (at-t : slice_get d.site.centres w.centre ≡ Some t)
      (at-p : slice_get d.passes w.centre ≡ Some p) (kept : passes.KeepsPass t p q) (held : p.holds ≡ false) where
    -- the desk after a look that came to this
    abbrev pub looked : List LogRow → Result Seen DeskFault → AgentState W
    looked log r = record { site = d.site; agent = d.agent; passes = set d.passes w.centre q; log = log; pending = still_of w r; held = d.held }

    same-log : (log : List LogRow) → log ≡ d.log → IsDesk (looked d.log (Err fault.Idle)) → IsDesk (looked log (Err fault.Idle))
    same-log log same desk =
        subst (λ l. IsDesk (record { site = d.site; agent = d.agent; passes = set d.passes w.centre q; log = l; pending = Some w; held = d.held })) (sym same) desk

    pub look-desk : (log : List LogRow) (r : Result Seen DeskFault) → IsLook t w.row p d.log r q log → IsDesk (looked log r)
    look-desk log (Ok seen.Answered) look = answered-desk t p at-t at-p q kept held (seen-sees t p q look.0) log look.1
    look-desk log (Ok seen.StillPending) look =
        same-log log look.1.same (later-desk t p at-t at-p q kept held (seen-sees t p q look.0))
    look-desk log (Err fault.TurnsSpent) look =
        same-log log look.1 (later-desk t p at-t at-p q kept held (seen-same p q look.0.1))
    look-desk log (Err fault.NoMemory) look =
        same-log log look.1 (later-desk t p at-t at-p q kept held (seen-sees t p q look.0))
    look-desk log (Err fault.Idle) look = absurd look
    look-desk log (Err (fault.Full weight pending)) look = absurd look

    read-same : (log : List LogRow) → log ≡ d.log → IsRead d.log → IsRead log
    read-same log same read = subst IsRead (sym same) read

    pub look-keeps : (log : List LogRow) (r : Result Seen DeskFault) → (desk_of d).free ≡ true → IsLook t w.row p d.log r q log
        → Keeps (desk_of d) (desk_of (looked log r))
    look-keeps log (Ok seen.Answered) free look =
        let more = seen-sees t p q look.0 in
        later-keeps t p at-t at-p q kept held more free log None (answered-read t p at-t at-p q kept held more log look.1)
    look-keeps log (Ok seen.StillPending) free look =
        later-keeps t p at-t at-p q kept held (seen-sees t p q look.0) free log (Some w) (read-same log look.1.same)
    look-keeps log (Err fault.TurnsSpent) free look =
        later-keeps t p at-t at-p q kept held (seen-same p q look.0.1) free log (Some w) (read-same log look.1)
    look-keeps log (Err fault.NoMemory) free look =
        later-keeps t p at-t at-p q kept held (seen-sees t p q look.0) free log (Some w) (read-same log look.1)
    look-keeps log (Err fault.Idle) free look = absurd look
    look-keeps log (Err (fault.Full weight pending)) free look = absurd look

    pub look-sound : (permits : W → ℕ → ℕ → Primitive → Option ℕ) (log : List LogRow) (r : Result Seen DeskFault) → IsLook t w.row p d.log r q log
        → IsDecidedLog permits d.site d.agent d.log → IsDecidedLog permits d.site d.agent log
    look-sound permits log (Ok seen.Answered) look sound =
        answered-sound t p at-t at-p q kept held (seen-sees t p q look.0) log look.1 permits sound
    look-sound permits log (Ok seen.StillPending) look sound = subst (IsDecidedLog permits d.site d.agent) (sym look.1.same) sound
    look-sound permits log (Err fault.TurnsSpent) look sound = subst (IsDecidedLog permits d.site d.agent) (sym look.1) sound
    look-sound permits log (Err fault.NoMemory) look sound = subst (IsDecidedLog permits d.site d.agent) (sym look.1) sound
    look-sound permits log (Err fault.Idle) look sound = absurd look
    look-sound permits log (Err (fault.Full weight pending)) look sound = absurd look

    one-turn : Sees t p q → p.turns ≡ q.turns + 1
    one-turn sees =
        let left = sees.finds.left in
        let turns : q.turns ≡ p.turns - 1 = ap (λ (x : PassState Entry Origin). x.turns) sees.after in
        omega (arith, left, turns)

    spends-one : Sees t p q → (log : List LogRow) (pending : Option WaitingAt)
        → Spends 1 (desk_of d) (desk_of (record { site = d.site; agent = d.agent; passes = set d.passes w.centre q; log = log; pending = pending; held = d.held }))
    spends-one sees log pending =
        let one = one-turn sees in
        later-spends t p at-t at-p q kept held (seen-sees t p q sees) (omega (arith, one)) (omega (arith, one)) log pending

    pub look-spends : (log : List LogRow) (r : Result Seen DeskFault) → IsLook t w.row p d.log r q log → Spends 1 (desk_of d) (desk_of (looked log r))
    look-spends log (Ok seen.Answered) look = spends-one look.0 log None
    look-spends log (Ok seen.StillPending) look = spends-one look.0 log (Some w)
    look-spends log (Err fault.TurnsSpent) look =
        let same : q.turns ≡ p.turns = ap (λ (x : PassState Entry Origin). x.turns) look.0.1 in
        later-spends t p at-t at-p q kept held (seen-same p q look.0.1) (omega (arith, same)) (omega (arith, same)) log (Some w)
    look-spends log (Err fault.NoMemory) look = spends-one look.0 log (Some w)
    look-spends log (Err fault.Idle) look = absurd look
    look-spends log (Err (fault.Full weight pending)) look = absurd look

    takes-one : Sees t p q → (log : List LogRow) (pending : Option WaitingAt)
        → TakesTurnAtPending (desk_of d) (desk_of (record { site = d.site; agent = d.agent; passes = set d.passes w.centre q; log = log; pending = pending; held = d.held }))
    takes-one sees log pending = record {
      row = waiting.row_is;
      is = pending-row;
      turn = later-takes t p at-t at-p q kept held (seen-sees t p q sees) (one-turn sees) log pending;
    }

    -- no turn was left, and the desk is as it was
    pub same-desk : q ≡ p → d.pending ≡ Some w → (log : List LogRow) → log ≡ d.log
        → desk_of (record { site = d.site; agent = d.agent; passes = set d.passes w.centre q; log = log; pending = Some w; held = d.held }) ≡ desk_of d
    same-desk same at log same-log =
        let passes-are : set d.passes w.centre q ≡ d.passes =
        ap (set d.passes w.centre) (same ∙ sym (get_or_from_slice_get d.passes w.centre p p at-p)) ∙ set-get_or d.passes w.centre p in
        ap (λ xs. desk_of (record { site = d.site; agent = d.agent; passes = xs; log = log; pending = Some w; held = d.held })) passes-are
        ∙ ap (λ l. desk_of (record { site = d.site; agent = d.agent; passes = d.passes; log = l; pending = Some w; held = d.held })) same-log
        ∙ ap (λ o. desk_of (record { site = d.site; agent = d.agent; passes = d.passes; log = d.log; pending = o; held = d.held })) (sym at)

    pub none-left : p.turns ≡ 0 → desks.HasNoTurnLeft (desk_of d)
    none-left none = record {
      row = waiting.row_is;
      is = pending-row;
      none = record {
        place = w.centre;
        named = waiting.named;
        none = index-was (λ x. x.turns) d.passes w.centre p q at-p ∙ none;
      };
    }

    pub look-became : (log : List LogRow) (r : Result Seen DeskFault) → d.pending ≡ Some w → IsLook t w.row p d.log r q log
        → MatchResult r (λ seen. Looks (desk_of d) seen (desk_of (looked log r))) (λ why. Stays (desk_of d) why (desk_of (looked log r)))
    look-became log (Ok seen.Answered) at look =
        (answered-gets t p at-t at-p q kept held (seen-sees t p q look.0) log look.1, takes-one look.0 log None)
    look-became log (Ok seen.StillPending) at look =
        (look.1.same, later-waits t p at-t at-p q kept held (seen-sees t p q look.0) look.1.none, takes-one look.0 log (Some w))
    look-became log (Err fault.TurnsSpent) at look = record {
      can = (none-left look.0.0, same-desk look.0.1 at log look.1);
      log = look.1;
    }
    look-became log (Err fault.NoMemory) at look = record {
      can = (pending-some, inr (takes-one look.0 log (Some w)));
      log = look.1;
    }
    look-became log (Err fault.Idle) at look = absurd look
    look-became log (Err (fault.Full weight pending)) at look = absurd look

    -- the desk after a wait that came to this
    module _ (waits : passes.WaitsInTurns t p q) where
      more : HasSeen p q
      more = record { known = waits.known; mine = ap (λ (x : PassState Entry Origin). x.mine) waits.after }

      pub wait-desk : {A : Type 0} (log : List LogRow) (r : Result A DeskFault) → IsWait w.row p d.log r q log
          → IsDesk (record { site = d.site; agent = d.agent; passes = set d.passes w.centre q; log = log; pending = left_of w r; held = d.held })
      wait-desk log (Ok done) wait = answered-desk t p at-t at-p q kept held more log wait
      wait-desk log (Err fault.TurnsSpent) wait = same-log log wait.log_same (later-desk t p at-t at-p q kept held more)
      wait-desk log (Err fault.NoMemory) wait = same-log log wait (later-desk t p at-t at-p q kept held more)
      wait-desk log (Err fault.Idle) wait = absurd wait
      wait-desk log (Err (fault.Full weight pending)) wait = absurd wait

      wait-read : {A : Type 0} (log : List LogRow) (r : Result A DeskFault) → IsWait w.row p d.log r q log → IsRead d.log → IsRead log
      wait-read log (Ok done) wait = answered-read t p at-t at-p q kept held more log wait
      wait-read log (Err fault.TurnsSpent) wait = read-same log wait.log_same
      wait-read log (Err fault.NoMemory) wait = read-same log wait
      wait-read log (Err fault.Idle) wait = absurd wait
      wait-read log (Err (fault.Full weight pending)) wait = absurd wait

      pub wait-keeps : {A : Type 0} (log : List LogRow) (r : Result A DeskFault) → (desk_of d).free ≡ true → IsWait w.row p d.log r q log
          → (pending : Option WaitingAt)
          → Keeps (desk_of d) (desk_of (record { site = d.site; agent = d.agent; passes = set d.passes w.centre q; log = log; pending = pending; held = d.held }))
      wait-keeps log r free wait pending = later-keeps t p at-t at-p q kept held more free log pending (wait-read log r wait)

      pub wait-sound : {A : Type 0} (permits : W → ℕ → ℕ → Primitive → Option ℕ) (log : List LogRow) (r : Result A DeskFault)
          → IsWait w.row p d.log r q log → IsDecidedLog permits d.site d.agent d.log → IsDecidedLog permits d.site d.agent log
      wait-sound permits log (Ok done) wait sound = answered-sound t p at-t at-p q kept held more log wait permits sound
      wait-sound permits log (Err fault.TurnsSpent) wait sound = subst (IsDecidedLog permits d.site d.agent) (sym wait.log_same) sound
      wait-sound permits log (Err fault.NoMemory) wait sound = subst (IsDecidedLog permits d.site d.agent) (sym wait) sound
      wait-sound permits log (Err fault.Idle) wait sound = absurd wait
      wait-sound permits log (Err (fault.Full weight pending)) wait sound = absurd wait

      pub wait-turns : (log : List LogRow) (pending : Option WaitingAt)
          → desks.Waits (desk_of d) (desk_of (record { site = d.site; agent = d.agent; passes = set d.passes w.centre q; log = log; pending = pending; held = d.held }))
      wait-turns log pending =
          let f : PassState Entry Origin → ℕ = λ x. x.turns in
          let n : PassState Entry Origin → ℕ = λ x. length x.seen in
          let later : List (PassState Entry Origin) = set d.passes w.centre q in
          record {
            wide = length-map later f ∙ length-set d.passes w.centre q ∙ sym (length-map d.passes f);
            fell = index-each f d.passes w.centre p q at-p (λ a b. b ≤ a) (λ a. omega arith) waits.fell;
            most = λ k.
                ⊎_elim
                (λ (here : k ≡ w.centre).
                let was = index-was f d.passes w.centre p q at-p in
                let is-now = index-here f d.passes w.centre p q at-p in
                let had = index-was n d.passes w.centre p q at-p in
                let has-now = index-here n d.passes w.centre p q at-p in
                let turns = waits.turns in
                let there : slice_index (map f d.passes) w.centre + slice_index (map n d.passes) w.centre ≤ slice_index (map f later) w.centre + slice_index (map n later) w.centre + 1 =
                omega (arith, was, is-now, had, has-now, turns) in
                subst (λ j. slice_index (map f d.passes) j + slice_index (map n d.passes) j ≤ slice_index (map f later) j + slice_index (map n later) j + 1) (sym here) there)
                (λ (other : k ≡ w.centre → ⊥).
                let turns = index-other f d.passes w.centre k q other in
                let counts = index-other n d.passes w.centre k q other in
                omega (arith, turns, counts))
                (cases_eq k w.centre);
            elsewhere = λ k no.
                index-other f d.passes w.centre k q
                (λ here. no (record { row = waiting.row_is; is = pending-row; named = ap (slice_get d.site.names) here ∙ waiting.named }));
          }

      spent-later : q.turns ≡ 0 → (log : List LogRow) → log ≡ d.log
          → desks.HasNoTurnLeft (desk_of (record { site = d.site; agent = d.agent; passes = set d.passes w.centre q; log = log; pending = Some w; held = d.held }))
      spent-later none log same = record {
        row = waiting.row_is;
        is = subst (λ l. IsPendingRow l waiting.row_is) (sym same) pending-row;
        none = record {
          place = w.centre;
          named = waiting.named;
          none = index-here (λ x. x.turns) d.passes w.centre p q at-p ∙ none;
        };
      }

      waits-or-same : (log : List LogRow) → d.pending ≡ Some w → HasWaitedInVain w.row p d.log q log
          → ((desk_of (record { site = d.site; agent = d.agent; passes = set d.passes w.centre q; log = log; pending = Some w; held = d.held })).waits ≡ true)
          ⊎ (desks.HasNoTurnLeft (desk_of d) × (desk_of (record { site = d.site; agent = d.agent; passes = set d.passes w.centre q; log = log; pending = Some w; held = d.held }) ≡ desk_of d))
      waits-or-same log at wait =
          ⊎_elim
          (λ (none : p.turns ≡ 0). inr (none-left none, same-desk (wait.same none) at log wait.log_same))
          (λ (some : p.turns ≡ 0 → ⊥).
          inl (later-waits t p at-t at-p q kept held more
          (ap (λ n. reply_in q.seen (call_of n (w.row + 1))) kept.number ∙ wait.none (omega (arith, some)))))
          (cases_eq p.turns 0)

      pub wait-became : {A : Type 0} (log : List LogRow) (r : Result A DeskFault) → d.pending ≡ Some w → IsWait w.row p d.log r q log
          → MatchResult r
          (λ _. Gets (desk_of d) (desk_of (record { site = d.site; agent = d.agent; passes = set d.passes w.centre q; log = log; pending = left_of w r; held = d.held })))
          (λ why. Leaves (desk_of d) why (desk_of (record { site = d.site; agent = d.agent; passes = set d.passes w.centre q; log = log; pending = left_of w r; held = d.held })))
      wait-became log (Ok done) at wait = answered-gets t p at-t at-p q kept held more log wait
      wait-became log (Err fault.TurnsSpent) at wait = record {
        can = (spent-later wait.spent log wait.log_same, waits-or-same log at wait);
        log = wait.log_same;
      }
      wait-became log (Err fault.NoMemory) at wait = record {
        can = pending-some;
        log = wait;
      }
      wait-became log (Err fault.Idle) at wait = absurd wait
      wait-became log (Err (fault.Full weight pending)) at wait = absurd wait

-- the desk holds no turn, its row at w is pending, and these are the centre of that and the pass
pub record HasPass {W : Type 0} (d : AgentState W) (w : WaitingAt) (t : TurnstileState Origin) (p : PassState Entry Origin) : Type 0 where
  pub waiting : IsWaitingAt d.site.names d.log w
  pub at_centre : slice_get d.site.centres w.centre ≡ Some t
  pub at_pass : slice_get d.passes w.centre ≡ Some p
  pub at_row : slice_get d.log w.row ≡ Some waiting.row_is
  pub free : is_none d.held ≡ true
  pub may : MayLook t p d.log w.row

pub has-pass : {W : Type 0} {d s : AgentState W} {w : WaitingAt} {t : TurnstileState Origin} {p : PassState Entry Origin} → IsDesk d → d ≡ s
    → is_none s.held ≡ true → d.pending ≡ Some w → slice_get d.site.centres w.centre ≡ Some t
    → p ≡ get_or d.passes w.centre p → HasPass d w t p
has-pass {W = W} {d = d} {w = w} {t = t} {p = p} is same free at at-t value =
    let none : is_none d.held ≡ true = ap (λ (x : AgentState W). is_none x.held) same ∙ free in
    let waiting : IsWaitingAt d.site.names d.log w = subst (WaitsAt d.site.names d.log) at is.waits in
    let at-p : slice_get d.passes w.centre ≡ Some p =
    slice_get_read d.passes (length d.passes) w.centre p refl (waits-pass d is w waiting) value in
    record {
      waiting = waiting;
      at_centre = at-t;
      at_pass = at-p;
      at_row = stands d is w waiting;
      free = none;
      may = record {
        own = (own-pass d is w waiting t p at-t at-p).own;
        free = is.holds w.centre p at-p ∙ none-held d.held w.centre none;
        inside = waits-row d is w waiting;
        called = waits-called d is w waiting t p at-t at-p;
      };
    }

-- a desk without a pending row isn't one that has no turn left for it
pub idle-unspent : {W : Type 0} (d s : AgentState W) → IsDesk d → d ≡ s → d.pending ≡ None → desks.HasNoTurnLeft (desk_of s) → ⊥
idle-unspent {W = W} d s is same none =
    let idle : any_pending d.log ≡ false = subst (WaitsAt d.site.names d.log) none is.waits in
    subst (λ (x : AgentState W). desks.HasNoTurnLeft (desk_of x) → ⊥) same
    (λ (spent : desks.HasNoTurnLeft (desk_of d)).
    let stands = spent.is.stands in
    any_pending-none d.log stands.0 spent.row idle
    (slice_get_read d.log (length d.log) stands.0 spent.row refl stands.1 (sym stands.2)) spent.is.pending)
