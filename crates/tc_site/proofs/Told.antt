-- What a call leaves of an agent's desk, and what is told of it.
use Rattle.std.proofs.Common.{◌≡◌, ℕ, ◌+◌, ◌-◌, ◌<◌, ◌≤◌, ◌||◌, Bool, true, false, List, [], ◌∷◌, ◌++◌, Option, Some, None, Err, Contains, length, get_or, refl, sym, ap, ◌∙◌, subst, arith, inl, inr, ⊎_elim}
use Rattle.std.specs.List.{slice_get, slice_index}
use Rattle.std.specs.Option.{is_none, is_some}
use Rattle.std.specs.Prelude.{MatchResult}
use Rattle.std.specs.declared.result.Result.{Result}
use Rattle.std.proofs.Math.Bool.{or-true}
use Rattle.std.proofs.Math.ListN.{set}
use Rattle.std.proofs.lemmas.Bool.{true≢false}
use Rattle.std.proofs.lemmas.List.{length-append, length-map, length-set}
use Rattle.std.proofs.lemmas.List.Elements.{Contains-append_right}
use Rattle.std.proofs.lemmas.Option.{same_Some, slice_get_read, slice_get_within, get_or_from_slice_get}
use Rattle.tc_lists.proofs.Places.{slice_get_push, Contains-slice_get}
use Rattle.tc_centre.specs.declared.answers.Answer.{Answer}
use Rattle.tc_centre.specs.declared.answers.Answer.TheVariants as answer
use Rattle.tc_model.specs.Calls.{call_of}
use Rattle.tc_desk.specs.Decided.{IsRead, IsReadAs, IsDecided, IsDecidedAs}
use Rattle.tc_desk.specs.Fits.{FitsAsk}
use Rattle.tc_desk.specs.Desks.{DeskState, HasNoTurn, IsReady, IsServedBy, Keeps, Makes, MayRefuse, Refuses, Spends, StandsStill, TakesTurn, refused_log, with_row}
use Rattle.tc_desk.specs.Logs.{any_pending, is_pending}
use Rattle.tc_desk.specs.Operands.{OpOf, Sound}
use Rattle.tc_desk.specs.Served.{IsCalled}
use Rattle.tc_desk.specs.declared.desks.Served.{Served}
use Rattle.tc_desk.specs.declared.desks.Served.TheVariants as served
use Rattle.tc_desk.specs.declared.rows.LogRow.{LogRow}
use Rattle.tc_desk.specs.declared.rows.LogResult.{LogResult}
use Rattle.tc_desk.specs.declared.rows.LogResult.TheVariants.{Replied, Pending, Refused, Polled}
use Rattle.tc_desk.specs.declared.rows.Refusal.{Refusal}
use Rattle.tc_desk.specs.declared.rows.Refusal.TheVariants as refusal
use Rattle.tc_desk.proofs.Fitting.{none-waits_ask, reply-fits_ask}
use Rattle.tc_model.specs.Asks.{primitive_of}
use Rattle.tc_model.specs.Replies.{reply_in}
use Rattle.tc_model.specs.State.{Origin}
use Rattle.tc_model.specs.declared.asks.Ask.{Ask}
use Rattle.tc_model.specs.declared.asks.Primitive.{Primitive}
use Rattle.tc_model.specs.declared.calls.Op.{Op}
use Rattle.tc_model.specs.declared.entries.Entry.{Entry}
use Rattle.tc_model.specs.declared.entries.Entry.TheVariants.{Called}
use Rattle.tc_shared.specs.Passes.{after_turn}
use Rattle.tc_shared.specs.Passes as pass
use Rattle.tc_turn.specs.Passes.{TurnstileState, PassState}
use Rattle.tc_site.specs.Desks as site
use Rattle.tc_site.specs.Desks.{AgentState, IsDesk, WardenPermits, WaitsAt, counts_of, desk_of, turns_of, waits_in}
use Rattle.tc_site.specs.Judging.{IsAllowed, IsRefusedFor}
use Rattle.tc_site.specs.Sites.{histories_of}
use Rattle.tc_site.specs.Turns.{HasGrown, IsTurn, IsTurnRefused, told_of, waiting_of}
use Rattle.tc_site.specs.declared.waiting.WaitingAt.{WaitingAt}
use Rattle.tc_lists.proofs.Sets.{get_or-map_at, get_or-map_set, get_or-map_set_other, slice_get-map_at, slice_get-set_same, set-slice_get}
use Rattle.tc_lists.proofs.Pairs.{AllPairs-one_place}
use Rattle.tc_site.proofs.Turned.{after-refusal, idle-log}

-- whether a row is pending, where the desk knows of one
any_pending-at : (front : List LogRow) (row : LogRow) (back : List LogRow) → is_pending row.result ≡ true → any_pending (front ++ row ∷ back) ≡ true
any_pending-at [] row back e = ap (λ b. b || any_pending back) e
any_pending-at (x ∷ front) row back e = ap (λ b. is_pending x.result || b) (any_pending-at front row back e) ∙ or-true (is_pending x.result)

pub busy-some : (names : List (List ℕ)) (log : List LogRow) (pending : Option WaitingAt) → WaitsAt names log pending → is_some pending ≡ true → any_pending log ≡ true
busy-some names log None at some = absurd (true≢false (sym some))
busy-some names log (Some w) at some =
    ap any_pending at.from ∙ any_pending-at at.front at.row_is at.back (ap is_pending at.pending)

pub waits-none : (histories : List (List Entry)) (agent : ℕ) (pending : Option WaitingAt) → is_some pending ≡ false → waits_in histories agent pending ≡ false
waits-none histories agent None none = refl
waits-none histories agent (Some w) none = absurd (true≢false none)

-- how a pass goes on
pub record Goes (p q : PassState Entry Origin) : Type 0 where
  pub fell : q.turns ≤ p.turns
  pub most : p.turns ≤ q.turns + 1

module _ (t : TurnstileState Origin) (p q : PassState Entry Origin) where
  pub goes-after : (history mine : List Entry) → q ≡ after_turn p history mine → Goes p q
  goes-after history mine after =
      let turns : q.turns ≡ p.turns - 1 = ap (λ (x : PassState Entry Origin). x.turns) after in
      record { fell = omega arith; most = omega arith }

  pub goes-same : q ≡ p → Goes p q
  goes-same same =
      let turns : q.turns ≡ p.turns = ap (λ (x : PassState Entry Origin). x.turns) same in
      record { fell = omega arith; most = omega arith }

  goes-refused : (why : Refusal) → IsTurnRefused t p why q → Goes p q
  goes-refused refusal.TurnsSpent turn = goes-same turn.1
  goes-refused (refusal.Full weight pending) turn = goes-after q.seen p.mine turn.sees.after
  goes-refused refusal.UnknownCentre turn = absurd turn
  goes-refused refusal.Waiting turn = absurd turn
  goes-refused refusal.Denied turn = absurd turn
  goes-refused refusal.TooBig turn = absurd turn
  goes-refused refusal.NotGround turn = absurd turn
  goes-refused (refusal.BadSpec bad) turn = absurd turn
  goes-refused refusal.NoMemory turn = absurd turn

  goes-makes : (number : ℕ) (op : Op) (told : Answer) → pass.CallsInTurn t p number op told q → Goes p q
  goes-makes number op told makes =
      goes-after (makes.found ++ Called (call_of p.number number) op makes.result makes.items ∷ makes.gaves)
      (p.mine ++ Called (call_of p.number number) op makes.result makes.items ∷ []) makes.after

  pub goes-turn : (number : ℕ) (op : Op) (became : LogResult) → IsTurn t p number op became q → Goes p q
  goes-turn number op (Replied reply) turn = goes-makes number op (answer.Replied reply) turn
  goes-turn number op Pending turn = goes-makes number op answer.Pending turn
  goes-turn number op (Refused why) turn = goes-refused why turn
  goes-turn number op (Polled told) turn = absurd turn

  read-refused_turn : (ask : Ask) (op : Op) → OpOf ask (Sound op) → (why : Refusal) → IsTurnRefused t p why q → IsReadAs ask (Refused why)
  read-refused_turn ask op sound refusal.TurnsSpent turn = (op, sound)
  read-refused_turn ask op sound (refusal.Full weight pending) turn = (op, sound)
  read-refused_turn ask op sound refusal.UnknownCentre turn = absurd turn
  read-refused_turn ask op sound refusal.Waiting turn = absurd turn
  read-refused_turn ask op sound refusal.Denied turn = absurd turn
  read-refused_turn ask op sound refusal.TooBig turn = absurd turn
  read-refused_turn ask op sound refusal.NotGround turn = absurd turn
  read-refused_turn ask op sound (refusal.BadSpec bad) turn = absurd turn
  read-refused_turn ask op sound refusal.NoMemory turn = absurd turn

  -- a call that came to its turn had a sound operand, and was permitted
  pub read-turn : (number : ℕ) (ask : Ask) (op : Op) (became : LogResult) → OpOf ask (Sound op) → IsTurn t p number op became q → IsReadAs ask became
  read-turn number ask op (Replied reply) sound turn = (op, sound)
  read-turn number ask op Pending sound turn = (op, sound)
  read-turn number ask op (Refused why) sound turn = read-refused_turn ask op sound why turn
  read-turn number ask op (Polled told) sound turn = absurd turn

  decided-refused_turn : (P : Type 0) → P → (why : Refusal) → IsTurnRefused t p why q → IsDecidedAs P (Refused why)
  decided-refused_turn P may refusal.TurnsSpent turn = may
  decided-refused_turn P may (refusal.Full weight pending) turn = may
  decided-refused_turn P may refusal.UnknownCentre turn = absurd turn
  decided-refused_turn P may refusal.Waiting turn = absurd turn
  decided-refused_turn P may refusal.Denied turn = absurd turn
  decided-refused_turn P may refusal.TooBig turn = absurd turn
  decided-refused_turn P may refusal.NotGround turn = absurd turn
  decided-refused_turn P may (refusal.BadSpec bad) turn = absurd turn
  decided-refused_turn P may refusal.NoMemory turn = absurd turn

  pub decided-turn : (P : Type 0) (number : ℕ) (op : Op) (became : LogResult) → P → IsTurn t p number op became q → IsDecidedAs P became
  decided-turn P number op (Replied reply) may turn = may
  decided-turn P number op Pending may turn = may
  decided-turn P number op (Refused why) may turn = decided-refused_turn P may why turn
  decided-turn P number op (Polled told) may turn = absurd turn

-- a log with one row more
module _ (log : List LogRow) (centre : List ℕ) (ask : Ask) (result : LogResult) where
  abbrev new : LogRow
  new = record { number = length log + 1; centre = centre; ask = Some ask; result = result }

  pub read-row : IsReadAs ask result → IsRead log → IsRead (with_row log centre (Some ask) result)
  read-row is read k row asked at has =
      ⊎_elim
      (λ (before : (k < length log) × (slice_get log k ≡ Some row)). read k row asked before.1 has)
      (λ (last : (k ≡ length log) × (row ≡ new)).
      let same : ask ≡ asked = same_Some ask asked (sym (ap (λ (r : LogRow). r.ask) last.1) ∙ has) in
      subst (IsReadAs asked) (sym (ap (λ (r : LogRow). r.result) last.1)) (subst (λ a. IsReadAs a result) same is))
      (slice_get_push log new k row at)

  pub decided-row : (permits : ℕ → Primitive → Type 0) (names : List (List ℕ)) → IsReadAs ask result
      → ((place : ℕ) → slice_get names place ≡ Some centre → IsDecidedAs (permits place (primitive_of ask)) result)
      → IsDecided permits names log → IsDecided permits names (with_row log centre (Some ask) result)
  decided-row permits names is may decided = record {
    read = read-row is decided.read;
    decided = λ k row asked place at has named.
        ⊎_elim
        (λ (before : (k < length log) × (slice_get log k ≡ Some row)). decided.decided k row asked place before.1 has named)
        (λ (last : (k ≡ length log) × (row ≡ new)).
        let same : ask ≡ asked = same_Some ask asked (sym (ap (λ (r : LogRow). r.ask) last.1) ∙ has) in
        let here : slice_get names place ≡ Some centre = named ∙ ap (λ (r : LogRow). Some r.centre) last.1 in
        subst (IsDecidedAs (permits place (primitive_of asked))) (sym (ap (λ (r : LogRow). r.result) last.1))
        (subst (λ a. IsDecidedAs (permits place (primitive_of a)) result) same (may place here)))
        (slice_get_push log new k row at);
  }

-- a log with a row more, of what equals these
pub pushed : (result : LogResult) (log before after : List LogRow) (centre name : List ℕ) (ask asked : Ask) → before ≡ log → name ≡ centre → asked ≡ ask
    → after ≡ with_row before name (Some asked) result → after ≡ with_row log centre (Some ask) result
pushed result log before after centre name ask asked same named copied is =
    is ∙ ap (λ l. with_row l name (Some asked) result) same ∙ ap (λ n. with_row log n (Some asked) result) named
    ∙ ap (λ a. with_row log centre (Some a) result) copied

-- a log after a refusal, of what equals these
pub refused-is : (why : Refusal) (log before after : List LogRow) (centre name : List ℕ) (ask asked : Ask)
    → before ≡ log → name ≡ centre → asked ≡ ask → after ≡ refused_log before name asked why → after ≡ refused_log log centre ask why
refused-is why log before after centre name ask asked same named copied is =
    is ∙ ap (λ l. refused_log l name asked why) same ∙ ap (λ n. refused_log log n asked why) named
    ∙ ap (λ a. refused_log log centre a why) copied

-- an agent has a pass of the centre of each name
pub at-pass : {W : Type 0} {d : AgentState W} {name : List ℕ} {p : PassState Entry Origin} → IsDesk d → (place : ℕ)
    → slice_get d.site.names place ≡ Some name → p ≡ get_or d.passes place p → slice_get d.passes place ≡ Some p
at-pass {d = d} {name = name} {p = p} is place named value =
    let inside = slice_get_within d.site.names place name named in
    let many = is.site.whole in
    let wide = is.are.wide in
    slice_get_read d.passes (length d.passes) place p refl (omega (arith, inside, many, wide)) value

-- a desk that is as it was
pub keeps-same : {W : Type 0} (d s : AgentState W) (log : List LogRow) → d ≡ s → log ≡ d.log → is_none s.held ≡ true
    → Keeps (desk_of s) (desk_of (record { site = d.site; agent = d.agent; passes = d.passes; log = log; pending = d.pending; held = d.held }))
keeps-same d s log same log-is free =
    subst (λ x. is_none x.held ≡ true → Keeps (desk_of x) (desk_of (record { site = d.site; agent = d.agent; passes = d.passes; log = log; pending = d.pending; held = d.held }))) same
    (λ (none : is_none d.held ≡ true). record { names = refl; free = none; seen = λ k. omega arith; read = subst IsRead (sym log-is) })
    free

-- a call that ran out of memory, and was told so
pub lost-told : (d e : DeskState) (centre : List ℕ) (ask : Ask) (told : Result Served Refusal) → told ≡ Err refusal.NoMemory
    → Refuses d centre ask refusal.NoMemory e → MatchResult told (λ how. Makes d centre ask how e) (λ why. Refuses d centre ask why e)
lost-told d e centre ask told is lost =
    subst (λ r. MatchResult r (λ how. Makes d centre ask how e) (λ why. Refuses d centre ask why e)) (sym is) lost

-- it ran out of memory before its turn
pub lost-before : {W : Type 0} (d s : AgentState W) (log : List LogRow) (centre : List ℕ) (ask : Ask) → d ≡ s → log ≡ d.log
    → Refuses (desk_of s) centre ask refusal.NoMemory
    (desk_of (record { site = d.site; agent = d.agent; passes = d.passes; log = log; pending = d.pending; held = d.held }))
lost-before {W = W} d s log centre ask same log-is =
    let now : AgentState W = record { site = d.site; agent = d.agent; passes = d.passes; log = log; pending = d.pending; held = d.held } in
    subst (λ x. Refuses (desk_of x) centre ask refusal.NoMemory (desk_of now)) same
    (record { may = inl (record { turns = refl; seen = refl }); log = log-is; waits = refl })

-- a desk whose pass of one centre has gone on
module _ {W : Type 0} (d : AgentState W) (place : ℕ) (p q : PassState Entry Origin) (at-p : slice_get d.passes place ≡ Some p) (log : List LogRow) (pending : Option WaitingAt) where
  abbrev gone : AgentState W
  gone = record { site = d.site; agent = d.agent; passes = set d.passes place q; log = log; pending = pending; held = d.held }

  pub keeps-gone : (s : AgentState W) → d ≡ s → is_none s.held ≡ true → (top : ℕ) → HasGrown top p q → (IsRead d.log → IsRead log)
      → Keeps (desk_of s) (desk_of (record { site = d.site; agent = d.agent; passes = set d.passes place q; log = log; pending = pending; held = d.held }))
  keeps-gone s same free top grown read =
      let more : length q.seen ≡ length p.seen + length grown.more = ap length grown.grown ∙ length-append p.seen grown.more in
      let longer : length p.seen ≤ length q.seen = omega (arith, more) in
      let seen : PassState Entry Origin → ℕ = λ x. length x.seen in
      subst (λ x. is_none x.held ≡ true → Keeps (desk_of x) (desk_of gone)) same
      (λ (none : is_none d.held ≡ true). record {
        names = refl;
        free = none;
        seen = get_or-map_set seen (λ a b. a ≤ b) (λ n. omega arith) d.passes place p q 0 at-p longer;
        read = read;
      })
      free

  pub spends-gone : (s : AgentState W) → d ≡ s → Goes p q
      → Spends 1 (desk_of s) (desk_of (record { site = d.site; agent = d.agent; passes = set d.passes place q; log = log; pending = pending; held = d.held }))
  spends-gone s same goes =
      let turns : PassState Entry Origin → ℕ = λ x. x.turns in
      subst (λ x. Spends 1 (desk_of x) (desk_of gone)) same
      (record {
        wide = length-map (set d.passes place q) turns ∙ length-set d.passes place q ∙ sym (length-map d.passes turns);
        fell = get_or-map_set turns (λ a b. b ≤ a) (λ n. omega arith) d.passes place p q 0 at-p goes.fell;
        most = get_or-map_set turns (λ a b. a ≤ b + 1) (λ n. omega arith) d.passes place p q 0 at-p goes.most;
      })

  pub takes-gone : (centre : List ℕ) → slice_get d.site.names place ≡ Some centre → 0 < p.turns → q.turns ≡ p.turns - 1 → TakesTurn (desk_of d) centre (desk_of gone)
  takes-gone centre named left fell =
      let turns : PassState Entry Origin → ℕ = λ x. x.turns in
      let before : slice_index (turns_of d.passes) place ≡ p.turns = get_or-map_at turns d.passes place p 0 at-p in
      let after : slice_index (turns_of (set d.passes place q)) place ≡ q.turns =
      get_or-map_at turns (set d.passes place q) place q 0 (slice_get-set_same d.passes place q p at-p) in
      record {
        place = place;
        named = named;
        one = omega (arith, before, after, left, fell);
        others = λ k other. get_or-map_set_other turns d.passes place k q 0 other;
      }

-- what a desk tells of a call that was allowed
module _ {W : Type 0} (permits : W → ℕ → ℕ → Primitive → Option ℕ) (d : AgentState W) (is : IsDesk d) (waits : Bool) (waits-is : waits ≡ is_some d.pending)
    (centre : List ℕ) (ask : Ask) (place : ℕ) (allowed : IsAllowed permits d.site d.agent waits centre ask place) (op : Op) (sound : OpOf ask (Sound op))
    (t : TurnstileState Origin) (p q : PassState Entry Origin) (at-t : slice_get d.site.centres place ≡ Some t) (at-p : slice_get d.passes place ≡ Some p)
    (kept : pass.KeepsPass t p q) where
  abbrev then : LogResult → AgentState W
  then became = record {
    site = d.site;
    agent = d.agent;
    passes = set d.passes place q;
    log = with_row d.log centre (Some ask) became;
    pending = waiting_of became (length d.log) place;
    held = d.held;
  }

  abbrev number : ℕ
  number = length d.log + 1

  none-pending : is_some d.pending ≡ false
  none-pending = sym waits-is ∙ allowed.idle

  ready : IsReady (desk_of d) centre
  ready = record {
    known = Contains-slice_get d.site.names place centre allowed.named;
    idle = idle-log d.site.names d.log d.pending is.waits none-pending;
  }

  quiet : waits_in (histories_of d.passes) d.agent d.pending ≡ false
  quiet = waits-none (histories_of d.passes) d.agent d.pending none-pending

  takes-makes : (became : LogResult) (history mine : List Entry) → 0 < p.turns → q ≡ after_turn p history mine → TakesTurn (desk_of d) centre (desk_of (then became))
  takes-makes became history mine left after =
      takes-gone d place p q at-p (with_row d.log centre (Some ask) became) (waiting_of became (length d.log) place) centre allowed.named left
      (ap (λ (x : PassState Entry Origin). x.turns) after)

  called : (told : Answer) → pass.CallsInTurn t p number op told q → IsCalled q.seen (call_of p.number number) ask
  called told makes =
      let e : Entry = Called (call_of p.number number) op makes.result makes.items in
      let seen : q.seen ≡ makes.found ++ e ∷ makes.gaves = ap (λ (x : PassState Entry Origin). x.seen) makes.after in
      let head : Contains (e ∷ makes.gaves) e = (0, omega arith, refl) in
      record {
        op = op;
        is = sound;
        called = record {
          result = makes.result;
          items = makes.items;
          stands = subst (λ h. Contains h e) (sym seen) (Contains-append_right makes.found (e ∷ makes.gaves) e head);
        };
      }

  waiting : reply_in q.seen (call_of p.number number) ≡ None
      → waits_in (histories_of (set d.passes place q)) d.agent (Some (record { row = length d.log; centre = place })) ≡ true
  waiting none =
      let there : get_or (histories_of (set d.passes place q)) place [] ≡ q.seen =
      get_or_from_slice_get (histories_of (set d.passes place q)) place q.seen []
      (slice_get-map_at (λ (x : PassState Entry Origin). x.seen) (set d.passes place q) place q (slice_get-set_same d.passes place q p at-p)) in
      let own : p.number ≡ d.agent = (is.are.each place t p at-t at-p).number in
      subst (λ es. is_none (reply_in es (call_of d.agent number)) ≡ true) (sym there)
      (subst (λ n. is_none (reply_in q.seen (call_of n number)) ≡ true) own (ap is_none none))

  makes-made : (told : Answer) (how : Served) (became : LogResult) → pass.CallsInTurn t p number op told q → FitsAsk ask became
      → IsServedBy how became → waits_in (histories_of (set d.passes place q)) d.agent (waiting_of became (length d.log) place) ≡ is_pending became
      → Makes (desk_of d) centre ask how (desk_of (then became))
  makes-made told how became makes fits by waits' = record {
    ready = ready;
    sound = (op, sound);
    turn = takes-makes became (makes.found ++ Called (call_of p.number number) op makes.result makes.items ∷ makes.gaves)
        (p.mine ++ Called (call_of p.number number) op makes.result makes.items ∷ []) makes.finds.left makes.after;
    result = became;
    served = by;
    fits = fits;
    log = refl;
    waits = waits';
  }

  spent-still : q ≡ p → StandsStill (desk_of d) (desk_of (then (Refused refusal.TurnsSpent)))
  spent-still same =
      let whole : set d.passes place q ≡ d.passes = ap (λ x. set d.passes place x) same ∙ set-slice_get d.passes place p at-p in
      record { turns = ap turns_of whole; seen = ap counts_of whole }

  none-left : p.turns ≡ 0 → HasNoTurn (desk_of d) centre
  none-left none = record {
    place = place;
    named = allowed.named;
    none = get_or-map_at (λ (x : PassState Entry Origin). x.turns) d.passes place p 0 at-p ∙ none;
  }

  refuses-turn : (why : Refusal) → IsTurnRefused t p why q → Refuses (desk_of d) centre ask why (desk_of (then (Refused why)))
  refuses-turn refusal.TurnsSpent turn = record {
    may = (ready, (op, sound), none-left turn.0, spent-still turn.1);
    log = refl;
    waits = sym quiet;
  }
  refuses-turn (refusal.Full weight many) turn = record {
    may = (ready, (op, sound), takes-makes (Refused (refusal.Full weight many)) q.seen p.mine turn.sees.finds.left turn.sees.after);
    log = refl;
    waits = sym quiet;
  }
  refuses-turn refusal.UnknownCentre turn = absurd turn
  refuses-turn refusal.Waiting turn = absurd turn
  refuses-turn refusal.Denied turn = absurd turn
  refuses-turn refusal.TooBig turn = absurd turn
  refuses-turn refusal.NotGround turn = absurd turn
  refuses-turn (refusal.BadSpec bad) turn = absurd turn
  refuses-turn refusal.NoMemory turn = absurd turn

  -- memory ran out in the call's turn
  pub lost-turn : (log : List LogRow) (s : AgentState W) → log ≡ d.log → d ≡ s → pass.Sees t p q
      → Refuses (desk_of s) centre ask refusal.NoMemory
      (desk_of (record { site = d.site; agent = d.agent; passes = set d.passes place q; log = log; pending = d.pending; held = d.held }))
  lost-turn log s log-is same sees =
      let fell = ap (λ (x : PassState Entry Origin). x.turns) sees.after in
      subst (λ x. Refuses (desk_of x) centre ask refusal.NoMemory (desk_of (record { site = d.site; agent = d.agent; passes = set d.passes place q; log = log; pending = d.pending; held = d.held }))) same
      (record {
        may = inr (ready, (op, sound), takes-gone d place p q at-p log d.pending centre allowed.named sees.finds.left fell);
        log = log-is;
        waits = waits-none (histories_of (set d.passes place q)) d.agent d.pending none-pending ∙ sym quiet;
      })

  tells-turn : (became : LogResult) → IsTurn t p number op became q
      → MatchResult (told_of became) (λ how. Makes (desk_of d) centre ask how (desk_of (then became))) (λ why. Refuses (desk_of d) centre ask why (desk_of (then became)))
  tells-turn (Replied reply) turn =
      makes-made (answer.Replied reply) served.Replied (Replied reply) turn
      (reply-fits_ask t.origin q.seen (call_of p.number number) ask kept.own.rest.run (called (answer.Replied reply) turn) reply turn.answer) (reply, refl) refl
  tells-turn Pending turn =
      makes-made answer.Pending served.Pending Pending turn
      (none-waits_ask t.origin q.seen (call_of p.number number) ask kept.own.rest.run (called answer.Pending turn) turn.answer) refl (waiting turn.answer)
  tells-turn (Refused why) turn = refuses-turn why turn
  tells-turn (Polled told) turn = absurd turn

  -- the same of a log, a pending row and an answer that equal those
  pub tells : (became : LogResult) (row : ℕ) (log : List LogRow) (pending : Option WaitingAt) (told : Result Served Refusal) (s : AgentState W)
      → row ≡ length d.log → log ≡ with_row d.log centre (Some ask) became → pending ≡ waiting_of became row place → told ≡ told_of became → d ≡ s
      → IsTurn t p (row + 1) op became q
      → MatchResult told
      (λ how. Makes (desk_of s) centre ask how (desk_of (record { site = d.site; agent = d.agent; passes = set d.passes place q; log = log; pending = pending; held = d.held })))
      (λ why. Refuses (desk_of s) centre ask why (desk_of (record { site = d.site; agent = d.agent; passes = set d.passes place q; log = log; pending = pending; held = d.held })))
  tells became row log pending told s row-is log-is pending-is told-is same turn =
      let then' : List LogRow → Option WaitingAt → AgentState W =
      λ l w. record { site = d.site; agent = d.agent; passes = set d.passes place q; log = l; pending = w; held = d.held } in
      let waits' : pending ≡ waiting_of became (length d.log) place = pending-is ∙ ap (λ n. waiting_of became n place) row-is in
      let turn' : IsTurn t p number op became q = subst (λ n. IsTurn t p (n + 1) op became q) row-is turn in
      let Tells : AgentState W → List LogRow → Option WaitingAt → Result Served Refusal → Type 0 =
      λ x l w r. MatchResult r (λ how. Makes (desk_of x) centre ask how (desk_of (then' l w))) (λ why. Refuses (desk_of x) centre ask why (desk_of (then' l w))) in
      subst (λ x. Tells x log pending told) same
      (subst (λ l. Tells d l pending told) (sym log-is)
      (subst (λ w. Tells d (with_row d.log centre (Some ask) became) w told) (sym waits')
      (subst (λ r. Tells d (with_row d.log centre (Some ask) became) (waiting_of became (length d.log) place) r) (sym told-is) (tells-turn became turn'))))

  -- the log stays decided
  pub decides : (became : LogResult) (row : ℕ) (log : List LogRow) → row ≡ length d.log
      → log ≡ with_row d.log centre (Some ask) became → IsTurn t p (row + 1) op became q
      → site.IsDecidedLog permits d.site d.agent d.log → site.IsDecidedLog permits d.site d.agent log
  decides became row log row-is log-is turn decided role has =
      let role-is : allowed.role ≡ role = same_Some allowed.role role (sym allowed.has ∙ has) in
      let may : WardenPermits permits d.site.warden role place (primitive_of ask) =
      subst (λ r. WardenPermits permits d.site.warden r place (primitive_of ask)) role-is allowed.may in
      subst (IsDecided (WardenPermits permits d.site.warden role) d.site.names) (sym log-is)
      (decided-row d.log centre ask became (WardenPermits permits d.site.warden role) d.site.names (read-turn t p q (row + 1) ask op became sound turn)
      (λ place' named.
      subst (λ n. IsDecidedAs (WardenPermits permits d.site.warden role n (primitive_of ask)) became)
      (AllPairs-one_place d.site.names place place' centre is.site.differ allowed.named named)
      (decided-turn t p q (WardenPermits permits d.site.warden role place (primitive_of ask)) (row + 1) op became may turn))
      (decided role has))

-- what a desk tells of a call that was refused before a turn
module _ {W : Type 0} (permits : W → ℕ → ℕ → Primitive → Option ℕ) (d : AgentState W) (is : IsDesk d) (waits : Bool) (waits-is : waits ≡ is_some d.pending)
    (centre : List ℕ) (ask : Ask) where
  abbrev after : Refusal → AgentState W
  after why = record {
    site = d.site;
    agent = d.agent;
    passes = d.passes;
    log = refused_log d.log centre ask why;
    pending = d.pending;
    held = d.held;
  }

  abbrev IsRefused : Refusal → Type 0
  IsRefused why = IsRefusedFor permits d.site d.agent waits centre ask why

  read-refused : (why : Refusal) → (why ≡ refusal.NoMemory → ⊥) → IsRefused why → IsReadAs ask (Refused why)
  read-refused refusal.UnknownCentre other refused = tt
  read-refused refusal.Waiting other refused = tt
  read-refused refusal.Denied other refused = tt
  read-refused refusal.TooBig other refused = refused.is
  read-refused refusal.NotGround other refused = refused.is
  read-refused (refusal.BadSpec bad) other refused = refused.is
  read-refused refusal.TurnsSpent other refused = absurd refused
  read-refused (refusal.Full weight many) other refused = absurd refused
  read-refused refusal.NoMemory other refused = absurd (other refl)

  still : (why : Refusal) → StandsStill (desk_of d) (desk_of (after why))
  still why = record { turns = refl; seen = refl }

  ready-at : (place : ℕ) → slice_get d.site.names place ≡ Some centre → waits ≡ false → IsReady (desk_of d) centre
  ready-at place named idle = record {
    known = Contains-slice_get d.site.names place centre named;
    idle = idle-log d.site.names d.log d.pending is.waits (sym waits-is ∙ idle);
  }

  may-refuse : (why : Refusal) → IsRefused why → MayRefuse (desk_of d) centre ask why (desk_of (after why))
  may-refuse refusal.UnknownCentre refused = (refused, still refusal.UnknownCentre)
  may-refuse refusal.Waiting refused =
      (refused.0, busy-some d.site.names d.log d.pending is.waits (sym waits-is ∙ refused.1), still refusal.Waiting)
  may-refuse refusal.Denied refused = (ready-at refused.place refused.named refused.idle, still refusal.Denied)
  may-refuse refusal.TooBig refused =
      (ready-at refused.place refused.allowed.named refused.allowed.idle, refused.is, still refusal.TooBig)
  may-refuse refusal.NotGround refused =
      (ready-at refused.place refused.allowed.named refused.allowed.idle, refused.is, still refusal.NotGround)
  may-refuse (refusal.BadSpec bad) refused =
      (ready-at refused.place refused.allowed.named refused.allowed.idle, refused.is, still (refusal.BadSpec bad))
  may-refuse refusal.TurnsSpent refused = absurd refused
  may-refuse (refusal.Full weight many) refused = absurd refused
  may-refuse refusal.NoMemory refused = inl (still refusal.NoMemory)

  module _ (role place : ℕ) (has : slice_get d.site.roles d.agent ≡ Some role) (named : slice_get d.site.names place ≡ Some centre) where
    abbrev May : ℕ → ℕ → Type 0
    May r n = WardenPermits permits d.site.warden r n (primitive_of ask)

    moved : (r n : ℕ) → slice_get d.site.roles d.agent ≡ Some r → slice_get d.site.names n ≡ Some centre → May r n → May role place
    moved r n has' named' may =
        subst (May role) (AllPairs-one_place d.site.names n place centre is.site.differ named' named)
        (subst (λ r'. May r' n) (same_Some r role (sym has' ∙ has)) may)

    moved-back : (r n : ℕ) → slice_get d.site.roles d.agent ≡ Some r → slice_get d.site.names n ≡ Some centre → May role place → May r n
    moved-back r n has' named' may =
        subst (May r) (AllPairs-one_place d.site.names place n centre is.site.differ named named')
        (subst (λ r'. May r' place) (same_Some role r (sym has ∙ has')) may)

    decided-refused : (why : Refusal) → (why ≡ refusal.NoMemory → ⊥) → IsRefused why → IsDecidedAs (May role place) (Refused why)
    decided-refused refusal.UnknownCentre other refused = tt
    decided-refused refusal.Waiting other refused = tt
    decided-refused refusal.Denied other refused = λ may. refused.may_not (moved-back refused.role refused.place refused.has refused.named may)
    decided-refused refusal.TooBig other refused = moved refused.allowed.role refused.place refused.allowed.has refused.allowed.named refused.allowed.may
    decided-refused refusal.NotGround other refused = moved refused.allowed.role refused.place refused.allowed.has refused.allowed.named refused.allowed.may
    decided-refused (refusal.BadSpec bad) other refused =
        moved refused.allowed.role refused.place refused.allowed.has refused.allowed.named refused.allowed.may
    decided-refused refusal.TurnsSpent other refused = absurd refused
    decided-refused (refusal.Full weight many) other refused = absurd refused
    decided-refused refusal.NoMemory other refused = absurd (other refl)

  module _ (why : Refusal) (refused : IsRefused why) (log : List LogRow) (log-is : log ≡ refused_log d.log centre ask why)
      (s : AgentState W) (same : d ≡ s) where
    abbrev now : List LogRow → AgentState W
    now l = record { site = d.site; agent = d.agent; passes = d.passes; log = l; pending = d.pending; held = d.held }

    pub keeps-refused : is_none s.held ≡ true
        → Keeps (desk_of s) (desk_of (record { site = d.site; agent = d.agent; passes = d.passes; log = log; pending = d.pending; held = d.held }))
    keeps-refused free =
        subst (λ x. is_none x.held ≡ true → Keeps (desk_of x) (desk_of (now log))) same
        (λ (none : is_none d.held ≡ true). record {
          names = refl;
          free = none;
          seen = λ k. omega arith;
          read = λ (read : IsRead d.log).
              subst IsRead (sym log-is)
              (after-refusal IsRead d.log centre ask why read
              (λ other. read-row d.log centre ask (Refused why) (read-refused why other refused) read));
        })
        free

    pub spends-refused : Spends 1 (desk_of s) (desk_of (record { site = d.site; agent = d.agent; passes = d.passes; log = log; pending = d.pending; held = d.held }))
    spends-refused =
        subst (λ x. Spends 1 (desk_of x) (desk_of (now log))) same (record { wide = refl; fell = λ k. omega arith; most = λ k. omega arith })

    pub decides-refused : site.IsDecidedLog permits d.site d.agent d.log → site.IsDecidedLog permits d.site d.agent log
    decides-refused decided role has =
        subst (IsDecided (WardenPermits permits d.site.warden role) d.site.names) (sym log-is)
        (after-refusal (IsDecided (WardenPermits permits d.site.warden role) d.site.names) d.log centre ask why (decided role has)
        (λ other.
        decided-row d.log centre ask (Refused why) (WardenPermits permits d.site.warden role) d.site.names (read-refused why other refused)
        (λ place named. decided-refused role place has named why other refused) (decided role has)))

    pub refuses : Refuses (desk_of s) centre ask why (desk_of (record { site = d.site; agent = d.agent; passes = d.passes; log = log; pending = d.pending; held = d.held }))
    refuses =
        subst (λ x. Refuses (desk_of x) centre ask why (desk_of (now log))) same
        (subst (λ l. Refuses (desk_of d) centre ask why (desk_of (now l))) (sym log-is)
        (record { may = may-refuse why refused; log = refl; waits = refl }))
