-- A desk after a call: a pass of it has gone on, its log has a row more, and that row may be pending.
use Rattle.std.proofs.Common.{◌≡◌, ℕ, ◌+◌, ◌<◌, Bool, true, false, List, [], ◌∷◌, ◌++◌, Option, Some, None, All, Contains, length, take, refl, sym, ap, ◌∙◌, subst, arith, ⊎_elim}
use Rattle.std.specs.List.{slice_get, list_any}
use Rattle.std.specs.Option.{is_none, is_some}
use Rattle.std.proofs.Math.ListN.{set}
use Rattle.std.proofs.lemmas.Bool.{cases_eq, or_from, true≢false, false≢true}
use Rattle.std.proofs.lemmas.List.{append-nil, append_assoc, take-append-le, take_all, drop_all}
use Rattle.std.proofs.lemmas.List.Elements.{All-nil, All-push, All-weaker, Contains-append_right}
use Rattle.std.proofs.lemmas.List.Folds.{list_any-append}
use Rattle.std.proofs.lemmas.Option.{none-some, same_Some, slice_get_within}
use Rattle.tc_centre.specs.declared.answers.Answer.{Answer}
use Rattle.tc_centre.specs.declared.answers.Answer.TheVariants as answer
use Rattle.tc_desk.specs.Agreeing.{AgreesRefused, AgreesRow, AreLonger, HasRow, HaveRows, IsLonger, IsNextRow, NamesCentre}
use Rattle.tc_desk.specs.Desks.{refused_log, with_row}
use Rattle.tc_desk.specs.Logs.{any_pending, is_served}
use Rattle.tc_desk.specs.Operands.{OpOf, Sound}
use Rattle.tc_desk.specs.Served.{IsCalled, WasFull}
use Rattle.tc_desk.specs.declared.rows.LogResult.{LogResult}
use Rattle.tc_desk.specs.declared.rows.LogResult.TheVariants.{Replied, Pending, Refused, Polled}
use Rattle.tc_desk.specs.declared.rows.LogRow.{LogRow}
use Rattle.tc_desk.specs.declared.rows.Refusal.{Refusal}
use Rattle.tc_desk.specs.declared.rows.Refusal.TheVariants as refusal
use Rattle.tc_desk.proofs.Growing.{Agrees-longer, Agrees-push, HaveRow-longer}
use Rattle.tc_desk.proofs.Logs.{any_pending-push_settled}
use Rattle.tc_lists.proofs.Places.{slice_get_pushed, Contains-slice_get, slice_get_seam}
use Rattle.tc_model.specs.Calls.{id_of, calls_of, call_of}
use Rattle.tc_model.specs.Choices.{TheFirst}
use Rattle.tc_model.specs.Entries.{IsFull, pending_after}
use Rattle.tc_model.specs.Entries as entries
use Rattle.tc_model.specs.Replies.{reply_in, reply_of}
use Rattle.tc_model.specs.Run.{IsLegal}
use Rattle.tc_model.specs.State.{Origin, IsQuiescent, after_history, opening}
use Rattle.tc_model.specs.declared.asks.Ask.{Ask}
use Rattle.tc_model.specs.declared.asks.Primitive.{Primitive}
use Rattle.tc_model.specs.declared.calls.CallId.{CallId}
use Rattle.tc_model.specs.declared.calls.Op.{Op}
use Rattle.tc_model.specs.declared.entries.Entry.{Entry}
use Rattle.tc_model.specs.declared.entries.Entry.TheVariants.{Called}
use Rattle.tc_model.specs.declared.outcomes.Outcome.{Outcome}
use Rattle.tc_model.specs.declared.outcomes.Outcome.TheVariants as outcome
use Rattle.tc_model.specs.declared.outcomes.Reply.{Reply}
use Rattle.tc_model.specs.declared.outcomes.Reply.TheVariants as reply
use Rattle.tc_model.proofs.Histories.{reply_in-IsPrefix}
use Rattle.tc_model.proofs.NextEntry.{reply_in-called}
use Rattle.tc_shared.specs.Passes.{KeepsPass, CallsInTurn, SeesFull, SeesRoom}
use Rattle.tc_turn.specs.Passes.{TurnstileState, PassState}
use Rattle.tc_site.specs.Desks.{AgentState, IsDesk, IsWaitingAt, WaitsAt, is_held}
use Rattle.tc_site.specs.Judging.{IsRefusedFor}
use Rattle.tc_site.specs.Sites.{IsOwnPass, histories_of, origins_of}
use Rattle.tc_site.specs.Turns.{HasGrown, IsTurn, waiting_of}
use Rattle.tc_site.specs.declared.waiting.WaitingAt.{WaitingAt}
use Rattle.tc_site.proofs.Calling.{are-set, grown-sees, longer-set}
use Rattle.tc_lists.proofs.Sets.{slice_get-map_at, slice_get-map_from, slice_get-set_other, slice_get-set_same}
use Rattle.tc_lists.proofs.Pairs.{AllPairs-one_place}

-- rows of which none was served, with one more that wasn't
pub unserved-push : (rows : List LogRow) (row : LogRow) → list_any (λ (r : LogRow). is_served r.result) rows ≡ false → is_served row.result ≡ false
    → list_any (λ (r : LogRow). is_served r.result) (rows ++ row ∷ []) ≡ false
unserved-push rows row none unserved =
    list_any-append (λ (r : LogRow). is_served r.result) rows (row ∷ [])
    ∙ or_from (list_any (λ (r : LogRow). is_served r.result) rows) (list_any (λ (r : LogRow). is_served r.result) (row ∷ [])) none
    (or_from (is_served row.result) false unserved refl)

-- a row that was not served behind the others leaves where one is pending
abbrev pub waits-behind : (names : List (List ℕ)) (log : List LogRow) (w : WaitingAt) (row : LogRow) → IsWaitingAt names log w → is_served row.result ≡ false
    → IsWaitingAt names (log ++ row ∷ []) w
waits-behind names log w row waits unserved = record {
  front = waits.front;
  row_is = waits.row_is;
  back = waits.back ++ row ∷ [];
  from = ap (λ (l : List LogRow). l ++ row ∷ []) waits.from ∙ append_assoc waits.front (waits.row_is ∷ waits.back) (row ∷ []);
  place = waits.place;
  pending = waits.pending;
  settled = waits.settled;
  unserved_behind = unserved-push waits.back row waits.unserved_behind unserved;
  named = waits.named;
}

-- where no row waits, none is pending
pub idle-log : (names : List (List ℕ)) (log : List LogRow) (pending : Option WaitingAt) → WaitsAt names log pending → is_some pending ≡ false → any_pending log ≡ false
idle-log names log None waits idle = waits
idle-log names log (Some w) waits idle = absurd (true≢false idle)

module _ (names : List (List ℕ)) (log : List LogRow) (centre : List ℕ) (ask : Ask) where
  -- where the row is pending that has come to this
  pub waits-turned : (place : ℕ) (became : LogResult) → slice_get names place ≡ Some centre → any_pending log ≡ false
      → WaitsAt names (with_row log centre (Some ask) became) (waiting_of became (length log) place)
  waits-turned place Pending named none = record {
    front = log;
    row_is = record { number = length log + 1; centre = centre; ask = Some ask; result = Pending };
    back = [];
    from = refl;
    place = refl;
    pending = refl;
    settled = none;
    unserved_behind = refl;
    named = named;
  }
  waits-turned place (Replied reply) named none = any_pending-push_settled log (record { number = length log + 1; centre = centre; ask = Some ask; result = Replied reply }) none refl
  waits-turned place (Refused why) named none = any_pending-push_settled log (record { number = length log + 1; centre = centre; ask = Some ask; result = Refused why }) none refl
  waits-turned place (Polled told) named none = any_pending-push_settled log (record { number = length log + 1; centre = centre; ask = Some ask; result = Polled told }) none refl

  -- a row that is refused leaves what is pending
  pub waits-refused : (why : Refusal) (pending : Option WaitingAt) → WaitsAt names log pending → WaitsAt names (with_row log centre (Some ask) (Refused why)) pending
  waits-refused why None none = any_pending-push_settled log (record { number = length log + 1; centre = centre; ask = Some ask; result = Refused why }) none refl
  waits-refused why (Some w) waits =
      waits-behind names log w (record { number = length log + 1; centre = centre; ask = Some ask; result = Refused why }) waits refl

-- a desk that is free holds no turn
pub none-held : (held : Option ℕ) (k : ℕ) → is_none held ≡ true → is_held held k ≡ false
none-held None k free = refl
none-held (Some place) k free = absurd (false≢true free)

-- an outcome without a reply
pub pending-outcome : (result : Outcome) → ((r : Reply) → reply_of result ≡ Some r → ⊥) → result ≡ outcome.Pending
pending-outcome outcome.Pending none = refl
pending-outcome outcome.Done none = absurd (none reply.Done refl)
pending-outcome (outcome.Took t) none = absurd (none (reply.Tuple t) refl)
pending-outcome outcome.NoTuple none = absurd (none reply.NoTuple refl)
pending-outcome outcome.Absent none = absurd (none reply.Absent refl)
pending-outcome (outcome.Found t) none = absurd (none (reply.Found t) refl)
pending-outcome (outcome.Spec text) none = absurd (none (reply.Spec text) refl)
pending-outcome (outcome.Over phase tuple) none = absurd (none (reply.OverBudget phase) refl)

-- a call that was made
module _ (t : TurnstileState Origin) (p q : PassState Entry Origin) (number : ℕ) (op : Op) (told : Answer) (m : CallsInTurn t p number op told q) where
  abbrev entry : Entry
  entry = Called (call_of p.number number) op m.result m.items

  seen-is : q.seen ≡ m.found ++ entry ∷ m.gaves
  seen-is = ap (λ (x : PassState Entry Origin). x.seen) m.after

  pub makes-stands : Contains q.seen (Called (call_of p.number number) op m.result m.items)
  makes-stands =
      let behind : Contains (entry ∷ m.gaves) entry = (0, omega arith, refl) in
      subst (λ es. Contains es entry) (sym seen-is) (Contains-append_right m.found (entry ∷ m.gaves) entry behind)

  -- the reply of its entry is the reply that is known
  pub makes-reply : (r : Reply) → reply_of m.result ≡ Some r → reply_in q.seen (call_of p.number number) ≡ Some r
  makes-reply r is =
      let id : CallId = call_of p.number number in
      let k : ℕ = length m.found in
      let at : slice_get q.seen k ≡ Some entry = ap (λ es. slice_get es k) seen-is ∙ slice_get_seam m.found entry m.gaves in
      let legal : IsLegal TheFirst t.origin (take k q.seen) (after_history (opening t.origin) (take k q.seen)) entry = m.finds.own.rest.run k entry at in
      let front : take k q.seen ≡ m.found =
      ap (take k) seen-is ∙ take-append-le k m.found (entry ∷ m.gaves) (omega arith) ∙ take_all k m.found (omega arith) in
      let above : All (λ e. (id_of e).number < id.number) (calls_of id.agent m.found) =
      subst (λ es. All (λ e. (id_of e).number < id.number) (calls_of id.agent es)) front legal.1.number in
      reply_in-IsPrefix (m.found ++ entry ∷ []) q.seen id r (m.gaves, append_assoc m.found (entry ∷ []) m.gaves ∙ sym seen-is)
      (reply_in-called m.found id op m.result m.items above ∙ is)

  -- a call without a reply has waited
  pub makes-waits : reply_in q.seen (call_of p.number number) ≡ None → m.result ≡ outcome.Pending
  makes-waits none = pending-outcome m.result (λ r is. none-some r (sym none ∙ makes-reply r is))

module _ {W : Type 0} (d : AgentState W) (is : IsDesk d) (free : is_none d.held ≡ true)
    (place : ℕ) (centre : List ℕ) (named : slice_get d.site.names place ≡ Some centre)
    (t : TurnstileState Origin) (p : PassState Entry Origin) (at-t : slice_get d.site.centres place ≡ Some t) (at-p : slice_get d.passes place ≡ Some p) where
  abbrev seen : PassState Entry Origin → List Entry
  seen = λ x. x.seen

  pub own-pass : IsOwnPass d.agent t p
  own-pass = is.are.each place t p at-t at-p

  pub pass-free : p.holds ≡ false
  pass-free = is.holds place p at-p ∙ none-held d.held place free

  mine-seen : calls_of d.agent p.seen ≡ p.mine
  mine-seen = ap (λ n. calls_of n p.seen) (sym own-pass.number) ∙ own-pass.own.mine

  mine-rows : All (HasRow d.log centre) p.mine
  mine-rows =
      subst (All (HasRow d.log centre)) mine-seen
      (is.agrees.calls place centre p.seen named (slice_get-map_at seen d.passes place p at-p))

  -- what the agent has made at the centre has a number below that of the next row
  pub pass-next : (number : ℕ) → number ≡ length d.log + 1 → All (λ e. (id_of e).number < number) p.mine
  pass-next number next =
      All-weaker (HasRow d.log centre) (λ e. (id_of e).number < number)
      (λ e h. let within = slice_get_within d.log h.k h.row h.stands in let counted = h.counted in omega (arith, within, counted, next))
      p.mine mine-rows

  module _ (q : PassState Entry Origin) (keeps : KeepsPass t p q) where
    abbrev passes' : List (PassState Entry Origin)
    passes' = set d.passes place q

    is-set : (k : ℕ) (x : PassState Entry Origin) → slice_get (set d.passes place q) k ≡ Some x → k ≡ place → x ≡ q
    is-set k x at here = same_Some x q (sym at ∙ ap (slice_get passes') here ∙ slice_get-set_same d.passes place q p at-p)

    pub holds-set : (k : ℕ) (x : PassState Entry Origin) → slice_get (set d.passes place q) k ≡ Some x → x.holds ≡ is_held d.held k
    holds-set k x at =
        ⊎_elim
        (λ (here : k ≡ place). ap (λ (y : PassState Entry Origin). y.holds) (is-set k x at here) ∙ keeps.free ∙ sym (none-held d.held k free))
        (λ (other : k ≡ place → ⊥). is.holds k x (sym (slice_get-set_other d.passes place k q other) ∙ at))
        (cases_eq k place)

    mine-new : q.mine ≡ calls_of d.agent q.seen
    mine-new = sym keeps.own.mine ∙ ap (λ n. calls_of n q.seen) (keeps.number ∙ own-pass.number)

    -- what the agent has made has its rows, if what it has made at this centre has
    pub rows-set : (log : List LogRow) → ((name : List ℕ) (es : List Entry) → All (HasRow d.log name) es → All (HasRow log name) es)
        → All (HasRow log centre) q.mine → HaveRows d.site.names (histories_of (set d.passes place q)) d.agent log
    rows-set log longer mine k name history at there =
        let after = slice_get-map_from seen passes' k history there in
        ⊎_elim
        (λ (here : k ≡ place).
        let same : name ≡ centre = same_Some name centre (sym at ∙ ap (slice_get d.site.names) here ∙ named) in
        let now : q.seen ≡ history = ap seen (sym (is-set k after.0 after.1 here)) ∙ after.2 in
        subst (λ h. All (HasRow log name) (calls_of d.agent h)) now
        (subst (All (HasRow log name)) mine-new (subst (λ n. All (HasRow log n) q.mine) (sym same) mine)))
        (λ (other : k ≡ place → ⊥).
        longer name (calls_of d.agent history)
        (is.agrees.calls k name history at
        (slice_get-map_at seen d.passes k after.0 (sym (slice_get-set_other d.passes place k q other) ∙ after.1) ∙ ap Some after.2)))
        (cases_eq k place)

    -- after the pass has seen more, to which the agent added nothing
    pub desk-longer : HasGrown (length d.log) p q → q.mine ≡ p.mine → IsDesk (record d { passes = set d.passes place q })
    desk-longer grown same = record {
      site = is.site;
      agent_is = is.agent_is;
      are = are-set d.agent (length d.log) place d.site.centres d.passes is.are t p q at-t at-p keeps.own keeps.number;
      holds = holds-set;
      agrees = Agrees-longer (origins_of d.site.centres) d.site.names (histories_of d.passes) (histories_of passes') d.agent d.log is.agrees
          (longer-set d.agent (length d.log) place d.site.centres d.passes is.are t p q at-t at-p keeps.own keeps.number grown)
          (rows-set d.log (λ name es all. all) (subst (All (HasRow d.log centre)) (sym same) mine-rows));
      waits = is.waits;
    }

    pub desk-seen : {log : List LogRow} → log ≡ d.log → SeesRoom t p q → IsDesk (record d { passes = set d.passes place q; log = log })
    desk-seen log-is room =
        subst (λ l. IsDesk (record d { passes = set d.passes place q; log = l })) (sym log-is)
        (desk-longer (grown-sees t p q (length d.log) room.sees) (ap (λ (x : PassState Entry Origin). x.mine) room.sees.after))

    -- what the agent has made at this centre has its rows, with one row more
    pub rows-same : (row : LogRow) → q.mine ≡ p.mine → All (HasRow (d.log ++ row ∷ []) centre) q.mine
    rows-same row same =
        subst (All (HasRow (d.log ++ row ∷ []) centre)) (sym same) (HaveRow-longer d.log (row ∷ []) centre p.mine mine-rows)

    pub rows-made : (row : LogRow) (e : Entry) → q.mine ≡ p.mine ++ e ∷ [] → HasRow (d.log ++ row ∷ []) centre e → All (HasRow (d.log ++ row ∷ []) centre) q.mine
    rows-made row e more has =
        subst (All (HasRow (d.log ++ row ∷ []) centre)) (sym more)
        (All-push (HasRow (d.log ++ row ∷ []) centre) p.mine e (HaveRow-longer d.log (row ∷ []) centre p.mine mine-rows) has)

    -- a turn that found the centre full
    pub was-full : (weight pending : ℕ) → SeesFull t p weight pending q → WasFull t.origin q.seen (call_of d.agent (length d.log + 1)) weight pending
    was-full weight pending h =
        let whole : q.seen ≡ take (length q.seen) q.seen = sym (take_all (length q.seen) q.seen (omega arith)) in
        let same : p.mine ≡ calls_of d.agent q.seen = sym (ap (λ (x : PassState Entry Origin). x.mine) h.sees.after) ∙ mine-new in
        let before : All (λ e. (id_of e).number < length d.log + 1) (calls_of d.agent q.seen) =
        subst (All (λ e. (id_of e).number < length d.log + 1)) same (pass-next (length d.log + 1) refl) in
        record {
          n = length q.seen;
          within = omega arith;
          quiescent = subst (λ es. IsQuiescent (after_history (opening t.origin) es)) whole keeps.own.rest.quiescent;
          full = subst (IsFull t.origin) whole h.full;
          weighed = h.weight_is ∙ ap entries.weight whole;
          waited = h.pending_is ∙ ap (pending_after t.origin) whole;
          before = subst (λ es. All (λ e. (id_of e).number < length d.log + 1) (calls_of d.agent es)) whole before;
          behind = subst (λ es. All (λ e. length d.log + 1 < (id_of e).number) (calls_of d.agent es))
              (sym (drop_all (length q.seen) q.seen (omega arith))) (All-nil (λ e. length d.log + 1 < (id_of e).number));
        }

    -- with a row more that agrees with what the pass has seen
    module _ (row : LogRow) (pending : Option WaitingAt) (counted : row.number ≡ length d.log + 1) (of : row.centre ≡ centre) where
      next-row : AgreesRow t.origin q.seen (call_of d.agent (length d.log + 1)) d.log (length d.log) row row.result
          → NamesCentre d.site.names centre row.result
          → IsNextRow (origins_of d.site.centres) d.site.names (histories_of (set d.passes place q)) d.agent d.log row
      next-row agrees known = record {
        counted = counted;
        known = subst (λ c. NamesCentre d.site.names c row.result) (sym of) known;
        agrees = λ k origin history at began there.
            let here : k ≡ place = AllPairs-one_place d.site.names k place centre is.site.differ (at ∙ ap Some of) named in
            let first = slice_get-map_from (λ (x : TurnstileState Origin). x.origin) d.site.centres k origin began in
            let after = slice_get-map_from seen passes' k history there in
            let same : t ≡ first.0 = same_Some t first.0 (sym at-t ∙ ap (slice_get d.site.centres) (sym here) ∙ first.1) in
            let origins : t.origin ≡ origin = ap (λ (x : TurnstileState Origin). x.origin) same ∙ first.2 in
            let now : q.seen ≡ history = ap seen (sym (is-set k after.0 after.1 here)) ∙ after.2 in
            subst (λ (o : Origin). AgreesRow o history (call_of d.agent (length d.log + 1)) d.log (length d.log) row row.result) origins
            (subst (λ (h : List Entry). AgreesRow t.origin h (call_of d.agent (length d.log + 1)) d.log (length d.log) row row.result) now agrees);
      }

      pub desk-pushed : HasGrown (length d.log) p q → AgreesRow t.origin q.seen (call_of d.agent (length d.log + 1)) d.log (length d.log) row row.result
          → NamesCentre d.site.names centre row.result → All (HasRow (d.log ++ row ∷ []) centre) q.mine → WaitsAt d.site.names (d.log ++ row ∷ []) pending
          → IsDesk (record d { passes = set d.passes place q; log = d.log ++ row ∷ []; pending = pending })
      desk-pushed grown agrees known made waits = record {
        site = is.site;
        agent_is = is.agent_is;
        are = are-set d.agent (length d.log) place d.site.centres d.passes is.are t p q at-t at-p keeps.own keeps.number;
        holds = holds-set;
        agrees = Agrees-push (origins_of d.site.centres) d.site.names (histories_of d.passes) (histories_of passes') d.agent d.log row is.agrees
            (longer-set d.agent (length d.log) place d.site.centres d.passes is.are t p q at-t at-p keeps.own keeps.number grown)
            (next-row agrees known) (rows-set (d.log ++ row ∷ []) (λ name es all. HaveRow-longer d.log (row ∷ []) name es all) made);
        waits = waits;
      }

    module _ (ask : Ask) (op : Op) (sound : OpOf ask (Sound op)) where
      abbrev next : ℕ
      next = length d.log + 1

      abbrev row-of : LogResult → LogRow
      row-of became = record { number = length d.log + 1; centre = centre; ask = Some ask; result = became }

      id-is : call_of p.number next ≡ call_of d.agent next
      id-is = ap (λ n. call_of n next) own-pass.number

      call-stands : (told : Answer) (m : CallsInTurn t p next op told q) → Contains q.seen (Called (call_of d.agent next) op m.result m.items)
      call-stands told m = subst (λ (i : CallId). Contains q.seen (Called i op m.result m.items)) id-is (makes-stands t p q next op told m)

      called : (told : Answer) → CallsInTurn t p next op told q → IsCalled q.seen (call_of d.agent next) ask
      called told m = record {
        op = op;
        is = sound;
        called = record { result = m.result; items = m.items; stands = call-stands told m };
      }

      refused-agrees : (why : Refusal) → IsTurn t p next op (Refused why) q → AgreesRefused t.origin q.seen (call_of d.agent next) why
      refused-agrees (refusal.Full weight pending) turn = was-full weight pending turn
      refused-agrees refusal.TurnsSpent turn = tt
      refused-agrees refusal.UnknownCentre turn = tt
      refused-agrees refusal.Waiting turn = tt
      refused-agrees refusal.Denied turn = tt
      refused-agrees refusal.TooBig turn = tt
      refused-agrees refusal.NotGround turn = tt
      refused-agrees (refusal.BadSpec bad) turn = tt
      refused-agrees refusal.NoMemory turn = absurd turn

      refused-named : (why : Refusal) → IsTurn t p next op (Refused why) q → NamesCentre d.site.names centre (Refused why)
      refused-named (refusal.Full weight pending) turn = Contains-slice_get d.site.names place centre named
      refused-named refusal.TurnsSpent turn = Contains-slice_get d.site.names place centre named
      refused-named refusal.UnknownCentre turn = absurd turn
      refused-named refusal.Waiting turn = absurd turn
      refused-named refusal.Denied turn = absurd turn
      refused-named refusal.TooBig turn = absurd turn
      refused-named refusal.NotGround turn = absurd turn
      refused-named (refusal.BadSpec bad) turn = absurd turn
      refused-named refusal.NoMemory turn = absurd turn

      -- the row names the centre
      row-named : (became : LogResult) → IsTurn t p next op became q → NamesCentre d.site.names centre became
      row-named (Replied r) turn = Contains-slice_get d.site.names place centre named
      row-named Pending turn = Contains-slice_get d.site.names place centre named
      row-named (Refused why) turn = refused-named why turn
      row-named (Polled told) turn = absurd turn

      -- the row agrees with what the pass has seen
      row-agrees : (became : LogResult) → IsTurn t p next op became q
          → AgreesRow t.origin q.seen (call_of d.agent next) d.log (length d.log) (row-of became) became
      row-agrees (Replied r) turn = record {
        ask = ask;
        asked = refl;
        served = (called (answer.Replied r) turn, subst (λ (i : CallId). reply_in q.seen i ≡ Some r) id-is turn.answer);
      }
      row-agrees Pending turn = (
        record { ask = ask; asked = refl; served = called answer.Pending turn },
        record {
          op = op;
          items = turn.items;
          stands = subst (λ (r : Outcome). Contains q.seen (Called (call_of d.agent next) op r turn.items))
              (makes-waits t p q next op answer.Pending turn turn.answer) (call-stands answer.Pending turn);
        },
      )
      row-agrees (Refused why) turn = refused-agrees why turn
      row-agrees (Polled told) turn = absurd turn

      made-rows : (became : LogResult) (told : Answer) (m : CallsInTurn t p next op told q) → (let e : Entry = Called (call_of p.number next) op m.result m.items in HasRow (d.log ++ row-of became ∷ []) centre e)
          → All (HasRow (d.log ++ row-of became ∷ []) centre) q.mine
      made-rows became told m has =
          rows-made (row-of became) (Called (call_of p.number next) op m.result m.items) (ap (λ (x : PassState Entry Origin). x.mine) m.after) has

      same-rows : (became : LogResult) → q.mine ≡ p.mine → All (HasRow (d.log ++ row-of became ∷ []) centre) q.mine
      same-rows became same = rows-same (row-of became) same

      refused-rows : (why : Refusal) → IsTurn t p next op (Refused why) q → All (HasRow (d.log ++ row-of (Refused why) ∷ []) centre) q.mine
      refused-rows (refusal.Full weight pending) turn = same-rows (Refused (refusal.Full weight pending)) (ap (λ (x : PassState Entry Origin). x.mine) turn.sees.after)
      refused-rows refusal.TurnsSpent turn = same-rows (Refused refusal.TurnsSpent) (ap (λ (x : PassState Entry Origin). x.mine) turn.1)
      refused-rows refusal.UnknownCentre turn = absurd turn
      refused-rows refusal.Waiting turn = absurd turn
      refused-rows refusal.Denied turn = absurd turn
      refused-rows refusal.TooBig turn = absurd turn
      refused-rows refusal.NotGround turn = absurd turn
      refused-rows (refusal.BadSpec bad) turn = absurd turn
      refused-rows refusal.NoMemory turn = absurd turn

      -- what the agent has made at this centre has its rows
      turn-rows : (became : LogResult) → IsTurn t p next op became q → All (HasRow (d.log ++ row-of became ∷ []) centre) q.mine
      turn-rows (Replied r) turn = made-rows (Replied r) (answer.Replied r) turn (record {
        k = length d.log;
        counted = refl;
        row = row-of (Replied r);
        stands = slice_get_pushed d.log (row-of (Replied r));
        there = refl;
        made = refl;
      })
      turn-rows Pending turn = made-rows Pending answer.Pending turn (record {
        k = length d.log;
        counted = refl;
        row = row-of Pending;
        stands = slice_get_pushed d.log (row-of Pending);
        there = refl;
        made = refl;
      })
      turn-rows (Refused why) turn = refused-rows why turn
      turn-rows (Polled told) turn = absurd turn

      -- after a turn in which the call has come to this
      pub desk-turned : (became : LogResult) {log : List LogRow} {pending : Option WaitingAt} → log ≡ with_row d.log centre (Some ask) became
          → pending ≡ waiting_of became (length d.log) place → any_pending d.log ≡ false → HasGrown (length d.log) p q
          → IsTurn t p (length d.log + 1) op became q → IsDesk (record d { passes = set d.passes place q; log = log; pending = pending })
      desk-turned became {log = log} log-is pending-is idle grown turn =
          subst (λ w. IsDesk (record d { passes = set d.passes place q; log = log; pending = w })) (sym pending-is)
          (subst (λ l. IsDesk (record d { passes = set d.passes place q; log = l; pending = waiting_of became (length d.log) place })) (sym log-is)
          (desk-pushed (row-of became) (waiting_of became (length d.log) place) refl refl grown (row-agrees became turn) (row-named became turn) (turn-rows became turn)
          (waits-turned d.site.names d.log centre ask place became named idle)))

-- a fact of a log, and of it with the row of a refused call, is one of the log after the refusal
pub after-refusal : (P : List LogRow → Type 0) (log : List LogRow) (centre : List ℕ) (ask : Ask) (why : Refusal) → P log
    → ((why ≡ refusal.NoMemory → ⊥) → P (with_row log centre (Some ask) (Refused why))) → P (refused_log log centre ask why)
after-refusal P log centre ask refusal.UnknownCentre same row = row (λ e. cc)
after-refusal P log centre ask refusal.Waiting same row = row (λ e. cc)
after-refusal P log centre ask refusal.Denied same row = row (λ e. cc)
after-refusal P log centre ask refusal.TooBig same row = row (λ e. cc)
after-refusal P log centre ask refusal.NotGround same row = row (λ e. cc)
after-refusal P log centre ask (refusal.BadSpec bad) same row = row (λ e. cc)
after-refusal P log centre ask refusal.TurnsSpent same row = row (λ e. cc)
after-refusal P log centre ask (refusal.Full weight pending) same row = row (λ e. cc)
after-refusal P log centre ask refusal.NoMemory same row = same

pub longer-same : (agent top : ℕ) (histories : List (List Entry)) → AreLonger agent top histories histories
longer-same agent top histories = record {
  whole = refl;
  each = λ k old new was now.
      let same : IsLonger agent top old old = record { more = []; grown = sym (append-nil old); above = All-nil (λ e. top < (id_of e).number) } in
      subst (IsLonger agent top old) (same_Some old new (sym was ∙ now)) same;
}

module _ {W : Type 0} (permits : W → ℕ → ℕ → Primitive → Option ℕ) (d : AgentState W) (is : IsDesk d) (centre : List ℕ) (ask asked : Ask) (waits : Bool) where
  judged-agrees : (why : Refusal) (origin : Origin) (history : List Entry) (id : CallId) → (why ≡ refusal.NoMemory → ⊥) → IsRefusedFor permits d.site d.agent waits centre asked why → AgreesRefused origin history id why
  judged-agrees (refusal.Full weight pending) origin history id other refused = absurd refused
  judged-agrees refusal.TurnsSpent origin history id other refused = tt
  judged-agrees refusal.UnknownCentre origin history id other refused = tt
  judged-agrees refusal.Waiting origin history id other refused = tt
  judged-agrees refusal.Denied origin history id other refused = tt
  judged-agrees refusal.TooBig origin history id other refused = tt
  judged-agrees refusal.NotGround origin history id other refused = tt
  judged-agrees (refusal.BadSpec bad) origin history id other refused = tt
  judged-agrees refusal.NoMemory origin history id other refused = absurd (other refl)

  judged-named : (why : Refusal) → (why ≡ refusal.NoMemory → ⊥) → IsRefusedFor permits d.site d.agent waits centre asked why
      → NamesCentre d.site.names centre (Refused why)
  judged-named refusal.UnknownCentre other refused = refused
  judged-named refusal.Waiting other refused = refused.0
  judged-named refusal.Denied other refused = Contains-slice_get d.site.names refused.place centre refused.named
  judged-named refusal.TooBig other refused = Contains-slice_get d.site.names refused.place centre refused.allowed.named
  judged-named refusal.NotGround other refused = Contains-slice_get d.site.names refused.place centre refused.allowed.named
  judged-named (refusal.BadSpec bad) other refused = Contains-slice_get d.site.names refused.place centre refused.allowed.named
  judged-named refusal.TurnsSpent other refused = absurd refused
  judged-named (refusal.Full weight pending) other refused = absurd refused
  judged-named refusal.NoMemory other refused = absurd (other refl)

  row-refused : (why : Refusal) → (why ≡ refusal.NoMemory → ⊥) → IsRefusedFor permits d.site d.agent waits centre asked why
      → IsDesk (record d { log = with_row d.log centre (Some ask) (Refused why) })
  row-refused why other refused =
      let row : LogRow = record { number = length d.log + 1; centre = centre; ask = Some ask; result = Refused why } in
      let next : IsNextRow (origins_of d.site.centres) d.site.names (histories_of d.passes) d.agent d.log row = record {
        counted = refl;
        known = judged-named why other refused;
        agrees = λ k origin history at began there. judged-agrees why origin history (call_of d.agent (length d.log + 1)) other refused;
      } in
      record {
        site = is.site;
        agent_is = is.agent_is;
        are = is.are;
        holds = is.holds;
        agrees = Agrees-push (origins_of d.site.centres) d.site.names (histories_of d.passes) (histories_of d.passes) d.agent d.log row is.agrees
            (longer-same d.agent (length d.log) (histories_of d.passes)) next
            (λ k name history at there. HaveRow-longer d.log (row ∷ []) name (calls_of d.agent history) (is.agrees.calls k name history at there));
        waits = waits-refused d.site.names d.log centre ask why d.pending is.waits;
      }

  -- after a call that was refused before its turn
  pub desk-refused : (why : Refusal) {log : List LogRow} → log ≡ refused_log d.log centre ask why
      → IsRefusedFor permits d.site d.agent waits centre asked why → IsDesk (record d { log = log })
  desk-refused why log-is refused =
      subst (λ l. IsDesk (record d { log = l })) (sym log-is)
      (after-refusal (λ l. IsDesk (record d { log = l })) d.log centre ask why is (λ other. row-refused why other refused))
