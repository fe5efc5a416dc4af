-- Pending rows that get the replies which their requests have got by now.
use Rattle.std.proofs.Common.{◌≡◌, ℕ, suc, zero, ◌+◌, ◌-◌, ◌<◌, ◌≤◌, Bool, true, false, List, [], ◌∷◌, ◌++◌, Option, None, Some, All, Vec, Contains, length, get_or, take, drop, set, refl, sym, ap, ◌∙◌, subst, arith, ◌⊎◌, inl, inr, ⊎_elim, length-append, length-take-le}
use Rattle.std.specs.List.{slice_get, list_any}
use Rattle.std.specs.Global.{Global}
use Rattle.std.specs.Option.{is_none}
use Rattle.std.proofs.lemmas.Bool.{cases_Bool, cases_eq, cases_lt, or_parts, true≢false}
use Rattle.std.proofs.lemmas.List.{append-nil, length-set, map-set}
use Rattle.std.proofs.Math.Seq.{map-set_same}
use Rattle.std.proofs.lemmas.Option.{none-some, same_Some, get_or_from_slice_get, slice_get_read, slice_get_within, slice_get-get_or}
use Rattle.tc_centre.specs.Centre.{Centre}
use Rattle.tc_desk.specs.Agreeing.{Agrees, AgreesRow, NamesCentre}
use Rattle.tc_desk.specs.Decided.{IsDecided, IsDecidedAs, IsReadAs}
use Rattle.tc_desk.specs.Desks.{PutsReply, replied}
use Rattle.tc_desk.specs.Logs.{any_pending, is_pending, is_served, rows_of}
use Rattle.tc_desk.specs.declared.rows.LogResult.TheVariants.{Pending, Replied}
use Rattle.tc_desk.specs.declared.rows.LogRow.{LogRow}
use Rattle.tc_desk.proofs.Growing.{Agrees-answered}
use Rattle.tc_desk.proofs.Logs.{any_pending-front, any_pending-none, is_pending-true}
use Rattle.tc_lists.proofs.Elements.{All-from_slice_get}
use Rattle.tc_lists.proofs.Pairs.{AllPairs-one_place}
use Rattle.tc_lists.proofs.Parts.{split_slice_get}
use Rattle.tc_lists.proofs.Places.{slice_get-Contains, slice_get_behind, slice_get_beside, slice_get_seam, slice_get_shorter}
use Rattle.tc_lists.proofs.Sets.{slice_get-as_long, slice_get-map_at, slice_get-set_other, slice_get-set_same, slice_get_inside}
use Rattle.tc_model.specs.Asks.{primitive_of}
use Rattle.tc_model.specs.Calls.{call_of}
use Rattle.tc_model.specs.Replies.{reply_in}
use Rattle.tc_model.specs.Run.{HasCall}
use Rattle.tc_model.specs.State.{Origin}
use Rattle.tc_model.specs.declared.asks.Primitive.{Primitive}
use Rattle.tc_model.specs.declared.entries.Entry.{Entry}
use Rattle.tc_model.specs.declared.entries.Entry.TheVariants.{Called}
use Rattle.tc_model.specs.declared.outcomes.Outcome.TheVariants as outcome
use Rattle.tc_model.specs.declared.outcomes.Reply.{Reply}
use Rattle.tc_turn.specs.Passes.{PassState}
use Rattle.tc_site.specs.Desks.{AgentState, IsDesk, WaitsAt, desk_of, is_held}
use Rattle.tc_site.specs.Settling.{AreNamed, AreSettled, AreSettledBelow, IsSettled, IsSettledRow, PendsAlone, settled_by}
use Rattle.tc_site.specs.Sites.{AllAgree, PendsBehind, core_histories, core_origins}
use Rattle.tc_site.specs.declared.waiting.WaitingAt.{WaitingAt}
use Rattle.tc_site.proofs.Sweeps.{Swept, swept-all, swept-step}

-- each element fails a test that none passes
none-at : {X : Type 0} (p : X → Bool) (xs : List X) (k : ℕ) (x : X) → list_any p xs ≡ false → slice_get xs k ≡ Some x → p x ≡ false
none-at p [] k x none at = absurd (none-some x at)
none-at p (y ∷ xs) zero x none at = ap p (sym (same_Some y x at)) ∙ (or_parts (p y) (list_any p xs) none).0
none-at p (y ∷ xs) (suc k) x none at = none-at p xs k x (or_parts (p y) (list_any p xs) none).1 at

-- no row behind the pending row that a desk knows of was served
pub pends-behind : (names : List (List ℕ)) (log : List LogRow) (pending : Option WaitingAt) → WaitsAt names log pending → PendsBehind log
pends-behind names log None none k j row other below at behind pending = absurd (any_pending-none log k row none at pending)
pends-behind names log (Some w) is k j row other below at behind pending =
    let served : LogRow → Bool = λ r. is_served r.result in
    let rows : List LogRow = is.row_is ∷ is.back in
    ⊎_elim
    (λ (before : k < length is.front).
    absurd (any_pending-none is.front k row is.settled (slice_get_shorter is.front rows k row before (subst (λ l. slice_get l k ≡ Some row) is.from at)) pending))
    (λ past.
    let m : ℕ = j - length is.front - 1 in
    let there : slice_get rows (suc m) ≡ Some other =
    sym (slice_get_behind is.front rows j (suc m) (omega (arith, below, past))) ∙ subst (λ l. slice_get l j ≡ Some other) is.from behind in
    none-at served is.back m other is.unserved_behind there)
    (cases_lt k (length is.front))

-- a desk that is free holds none of its passes' turns
pub free-passes : {W : Type 0} (d : AgentState W) → IsDesk d → (desk_of d).free ≡ true → All (λ (p : PassState Entry Origin). p.holds ≡ false) d.passes
free-passes d is free =
    All-from_slice_get (λ (p : PassState Entry Origin). p.holds ≡ false) d.passes (λ k p at. is.holds k p at ∙ held-none d.held k free)
  where
    held-none : (held : Option ℕ) (k : ℕ) → is_none held ≡ true → is_held held k ≡ false
    held-none None k none = refl
    held-none (Some place) k none = absurd (true≢false (sym none))

-- a log without a pending row is settled
pub settled-none : (names : List (List ℕ)) (histories : List (List Entry)) (agent : ℕ) (log : List LogRow) → any_pending log ≡ false → IsSettled names histories agent log log
settled-none names histories agent log none = record {
  whole = refl;
  each = λ k row now at here. record {
    waits = λ place history pending named there. absurd (any_pending-none log k row none at pending);
    others = λ settled. same_Some now row (sym here ∙ at);
  };
}

module _ (names : List (List ℕ)) (cores : List Centre) (named : AreNamed names cores) (agent : ℕ) (front : List LogRow) (row : LogRow) (back : List LogRow)
    (pending : row.result ≡ Pending) (place : ℕ) (at_name : slice_get names place ≡ Some row.centre) (core : Centre) (at_core : slice_get cores place ≡ Some core) where
  abbrev log : List LogRow
  log = front ++ row ∷ back

  abbrev Agreed : List LogRow → Type 0
  Agreed rows = Agrees (core_origins cores) names (core_histories cores) agent rows

  -- the histories of the row's centre are one
  one-history : (k : ℕ) (history : List Entry) → slice_get names k ≡ Some row.centre → slice_get (core_histories cores) k ≡ Some history → core.history ≡ history
  one-history k history at there =
      let here : k ≡ place = AllPairs-one_place names k place row.centre named.differ at at_name in
      same_Some core.history history
      (sym (slice_get-map_at (λ (x : Centre). x.history) cores place core at_core) ∙ subst (λ j. slice_get (core_histories cores) j ≡ Some history) here there)

  -- the row's request stands in it
  pub pending-called : Agreed (front ++ row ∷ back) → HasCall (call_of agent (length front + 1)) core.history
  pending-called agrees =
      let is : AgreesRow core.origin core.history (call_of agent (length front + 1)) log (length front) row Pending =
      subst (λ r. AgreesRow core.origin core.history (call_of agent (length front + 1)) log (length front) row r) pending
      (agrees.rows (length front) place row core.origin core.history (slice_get_seam front row back) at_name
      (slice_get-map_at (λ (x : Centre). x.origin) cores place core at_core) (slice_get-map_at (λ (x : Centre). x.history) cores place core at_core)) in
      record {
        entry = Called (call_of agent (length front + 1)) is.1.op outcome.Pending is.1.items;
        stands = is.1.stands;
        call = refl;
      }

  -- the log with what the request has got agrees
  pub settled-agrees : (told : Option Reply) → reply_in core.history (call_of agent (length front + 1)) ≡ told → Agreed (front ++ row ∷ back)
      → Agreed (front ++ settled_by told row ∷ back)
  settled-agrees None is agrees = agrees
  settled-agrees (Some reply) is agrees =
      Agrees-answered front row back reply pending (core_origins cores) names (core_histories cores) agent agrees (record {
        pending = pending;
        told = λ k history at there. ap (λ h. reply_in h (call_of agent (length front + 1))) (sym (one-history k history at there)) ∙ is;
      })

  -- and is settled, where no other row is pending
  pub settled-at : (told : Option Reply) → reply_in core.history (call_of agent (length front + 1)) ≡ told
      → ((k : ℕ) (other : LogRow) → slice_get (front ++ row ∷ back) k ≡ Some other → other.result ≡ Pending → k ≡ length front)
      → IsSettled names (core_histories cores) agent (front ++ row ∷ back) (front ++ settled_by told row ∷ back)
  settled-at told is alone = record {
    whole = length-append front (settled_by told row ∷ back) ∙ sym (length-append front (row ∷ back));
    each = λ k x now at here.
        ⊎_elim
        (λ (same : k ≡ length front).
        let was : x ≡ row = same_Some x row (sym at ∙ ap (slice_get log) same ∙ slice_get_seam front row back) in
        let became : now ≡ settled_by told row =
        same_Some now (settled_by told row) (sym here ∙ ap (slice_get (front ++ settled_by told row ∷ back)) same ∙ slice_get_seam front (settled_by told row) back) in
        let settled : IsSettledRow names (core_histories cores) (call_of agent (k + 1)) x now = record {
          waits = λ j history waits at_place there.
              let one = one-history j history (at_place ∙ ap (λ (r : LogRow). Some r.centre) was) there in
              let gives : reply_in history (call_of agent (k + 1)) ≡ told =
              ap (λ h. reply_in h (call_of agent (k + 1))) (sym one) ∙ ap (λ n. reply_in core.history (call_of agent (n + 1))) same ∙ is in
              became ∙ ap (λ t. settled_by t row) (sym gives) ∙ ap (settled_by (reply_in history (call_of agent (k + 1)))) (sym was);
          others = λ not. absurd (not (ap (λ (r : LogRow). r.result) was ∙ pending));
        } in settled)
        (λ (other : k ≡ length front → ⊥).
        let stays : now ≡ x = same_Some now x (sym here ∙ slice_get_beside front (settled_by told row) row back k other ∙ at) in
        let settled : IsSettledRow names (core_histories cores) (call_of agent (k + 1)) x now = record {
          waits = λ j history waits at_place there. absurd (other (alone k x at waits));
          others = λ not. stays;
        } in settled)
        (cases_eq k (length front));
  }

-- the log whose row at the place alone is pending, of which x was read
module _ (names : List (List ℕ)) (cores : List Centre) (named : AreNamed names cores) (agent : ℕ) (log : List LogRow) (place : ℕ) (only : PendsAlone log place)
    (agrees : Agrees (core_origins cores) names (core_histories cores) agent log) where
  front-long : length (take place log) ≡ place
  front-long = let within = slice_get_within log place only.row only.stands in length-take-le place log (omega (arith, within))

  split : log ≡ take place log ++ only.row ∷ drop (suc place) log
  split = split_slice_get log place only.row only.stands

  pub alone-inside : place < length log
  alone-inside = slice_get_within log place only.row only.stands

  module _ (x : LogRow) (read : x ≡ get_or log place x) where
    read-is : x ≡ only.row
    read-is = read ∙ get_or_from_slice_get log place only.row x only.stands

    pub alone-known : Contains names x.centre
    alone-known =
        subst (λ (r : LogRow). Contains names r.centre) (sym read-is)
        (subst (NamesCentre names only.row.centre) only.pending (agrees.known place only.row only.stands))

    module _ (centre : ℕ) (at : slice_get names centre ≡ Some x.centre) where
      at-row : slice_get names centre ≡ Some only.row.centre
      at-row = at ∙ ap (λ (r : LogRow). Some r.centre) read-is

      pub alone-core : centre < length cores
      alone-core = let within = slice_get_within names centre x.centre at in let whole = named.whole in omega (arith, within, whole)

      module _ (core : Centre) (is : core ≡ get_or cores centre core) where
        at-core : slice_get cores centre ≡ Some core
        at-core = slice_get_read cores (length cores) centre core refl alone-core is

        agrees-split : Agrees (core_origins cores) names (core_histories cores) agent (take place log ++ only.row ∷ drop (suc place) log)
        agrees-split = subst (Agrees (core_origins cores) names (core_histories cores) agent) split agrees

        number-is : call_of agent (length (take place log) + 1) ≡ call_of agent (place + 1)
        number-is = ap (λ n. call_of agent (n + 1)) front-long

        pub alone-called : HasCall (call_of agent (place + 1)) core.history
        alone-called =
            subst (λ id. HasCall id core.history) number-is
            (pending-called names cores named agent (take place log) only.row (drop (suc place) log) only.pending centre at-row core at-core agrees-split)

        alone-there : (k : ℕ) (other : LogRow) → slice_get (take place log ++ only.row ∷ drop (suc place) log) k ≡ Some other → other.result ≡ Pending
            → k ≡ length (take place log)
        alone-there k other there pending = only.alone k other (subst (λ l. slice_get l k ≡ Some other) (sym split) there) pending ∙ sym front-long

        -- without a reply it stays
        pub alone-stays : reply_in core.history (call_of agent (place + 1)) ≡ None → IsSettled names (core_histories cores) agent log log
        alone-stays none =
            subst (λ l. IsSettled names (core_histories cores) agent l l) (sym split)
            (settled-at names cores named agent (take place log) only.row (drop (suc place) log) only.pending centre at-row core at-core None
            (ap (reply_in core.history) number-is ∙ none) alone-there)

        -- with its reply it is settled, and agrees
        module _ (reply : Reply) (told : reply_in core.history (call_of agent (place + 1)) ≡ Some reply) (new : List LogRow) (puts : PutsReply log place reply new) where
          put-is : new ≡ take place log ++ replied only.row reply ∷ drop (suc place) log
          put-is = puts (take place log) only.row (drop (suc place) log) split (sym front-long)

          pub alone-settled : IsSettled names (core_histories cores) agent log new
          alone-settled =
              subst (λ l. IsSettled names (core_histories cores) agent l new) (sym split)
              (subst (IsSettled names (core_histories cores) agent (take place log ++ only.row ∷ drop (suc place) log)) (sym put-is)
              (settled-at names cores named agent (take place log) only.row (drop (suc place) log) only.pending centre at-row core at-core (Some reply)
              (ap (reply_in core.history) number-is ∙ told) alone-there))

          pub alone-agrees : Agrees (core_origins cores) names (core_histories cores) agent new
          alone-agrees =
              subst (Agrees (core_origins cores) names (core_histories cores) agent) (sym put-is)
              (settled-agrees names cores named agent (take place log) only.row (drop (suc place) log) only.pending centre at-row core at-core (Some reply)
              (ap (reply_in core.history) number-is ∙ told) agrees-split)

-- no row from this place on was served
abbrev pub Unserved : List LogRow → ℕ → Type 0
Unserved log n = (k : ℕ) (row : LogRow) → n ≤ k → slice_get log k ≡ Some row → is_served row.result ≡ false

pending-none : (log : List LogRow) → ((k : ℕ) (row : LogRow) → slice_get log k ≡ Some row → row.result ≡ Pending → ⊥) → any_pending log ≡ false
pending-none log never = any_pending-front log [] (λ k row at pending. absurd (never k row (subst (λ l. slice_get l k ≡ Some row) (append-nil log) at) pending))

pub unserved-all : (log : List LogRow) (place : ℕ) → place ≤ 0 → Unserved log place → any_pending log ≡ false
unserved-all log place none behind =
    pending-none log (λ k row at pending. true≢false (sym (ap is_served pending) ∙ behind k row (omega (arith, none)) at))

-- a look at the row before the place
module _ (log : List LogRow) (place : ℕ) (row : LogRow) (some : 0 < place) (within : place ≤ length log) (behind : Unserved log place) where
  abbrev here : LogRow
  here = get_or log (place - 1) row

  here-at : slice_get log (place - 1) ≡ Some (get_or log (place - 1) row)
  here-at = slice_get-get_or log (place - 1) row (omega (arith, some, within))

  pub unserved-more : is_served (get_or log (place - 1) row).result ≡ false → Unserved log (place - 1)
  unserved-more unserved k other from there =
      ⊎_elim
      (λ (same : k ≡ place - 1).
      subst (λ (r : LogRow). is_served r.result ≡ false) (same_Some here other (sym here-at ∙ ap (slice_get log) (sym same) ∙ there)) unserved)
      (λ (past : k ≡ place - 1 → ⊥). behind k other (omega (arith, from, past, some)) there)
      (cases_eq k (place - 1))

  -- no row is pending, if it has its reply
  pub replied-none : PendsBehind log → (reply : Reply) → (get_or log (place - 1) row).result ≡ Replied reply → any_pending log ≡ false
  replied-none pends reply replied =
      pending-none log (λ k other there pending.
      ⊎_elim
      (λ (same : k ≡ place - 1).
      let is : other ≡ here = same_Some other here (sym there ∙ ap (slice_get log) same ∙ here-at) in
      true≢false (sym (ap is_pending pending) ∙ ap (λ (r : LogRow). is_pending r.result) is ∙ ap is_pending replied))
      (λ (apart : k ≡ place - 1 → ⊥).
      ⊎_elim
      (λ (before : k < place - 1). true≢false (sym (ap is_served replied) ∙ pends k (place - 1) other here before there here-at pending))
      (λ past. true≢false (sym (ap is_served pending) ∙ behind k other (omega (arith, past, apart, some)) there))
      (cases_lt k (place - 1)))
      (cases_eq k (place - 1)))

-- the logs of all agents
module _ (names : List (List ℕ)) (cores : List Centre) where
  abbrev pub SettledLog : ℕ → List LogRow → List LogRow → Type 0
  SettledLog agent old new = IsSettled names (core_histories cores) agent old new

  pub agree-set : (logs : List (Vec LogRow Global)) (agent : ℕ) (log : Vec LogRow Global) → AllAgree names cores (rows_of logs)
      → Agrees (core_origins cores) names (core_histories cores) agent log.items → AllAgree names cores (rows_of (set logs agent log))
  agree-set logs agent log agree agrees k rows at =
      let items : Vec LogRow Global → List LogRow = λ v. v.items in
      let there : slice_get (set (rows_of logs) agent log.items) k ≡ Some rows = subst (λ ls. slice_get ls k ≡ Some rows) (map-set items logs agent log) at in
      ⊎_elim
      (λ (here : k ≡ agent).
      let within : agent < length (rows_of logs) =
      let inside = slice_get_within (set (rows_of logs) agent log.items) k rows there in
      omega (arith, inside, here, length-set (rows_of logs) agent log.items) in
      let old = slice_get_inside (rows_of logs) agent within in
      let same : log.items ≡ rows =
      same_Some log.items rows (sym (slice_get-set_same (rows_of logs) agent log.items old.0 old.1) ∙ subst (λ j. slice_get (set (rows_of logs) agent log.items) j ≡ Some rows) here there) in
      subst (λ j. Agrees (core_origins cores) names (core_histories cores) j rows) (sym here)
      (subst (λ rs. Agrees (core_origins cores) names (core_histories cores) agent rs) same agrees))
      (λ (other : k ≡ agent → ⊥). agree k rows (sym (slice_get-set_other (rows_of logs) agent k log.items other) ∙ there))
      (cases_eq k agent)

  -- one log more is settled
  pub settled-step : (olds : List (List LogRow)) (logs : List (Vec LogRow Global)) (agent : ℕ) (old new : Vec LogRow Global) → agent < length logs
      → Swept SettledLog olds (rows_of logs) agent → IsSettled names (core_histories cores) agent (get_or logs agent old).items new.items
      → Swept SettledLog olds (rows_of (set logs agent new)) (agent + 1)
  settled-step olds logs agent old new within swept settled =
      let items : Vec LogRow Global → List LogRow = λ v. v.items in
      let at = slice_get-map_at items logs agent (get_or logs agent old) (slice_get-get_or logs agent old within) in
      subst (λ ls. Swept SettledLog olds ls (agent + 1)) (sym (map-set items logs agent new))
      (swept-step SettledLog olds (rows_of logs) agent (get_or logs agent old).items new.items swept at settled)

  -- and at last all are
  pub settled-all : (olds : List (List LogRow)) (logs : List (Vec LogRow Global)) (agent : ℕ) → length olds ≤ agent
      → Swept SettledLog olds (rows_of logs) agent → AreSettled names (core_histories cores) olds (rows_of logs)
  settled-all olds logs agent past swept = record {
    whole = swept.whole;
    each = λ k old new was now. swept-all SettledLog olds (rows_of logs) agent swept past k old new was now;
  }

  -- or none from this one on is, whose log stays
  pub settled-part : (olds : List (List LogRow)) (logs : List (Vec LogRow Global)) (agent : ℕ) (old new : Vec LogRow Global)
      → new.items ≡ (get_or logs agent old).items → Swept SettledLog olds (rows_of logs) agent
      → AreSettledBelow names (core_histories cores) olds (rows_of (set logs agent new))
  settled-part olds logs agent old new same swept =
      subst (λ ls. AreSettledBelow names (core_histories cores) olds ls)
      (sym (map-set_same (λ (v : Vec LogRow Global). v.items) logs agent new old same))
      (record {
        agents = agent;
        whole = swept.whole;
        first = λ k was now below at there. swept.done k was now below at there;
        others = λ k was now from at there. same_Some now was (sym there ∙ swept.same k from ∙ at);
      })

-- what is settled
module _ (origins : List Origin) (names : List (List ℕ)) (histories : List (List Entry)) (whole : length histories ≡ length names) (agent : ℕ) (old new : List LogRow)
    (agrees : Agrees origins names histories agent old) (settled : IsSettled names histories agent old new) where
  -- a row is as it was, or was pending and has a reply
  abbrev Became : LogRow → LogRow → Type 0
  Became row now = (now ≡ row) ⊎ ((row.result ≡ Pending) × ((reply : Reply) × (now ≡ replied row reply)))

  became-by : (row now : LogRow) (told : Option Reply) → row.result ≡ Pending → now ≡ settled_by told row → Became row now
  became-by row now None pending is = inl is
  became-by row now (Some reply) pending is = inr (pending, (reply, is))

  became : (k : ℕ) (row now : LogRow) → slice_get old k ≡ Some row → slice_get new k ≡ Some now → Became row now
  became k row now at here =
      let is = settled.each k row now at here in
      ⊎_elim
      (λ (yes : is_pending row.result ≡ true).
      let pending = is_pending-true row.result yes in
      let place = subst (NamesCentre names row.centre) pending (agrees.known k row at) in
      let named = slice_get-Contains names row.centre place in
      let history = slice_get-as_long names histories place.0 row.centre whole named in
      became-by row now (reply_in history.0 (call_of agent (k + 1))) pending (is.waits place.0 history.0 pending named history.1))
      (λ (no : is_pending row.result ≡ false). inl (is.others (λ pending. true≢false (sym (ap is_pending pending) ∙ no))))
      (cases_Bool (is_pending row.result))

  row-before : (k : ℕ) (now : LogRow) → slice_get new k ≡ Some now → (row : LogRow) × (slice_get old k ≡ Some row)
  row-before k now here = slice_get-as_long new old k now (sym settled.whole) here

  -- stays decided
  pub settled-decided : (permits : ℕ → Primitive → Type 0) → IsDecided permits names old → IsDecided permits names new
  settled-decided permits decided = record {
    read = λ k now ask here asked.
        let row = row-before k now here in
        ⊎_elim
        (λ (same : now ≡ row.0). subst (λ (r : LogRow). IsReadAs ask r.result) (sym same) (decided.read k row.0 ask row.1 (ap (λ (r : LogRow). r.ask) (sym same) ∙ asked)))
        (λ (has : (row.0.result ≡ Pending) × ((reply : Reply) × (now ≡ replied row.0 reply))).
        let old_ask : row.0.ask ≡ Some ask = ap (λ (r : LogRow). r.ask) (sym has.1.1) ∙ asked in
        let was : IsReadAs ask Pending = subst (IsReadAs ask) has.0 (decided.read k row.0 ask row.1 old_ask) in
        subst (λ (r : LogRow). IsReadAs ask r.result) (sym has.1.1) was)
        (became k row.0 now row.1 here);
    decided = λ k now ask place here asked named.
        let row = row-before k now here in
        ⊎_elim
        (λ (same : now ≡ row.0).
        subst (λ (r : LogRow). IsDecidedAs (permits place (primitive_of ask)) r.result) (sym same)
        (decided.decided k row.0 ask place row.1 (ap (λ (r : LogRow). r.ask) (sym same) ∙ asked) (named ∙ ap (λ (r : LogRow). Some r.centre) same)))
        (λ (has : (row.0.result ≡ Pending) × ((reply : Reply) × (now ≡ replied row.0 reply))).
        let old_ask : row.0.ask ≡ Some ask = ap (λ (r : LogRow). r.ask) (sym has.1.1) ∙ asked in
        let was : IsDecidedAs (permits place (primitive_of ask)) Pending =
        subst (IsDecidedAs (permits place (primitive_of ask))) has.0
        (decided.decided k row.0 ask place row.1 old_ask (named ∙ ap (λ (r : LogRow). Some r.centre) has.1.1)) in
        subst (λ (r : LogRow). IsDecidedAs (permits place (primitive_of ask)) r.result) (sym has.1.1) was)
        (became k row.0 now row.1 here);
  }
