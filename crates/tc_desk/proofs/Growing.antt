-- Logs that agree, as histories go on, rows are put behind them, and pending rows get their replies.
use Rattle.std.proofs.Common.{◌≡◌, ℕ, zero, suc, ◌+◌, ◌<◌, ◌≤◌, List, [], ◌∷◌, ◌++◌, Option, Some, All, Contains, length, refl, sym, ap, ◌∙◌, subst, arith, ⊎_elim}
use Rattle.std.specs.List.{slice_get}
use Rattle.std.proofs.lemmas.Bool.{cases_eq, true≢false}
use Rattle.std.proofs.lemmas.List.{append-nil}
use Rattle.std.proofs.lemmas.List.Elements.{All-nil, All-weaker, Contains-append_left}
use Rattle.std.proofs.lemmas.Option.{none-some, same_Some, slice_get_within}
use Rattle.tc_desk.specs.Agreeing.{Agrees, AgreesRefused, AgreesRow, AreLonger, HasComeTo, HasPolled, HasReply, HasRow, HasWaited, HaveRows, IsLastServed, IsLonger, IsMadeBy, IsNextRow, NamesCentre}
use Rattle.tc_desk.specs.Desks.{replied}
use Rattle.tc_desk.specs.Logs.{is_pending, is_served}
use Rattle.tc_desk.specs.declared.rows.LogResult.{LogResult}
use Rattle.tc_desk.specs.declared.rows.LogResult.TheVariants.{Replied, Pending, Refused, Polled}
use Rattle.tc_desk.specs.declared.rows.LogRow.{LogRow}
use Rattle.tc_desk.specs.declared.rows.Refusal.{Refusal}
use Rattle.tc_desk.specs.declared.rows.Refusal.TheVariants as refusal
use Rattle.tc_desk.proofs.Histories.{IsServedAs-append, WasFull-append}
use Rattle.tc_lists.proofs.Places.{slice_get_longer, slice_get_push, slice_get_shorter, slice_get_seam, slice_get_beside}
use Rattle.tc_model.specs.Calls.{id_of, calls_of, call_of}
use Rattle.tc_model.specs.State.{Origin}
use Rattle.tc_model.specs.declared.calls.CallId.{CallId}
use Rattle.tc_model.specs.declared.entries.Entry.{Entry}
use Rattle.tc_model.specs.declared.entries.Entry.TheVariants.{Called, Gave, Looked}
use Rattle.tc_model.specs.declared.outcomes.Reply.{Reply}

-- a row that may stand for another: it has its number and centre, and is served where the other one is
pub record IsLike (x y : LogRow) : Type 0 where
  pub number : y.number ≡ x.number
  pub centre : y.centre ≡ x.centre
  pub served : is_served y.result ≡ is_served x.result

-- before place k the logs have the like
pub record AreLike (k : ℕ) (log log' : List LogRow) : Type 0 where
  pub there : (j : ℕ) (x : LogRow) → j < k → slice_get log j ≡ Some x
      → (y : LogRow) × (slice_get log' j ≡ Some y) × IsLike x y
  pub back : (j : ℕ) (y : LogRow) → j < k → slice_get log' j ≡ Some y
      → (x : LogRow) × (slice_get log j ≡ Some x) × IsLike x y

IsLike-same : (x : LogRow) → IsLike x x
IsLike-same x = record { number = refl; centre = refl; served = refl }

pub AreLike-longer : (k : ℕ) (log more : List LogRow) → k ≤ length log → AreLike k log (log ++ more)
AreLike-longer k log more within = record {
  there = λ j x before at. (x, slice_get_longer log more j x at, IsLike-same x);
  back = λ j y before at. (y, slice_get_shorter log more j y (omega (arith, before, within)) at, IsLike-same y);
}

pub AreLike-same : (k : ℕ) (log : List LogRow) → AreLike k log log
AreLike-same k log = record {
  there = λ j x before at. (x, at, IsLike-same x);
  back = λ j y before at. (y, at, IsLike-same y);
}

HasComeTo-longer : (origin : Origin) (history more : List Entry) (id : CallId) (row : LogRow) (result : LogResult)
    → All (λ e. id.number < (id_of e).number) (calls_of id.agent more)
    → HasComeTo origin history id row result → HasComeTo origin (history ++ more) id row result
HasComeTo-longer origin history more id row result above h = record {
  ask = h.ask;
  asked = h.asked;
  served = IsServedAs-append origin history more id h.ask result above h.served;
}

HasWaited-longer : (history more : List Entry) (id : CallId) → HasWaited history id → HasWaited (history ++ more) id
HasWaited-longer history more id h = record {
  op = h.op;
  items = h.items;
  stands = Contains-append_left history more _ h.stands;
}

AgreesRefused-longer : (origin : Origin) (history more : List Entry) (id : CallId) (why : Refusal)
    → All (λ e. id.number < (id_of e).number) (calls_of id.agent more)
    → AgreesRefused origin history id why → AgreesRefused origin (history ++ more) id why
AgreesRefused-longer origin history more id (refusal.Full weight pending) above h =
    WasFull-append origin history more id weight pending above h
AgreesRefused-longer origin history more id refusal.UnknownCentre above h = h
AgreesRefused-longer origin history more id refusal.Waiting above h = h
AgreesRefused-longer origin history more id refusal.Denied above h = h
AgreesRefused-longer origin history more id refusal.TooBig above h = h
AgreesRefused-longer origin history more id refusal.NotGround above h = h
AgreesRefused-longer origin history more id (refusal.BadSpec bad) above h = h
AgreesRefused-longer origin history more id refusal.TurnsSpent above h = h
AgreesRefused-longer origin history more id refusal.NoMemory above h = absurd h

IsLastServed-like : (log log' : List LogRow) (k : ℕ) (x : LogRow) → AreLike k log log' → IsLastServed log k x
    → (y : LogRow) × IsLike x y × IsLastServed log' k y
IsLastServed-like log log' k x like h =
    let found = like.there h.place x h.before h.stands in
    let last : IsLastServed log' k found.0 = record {
      place = h.place;
      before = h.before;
      stands = found.1;
      served = found.2.served ∙ h.served;
      last = λ j other behind within at served.
          let was = like.back j other within at in
          h.last j was.0 behind within was.1 (sym was.2.served ∙ served);
    } in
    (found.0, found.2, last)

HasPolled-longer : (history more : List Entry) (id : CallId) (log log' : List LogRow) (k : ℕ) (row : LogRow) (told : Option Reply) → AreLike k log log'
    → HasPolled history id log k row told → HasPolled (history ++ more) id log' k row told
HasPolled-longer history more id log log' k row told like h =
    let found = IsLastServed-like log log' k h.earlier like h.last in
    record {
      earlier = found.0;
      last = found.2;
      there = found.1.centre ∙ h.there;
      stands = Contains-append_left history more (Looked id found.0.number told)
          (subst (λ n. Contains history (Looked id n told)) (sym found.1.number) h.stands);
    }

-- a row goes on agreeing, as its history goes on and the rows before it have the like
pub AgreesRow-longer : (origin : Origin) (history more : List Entry) (id : CallId) (log log' : List LogRow) (k : ℕ) (row : LogRow) (result : LogResult)
    → AreLike k log log' → All (λ e. id.number < (id_of e).number) (calls_of id.agent more)
    → AgreesRow origin history id log k row result → AgreesRow origin (history ++ more) id log' k row result
AgreesRow-longer origin history more id log log' k row (Replied reply) like above h =
    HasComeTo-longer origin history more id row (Replied reply) above h
AgreesRow-longer origin history more id log log' k row Pending like above h =
    (HasComeTo-longer origin history more id row Pending above h.0, HasWaited-longer history more id h.1)
AgreesRow-longer origin history more id log log' k row (Refused why) like above h =
    AgreesRefused-longer origin history more id why above h
AgreesRow-longer origin history more id log log' k row (Polled told) like above h =
    HasPolled-longer history more id log log' k row told like h

-- the same, where the history stays
pub AgreesRow-like : (origin : Origin) (history : List Entry) (id : CallId) (log log' : List LogRow) (k : ℕ) (row : LogRow) (result : LogResult)
    → AreLike k log log' → AgreesRow origin history id log k row result → AgreesRow origin history id log' k row result
AgreesRow-like origin history id log log' k row result like h =
    subst (λ es. AgreesRow origin es id log' k row result) (append-nil history)
    (AgreesRow-longer origin history [] id log log' k row result like (All-nil (λ e. id.number < (id_of e).number)) h)

pub above-top : (n top : ℕ) (entries : List Entry) → n ≤ top → All (λ e. top < (id_of e).number) entries → All (λ e. n < (id_of e).number) entries
above-top n top entries within above k d inside = let h = above k d inside in omega (arith, h, within)

HasRow-longer : (log more : List LogRow) (centre : List ℕ) (e : Entry) → HasRow log centre e → HasRow (log ++ more) centre e
HasRow-longer log more centre e h = record {
  k = h.k;
  counted = h.counted;
  row = h.row;
  stands = slice_get_longer log more h.k h.row h.stands;
  there = h.there;
  made = h.made;
}

-- entries that have their rows have them in a longer log
pub HaveRow-longer : (log more : List LogRow) (centre : List ℕ) (entries : List Entry) → All (HasRow log centre) entries → All (HasRow (log ++ more) centre) entries
HaveRow-longer log more centre entries all =
    All-weaker (HasRow log centre) (HasRow (log ++ more) centre) (λ e h. HasRow-longer log more centre e h) entries all

module _ (origins : List Origin) (names : List (List ℕ)) (olds news : List (List Entry)) (agent : ℕ) where
  as_long : (xs : List (List Entry)) (ys : List (List Entry)) (k : ℕ) (x : List Entry) → length ys ≡ length xs → slice_get ys k ≡ Some x → (y : List Entry) × (slice_get xs k ≡ Some y)
  as_long [] [] k x same at = absurd (none-some x at)
  as_long [] (y ∷ ys) k x same at = absurd (omega (arith, same))
  as_long (x ∷ xs) [] k y same at = absurd (none-some y at)
  as_long (x ∷ xs) (y ∷ ys) zero z same at = (x, refl)
  as_long (x ∷ xs) (y ∷ ys) (suc k) z same at = as_long xs ys k z (omega (arith, same)) at

  -- the rows that were there, in a log that has the like of them
  pub rows-longer : (log log' : List LogRow) (top k place : ℕ) (row : LogRow) (origin : Origin) (history : List Entry) → Agrees origins names olds agent log
      → AreLonger agent top olds news → k + 1 ≤ top → AreLike k log log'
      → slice_get log k ≡ Some row → slice_get names place ≡ Some row.centre → slice_get origins place ≡ Some origin → slice_get news place ≡ Some history
      → AgreesRow origin history (call_of agent (k + 1)) log' k row row.result
  rows-longer log log' top k place row origin history agrees longer within like at named began there =
      let was = as_long olds news place history longer.whole there in
      let grown : IsLonger agent top was.0 history = longer.each place was.0 history was.1 there in
      subst (λ h. AgreesRow origin h (call_of agent (k + 1)) log' k row row.result) (sym grown.grown)
      (AgreesRow-longer origin was.0 grown.more (call_of agent (k + 1)) log log' k row row.result like
      (above-top (k + 1) top (calls_of agent grown.more) within grown.above)
      (agrees.rows k place row origin was.0 at named began was.1))

  -- with one row more, the log agrees
  pub Agrees-push : (log : List LogRow) (row : LogRow) → Agrees origins names olds agent log → AreLonger agent (length log) olds news
      → IsNextRow origins names news agent log row → HaveRows names news agent (log ++ row ∷ [])
      → Agrees origins names news agent (log ++ row ∷ [])
  Agrees-push log row agrees longer next have = record {
    numbers = λ k x at.
        ⊎_elim
        (λ (before : (k < length log) × (slice_get log k ≡ Some x)). agrees.numbers k x before.1)
        (λ (last : (k ≡ length log) × (x ≡ row)).
        ap (λ (r : LogRow). r.number) last.1 ∙ next.counted ∙ ap (λ n. n + 1) (sym last.0))
        (slice_get_push log row k x at);
    known = λ k x at.
        ⊎_elim
        (λ (before : (k < length log) × (slice_get log k ≡ Some x)). agrees.known k x before.1)
        (λ (last : (k ≡ length log) × (x ≡ row)).
        subst (λ (r : LogRow). NamesCentre names r.centre r.result) (sym last.1) next.known)
        (slice_get_push log row k x at);
    rows = λ k place x origin history at named began there.
        ⊎_elim
        (λ (before : (k < length log) × (slice_get log k ≡ Some x)).
        rows-longer log (log ++ row ∷ []) (length log) k place x origin history agrees longer (omega (arith, before.0))
        (AreLike-longer k log (row ∷ []) (omega (arith, before.0))) before.1 named began there)
        (λ (last : (k ≡ length log) × (x ≡ row)).
        subst (λ j. AgreesRow origin history (call_of agent (j + 1)) (log ++ row ∷ []) j x x.result) (sym last.0)
        (subst (λ (r : LogRow). AgreesRow origin history (call_of agent (length log + 1)) (log ++ row ∷ []) (length log) r r.result) (sym last.1)
        (AgreesRow-like origin history (call_of agent (length log + 1)) log (log ++ row ∷ []) (length log) row row.result
        (AreLike-longer (length log) log (row ∷ []) (omega arith))
        (next.agrees place origin history (subst (λ (r : LogRow). slice_get names place ≡ Some r.centre) last.1 named) began there))))
        (slice_get_push log row k x at);
    calls = have;
  }

  -- and with no row more
  pub Agrees-longer : (log : List LogRow) → Agrees origins names olds agent log → AreLonger agent (length log) olds news
      → HaveRows names news agent log → Agrees origins names news agent log
  Agrees-longer log agrees longer have = record {
    numbers = agrees.numbers;
    known = agrees.known;
    rows = λ k place x origin history at named began there.
        let within = slice_get_within log k x at in
        rows-longer log log (length log) k place x origin history agrees longer (omega (arith, within)) (AreLike-same k log) at named began there;
    calls = have;
  }

module _ (front : List LogRow) (row : LogRow) (back : List LogRow) (reply : Reply) (pending : row.result ≡ Pending) where
  abbrev before : List LogRow
  before = front ++ row ∷ back

  abbrev after : List LogRow
  after = front ++ replied row reply ∷ back

  answered-served : is_served (replied row reply).result ≡ is_served row.result
  answered-served = sym (ap is_served pending)

  pub AreLike-answered : (k : ℕ) → AreLike k (front ++ row ∷ back) (front ++ replied row reply ∷ back)
  AreLike-answered k = record {
    there = λ j x within at.
        ⊎_elim
        (λ (here : j ≡ length front).
        let is : x ≡ row = same_Some x row (sym at ∙ ap (slice_get before) here ∙ slice_get_seam front row back) in
        let like : IsLike x (replied row reply) = record {
          number = ap (λ (r : LogRow). r.number) (sym is);
          centre = ap (λ (r : LogRow). r.centre) (sym is);
          served = answered-served ∙ ap (λ (r : LogRow). is_served r.result) (sym is);
        } in
        (replied row reply, ap (slice_get after) here ∙ slice_get_seam front (replied row reply) back, like))
        (λ (other : j ≡ length front → ⊥). (x, slice_get_beside front (replied row reply) row back j other ∙ at, IsLike-same x))
        (cases_eq j (length front));
    back = λ j y within at.
        ⊎_elim
        (λ (here : j ≡ length front).
        let is : y ≡ replied row reply = same_Some y (replied row reply) (sym at ∙ ap (slice_get after) here ∙ slice_get_seam front (replied row reply) back) in
        let like : IsLike row y = record {
          number = ap (λ (r : LogRow). r.number) is;
          centre = ap (λ (r : LogRow). r.centre) is;
          served = ap (λ (r : LogRow). is_served r.result) is ∙ answered-served;
        } in
        (row, ap (slice_get before) here ∙ slice_get_seam front row back, like))
        (λ (other : j ≡ length front → ⊥). (y, slice_get_beside front row (replied row reply) back j other ∙ at, IsLike-same y))
        (cases_eq j (length front));
  }

  made-answered : (e : Entry) → IsMadeBy e Pending → IsMadeBy e (Replied reply)
  made-answered (Called id op result items) made = refl
  made-answered (Gave id result items) made = absurd made
  made-answered (Looked id asked told) made = absurd (true≢false (ap is_pending made))

  HasRow-answered : (centre : List ℕ) (e : Entry) → HasRow (front ++ row ∷ back) centre e → HasRow (front ++ replied row reply ∷ back) centre e
  HasRow-answered centre e h =
      ⊎_elim
      (λ (here : h.k ≡ length front).
      let is : h.row ≡ row = same_Some h.row row (sym h.stands ∙ ap (slice_get before) here ∙ slice_get_seam front row back) in
      let has : HasRow (front ++ replied row reply ∷ back) centre e = record {
        k = h.k;
        counted = h.counted;
        row = replied row reply;
        stands = ap (slice_get after) here ∙ slice_get_seam front (replied row reply) back;
        there = ap (λ (r : LogRow). r.centre) (sym is) ∙ h.there;
        made = made-answered e (subst (IsMadeBy e) (ap (λ (r : LogRow). r.result) is ∙ pending) h.made);
      } in has)
      (λ (other : h.k ≡ length front → ⊥).
      let has : HasRow (front ++ replied row reply ∷ back) centre e = record {
        k = h.k;
        counted = h.counted;
        row = h.row;
        stands = slice_get_beside front (replied row reply) row back h.k other ∙ h.stands;
        there = h.there;
        made = h.made;
      } in has)
      (cases_eq h.k (length front))

  -- with its reply for the pending row, the log agrees
  module _ (origins : List Origin) (names : List (List ℕ)) (histories : List (List Entry)) (agent : ℕ)
      (agrees : Agrees origins names histories agent (front ++ row ∷ back)) (has : HasReply names histories agent (length front) row reply) where
    answered-row : (place : ℕ) (origin : Origin) (history : List Entry) → slice_get names place ≡ Some row.centre → slice_get origins place ≡ Some origin
        → slice_get histories place ≡ Some history
        → AgreesRow origin history (call_of agent (length front + 1)) after (length front) (replied row reply) (Replied reply)
    answered-row place origin history named began there =
        let was : AgreesRow origin history (call_of agent (length front + 1)) before (length front) row Pending =
        subst (λ r. AgreesRow origin history (call_of agent (length front + 1)) before (length front) row r) pending
        (agrees.rows (length front) place row origin history (slice_get_seam front row back) named began there) in
        record {
          ask = was.0.ask;
          asked = was.0.asked;
          served = (was.0.served, has.told place history named there);
        }

    pub Agrees-answered : Agrees origins names histories agent (front ++ replied row reply ∷ back)
    Agrees-answered = record {
      numbers = λ k x at.
          ⊎_elim
          (λ (here : k ≡ length front).
          let is : x ≡ replied row reply = same_Some x (replied row reply) (sym at ∙ ap (slice_get after) here ∙ slice_get_seam front (replied row reply) back) in
          ap (λ (r : LogRow). r.number) is ∙ agrees.numbers (length front) row (slice_get_seam front row back) ∙ ap (λ n. n + 1) (sym here))
          (λ (other : k ≡ length front → ⊥). agrees.numbers k x (slice_get_beside front row (replied row reply) back k other ∙ at))
          (cases_eq k (length front));
      known = λ k x at.
          ⊎_elim
          (λ (here : k ≡ length front).
          let is : x ≡ replied row reply = same_Some x (replied row reply) (sym at ∙ ap (slice_get after) here ∙ slice_get_seam front (replied row reply) back) in
          let was : Contains names row.centre =
          subst (NamesCentre names row.centre) pending (agrees.known (length front) row (slice_get_seam front row back)) in
          subst (λ (r : LogRow). NamesCentre names r.centre r.result) (sym is) was)
          (λ (other : k ≡ length front → ⊥). agrees.known k x (slice_get_beside front row (replied row reply) back k other ∙ at))
          (cases_eq k (length front));
      rows = λ k place x origin history at named began there.
          ⊎_elim
          (λ (here : k ≡ length front).
          let is : x ≡ replied row reply = same_Some x (replied row reply) (sym at ∙ ap (slice_get after) here ∙ slice_get_seam front (replied row reply) back) in
          subst (λ j. AgreesRow origin history (call_of agent (j + 1)) after j x x.result) (sym here)
          (subst (λ (r : LogRow). AgreesRow origin history (call_of agent (length front + 1)) after (length front) r r.result) (sym is)
          (answered-row place origin history (subst (λ (r : LogRow). slice_get names place ≡ Some r.centre) is named) began there)))
          (λ (other : k ≡ length front → ⊥).
          AgreesRow-like origin history (call_of agent (k + 1)) before after k x x.result (AreLike-answered k)
          (agrees.rows k place x origin history (slice_get_beside front row (replied row reply) back k other ∙ at) named began there))
          (cases_eq k (length front));
      calls = λ place centre history named there.
          All-weaker (HasRow before centre) (HasRow after centre) (λ e h. HasRow-answered centre e h) _ (agrees.calls place centre history named there);
    }
