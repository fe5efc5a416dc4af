-- Logs that follow their scripts.
use Rattle.std.proofs.Common.{◌≡◌, ℕ, ◌+◌, ◌<◌, ◌≤◌, false, List, [], ◌∷◌, ◌++◌, Some, None, All, length, take, refl, sym, ap, ◌∙◌, subst, arith, ⊎_elim}
use Rattle.std.specs.List.{slice_get}
use Rattle.std.proofs.lemmas.Bool.{false≢true}
use Rattle.std.proofs.lemmas.List.{length-append}
use Rattle.std.proofs.lemmas.Option.{same_Some, slice_get_within, slice_get-get_or}
use Rattle.tc_config.specs.Configurations.{Configuration}
use Rattle.tc_config.specs.Good.{Follows, IsEnded, IsRow, IsServedNumber, Permits, origin_of}
use Rattle.tc_config.specs.declared.configs.AgentConf.{AgentConf}
use Rattle.tc_desk.specs.Asks.{IsAsk, ScriptStep, steps_of}
use Rattle.tc_desk.specs.Logs.{any_pending, is_pending, results_of}
use Rattle.tc_desk.specs.Served.{IsCalled, IsResult}
use Rattle.tc_desk.specs.declared.rows.LogRow.{LogRow}
use Rattle.tc_desk.specs.declared.rows.LogResult.TheVariants.{Pending, Replied}
use Rattle.tc_lists.proofs.Places.{slice_get_longer, slice_get_push, slice_get_pushed}
use Rattle.tc_model.specs.Asks.{primitive_of}
use Rattle.tc_model.specs.Calls.{id_of, calls_of, call_of}
use Rattle.tc_model.specs.Replies.{reply_in}
use Rattle.tc_model.specs.Run.{HasCall}
use Rattle.tc_model.specs.State.{Origin}
use Rattle.tc_model.specs.declared.calls.CallId.{CallId}
use Rattle.tc_model.specs.declared.entries.Entry.{Entry}
use Rattle.tc_model.specs.declared.entries.Entry.TheVariants.{Called}
use Rattle.tc_model.specs.declared.outcomes.Reply.{Reply}
use Rattle.tc_runner.proofs.Later.{IsLater, IsLater-same, IsRow-later}
use Rattle.tc_desk.proofs.Logs.{any_pending-front, any_pending-none, results-front}

module _ (c : Configuration) (agent : ℕ) (a : AgentConf) where
  -- a log has no more rows than there are items
  pub Follows-within : (histories : List (List Entry)) (log : List LogRow) → Follows c histories agent a log → length log ≤ length (steps_of a.scripts)
  Follows-within histories [] follows = omega arith
  Follows-within histories (row ∷ rows) follows =
      let last : ℕ = length rows in
      let at = slice_get-get_or (row ∷ rows) last row (omega arith) in
      let is = follows.rows last _ at in
      let within = slice_get_within (steps_of a.scripts) last is.step is.asks.stands in
      omega (arith, within)

  -- the numbers of the agent's entries are at most as many as its rows
  pub Follows-numbers : (histories : List (List Entry)) (log : List LogRow) (place : ℕ) (history : List Entry) → Follows c histories agent a log
      → slice_get histories place ≡ Some history → All (λ e. (id_of e).number < length log + 1) (calls_of agent history)
  Follows-numbers histories log place history follows there k d inside =
      let served = follows.calls place history there k d inside in
      let within = slice_get_within log served.k served.row served.stands in
      omega (arith, within, served.counted)

  served-longer : (log more : List LogRow) (place number : ℕ) → IsServedNumber a log place number → IsServedNumber a (log ++ more) place number
  served-longer log more place number s = record {
    k = s.k;
    counted = s.counted;
    row = s.row;
    stands = slice_get_longer log more s.k s.row s.stands;
    served = s.served;
    step = s.step;
    item = s.item;
    there = s.there;
  }

  -- the entries that were there are still those of rows
  pub calls-longer : (log more : List LogRow) (place : ℕ) (entries : List Entry) → All (λ e. IsServedNumber a log place (id_of e).number) entries
      → All (λ e. IsServedNumber a (log ++ more) place (id_of e).number) entries
  calls-longer log more place entries all k d inside = served-longer log more place _ (all k d inside)

  -- the log follows with one more row, where none before is pending
  pub Follows-push : (old new : List (List Entry)) (log : List LogRow) (row : LogRow) → Follows c old agent a log → any_pending log ≡ false
      → IsLater agent (length log) old new → IsRow c new agent a (log ++ row ∷ []) (length log) row
      → ((place : ℕ) (history : List Entry) → slice_get new place ≡ Some history → All (λ e. IsServedNumber a (log ++ row ∷ []) place (id_of e).number) (calls_of agent history))
      → Follows c new agent a (log ++ row ∷ [])
  Follows-push old new log row follows settled later is calls = record {
    rows = λ k x at.
        ⊎_elim
        (λ (before : (k < length log) × (slice_get log k ≡ Some x)).
        IsRow-later c old new agent a log (log ++ row ∷ []) k (length log) x (omega (arith, before.0)) later
        (results-front log (row ∷ []) k (omega (arith, before.0))) (follows.rows k x before.1))
        (λ (last : (k ≡ length log) × (x ≡ row)).
        subst (λ j. IsRow c new agent a (log ++ row ∷ []) j x) (sym last.0)
        (subst (IsRow c new agent a (log ++ row ∷ []) (length log)) (sym last.1) is))
        (slice_get_push log row k x at);
    last = λ k x at pending.
        ⊎_elim
        (λ (before : (k < length log) × (slice_get log k ≡ Some x)). absurd (any_pending-none log k x settled before.1 pending))
        (λ (last : (k ≡ length log) × (x ≡ row)). omega (arith, last.0, length-append log (row ∷ [])))
        (slice_get_push log row k x at);
    calls = calls;
  }

  -- the log follows with a row whose ask was refused
  pub Follows-refused : (histories : List (List Entry)) (log : List LogRow) (row : LogRow) → Follows c histories agent a log → any_pending log ≡ false
      → IsRow c histories agent a (log ++ row ∷ []) (length log) row → Follows c histories agent a (log ++ row ∷ [])
  Follows-refused histories log row follows settled is =
      Follows-push histories histories log row follows settled (IsLater-same agent (length log) histories) is
      (λ place history there. calls-longer log (row ∷ []) place (calls_of agent history) (follows.calls place history there))

  -- where the last row may be pending, none before it is
  pub Follows-front : (histories : List (List Entry)) (front : List LogRow) (row : LogRow) → Follows c histories agent a (front ++ row ∷ []) → any_pending front ≡ false
  Follows-front histories front row follows =
      any_pending-front front (row ∷ []) (λ k x at pending. let h = follows.last k x at pending in omega (arith, h, length-append front (row ∷ [])))

  -- nothing is left where no row is pending and each item has its row
  pub IsEnded-complete : (histories : List (List Entry)) (log : List LogRow) → Follows c histories agent a log → any_pending log ≡ false
      → length (steps_of a.scripts) ≤ length log → IsEnded histories agent a log
  IsEnded-complete histories log follows settled all = record {
    waits = λ k row step history at pending. absurd (any_pending-none log k row settled at pending);
    complete = λ none. let most = Follows-within histories log follows in omega (arith, most, all);
  }

-- a log whose last row is pending
module _ (c : Configuration) (agent : ℕ) (a : AgentConf) (histories : List (List Entry)) (front : List LogRow) (row : LogRow)
    (pending : row.result ≡ Pending) (follows : Follows c histories agent a (front ++ row ∷ [])) where
  -- the pending row
  pub pending-row : IsRow c histories agent a (front ++ row ∷ []) (length front) row
  pending-row = follows.rows (length front) row (slice_get_pushed front row)

  abbrev permits : Type 0
  permits = Permits c a.role pending-row.step.item.centre (primitive_of pending-row.asked)

  abbrev origin : Origin
  origin = origin_of c pending-row.centre

  abbrev id : CallId
  id = call_of agent (length front + 1)

  came : permits × IsCalled pending-row.history id pending-row.asked
  came = subst (IsResult permits origin pending-row.history id pending-row.asked) pending pending-row.result

  -- its call stands in the history of its centre
  pub pending-called : HasCall (call_of agent (length front + 1)) pending-row.history
  pending-called = record {
    entry = Called id came.1.op came.1.called.result came.1.called.items;
    stands = came.1.called.stands;
    call = refl;
  }

  -- nothing is left, where it has no reply
  pub IsEnded-waits : reply_in pending-row.history (call_of agent (length front + 1)) ≡ None → IsEnded histories agent a (front ++ row ∷ [])
  IsEnded-waits none = record {
    waits = λ k x step history at waits item there.
        let last = follows.last k x at waits in
        let same : k ≡ length front = omega (arith, last, length-append front (row ∷ [])) in
        let step_is : step ≡ pending-row.step =
        same_Some step pending-row.step (sym item ∙ ap (slice_get (steps_of a.scripts)) same ∙ pending-row.asks.stands) in
        let history_is : history ≡ pending-row.history =
        same_Some history pending-row.history (sym there ∙ ap (λ (s : ScriptStep). slice_get histories s.item.centre) step_is ∙ pending-row.there) in
        ap (λ h. reply_in h (call_of agent (k + 1))) history_is ∙ ap (λ j. reply_in pending-row.history (call_of agent (j + 1))) same ∙ none;
    complete = λ settled. absurd (any_pending-none (front ++ row ∷ []) (length front) row settled (slice_get_pushed front row) pending);
  }

  module _ (reply : Reply) (replied : reply_in pending-row.history (call_of agent (length front + 1)) ≡ Some reply) where
    abbrev now : LogRow
    now = record row { result = Replied reply }

    same-front : (k : ℕ) → k ≤ length front → take k (results_of (front ++ now ∷ [])) ≡ take k (results_of (front ++ row ∷ []))
    same-front k within = results-front front (now ∷ []) k within ∙ sym (results-front front (row ∷ []) k within)

    answered-row : IsRow c histories agent a (front ++ now ∷ []) (length front) now
    answered-row = record {
      number = pending-row.number;
      step = pending-row.step;
      asked = pending-row.asked;
      asks = subst (λ rs. IsAsk a.scripts (length front) rs pending-row.step pending-row.asked)
          (sym (same-front (length front) (omega arith))) pending-row.asks;
      ask = pending-row.ask;
      centre = pending-row.centre;
      known = pending-row.known;
      named = pending-row.named;
      history = pending-row.history;
      there = pending-row.there;
      result = (came.0, (came.1, replied));
    }

    served-answered : (place number : ℕ) → IsServedNumber a (front ++ row ∷ []) place number → IsServedNumber a (front ++ now ∷ []) place number
    served-answered place number s =
        ⊎_elim
        (λ (before : (s.k < length front) × (slice_get front s.k ≡ Some s.row)).
        let served : IsServedNumber a (front ++ now ∷ []) place number = record {
          k = s.k;
          counted = s.counted;
          row = s.row;
          stands = slice_get_longer front (now ∷ []) s.k s.row before.1;
          served = s.served;
          step = s.step;
          item = s.item;
          there = s.there;
        } in served)
        (λ (last : (s.k ≡ length front) × (s.row ≡ row)).
        let served : IsServedNumber a (front ++ now ∷ []) place number = record {
          k = s.k;
          counted = s.counted;
          row = now;
          stands = ap (slice_get (front ++ now ∷ [])) last.0 ∙ slice_get_pushed front now;
          served = refl;
          step = s.step;
          item = s.item;
          there = s.there;
        } in served)
        (slice_get_push front row s.k s.row s.stands)

    -- with its reply for the pending row, the log follows
    pub Follows-answered : Follows c histories agent a (front ++ record row { result = Replied reply } ∷ [])
    Follows-answered = record {
      rows = λ k x at.
          ⊎_elim
          (λ (before : (k < length front) × (slice_get front k ≡ Some x)).
          IsRow-later c histories histories agent a (front ++ row ∷ []) (front ++ now ∷ []) k (length front) x (omega (arith, before.0))
          (IsLater-same agent (length front) histories) (same-front k (omega (arith, before.0)))
          (follows.rows k x (slice_get_longer front (row ∷ []) k x before.1)))
          (λ (last : (k ≡ length front) × (x ≡ now)).
          subst (λ j. IsRow c histories agent a (front ++ now ∷ []) j x) (sym last.0)
          (subst (IsRow c histories agent a (front ++ now ∷ []) (length front)) (sym last.1) answered-row))
          (slice_get_push front now k x at);
      last = λ k x at waits.
          ⊎_elim
          (λ (before : (k < length front) × (slice_get front k ≡ Some x)).
          absurd (any_pending-none front k x (Follows-front c agent a histories front row follows) before.1 waits))
          (λ (last : (k ≡ length front) × (x ≡ now)).
          absurd (false≢true (ap is_pending (sym (ap (λ (r : LogRow). r.result) last.1) ∙ waits))))
          (slice_get_push front now k x at);
      calls = λ place history there j d inside.
          served-answered place _ (follows.calls place history there j d inside);
    }
