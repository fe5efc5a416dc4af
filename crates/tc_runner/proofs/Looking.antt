-- A look at an agent's last ask, which is pending.
use Rattle.std.proofs.Common.{◌≡◌, ℕ, ◌+◌, ◌<◌, true, false, List, [], ◌∷◌, ◌++◌, Option, Some, None, length, get_or, refl, sym, ap, ◌∙◌, subst, arith}
use Rattle.std.specs.List.{slice_get}
use Rattle.std.proofs.lemmas.List.{length-append}
use Rattle.std.proofs.lemmas.Option.{same_Some, slice_get-get_or, slice_get_within}
use Rattle.tc_asks.specs.Progress.{HasTakenIn, Progress}
use Rattle.tc_centre.specs.Centre.{Centre}
use Rattle.tc_config.specs.Configurations.{Configuration}
use Rattle.tc_model.specs.Calls.{call_of}
use Rattle.tc_config.specs.Good.{Follows, IsEnded, IsRow}
use Rattle.tc_config.specs.declared.configs.AgentConf.{AgentConf}
use Rattle.tc_desk.specs.Asks.{ScriptStep}
use Rattle.tc_desk.specs.Logs.{any_pending}
use Rattle.tc_desk.specs.declared.rows.LogRow.{LogRow}
use Rattle.tc_desk.specs.declared.rows.LogResult.TheVariants.{Pending, Replied}
use Rattle.tc_lists.proofs.Parts.{append_parts, cons_head}
use Rattle.tc_model.specs.Replies.{reply_in}
use Rattle.tc_model.specs.Run.{HasCall}
use Rattle.tc_model.specs.Scripts.{Lines}
use Rattle.tc_model.specs.declared.outcomes.Reply.{Reply}
use Rattle.tc_runner.specs.Clients.{IsWaiting, left_of}
use Rattle.tc_runner.specs.Cores.{histories}
use Rattle.tc_runner.specs.Steps.{GoesOn, IsLastAnswered, Looks}
use Rattle.tc_runner.proofs.Asking.{some-agent}
use Rattle.tc_runner.proofs.Left.{left-answered, settled-answered}
use Rattle.tc_runner.proofs.Cores.{cores-whole, history-at}
use Rattle.tc_runner.proofs.Follow.{Follows-answered, IsEnded-waits, pending-called, pending-row}

-- a look that told a reply, and one that told none
pub looks-reply : (told : Option Reply) (old new : List LogRow) → Looks told old new true → (reply : Reply) × (told ≡ Some reply) × IsLastAnswered reply old new
looks-reply (Some reply) old new looks = (reply, refl, looks)
looks-reply None old new looks = absurd looks

pub looks-none : (told : Option Reply) (old new : List LogRow) → Looks told old new false → (told ≡ None) × (new ≡ old)
looks-none (Some reply) old new looks = absurd looks
looks-none None old new looks = (refl, looks)

module _ (c : Configuration) (agent : ℕ) (a : AgentConf) (cores : List Centre) (log : List LogRow) (goes : GoesOn c agent a cores log)
    (place : ℕ) (w : IsWaiting a.scripts log place) where
  abbrev waiting : List LogRow
  waiting = w.front ++ w.row ∷ []

  abbrev follows : Follows c (histories c cores) agent a (w.front ++ w.row ∷ [])
  follows = subst (Follows c (histories c cores) agent a) w.last goes.follows

  abbrev row-is : IsRow c (histories c cores) agent a (w.front ++ w.row ∷ []) (length w.front) w.row
  row-is = pending-row c agent a (histories c cores) w.front w.row w.pending follows

  -- its centre is the one at the place
  place-is : row-is.step.item.centre ≡ place
  place-is =
      ap (λ (s : ScriptStep). s.item.centre) (same_Some row-is.step w.step (sym row-is.asks.stands ∙ w.item)) ∙ w.there

  last-number : length log ≡ length w.front + 1
  last-number = let same = ap length w.last in omega (arith, same, length-append w.front (w.row ∷ []))

  pub waiting-core : place < length cores
  waiting-core =
      let within = slice_get_within c.centres row-is.step.item.centre row-is.centre row-is.known in
      omega (arith, within, place-is, cores-whole c (some-agent c agent a cores log goes) cores goes.are)

  history-is : (x : Centre) → slice_get cores place ≡ Some x → row-is.history ≡ x.history
  history-is x at =
      same_Some row-is.history x.history
      (sym row-is.there ∙ ap (slice_get (histories c cores)) place-is
      ∙ history-at c (some-agent c agent a cores log goes) cores goes.are place x at)

  pub waiting-called : (x : Centre) → slice_get cores place ≡ Some x → HasCall (call_of agent (length log)) x.history
  waiting-called x at =
      subst (HasCall (call_of agent (length log))) (history-is x at)
      (subst (λ n. HasCall (call_of agent n) row-is.history) (sym last-number)
      (pending-called c agent a (histories c cores) w.front w.row w.pending follows))

  told : (x : Centre) (reply : Option Reply) → slice_get cores place ≡ Some x → reply_in x.history (call_of agent (length log)) ≡ reply
      → reply_in row-is.history (call_of agent (length w.front + 1)) ≡ reply
  told x reply at is =
      ap (λ h. reply_in h (call_of agent (length w.front + 1))) (history-is x at)
      ∙ ap (λ n. reply_in x.history (call_of agent n)) (sym last-number) ∙ is

  -- nothing is left to do now, where the last ask has no reply
  pub waiting-ended : (x : Centre) → slice_get cores place ≡ Some x → reply_in x.history (call_of agent (length log)) ≡ None
      → IsEnded (histories c cores) agent a log
  waiting-ended x at none =
      subst (IsEnded (histories c cores) agent a) (sym w.last)
      (IsEnded-waits c agent a (histories c cores) w.front w.row w.pending follows (told x None at none))

  module _ (x : Centre) (at : slice_get cores place ≡ Some x) (reply : Reply) (replied : reply_in x.history (call_of agent (length log)) ≡ Some reply)
      (new : List LogRow) (answered : IsLastAnswered reply log new) where
    parts : (answered.front ≡ w.front) × (answered.row ∷ [] ≡ w.row ∷ [])
    parts =
        let same = ap length (sym answered.last ∙ w.last) in
        append_parts answered.front w.front (answered.row ∷ []) (w.row ∷ []) (sym answered.last ∙ w.last)
        (omega (arith, same, length-append answered.front (answered.row ∷ []), length-append w.front (w.row ∷ [])))

    -- the log with the reply
    pub answered-log : new ≡ w.front ++ record w.row { result = Replied reply } ∷ []
    answered-log =
        answered.now
        ∙ ap (λ front. front ++ record answered.row { result = Replied reply } ∷ []) parts.0
        ∙ ap (λ (r : LogRow). w.front ++ record r { result = Replied reply } ∷ []) (cons_head parts.1)

    pub answered-goes : GoesOn c agent a cores new
    answered-goes = record {
      stands = goes.stands;
      are = goes.are;
      runs = goes.runs;
      follows = subst (Follows c (histories c cores) agent a) (sym answered-log)
          (Follows-answered c agent a (histories c cores) w.front w.row w.pending follows reply (told x (Some reply) at replied));
    }

    pub answered-settled : any_pending new ≡ false
    answered-settled = ap any_pending answered-log ∙ settled-answered w.front w.row reply w.settled

    pub answered-left : left_of a new < left_of a log
    answered-left =
        subst (λ l. left_of a l < left_of a log) (sym answered-log)
        (subst (λ l. left_of a (w.front ++ record w.row { result = Replied reply } ∷ []) < left_of a l) (sym w.last)
        (left-answered a w.front w.row reply w.settled w.pending))

  -- the look, at the core that is read at the place
  module _ (r : Centre) (n : ℕ) (count : n ≡ length log) where
    reads : slice_get cores place ≡ Some (get_or cores place r)
    reads = slice_get-get_or cores place r waiting-core

    pub read-called : HasCall (call_of agent n) (get_or cores place r).history
    read-called =
        subst (λ m. HasCall (call_of agent m) (get_or cores place r).history) (sym count) (waiting-called (get_or cores place r) reads)

    abbrev reply-now : Option Reply
    reply-now = reply_in (get_or cores place r).history (call_of agent n)

    same-call : (told : Option Reply) → reply-now ≡ told → reply_in (get_or cores place r).history (call_of agent (length log)) ≡ told
    same-call told is = ap (λ m. reply_in (get_or cores place r).history (call_of agent m)) (sym count) ∙ is

    pub read-none : (new : List LogRow) → Looks (reply_in (get_or cores place r).history (call_of agent n)) log new false
        → (new ≡ log) × IsEnded (histories c cores) agent a new
    read-none new looks =
        let none = looks-none reply-now log new looks in
        (none.1, subst (IsEnded (histories c cores) agent a) (sym none.1) (waiting-ended (get_or cores place r) reads (same-call None none.0)))

    pub read-goes : (new : List LogRow) → Looks (reply_in (get_or cores place r).history (call_of agent n)) log new true → GoesOn c agent a cores new
    read-goes new looks =
        let some = looks-reply reply-now log new looks in
        answered-goes (get_or cores place r) reads some.0 (same-call (Some some.0) some.1) new some.2

    pub read-settled : (new : List LogRow) → Looks (reply_in (get_or cores place r).history (call_of agent n)) log new true → any_pending new ≡ false
    read-settled new looks =
        let some = looks-reply reply-now log new looks in
        answered-settled (get_or cores place r) reads some.0 (same-call (Some some.0) some.1) new some.2

    pub read-left : (new : List LogRow) → Looks (reply_in (get_or cores place r).history (call_of agent n)) log new true → left_of a new < left_of a log
    read-left new looks =
        let some = looks-reply reply-now log new looks in
        answered-left (get_or cores place r) reads some.0 (same-call (Some some.0) some.1) new some.2

    -- what an asker has taken in of the log, it has of the new one
    pub read-taken : (new : List LogRow) → Looks (reply_in (get_or cores place r).history (call_of agent n)) log new true → (p : Progress)
        → ((scripts : List Lines) (before more : List LogRow) (q : Progress) → HasTakenIn scripts before q → HasTakenIn scripts (before ++ more) q)
        → ((scripts : List Lines) (before : List LogRow) (row : LogRow) (q : Progress) → row.result ≡ Pending → HasTakenIn scripts (before ++ row ∷ []) q → HasTakenIn scripts before q)
        → HasTakenIn a.scripts log p → HasTakenIn a.scripts new p
    read-taken new looks p longer settled taken =
        let some = looks-reply reply-now log new looks in
        subst (λ l. HasTakenIn a.scripts l p)
        (sym (answered-log (get_or cores place r) reads some.0 (same-call (Some some.0) some.1) new some.2))
        (longer a.scripts w.front (record w.row { result = Replied some.0 } ∷ []) p
        (settled a.scripts w.front w.row p w.pending (subst (λ l. HasTakenIn a.scripts l p) w.last taken)))
