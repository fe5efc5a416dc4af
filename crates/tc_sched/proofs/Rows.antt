-- Rows of scripts, as one is put behind them and as the last one gets its reply.
use Rattle.std.proofs.Common.{◌≡◌, ℕ, ◌+◌, ◌<◌, ◌≤◌, false, ◌||◌, List, [], ◌∷◌, ◌++◌, Option, Some, None, IfSome, IfNone, IfOk, Result, Ok, Err, All, length, get_or, take, refl, sym, ap, ◌∙◌, subst, arith, ⊎_elim}
use Rattle.std.specs.List.{slice_get}
use Rattle.std.proofs.Math.Seq.{get_or-append_seam}
use Rattle.std.proofs.lemmas.List.{length-append}
use Rattle.std.proofs.lemmas.Option.{get_or_from_slice_get, slice_get_within, slice_get-get_or}
use Rattle.std.proofs.lemmas.List.Elements.{All-append, All-head, All-map, All-nil, All-tail}
use Rattle.tc_asks.proofs.Taken.{taken_longer, taken_shorter}
use Rattle.tc_asks.specs.Nexts.{IsNextAsk}
use Rattle.tc_asks.specs.Progress.{HasTakenIn, Progress}
use Rattle.tc_asks.specs.declared.next.Next.{Next}
use Rattle.tc_desk.specs.Asks.{IsAsk, ScriptStep, steps_at, steps_from, steps_of}
use Rattle.tc_desk.specs.Desks.{IsRowAnswered, replied}
use Rattle.tc_desk.specs.Logs.{any_pending, is_pending, results_of}
use Rattle.tc_desk.specs.declared.rows.LogRow.{LogRow}
use Rattle.tc_desk.specs.declared.rows.LogResult.TheVariants.{Pending}
use Rattle.tc_lists.proofs.Elements.{All-slice_get}
use Rattle.tc_lists.proofs.Parts.{nil_or_push}
use Rattle.tc_lists.proofs.Places.{slice_get_longer, slice_get_push, slice_get_pushed}
use Rattle.tc_model.specs.Scripts.{Lines}
use Rattle.tc_model.specs.declared.outcomes.Reply.{Reply}
use Rattle.tc_model.specs.declared.scripts.ScriptItem.{ScriptItem}
use Rattle.tc_sched.specs.Clients.{IsItemRow, IsOfScripts}
use Rattle.tc_sched.specs.Steps.{ArePlaced}
use Rattle.tc_desk.proofs.Logs.{any_pending-front, any_pending-none, any_pending-push, results-front, results-whole}

-- the centres of all items are among so many
steps-placed : (count place : ℕ) (scripts : List Lines) → ArePlaced count scripts
    → All (λ (s : ScriptStep). s.item.centre < count) (steps_from place scripts)
steps-placed count place [] all = All-nil (λ (s : ScriptStep). s.item.centre < count)
steps-placed count place (s ∷ ss) all =
    let P : ScriptStep → Type 0 = λ t. t.item.centre < count in
    let Q : Lines → Type 0 = λ t. All (λ (i : ScriptItem). i.centre < count) t.items in
    let here : All P (steps_at place s) =
    All-map P (λ (i : ScriptItem). record { script = place; vars = s.vars; item = i }) s.items (All-head Q s ss all) in
    All-append P (steps_at place s) (steps_from (place + 1) ss) here (steps-placed count (place + 1) ss (All-tail Q s ss all))

pub next-placed : (count : ℕ) (scripts : List Lines) (log : List LogRow) (next : Next) → ArePlaced count scripts → IsNextAsk scripts log next → next.centre < count
next-placed count scripts log next all is =
    let there = All-slice_get (λ (s : ScriptStep). s.item.centre < count) (steps_of scripts) (length log) is.step (steps-placed count 0 scripts all) is.asks.stands in
    omega (arith, there, is.centre)

-- each item has its row, where as many rows are there as items
pub none-left : {E : Type 0} (found : Result (Option Next) E) (rows items : ℕ) → rows ≤ items
    → IfOk found (λ next. IfNone next (items ≤ rows)) → IfOk found (λ next. IfNone next (rows ≡ items))
none-left (Ok None) rows items within all = omega (arith, within, all)
none-left (Ok (Some next)) rows items within all = all
none-left (Err e) rows items within all = all

module _ (names : List (List ℕ)) (scripts : List Lines) where
  -- a log has no more rows than there are items
  pub rows-within : (log : List LogRow) → IsOfScripts names scripts log → length log ≤ length (steps_of scripts)
  rows-within [] of = omega arith
  rows-within (row ∷ rows) of =
      let last : ℕ = length rows in
      let at = slice_get-get_or (row ∷ rows) last row (omega arith) in
      let is = of.rows last _ at in
      let within = slice_get_within (steps_of scripts) last is.step is.asks.stands in
      omega (arith, within)

  -- a row is that of its item, whatever stands at its place and behind it
  row-anew : (log other : List LogRow) (k : ℕ) (row : LogRow) → take k (results_of other) ≡ take k (results_of log)
      → IsItemRow names scripts log k row → IsItemRow names scripts other k row
  row-anew log other k row same is = record {
    number = is.number;
    step = is.step;
    asked = is.asked;
    asks = subst (λ rs. IsAsk scripts k rs is.step is.asked) (sym same) is.asks;
    ask = is.ask;
    centre = is.centre;
    result = is.result;
  }

  -- a row more, where none before it is pending
  pub rows-push : (log : List LogRow) (row : LogRow) → IsOfScripts names scripts log → any_pending log ≡ false
      → IsItemRow names scripts (log ++ row ∷ []) (length log) row → IsOfScripts names scripts (log ++ row ∷ [])
  rows-push log row of settled is = record {
    rows = λ k x at.
        ⊎_elim
        (λ (before : (k < length log) × (slice_get log k ≡ Some x)).
        row-anew log (log ++ row ∷ []) k x (results-front log (row ∷ []) k (omega (arith, before.0))) (of.rows k x before.1))
        (λ (last : (k ≡ length log) × (x ≡ row)).
        subst (λ j. IsItemRow names scripts (log ++ row ∷ []) j x) (sym last.0)
        (subst (IsItemRow names scripts (log ++ row ∷ []) (length log)) (sym last.1) is))
        (slice_get_push log row k x at);
    last = λ k x at pending.
        ⊎_elim
        (λ (before : (k < length log) × (slice_get log k ≡ Some x)). absurd (any_pending-none log k x settled before.1 pending))
        (λ (last : (k ≡ length log) × (x ≡ row)). omega (arith, last.0, length-append log (row ∷ [])))
        (slice_get_push log row k x at);
  }

  -- the rows before the last one; none of them is pending
  pub rows-front : (front : List LogRow) (row : LogRow) → IsOfScripts names scripts (front ++ row ∷ []) → any_pending front ≡ false
  rows-front front row of =
      any_pending-front front (row ∷ []) (λ k x at pending. let h = of.last k x at pending in omega (arith, h, length-append front (row ∷ [])))

  rows-shorter : (front : List LogRow) (row : LogRow) → IsOfScripts names scripts (front ++ row ∷ []) → IsOfScripts names scripts front
  rows-shorter front row of = record {
    rows = λ k x at.
        let within = slice_get_within front k x at in
        row-anew (front ++ row ∷ []) front k x (sym (results-front front (row ∷ []) k (omega (arith, within))))
        (of.rows k x (slice_get_longer front (row ∷ []) k x at));
    last = λ k x at pending. absurd (any_pending-none front k x (rows-front front row of) at pending);
  }

  -- the last row gets its reply
  pub rows-replied : (front : List LogRow) (row : LogRow) (reply : Reply) → IsOfScripts names scripts (front ++ row ∷ [])
      → IsOfScripts names scripts (front ++ replied row reply ∷ [])
  rows-replied front row reply of =
      let is = of.rows (length front) row (slice_get_pushed front row) in
      let same : take (length front) (results_of (front ++ replied row reply ∷ [])) ≡ take (length front) (results_of (front ++ row ∷ [])) =
      results-whole front (replied row reply ∷ []) ∙ sym (results-whole front (row ∷ [])) in
      rows-push front (replied row reply) (rows-shorter front row of) (rows-front front row of)
      (record {
        number = is.number;
        step = is.step;
        asked = is.asked;
        asks = subst (λ rs. IsAsk scripts (length front) rs is.step is.asked) (sym same) is.asks;
        ask = is.ask;
        centre = is.centre;
        result = tt;
      })

  -- a row that is pending is the last one
  pub back-none : (log front : List LogRow) (row : LogRow) (back : List LogRow) → IsOfScripts names scripts log → log ≡ front ++ row ∷ back → row.result ≡ Pending
      → back ≡ []
  back-none log front row [] of from pending = refl
  back-none log front row (x ∷ back) of from pending =
      let at : slice_get (front ++ row ∷ x ∷ back) (length front) ≡ Some row =
      slice_get-get_or (front ++ row ∷ x ∷ back) (length front) row (omega (arith, length-append front (row ∷ x ∷ back))) ∙ ap Some (get_or-append_seam front row (x ∷ back) row) in
      let last = of.last (length front) row (ap (λ l. slice_get l (length front)) from ∙ at) pending in
      let long = ap length from in
      absurd (omega (arith, last, long, length-append front (row ∷ x ∷ back)))

  -- the last row is pending exactly where some row is
  pub last-pending : (log : List LogRow) (n : ℕ) (row : LogRow) → IsOfScripts names scripts log → n + 1 ≡ length log → row ≡ get_or log n row
      → is_pending row.result ≡ any_pending log
  last-pending log n row of count at =
      ⊎_elim
      (λ (none : log ≡ []). absurd (let same = ap length none in omega (arith, same, count)))
      (λ (parts : (front : List LogRow) × (last : LogRow) × (log ≡ front ++ last ∷ [])).
      let front = parts.0 in
      let place : length front ≡ n = let same = ap length parts.2 in omega (arith, same, count, length-append front (parts.1 ∷ [])) in
      let last : row ≡ parts.1 =
      at ∙ ap (λ l. get_or l n row) parts.2 ∙ ap (λ k. get_or (front ++ parts.1 ∷ []) k row) (sym place)
      ∙ get_or_from_slice_get (front ++ parts.1 ∷ []) (length front) parts.1 row (slice_get_pushed front parts.1) in
      let settled = rows-front front parts.1 (subst (IsOfScripts names scripts) parts.2 of) in
      ap (λ (r : LogRow). is_pending r.result) last
      ∙ ap (λ b. b || is_pending parts.1.result) (sym settled)
      ∙ sym (any_pending-push front parts.1) ∙ sym (ap any_pending parts.2))
      (nil_or_push log)

-- the last row, which was pending, has got its reply
pub record AnswersLast (log new front : List LogRow) (row : LogRow) (reply : Reply) : Type 0 where
  pub from : log ≡ front ++ row ∷ []
  pub to : new ≡ front ++ replied row reply ∷ []

pub answered-last : (names : List (List ℕ)) (scripts : List Lines) (log new : List LogRow) (reply : Reply) → IsOfScripts names scripts log
    → (a : IsRowAnswered log reply new) → AnswersLast log new a.front a.row reply
answered-last names scripts log new reply of a =
    let none = back-none names scripts log a.front a.row a.back of a.from a.pending in record {
      from = a.from ∙ ap (λ (l : List LogRow). a.front ++ a.row ∷ l) none;
      to = a.to ∙ ap (λ (l : List LogRow). a.front ++ replied a.row reply ∷ l) none;
    }

-- the pending row has got its reply
pub rows-answered : (names : List (List ℕ)) (scripts : List Lines) (log new : List LogRow) (reply : Reply) → IsOfScripts names scripts log
    → IsRowAnswered log reply new → IsOfScripts names scripts new
rows-answered names scripts log new reply of answered =
    let last = answered-last names scripts log new reply of answered in
    subst (IsOfScripts names scripts) (sym last.to)
    (rows-replied names scripts answered.front answered.row reply (subst (IsOfScripts names scripts) last.from of))

-- what an asker has taken in of a log, it has of the log in which the pending row has got its reply
pub taken-answered : (names : List (List ℕ)) (scripts : List Lines) (log new : List LogRow) (reply : Reply) (asker : Option Progress) → IsOfScripts names scripts log
    → IsRowAnswered log reply new → IfSome asker (HasTakenIn scripts log) → IfSome asker (HasTakenIn scripts new)
taken-answered names scripts log new reply None of a taken = taken
taken-answered names scripts log new reply (Some p) of a taken =
    let last = answered-last names scripts log new reply of a in
    subst (λ l. HasTakenIn scripts l p) (sym last.to)
    (taken_longer scripts a.front (replied a.row reply ∷ []) p
    (taken_shorter scripts a.front a.row p a.pending (subst (λ l. HasTakenIn scripts l p) last.from taken)))

pub taken-push : (scripts : List Lines) (log more : List LogRow) (asker : Option Progress) → IfSome asker (HasTakenIn scripts log) → IfSome asker (HasTakenIn scripts (log ++ more))
taken-push scripts log more None taken = taken
taken-push scripts log more (Some p) taken = taken_longer scripts log more p taken
