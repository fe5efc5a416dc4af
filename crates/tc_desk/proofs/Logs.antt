-- Logs, as rows are put behind them and as their last row gets its reply.
use Rattle.std.proofs.Common.{◌≡◌, ℕ, zero, suc, ◌≤◌, true, false, ◌||◌, List, [], ◌∷◌, ◌++◌, Some, length, take, map, get_or, set, refl, sym, ap, ◌∙◌, arith, ⊎_elim}
use Rattle.std.specs.List.{slice_get}
use Rattle.std.proofs.Math.Bool.{or-false}
use Rattle.std.proofs.lemmas.Bool.{cases_Bool, false≢true, true≢false, or_parts, or_from}
use Rattle.std.proofs.lemmas.List.{map-append, take-append-le, take_all, length-map, set_at}
use Rattle.std.proofs.lemmas.List.Folds.{list_any-append}
use Rattle.std.proofs.lemmas.Option.{none-some, same_Some, get_or_from_slice_get}
use Rattle.tc_lists.proofs.Places.{slice_get_seam}
use Rattle.tc_desk.specs.Desks.{replied}
use Rattle.tc_desk.specs.Logs.{any_pending, is_pending, results_of}
use Rattle.tc_desk.specs.declared.rows.LogRow.{LogRow}
use Rattle.tc_model.specs.declared.outcomes.Reply.{Reply}
use Rattle.tc_desk.specs.declared.rows.LogResult.{LogResult}
use Rattle.tc_desk.specs.declared.rows.LogResult.TheVariants.{Replied, Pending, Refused, Polled}

pub is_pending-true : (r : LogResult) → is_pending r ≡ true → r ≡ Pending
is_pending-true (Replied reply) h = absurd (false≢true h)
is_pending-true Pending h = refl
is_pending-true (Refused why) h = absurd (false≢true h)
is_pending-true (Polled reply) h = absurd (false≢true h)

-- rows behind do not change the results before
pub results-front : (log more : List LogRow) (k : ℕ) → k ≤ length log → take k (results_of (log ++ more)) ≡ take k (results_of log)
results-front log more k within =
    let f : LogRow → LogResult = λ row. row.result in
    ap (take k) (map-append f log more) ∙ take-append-le k (map f log) (map f more) (omega (arith, within, length-map log f))

pub results-whole : (log more : List LogRow) → take (length log) (results_of (log ++ more)) ≡ results_of log
results-whole log more =
    let f : LogRow → LogResult = λ row. row.result in
    results-front log more (length log) (omega arith) ∙ take_all (length log) (map f log) (omega (arith, length-map log f))

pub any_pending-push : (log : List LogRow) (row : LogRow) → any_pending (log ++ row ∷ []) ≡ (any_pending log || is_pending row.result)
any_pending-push log row =
    list_any-append (λ (r : LogRow). is_pending r.result) log (row ∷ [])
    ∙ ap (λ b. any_pending log || b) (or-false (is_pending row.result))

pub any_pending-push_settled : (log : List LogRow) (row : LogRow) → any_pending log ≡ false → is_pending row.result ≡ false
    → any_pending (log ++ row ∷ []) ≡ false
any_pending-push_settled log row before here =
    any_pending-push log row ∙ or_from (any_pending log) (is_pending row.result) before here

-- no row of a log without a pending one is pending
pub any_pending-none : (log : List LogRow) (k : ℕ) (row : LogRow) → any_pending log ≡ false → slice_get log k ≡ Some row → row.result ≡ Pending → ⊥
any_pending-none [] k row none at pending = none-some row at
any_pending-none (r ∷ rs) zero row none at pending =
    let settled : is_pending r.result ≡ false = (or_parts (is_pending r.result) (any_pending rs) none).0 in
    true≢false (sym (ap is_pending (ap (λ (x : LogRow). x.result) (same_Some r row at) ∙ pending)) ∙ settled)
any_pending-none (r ∷ rs) (suc k) row none at pending =
    any_pending-none rs k row (or_parts (is_pending r.result) (any_pending rs) none).1 at pending

-- where none but the last of the rows may be pending, none before is
pub any_pending-front : (front more : List LogRow) → ((k : ℕ) (row : LogRow) → slice_get (front ++ more) k ≡ Some row → row.result ≡ Pending → length front ≤ k) → any_pending front ≡ false
any_pending-front [] more last = refl
any_pending-front (r ∷ rs) more last =
    let here : is_pending r.result ≡ false =
    ⊎_elim (λ (yes : is_pending r.result ≡ true). absurd (let h = last 0 r refl (is_pending-true r.result yes) in omega (arith, h)))
    (λ (no : is_pending r.result ≡ false). no) (cases_Bool (is_pending r.result)) in
    or_from (is_pending r.result) (any_pending rs) here
    (any_pending-front rs more (λ k row at pending. let h = last (suc k) row at pending in omega (arith, h)))

-- a write of a row with its reply
pub put-set : (log front : List LogRow) (row x : LogRow) (back : List LogRow) (reply : Reply) (place : ℕ) → log ≡ front ++ row ∷ back → place ≡ length front
    → x ≡ get_or log place x → set log place (replied x reply) ≡ front ++ replied row reply ∷ back
put-set log front row x back reply place from here value =
    let is : x ≡ row =
    value ∙ ap (λ l. get_or l place x) from ∙ ap (λ k. get_or (front ++ row ∷ back) k x) here
    ∙ get_or_from_slice_get (front ++ row ∷ back) (length front) row x (slice_get_seam front row back) in
    ap (λ l. set l place (replied x reply)) from ∙ set_at front row back (replied x reply) place (sym here)
    ∙ ap (λ r. front ++ replied r reply ∷ back) is
