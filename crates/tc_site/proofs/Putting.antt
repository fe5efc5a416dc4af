-- The reply to a pending row, put into the log, and what holds of the log then.
use Rattle.std.proofs.Common.{◌≡◌, ℕ, ◌||◌, false, List, [], ◌∷◌, ◌++◌, Some, Contains, length, refl, sym, ap, ◌∙◌, subst, arith, ⊎_elim}
use Rattle.std.specs.List.{slice_get, list_any}
use Rattle.std.proofs.lemmas.Bool.{cases_eq, or_from, or_parts, true≢false}
use Rattle.std.proofs.lemmas.List.{length-append}
use Rattle.std.proofs.lemmas.List.Folds.{list_any-append}
use Rattle.std.proofs.lemmas.Option.{same_Some, get_or_from_slice_get}
use Rattle.tc_lists.proofs.Places.{slice_get_seam, slice_get_beside}
use Rattle.tc_desk.specs.Decided.{IsDecided, IsDecidedAs, IsRead, IsReadAs}
use Rattle.tc_desk.specs.Desks.{replied}
use Rattle.tc_desk.specs.Logs.{any_pending, is_pending, is_served}
use Rattle.tc_desk.specs.declared.rows.LogRow.{LogRow}
use Rattle.tc_desk.specs.declared.rows.LogResult.{LogResult}
use Rattle.tc_desk.specs.declared.rows.LogResult.TheVariants.{Replied, Pending, Refused, Polled}
use Rattle.tc_model.specs.Asks.{primitive_of}
use Rattle.tc_model.specs.declared.asks.Ask.{Ask}
use Rattle.tc_model.specs.declared.asks.Primitive.{Primitive}
use Rattle.tc_model.specs.declared.outcomes.Reply.{Reply}

-- a row that is pending was served
pending-served : (result : LogResult) → is_served result ≡ false → is_pending result ≡ false
pending-served (Replied reply) unserved = refl
pending-served Pending unserved = absurd (true≢false unserved)
pending-served (Refused why) unserved = refl
pending-served (Polled told) unserved = refl

pub unserved-settled : (rows : List LogRow) → list_any (λ (r : LogRow). is_served r.result) rows ≡ false → any_pending rows ≡ false
unserved-settled [] none = refl
unserved-settled (row ∷ rows) none =
    let parts = or_parts (is_served row.result) (list_any (λ (r : LogRow). is_served r.result) rows) none in
    or_from (is_pending row.result) (any_pending rows) (pending-served row.result parts.0) (unserved-settled rows parts.1)

module _ (front : List LogRow) (row : LogRow) (back : List LogRow) (reply : Reply) (pending : row.result ≡ Pending) where
  abbrev before : List LogRow
  before = front ++ row ∷ back

  abbrev after : List LogRow
  after = front ++ replied row reply ∷ back

  pub put-contains : Contains (front ++ row ∷ back) row
  put-contains = (
    length front,
    omega (arith, length-append front (row ∷ back)),
    get_or_from_slice_get before (length front) row row (slice_get_seam front row back),
  )

  -- no row is pending any more
  pub put-settled : any_pending front ≡ false → any_pending back ≡ false → any_pending (front ++ replied row reply ∷ back) ≡ false
  put-settled none none-behind =
      list_any-append (λ (r : LogRow). is_pending r.result) front (replied row reply ∷ back)
      ∙ ap (λ b. b || any_pending (replied row reply ∷ back)) none ∙ none-behind

  -- a row of the log with the reply is a row as it was, or the one that has the reply
  module _ (k : ℕ) (x : LogRow) (at : slice_get (front ++ replied row reply ∷ back) k ≡ Some x) where
    here : k ≡ length front → x ≡ replied row reply
    here is = same_Some x (replied row reply) (sym at ∙ ap (slice_get after) is ∙ slice_get_seam front (replied row reply) back)

    was : k ≡ length front → slice_get (front ++ row ∷ back) k ≡ Some row
    was is = ap (slice_get before) is ∙ slice_get_seam front row back

    beside : (k ≡ length front → ⊥) → slice_get (front ++ row ∷ back) k ≡ Some x
    beside other = slice_get_beside front row (replied row reply) back k other ∙ at

    read-at : (ask : Ask) → x.ask ≡ Some ask → IsRead (front ++ row ∷ back) → IsReadAs ask x.result
    read-at ask asked read =
        ⊎_elim
        (λ (is : k ≡ length front).
        let e = here is in
        let old : IsReadAs ask Pending =
        subst (IsReadAs ask) pending (read k row ask (was is) (ap (λ (r : LogRow). r.ask) (sym e) ∙ asked)) in
        subst (IsReadAs ask) (ap (λ (r : LogRow). r.result) (sym e)) old)
        (λ other. read k x ask (beside other) asked)
        (cases_eq k (length front))

    decided-at : (permits : ℕ → Primitive → Type 0) (names : List (List ℕ)) (ask : Ask) (place : ℕ) → x.ask ≡ Some ask
        → slice_get names place ≡ Some x.centre → IsDecided permits names (front ++ row ∷ back)
        → IsDecidedAs (permits place (primitive_of ask)) x.result
    decided-at permits names ask place asked named decided =
        ⊎_elim
        (λ (is : k ≡ length front).
        let e = here is in
        let old : IsDecidedAs (permits place (primitive_of ask)) Pending =
        subst (IsDecidedAs (permits place (primitive_of ask))) pending
        (decided.decided k row ask place (was is) (ap (λ (r : LogRow). r.ask) (sym e) ∙ asked)
        (named ∙ ap (λ (r : LogRow). Some r.centre) e)) in
        subst (IsDecidedAs (permits place (primitive_of ask))) (ap (λ (r : LogRow). r.result) (sym e)) old)
        (λ other. decided.decided k x ask place (beside other) asked named)
        (cases_eq k (length front))

  pub put-read : IsRead (front ++ row ∷ back) → IsRead (front ++ replied row reply ∷ back)
  put-read read = λ k x ask at asked. read-at k x at ask asked read

  pub put-decided : (permits : ℕ → Primitive → Type 0) (names : List (List ℕ)) → IsDecided permits names (front ++ row ∷ back)
      → IsDecided permits names (front ++ replied row reply ∷ back)
  put-decided permits names decided = record {
    read = put-read decided.read;
    decided = λ k x ask place at asked named. decided-at k x at permits names ask place asked named decided;
  }
