-- Runs: how they begin, how they grow at their end, and what each of their entries is.
use Rattle.std.proofs.Common.{◌≡◌, ℕ, zero, suc, add-one, ◌<◌, ◌≤◌, ⊎_elim, List, [], ◌∷◌, ◌++◌, Some, None, All}
use Rattle.std.proofs.Common.{length, get_or, take, slice_get, refl, sym, ap, ◌∙◌, subst, arith}
use Rattle.std.proofs.lemmas.List.{take-append-le, take_at, take_more, take_all}
use Rattle.std.proofs.lemmas.Option.{slice_get_within, slice_get-get_or, slice_get_cases, get_or_from_slice_get}
use mathlib.Core.List.{IsPrefix}
use Rattle.tc_lists.proofs.Places.{slice_get_push, slice_get_longer}
use Rattle.tc_model.specs.Choices.{AnyOne}
use Rattle.tc_model.specs.State.{State, Origin, opening, after_entry, after_history}
use Rattle.tc_model.specs.Run.{EachEntry, IsRun, IsFirstRun}
use Rattle.tc_model.specs.Entries.{IsWellFormed}
use Rattle.tc_model.specs.declared.entries.Entry.{Entry}
use Rattle.tc_model.proofs.Choosing.{any_legal}
use Rattle.tc_model.proofs.WellFormed.{legal-well_formed}

pub after_history-push : (s : State) (history : List Entry) (e : Entry)
    → after_history s (history ++ e ∷ []) ≡ after_entry e (after_history s history)
after_history-push s [] e = refl
after_history-push s (d ∷ history) e = after_history-push (after_entry d s) history e

pub EachEntry-none : (R : List Entry → State → Entry → Type 0) (s : State) → EachEntry R s []
EachEntry-none R s k e h = absurd (let within = slice_get_within [] k e h in omega (arith, within))

pub EachEntry-push : (R : List Entry → State → Entry → Type 0) (s : State) (history : List Entry) (e : Entry)
    → EachEntry R s history → R history (after_history s history) e → EachEntry R s (history ++ e ∷ [])
EachEntry-push R s history e each last k x h =
    ⊎_elim
    (λ (old : (k < length history) × (slice_get history k ≡ Some x)).
    rw (take-append-le k history (e ∷ []) (omega (arith, old.0))) (each k x old.1))
    (λ (new : (k ≡ length history) × (x ≡ e)).
    rw (new.0, new.1, take_at history (e ∷ []) (length history) refl) last)
    (slice_get_push history e k x h)

pub EachEntry-append : (R : List Entry → State → Entry → Type 0) (s : State) (history more : List Entry)
    → EachEntry R s (history ++ more) → EachEntry R s history
EachEntry-append R s history more each k e h =
    let within : k < length history = slice_get_within history k e h in
    let P : List Entry → Type 0 = λ before. R before (after_history s before) e in
    subst P (take-append-le k history more (omega arith)) (each k e (slice_get_longer history more k e h))

-- what each entry of a history is to those before it, each of a beginning is too
pub EachEntry-IsPrefix : (R : List Entry → State → Entry → Type 0) (s : State) (before history : List Entry)
    → IsPrefix before history → EachEntry R s history → EachEntry R s before
EachEntry-IsPrefix R s before history begins each =
    EachEntry-append R s before begins.0 (subst (EachEntry R s) (sym begins.1) each)

EachEntry-keeps-take : (R : List Entry → State → Entry → Type 0) (s : State) (P : List Entry → Type 0) → P []
    → ((before : List Entry) (e : Entry) → P before → R before (after_history s before) e → P (before ++ e ∷ []))
    → (history : List Entry) → EachEntry R s history → (n : ℕ) → n ≤ length history → P (take n history)
EachEntry-keeps-take R s P none more history each zero within = none
EachEntry-keeps-take R s P none more history each (suc n) within =
    let so_far : List Entry = take n history in
    let before : P so_far = EachEntry-keeps-take R s P none more history each n (omega arith) in
    ⊎_elim
    (λ (there : (e : Entry) × (n < length history) × (slice_get history n ≡ Some e) × (get_or history n e ≡ e)).
    let grown : take (suc n) history ≡ so_far ++ there.0 ∷ [] =
    ap (λ m. take m history) (sym (add-one n)) ∙ take_more history n there.0 there.1
    ∙ ap (λ e. so_far ++ e ∷ []) there.3 in
    subst P (sym grown) (more so_far there.0 before (each n there.0 there.2)))
    (λ (past : (length history ≤ n) × (slice_get history n ≡ None)). absurd (omega (arith, past.0)))
    (slice_get_cases history n).1

-- what holds at first, and is kept by each entry in its relation to those before, holds of the whole history
pub EachEntry-keeps : (R : List Entry → State → Entry → Type 0) (s : State) (P : List Entry → Type 0) → P []
    → ((before : List Entry) (e : Entry) → P before → R before (after_history s before) e → P (before ++ e ∷ []))
    → (history : List Entry) → EachEntry R s history → P history
EachEntry-keeps R s P none more history each =
    subst P (take_all (length history) history (omega arith))
    (EachEntry-keeps-take R s P none more history each (length history) (omega arith))

-- the same, where each entry has a property of its own
pub EachEntry-keeps-along : (R : List Entry → State → Entry → Type 0) (s : State) (Q : Entry → Type 0) (P : List Entry → Type 0)
    → P []
    → ((before : List Entry) (e : Entry) → P before → R before (after_history s before) e → Q e → P (before ++ e ∷ []))
    → (history : List Entry) → EachEntry R s history → All Q history → P history
EachEntry-keeps-along R s Q P none more history each all =
    EachEntry-keeps (λ before t e. R before t e × Q e) s P none (λ before e so_far h. more before e so_far h.0 h.1) history
    (λ k e at. (each k e at, subst Q (get_or_from_slice_get history k e e at) (all k e (slice_get_within history k e at))))

pub IsRun-first : (origin : Origin) (history : List Entry) → IsFirstRun origin history → IsRun origin history
IsRun-first origin history first k e h =
    any_legal origin (after_history (opening origin) (take k history)) (take k history) e (first k e h)

pub IsRun-well_formed : (origin : Origin) (history : List Entry) → IsRun origin history → All IsWellFormed history
IsRun-well_formed origin history run k d inside =
    let e : Entry = get_or history k d in
    legal-well_formed AnyOne origin (after_history (opening origin) (take k history)) (take k history) e
    (run k e (slice_get-get_or history k d inside))

pub after_history-append : (s : State) (history more : List Entry)
    → after_history s (history ++ more) ≡ after_history (after_history s history) more
after_history-append s [] more = refl
after_history-append s (e ∷ history) more = after_history-append (after_entry e s) history more
