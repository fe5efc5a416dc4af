-- What the results of items make equal, as items come.
use Rattle.std.proofs.Common.{◌≡◌, ◌<◌, ◌≤◌, ◌+◌, ◌==◌, if◌then◌else◌, inl, inr, ℕ, suc, List, [], ◌∷◌, ◌++◌, Some, length, take, drop, All, refl, ap, sym, ◌∙◌, append-nil, arith}
use Rattle.std.specs.List.{slice_get}
use Rattle.std.proofs.Math.Seq.{take-append_seam}
use Rattle.std.proofs.lemmas.Bool.Decides.{eqb_tells}
use Rattle.std.proofs.lemmas.List.{append_assoc, length-take, length-take-le}
use Rattle.std.proofs.lemmas.List.Elements.{All-head, All-tail, All-weaker}
use Rattle.std.proofs.lemmas.Option.{get_or_from_slice_get, slice_get_within}
use Rattle.tc_lists.proofs.Parts.{split_slice_get, take_read}
use Rattle.tc_term.specs.Equations.{Equation}
use Rattle.tc_model.specs.Scripts.{Lines}
use Rattle.tc_desk.specs.Asks.{ScriptStep, equation, equations, steps_of}
use Rattle.tc_desk.specs.declared.rows.LogResult.{LogResult}
use Rattle.tc_asks.specs.Places.{IsPlaced}
use Rattle.tc_asks.proofs.Steps.{steps-split, steps_from-below}

-- what one item makes equal in a script
abbrev pub said : ℕ → ScriptStep → LogResult → List Equation
said place s r = if s.script == place then equation s.item.ask r else []

-- further results don't count
pub equations-longer : (place : ℕ) (ss : List ScriptStep) (rs more : List LogResult) → length ss ≤ length rs → equations place ss (rs ++ more) ≡ equations place ss rs
equations-longer place [] rs more enough = refl
equations-longer place (s ∷ ss) [] more enough = absurd (omega (arith, enough))
equations-longer place (s ∷ ss) (r ∷ rs) more enough =
    ap (λ es. said place s r ++ es) (equations-longer place ss rs more (omega (arith, enough)))

-- one item more
equations-push : (place : ℕ) (ss : List ScriptStep) (s : ScriptStep) (rs : List LogResult) (r : LogResult) (more : List LogResult) →
    length ss ≡ length rs → equations place (ss ++ s ∷ []) (rs ++ r ∷ more) ≡ equations place ss rs ++ said place s r
equations-push place [] s [] r more same = append-nil (said place s r)
equations-push place [] s (q ∷ rs) r more same = absurd (omega (arith, same))
equations-push place (t ∷ ss) s [] r more same = absurd (omega (arith, same))
equations-push place (t ∷ ss) s (q ∷ rs) r more same =
    ap (λ es. said place t q ++ es) (equations-push place ss s rs r more (omega (arith, same)))
    ∙ sym (append_assoc (said place t q) (equations place ss rs) (said place s r))

pub equations-next : (place n : ℕ) (ss : List ScriptStep) (s : ScriptStep) (rs : List LogResult) (r : LogResult) →
    slice_get ss n ≡ Some s → slice_get rs n ≡ Some r → equations place (take (n + 1) ss) rs ≡ equations place (take n ss) rs ++ said place s r
equations-next place n ss s rs r at came =
    let steps = take n ss in
    let results = take n rs in
    let long : length steps ≡ n = length-take-le n ss (omega (arith, slice_get_within ss n s at)) in
    let long' : length results ≡ n = length-take-le n rs (omega (arith, slice_get_within rs n r came)) in
    let split = split_slice_get rs n r came in
    let enough : length steps ≤ length results = omega (arith, long, long') in
    ap (λ ts. equations place ts rs) (take_read ss n s (slice_get_within ss n s at) (sym (get_or_from_slice_get ss n s s at)))
    ∙ ap (equations place (steps ++ s ∷ [])) split
    ∙ equations-push place steps s results r (drop (suc n) rs) (omega (arith, long, long'))
    ∙ ap (λ es. es ++ said place s r) (sym (ap (equations place steps) split ∙ equations-longer place steps results (r ∷ drop (suc n) rs) enough))

-- items of earlier scripts make nothing equal
pub equations-before : (place : ℕ) (ss : List ScriptStep) (rs : List LogResult) → All (λ step. step.script < place) ss → equations place ss rs ≡ []
equations-before place [] rs before = refl
equations-before place (s ∷ ss) [] before = refl
equations-before place (s ∷ ss) (r ∷ rs) before =
    let below = All-head (λ (step : ScriptStep). step.script < place) s ss before in
    let rest = equations-before place ss rs (All-tail (λ (step : ScriptStep). step.script < place) s ss before) in
    elim (eqb_tells s.script place) [
      | inl same ↦ absurd (omega (arith, same.1, below))
      | inr other ↦ ap (λ b. (if b then equation s.item.ask r else []) ++ equations place ss rs) other.0 ∙ rest
    ]

-- at the beginning of a script nothing is said of its variables
pub equations-none : (scripts : List Lines) (n count : ℕ) (rs : List LogResult) → IsPlaced scripts n 0 count → equations n (take count (steps_of scripts)) rs ≡ []
equations-none scripts n count rs placed =
    let ss = take n scripts in
    let front = steps_of ss in
    let long : count ≡ length front = omega (arith, placed.before) in
    let few : length ss ≤ n = omega (arith, length-take n scripts) in
    ap (λ m. equations n (take m (steps_of scripts)) rs) long
    ∙ ap (λ steps. equations n (take (length front) steps) rs) (steps-split scripts n)
    ∙ ap (λ steps. equations n steps rs) (take-append_seam front _)
    ∙ equations-before n front rs
    (All-weaker (λ (step : ScriptStep). step.script < 0 + length ss) (λ (step : ScriptStep). step.script < n) (λ step below. omega (arith, below, few)) front (steps_from-below 0 ss))
