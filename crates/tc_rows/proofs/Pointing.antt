-- The places at which a centre was at rest and full, one after another.
use Rattle.std.proofs.Common.{◌≡◌, ℕ, ◌+◌, ◌<◌, ◌≤◌, Bool, true, List, [], ◌∷◌, ◌++◌}
use Rattle.std.proofs.Common.{Some, length, take, slice_get, slice_index_or, refl, sym, subst, ⊎_elim, arith}
use Rattle.std.proofs.lemmas.Bool.{cases_lt}
use Rattle.std.proofs.lemmas.List.Elements.{All-nil, All-push, All-weaker, Contains-append_left, Contains-push}
use Rattle.tc_lists.proofs.Pairs.{AllPairs-push_if}
use Rattle.tc_model.specs.State.{IsQuiescent, Origin, after_history, opening}
use Rattle.tc_model.specs.declared.entries.Entry.{Entry}
use Rattle.tc_model.specs.declared.entries.Entry.TheVariants.{Called, Gave, Looked}
use Rattle.tc_replay.specs.Bad.{IsQuietRun}
use Rattle.tc_replay.proofs.QuietPoints.{quiet_before, unquiet_before}
use Rattle.tc_rows.specs.Fulls.{ArePoints, ArePointsBelow, HasPoint, IsFullPoint, IsLoadOf, IsPoint}
use Rattle.tc_rows.specs.Fulls.{IsTooFull, Notes, is_no_answer}
use Rattle.tc_rows.specs.declared.fulls.FullPoint.{FullPoint}
use Rattle.tc_rows.specs.declared.fulls.Load.{Load}
use Rattle.tc_rows.proofs.Loads.{full-same, weight-rises}

-- an entry that is no answer shows that the centre is at rest before it, and an answer that it isn't
pub quiet-here : (origin : Origin) (history : List Entry) → IsQuietRun origin history → (place : ℕ) (e : Entry)
    → slice_get history place ≡ Some e
    → (is_no_answer e ≡ true → IsQuiescent (after_history (opening origin) (take place history)))
    × (IsQuiescent (after_history (opening origin) (take place history)) → is_no_answer e ≡ true)
quiet-here origin history run place (Called id op result items) at =
    (λ yes. quiet_before origin history run place (Called id op result items) at tt, λ quiet. refl)
quiet-here origin history run place (Gave id result items) at =
    (λ yes. absurd (cc), λ quiet. absurd (unquiet_before origin history run place (Gave id result items) at tt quiet))
quiet-here origin history run place (Looked id asked reply) at =
    (λ yes. quiet_before origin history run place (Looked id asked reply) at tt, λ quiet. refl)

-- no point stands before the first place
pub points-none : (origin : Origin) (history : List Entry) → ArePointsBelow origin history 0 []
points-none origin history = record {
  each = All-nil (IsPoint origin history);
  below = All-nil (λ (p : FullPoint). p.place < 0);
  all = λ place below is. absurd (omega (arith, below));
  rise = λ i j d before inside. absurd (omega (arith, inside));
}

module _ (origin : Origin) (history : List Entry) (place : ℕ) (load : Load) (points : List FullPoint)
    (are : ArePointsBelow origin history place points) (within : place ≤ length history)
    (of : IsLoadOf origin (take place history) load) where
  abbrev here : FullPoint
  here = record { place = place; load = load }

  abbrev R : FullPoint → FullPoint → Type 0
  R p q = (p.place < q.place) × (p.load.weight < q.load.weight)

  -- a point at the place comes behind the others
  point-pushed : IsFullPoint origin history place → ArePointsBelow origin history (place + 1) (points ++ here ∷ [])
  point-pushed is =
      let point : IsPoint origin history here = record { is = is; load = of } in
      record {
        each = All-push (IsPoint origin history) points here are.each point;
        below = All-push (λ (p : FullPoint). p.place < place + 1) points here
            (All-weaker (λ (p : FullPoint). p.place < place) (λ (p : FullPoint). p.place < place + 1) (λ p below. omega (arith, below)) points are.below)
            (omega arith);
        all = λ n below full.
            ⊎_elim
            (λ (before : n < place).
            let has : HasPoint points n = are.all n before full in
            record { point = has.point; stands = Contains-append_left points (here ∷ []) has.point has.stands; there = has.there })
            (λ (from : place ≤ n). record { point = here; stands = Contains-push points here; there = omega (arith, below, from) })
            (cases_lt n place);
        rise = AllPairs-push_if R points here true are.rise
            (λ yes k d inside.
            let p : FullPoint = slice_index_or points k d in
            let at : IsPoint origin history p = are.each k d inside in
            let before : p.place < place = are.below k d inside in
            (before, omega (arith, at.load.weighs, of.weighs, weight-rises history p.place place before within)));
      }

  -- where none is, the points stay
  point-passed : (IsFullPoint origin history place → ⊥) → ArePointsBelow origin history (place + 1) points
  point-passed never = record {
    each = are.each;
    below = All-weaker (λ (p : FullPoint). p.place < place) (λ (p : FullPoint). p.place < place + 1) (λ p below. omega (arith, below)) points are.below;
    all = λ n below full.
        ⊎_elim (λ (before : n < place). are.all n before full)
        (λ (from : place ≤ n). absurd (never (subst (IsFullPoint origin history) (omega (arith, below, from)) full)))
        (cases_lt n place);
    rise = are.rise;
  }

  -- the points behind what was noted
  pub points-noted : (budget : ℕ) (quiet : Bool) (new : List FullPoint) → origin.budget ≡ budget
      → (quiet ≡ true → IsQuiescent (after_history (opening origin) (take place history)))
      → (IsQuiescent (after_history (opening origin) (take place history)) → quiet ≡ true)
      → Notes quiet budget load place points new → ArePointsBelow origin history (place + 1) new
  points-noted budget quiet new same rests tells notes =
      let full = full-same origin (take place history) load budget of same in
      ⊎_elim
      (λ (noted : (quiet ≡ true) × IsTooFull load budget × (new ≡ points ++ here ∷ [])).
      subst (ArePointsBelow origin history (place + 1)) (sym noted.2)
      (point-pushed (record { within = within; quiescent = rests noted.0; full = full.0 noted.1 })))
      (λ (passed : (quiet ≡ true → IsTooFull load budget → ⊥) × (new ≡ points)).
      subst (ArePointsBelow origin history (place + 1)) (sym passed.1)
      (point-passed (λ is. passed.0 (tells is.quiescent) (full.1 is.full))))
      notes

-- the points up to the end are all
pub points-all : (origin : Origin) (history : List Entry) (points : List FullPoint)
    → ArePointsBelow origin history (length history + 1) points → ArePoints origin history points
points-all origin history points are = record {
  each = are.each;
  all = λ place full. are.all place (omega (arith, full.within)) full;
  rise = are.rise;
}
