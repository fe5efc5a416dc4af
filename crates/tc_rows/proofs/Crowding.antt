-- What the places at which a centre was full say of an ask of which no entry has the number.
use Rattle.std.proofs.Common.{◌≡◌, ℕ, ◌<◌, ◌≤◌, List, Contains, Some, length, slice_get, take}
use Rattle.std.proofs.Common.{sym, ap, subst, ◌∙◌, arith}
use Rattle.std.specs.List.Sorted.{IsPartitionPoint}
use Rattle.std.proofs.lemmas.List.Elements.{All-contains}
use Rattle.std.proofs.lemmas.Option.{get_or_from_slice_get, slice_get_within}
use Rattle.tc_lists.proofs.Places.{Contains-slice_get}
use Rattle.tc_desk.specs.Served.{WasFull}
use Rattle.tc_model.specs.Entries.{pending_after, weight}
use Rattle.tc_model.specs.State.{Origin}
use Rattle.tc_model.specs.declared.calls.CallId.{CallId}
use Rattle.tc_model.specs.declared.entries.Entry.{Entry}
use Rattle.tc_rows.specs.Fulls.{ArePoints, HasPoint, IsPoint, Rise}
use Rattle.tc_rows.specs.Gaps.{HasLoadWithin, HasPointWithin, IsBetween, IsLoadedWithin, WasFullSomehow}
use Rattle.tc_rows.specs.declared.fulls.FullPoint.{FullPoint}
use Rattle.tc_rows.specs.declared.fulls.Load.{Load}
use Rattle.tc_rows.proofs.Cuts.{cut-least, cut-same}

module _ (points : List FullPoint) (rise : Rise points) (from to first : ℕ) (p : FullPoint)
    (at : slice_get points first ≡ Some p) where
  -- the first point from a place on tells whether one stands up to another
  pub point-found : IsPartitionPoint (λ (q : FullPoint). q.place < from) (λ (q : FullPoint). from ≤ q.place) points first
      → (p.place ≤ to → HasPointWithin points from to) × (HasPointWithin points from to → p.place ≤ to)
  point-found cut = (
    λ high. record {
      point = p;
      stands = Contains-slice_get points first p at;
      low = omega (
        arith,
        cut.1 first p (omega arith) (slice_get_within points first p at),
        ap (λ (q : FullPoint). q.place) (get_or_from_slice_get points first p p at),
      );
      high = high;
    },
    λ has.
        let least = cut-least (λ (q : FullPoint). q.place) points from first (λ i j d less inside. (rise i j d less inside).0) cut has.point has.stands p at has.low in
        omega (arith, least, has.high),
  )

  -- the first point that isn't lighter tells whether one has the load
  pub load-found : (load : Load)
      → IsPartitionPoint (λ (q : FullPoint). q.load.weight < load.weight) (λ (q : FullPoint). load.weight ≤ q.load.weight) points first
      → (IsLoadedWithin p from to load → HasLoadWithin points from to load)
      × (HasLoadWithin points from to load → IsLoadedWithin p from to load)
  load-found load cut = (
    λ is. record { point = p; stands = Contains-slice_get points first p at; is = is },
    λ has.
        subst (λ (q : FullPoint). IsLoadedWithin q from to load)
        (sym (cut-same (λ (q : FullPoint). q.load.weight) points load.weight first (λ i j d less inside. (rise i j d less inside).1) cut
        has.point has.stands p at has.is.weight))
        has.is,
  )

module _ (origin : Origin) (history : List Entry) (points : List FullPoint) (are : ArePoints origin history points)
    (id : CallId) (from to : ℕ)
    (gap : (place : ℕ) → place ≤ length history
    → (IsBetween id.agent id.number history place → (from ≤ place) × (place ≤ to))
    × ((from ≤ place) × (place ≤ to) → IsBetween id.agent id.number history place)) where
  -- the centre was full at a point between the places
  full-from : (p : FullPoint) → Contains points p → from ≤ p.place → p.place ≤ to
      → WasFull origin history id p.load.weight p.load.pending
  full-from p stands low high =
      let is : IsPoint origin history p = All-contains (IsPoint origin history) points p are.each stands in
      let between : IsBetween id.agent id.number history p.place = (gap p.place is.is.within).1 (low, high) in
      record {
        n = p.place;
        within = is.is.within;
        quiescent = is.is.quiescent;
        full = is.is.full;
        weighed = is.load.weighs;
        waited = is.load.waits;
        before = between.before;
        behind = between.behind;
      }

  -- and nowhere else
  full-point : (heavy waiting : ℕ) (full : WasFull origin history id heavy waiting)
      → (p : FullPoint) × Contains points p × (from ≤ p.place) × (p.place ≤ to)
      × (p.load.weight ≡ heavy) × (p.load.pending ≡ waiting)
  full-point heavy waiting full =
      let has : HasPoint points full.n = are.all full.n (record { within = full.within; quiescent = full.quiescent; full = full.full }) in
      let within = (gap full.n full.within).0 (record { before = full.before; behind = full.behind }) in
      let is : IsPoint origin history has.point = All-contains (IsPoint origin history) points has.point are.each has.stands in (
        has.point,
        has.stands,
        omega (arith, within.0, has.there),
        omega (arith, within.1, has.there),
        is.load.weighs ∙ (ap (λ n. weight (take n history)) has.there ∙ sym full.weighed),
        is.load.waits ∙ (ap (λ n. pending_after origin (take n history)) has.there ∙ sym full.waited),
      )

  pub full-somehow : (HasPointWithin points from to → WasFullSomehow origin history id)
      × (WasFullSomehow origin history id → HasPointWithin points from to)
  full-somehow = (
    λ has. (has.point.load.weight, has.point.load.pending, full-from has.point has.stands has.low has.high),
    λ full.
        let p = full-point full.0 full.1 full.2 in
        record { point = p.0; stands = p.1; low = p.2; high = p.3 },
  )

  pub full-with : (load : Load)
      → (HasLoadWithin points from to load → WasFull origin history id load.weight load.pending)
      × (WasFull origin history id load.weight load.pending → HasLoadWithin points from to load)
  full-with load = (
    λ has.
        subst (λ n. WasFull origin history id load.weight n) has.is.pending
        (subst (λ n. WasFull origin history id n has.point.load.pending) has.is.weight
        (full-from has.point has.stands has.is.low has.is.high)),
    λ full.
        let p = full-point load.weight load.pending full in
        record { point = p.0; stands = p.1; is = record { weight = p.4; pending = p.5; low = p.2; high = p.3 } },
  )
