-- The last row that was served, and what a poll of it was told.
use Rattle.std.proofs.Common.{◌≡◌, ℕ, ◌+◌, ◌<◌, ◌≤◌, true, false, List, Contains, Option, Some, None, length, slice_get, take, drop}
use Rattle.std.proofs.Common.{refl, sym, subst, ap, ◌∙◌, ⊎_elim, arith}
use Rattle.std.proofs.lemmas.Bool.{cases_lt, eqb-true, true≢false}
use Rattle.std.proofs.lemmas.Bool.Decides.{Decides-eqb}
use Rattle.std.proofs.lemmas.List.{length-map, length-take-le, take-append-drop}
use Rattle.std.proofs.lemmas.Option.{same_Some, slice_get_within}
use Rattle.tc_desk.specs.Agreeing.{HasPolled, IsLastServed}
use Rattle.tc_desk.specs.Logs.{is_served}
use Rattle.tc_desk.specs.declared.rows.LogRow.{LogRow}
use Rattle.tc_histline.specs.declared.lines.TextRow.{TextRow}
use Rattle.tc_histtext.specs.ReadTexts.{as_logged}
use Rattle.tc_lists.proofs.Places.{slice_get-take, slice_get_longer}
use Rattle.tc_lists.proofs.Sets.{slice_get-map_at}
use Rattle.tc_model.specs.declared.calls.CallId.{CallId}
use Rattle.tc_model.specs.declared.entries.Entry.{Entry}
use Rattle.tc_model.specs.declared.entries.Entry.TheVariants.{Called, Gave, Looked}
use Rattle.tc_model.specs.declared.outcomes.Reply.{Reply}
use Rattle.tc_rows.specs.Beside.{IsLastAt, IsLookOf}
use Rattle.tc_rows.specs.Made.{AreMade, HasNoEntry, IsEntryOf}
use Rattle.tc_rows.specs.Rows.{logged}
use Rattle.tc_rows.specs.declared.made.Made.{Made}
use Rattle.tc_rows.proofs.Found.{call_same, one-entry}
use Rattle.tc_rows.proofs.Rowing.{map-take}
use Rattle.tc_rows.proofs.Sounding.{entry-never}

-- one row is the last that was served
pub one-last : (log : List LogRow) (k : ℕ) (x y : LogRow) → IsLastServed log k x → IsLastServed log k y → x ≡ y
one-last log k x y isx isy =
    let same : isx.place ≡ isy.place =
    ⊎_elim
    (λ (less : isx.place < isy.place). absurd (isx.last isy.place y less isy.before isy.stands isy.served))
    (λ (from : isy.place ≤ isx.place).
    ⊎_elim
    (λ (more : isy.place < isx.place). absurd (isy.last isx.place x more isx.before isx.stands isx.served))
    (λ (to : isx.place ≤ isy.place). omega (arith, from, to))
    (cases_lt isy.place isx.place))
    (cases_lt isx.place isy.place) in
    same_Some x y (sym isx.stands ∙ (ap (slice_get log) same ∙ isy.stands))

-- what stands in a front
slice_get-front : {X : Type 0} (xs : List X) (n k : ℕ) (x : X) → slice_get (take n xs) k ≡ Some x → slice_get xs k ≡ Some x
slice_get-front xs n k x at =
    subst (λ ys. slice_get ys k ≡ Some x) (take-append-drop n xs) (slice_get_longer (take n xs) (drop n xs) k x at)

-- it is so in the front of the log as in all of it
pub last-front : (log : List LogRow) (k : ℕ) (x : LogRow)
    → (IsLastServed log k x → IsLastServed (take k log) k x) × (IsLastServed (take k log) k x → IsLastServed log k x)
last-front log k x = (
  λ is. record {
    place = is.place;
    before = is.before;
    stands = slice_get-take log k is.place x is.before is.stands;
    served = is.served;
    last = λ j other behind before at. is.last j other behind before (slice_get-front log k j other at);
  },
  λ is. record {
    place = is.place;
    before = is.before;
    stands = slice_get-front log k is.place x is.stands;
    served = is.served;
    last = λ j other behind before at. is.last j other behind before (slice_get-take log k j other before at);
  },
)

module _ (history : List Entry) (id : CallId) (log : List LogRow) (k : ℕ) (row : LogRow) (told : Option Reply) where
  -- so is what a poll behind it was told
  pub polled-front : (HasPolled history id log k row told → HasPolled history id (take k log) k row told)
      × (HasPolled history id (take k log) k row told → HasPolled history id log k row told)
  polled-front = (
    λ is. record {
      earlier = is.earlier;
      last = (last-front log k is.earlier).0 is.last;
      there = is.there;
      stands = is.stands;
    },
    λ is. record {
      earlier = is.earlier;
      last = (last-front log k is.earlier).1 is.last;
      there = is.there;
      stands = is.stands;
    },
  )

  -- a poll was told so just where the look at the last row that was served tells it
  pub polled-found : (x : LogRow) → IsLastServed log k x
      → ((x.centre ≡ row.centre) × Contains history (Looked id x.number told) → HasPolled history id log k row told)
      × (HasPolled history id log k row told → (x.centre ≡ row.centre) × Contains history (Looked id x.number told))
  polled-found x last = (
    λ has. record { earlier = x; last = last; there = has.0; stands = has.1 },
    λ is.
        let same : is.earlier ≡ x = one-last log k is.earlier x is.last last in (
          subst (λ (y : LogRow). y.centre ≡ row.centre) same is.there,
          subst (λ (y : LogRow). Contains history (Looked id y.number told)) same is.stands,
        ),
  )

-- the rows before a place, as a log has them
pub logged-front : (rows : List TextRow) (k : ℕ) → k ≤ length rows
    → (length (logged (take k rows)) ≡ k) × (logged (take k rows) ≡ take k (logged rows))
logged-front rows k within = (
  length-map (take k rows) as_logged ∙ length-take-le k rows within,
  map-take as_logged k rows,
)

-- a poll behind them
pub polled-rows : (history : List Entry) (id : CallId) (rows : List TextRow) (k : ℕ) (row : LogRow) (told : Option Reply) → k ≤ length rows
    → (HasPolled history id (logged rows) k row told
    → HasPolled history id (logged (take k rows)) (length (logged (take k rows))) row told)
    × (HasPolled history id (logged (take k rows)) (length (logged (take k rows))) row told
    → HasPolled history id (logged rows) k row told)
polled-rows history id rows k row told within =
    let front = logged-front rows k within in
    let Polled : List LogRow → ℕ → Type 0 = λ log n. HasPolled history id log n row told in
    let both = polled-front history id (logged rows) k row told in (
      λ is.
          subst (Polled (logged (take k rows))) (sym front.0)
          (subst (λ log. Polled log k) (sym front.1) (both.0 is)),
      λ is.
          both.1
          (subst (λ log. Polled log k) front.1 (subst (Polled (logged (take k rows))) front.0 is)),
    )

module _ (id : CallId) (history : List Entry) (number : ℕ) (told : Option Reply) where
  look-own : Contains history (Looked id number told) → IsEntryOf id.agent id.number history (Looked id number told)
  look-own has = record {
    stands = has;
    by = (Decides-eqb id.agent id.agent).1 refl;
    number_is = refl;
  }

  -- the agent's entry of the number tells whether the history has such a look
  pub looked-found : (made : List Made) → AreMade id.agent history made → (e : Entry)
      → IsEntryOf id.agent id.number history e
      → (IsLookOf number told e → Contains history (Looked id number told))
      × (Contains history (Looked id number told) → IsLookOf number told e)
  looked-found made are (Looked i asked reply) is = (
    λ same.
        let id_is : i ≡ id = call_same i id (eqb-true i.agent id.agent is.by) is.number_is in
        subst (λ r. Contains history (Looked id number r)) same.1
        (subst (λ n. Contains history (Looked id n reply)) same.0
        (subst (λ j. Contains history (Looked j asked reply)) id_is is.stands)),
    λ has.
        let one : Looked i asked reply ≡ Looked id number told =
        one-entry id.agent id.number history made are (Looked i asked reply) (Looked id number told) is (look-own has) in
        subst (IsLookOf number told) (sym one) (refl, refl),
  )
  looked-found made are (Called i op result items) is = (
    λ never. absurd never,
    λ has.
        let one : Called i op result items ≡ Looked id number told =
        one-entry id.agent id.number history made are (Called i op result items) (Looked id number told) is (look-own has) in
        subst (IsLookOf number told) (sym one) (refl, refl),
  )
  looked-found made are (Gave i result items) is = (
    λ never. absurd never,
    λ has.
        let one : Gave i result items ≡ Looked id number told =
        one-entry id.agent id.number history made are (Gave i result items) (Looked id number told) is (look-own has) in
        subst (IsLookOf number told) (sym one) (refl, refl),
  )

  -- without an entry of the number it has none
  pub none-looked : HasNoEntry id.agent id.number history → Contains history (Looked id number told) → ⊥
  none-looked never has = entry-never id.agent id.number history (Looked id number told) (look-own has) never

-- the last row that was served, as rows go by: none is at first
pub last-none : (rows : List TextRow) → IsLastAt rows 0 None
last-none rows = λ row is. omega (arith, is.before)

module _ (rows : List TextRow) (k : ℕ) (row : TextRow) (at : slice_get rows k ≡ Some row) where
  logged-at : slice_get (logged rows) k ≡ Some (as_logged row)
  logged-at = slice_get-map_at as_logged rows k row at

  -- a row that was served is it
  pub last-served : is_served row.result ≡ true → IsLastAt rows (k + 1) (Some k)
  last-served served = (
    as_logged row,
    logged-at,
    record {
      place = k;
      before = omega arith;
      stands = logged-at;
      served = served;
      last = λ j other behind before there was. omega (arith, behind, before);
    },
  )

  module _ (never : is_served row.result ≡ false) where
    not-here : (j : ℕ) (x : LogRow) → slice_get (logged rows) j ≡ Some x → is_served x.result ≡ true → j ≡ k → ⊥
    not-here j x there served same =
        let is : as_logged row ≡ x =
        same_Some (as_logged row) x (sym logged-at ∙ (ap (slice_get (logged rows)) (sym same) ∙ there)) in
        true≢false (sym served ∙ (ap (λ (r : LogRow). is_served r.result) (sym is) ∙ never))

    below : (j : ℕ) (x : LogRow) → j < k + 1 → slice_get (logged rows) j ≡ Some x → is_served x.result ≡ true → j < k
    below j x before there served =
        ⊎_elim (λ (less : j < k). less)
        (λ (from : k ≤ j). absurd (not-here j x there served (omega (arith, before, from))))
        (cases_lt j k)

    -- any other leaves the one before
    pub last-other : (last : Option ℕ) → IsLastAt rows k last → IsLastAt rows (k + 1) last
    last-other None none = λ x is.
        none x (record {
          place = is.place;
          before = below is.place x is.before is.stands is.served;
          stands = is.stands;
          served = is.served;
          last = λ j other behind before there was. is.last j other behind (omega (arith, before)) there was;
        })
    last-other (Some place) (x, there, is) = (
      x,
      there,
      record {
        place = is.place;
        before = omega (arith, is.before);
        stands = is.stands;
        served = is.served;
        last = λ j other behind before at was. is.last j other behind (below j other before at was) at was;
      },
    )

-- the last row that was served is one of the rows
pub last-within : (rows : List TextRow) (k place : ℕ) (last : Option ℕ) → last ≡ Some place → IsLastAt rows k last → place < length rows
last-within rows k place last is at =
    let there : IsLastAt rows k (Some place) = subst (IsLastAt rows k) is at in
    omega (arith, slice_get_within (logged rows) place there.0 there.1, length-map rows as_logged)

-- a poll behind the rows before a place, by the last of them that was served
pub polled-behind : (history : List Entry) (id : CallId) (rows : List TextRow) (k place : ℕ) (last : Option ℕ) (row : LogRow) (told : Option Reply)
    → k ≤ length rows → last ≡ Some place → IsLastAt rows k last → (r : TextRow) → slice_get rows place ≡ Some r
    → ((r.centre ≡ row.centre) × Contains history (Looked id r.number told)
    → HasPolled history id (logged (take k rows)) (length (logged (take k rows))) row told)
    × (HasPolled history id (logged (take k rows)) (length (logged (take k rows))) row told
    → (r.centre ≡ row.centre) × Contains history (Looked id r.number told))
polled-behind history id rows k place last row told within is at r atr =
    let there : IsLastAt rows k (Some place) = subst (IsLastAt rows k) is at in
    let same : there.0 ≡ as_logged r =
    same_Some there.0 (as_logged r) (sym there.1 ∙ slice_get-map_at as_logged rows place r atr) in
    let served : IsLastServed (logged rows) k (as_logged r) = subst (IsLastServed (logged rows) k) same there.2 in
    let found = polled-found history id (logged rows) k row told (as_logged r) served in
    let front = polled-rows history id rows k row told within in
    (λ has. front.0 (found.0 has), λ polled. found.1 (front.1 polled))
