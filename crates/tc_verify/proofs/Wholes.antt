-- A log that sound rows of a text tell of.
use Rattle.std.proofs.Common.{◌≡◌, ◌≢◌, ℕ, zero, suc, ◌+◌, ◌<◌, ◌≤◌, true, false, ◌⊎◌, List, [], ◌∷◌, Contains, Some, None, length, map, slice_get}
use Rattle.std.proofs.Common.{inl, inr, take, refl, sym, subst, ap, ap₂, ◌∙◌, ⊎_elim, arith}
use Rattle.std.proofs.lemmas.Bool.{cases_Bool, cases_eq}
use Rattle.std.proofs.lemmas.List.{length-map}
use Rattle.std.proofs.lemmas.List.Elements.{All-contains}
use Rattle.std.proofs.lemmas.Option.{none-some, same_Some}
use Rattle.tc_lists.proofs.Elements.{All-from_slice_get}
use Rattle.tc_lists.proofs.Places.{Contains-slice_get}
use Rattle.tc_lists.proofs.Sets.{slice_get_inside}
use Rattle.tc_model.specs.Calls.{call_of, calls_of, id_of}
use Rattle.tc_model.specs.Replies.{reply_in}
use Rattle.tc_model.specs.declared.entries.Entry.{Entry}
use Rattle.tc_config.specs.Configurations.{Configuration}
use Rattle.tc_config.specs.Good.{Follows, IsEnded, IsRow, IsServedNumber}
use Rattle.tc_config.specs.declared.configs.AgentConf.{AgentConf}
use Rattle.tc_desk.specs.Asks.{ScriptStep, steps_of}
use Rattle.tc_desk.specs.Logs.{PendsLast, any_pending, is_served, results_of}
use Rattle.tc_desk.specs.declared.rows.LogRow.{LogRow}
use Rattle.tc_desk.specs.declared.rows.LogResult.TheVariants.{Pending}
use Rattle.tc_histline.specs.declared.lines.TextRow.{TextRow}
use Rattle.tc_histline.specs.declared.versions.Version.{Version}
use Rattle.tc_rows.specs.Rows.{AreSound, IsSoundRow, logged, told, told_row}
use Rattle.tc_verify.proofs.Asks.{AreAlike, IsRow-alike, results-alike}
use Rattle.tc_verify.proofs.Told.{any_pending-told, is_served-told}

-- what holds of the first element and of the others at their places holds of each at its place
at-cons : {X : Type 0} (P : ℕ → X → Type 0) (x : X) (xs : List X) → P 0 x
    → ((k : ℕ) (z : X) → slice_get xs k ≡ Some z → P (suc k) z) → (k : ℕ) (z : X) → slice_get (x ∷ xs) k ≡ Some z → P k z
at-cons P x xs first rest zero z at = subst (P 0) (same_Some x z at) first
at-cons P x xs first rest (suc k) z at = rest k z at

-- where each element is the image of some at which P holds of its place, these make a list of which all are images
pub map-from : {X Y : Type 0} (f : X → Y) (P : ℕ → X → Type 0) (ys : List Y)
    → ((k : ℕ) (y : Y) → slice_get ys k ≡ Some y → (x : X) × (f x ≡ y) × P k x)
    → (xs : List X) × (map f xs ≡ ys) × ((k : ℕ) (x : X) → slice_get xs k ≡ Some x → P k x)
map-from f P [] each = ([], refl, λ k x at. absurd (none-some x at))
map-from f P (y ∷ ys) each =
    let first = each 0 y refl in
    let rest = map-from f (λ k. P (suc k)) ys (λ k z at. each (suc k) z at) in
    (first.0 ∷ rest.0, ap₂ (λ z zs. z ∷ zs) first.1 rest.1, at-cons P first.0 rest.0 first.2 rest.2)

-- a number that isn't stray is that of a row
pub row-numbered : (number rows : ℕ) → ((number ≡ 0) ⊎ (rows < number) → ⊥) → (k : ℕ) × (number ≡ k + 1) × (k < rows)
row-numbered zero rows never = absurd (never (inl refl))
row-numbered (suc k) rows never =
    let past : rows ≤ k → ⊥ = λ from. never (inr (omega (arith, from))) in
    (k, omega arith, omega (arith, past))

module _ (version : Version) (c : Configuration) (histories : List (List Entry)) (agent : ℕ) (a : AgentConf)
    (rows : List TextRow) (are : AreSound version c histories agent a rows) where
  -- a sound row tells of this one
  pub record IsWholeOf (k : ℕ) (whole : LogRow) : Type 0 where
    pub row : TextRow
    pub stands : slice_get rows k ≡ Some row
    pub sound : IsSoundRow version c histories agent a rows k row
    pub is : sound.whole ≡ whole

  pub whole-log : (log : List LogRow) × (map (told_row version) log ≡ rows)
      × ((k : ℕ) (whole : LogRow) → slice_get log k ≡ Some whole → IsWholeOf k whole)
  whole-log =
      map-from (told_row version) IsWholeOf rows
      (λ k row at.
      let one = are.rows_are k row at in
      (one.whole, one.tells, record { row = row; stands = at; sound = one; is = refl }))

  -- the entries that the agent made have numbers of rows
  pub entry-numbered : (place : ℕ) (history : List Entry) → slice_get histories place ≡ Some history → (e : Entry)
      → Contains (calls_of agent history) e → (k : ℕ) × ((id_of e).number ≡ k + 1) × (k < length rows)
  entry-numbered place history at e made =
      row-numbered (id_of e).number (length rows)
      (λ stray.
      are.end (inr (inr (record {
        history = history;
        stands = Contains-slice_get histories place history at;
        entry = e;
        made = made;
        stray = stray;
      }))))

  module _ (log : List LogRow) (tells : map (told_row version) log ≡ rows)
      (wholes : (k : ℕ) (whole : LogRow) → slice_get log k ≡ Some whole → IsWholeOf k whole) where
    long : length rows ≡ length log
    long = sym (ap length tells) ∙ length-map log (told_row version)

    result-told : (k : ℕ) (whole : LogRow) (of : IsWholeOf k whole) → of.row.result ≡ told version whole.result
    result-told k whole of =
        sym (ap (λ (row : TextRow). row.result) of.sound.tells) ∙ ap (λ (row : LogRow). told version row.result) of.is

    whole-row : (k : ℕ) (whole : LogRow) → slice_get log k ≡ Some whole → IsRow c histories agent a log k whole
    whole-row k whole at =
        let of = wholes k whole at in
        let alike : AreAlike (take k (results_of (logged rows))) (take k (results_of log)) =
        subst (λ (rs : List TextRow). AreAlike (take k (results_of (logged rs))) (take k (results_of log))) tells
        (results-alike version log k) in
        subst (IsRow c histories agent a log k) of.is
        (IsRow-alike c histories agent a (logged rows) log k of.sound.whole alike of.sound.is)

    whole-last : PendsLast log
    whole-last k whole at waits =
        let of = wholes k whole at in
        of.sound.last (result-told k whole of ∙ ap (told version) waits) ∙ long

    -- an entry of the agent's is there for a row that was served at its centre
    entry-served : (place : ℕ) (history : List Entry) → slice_get histories place ≡ Some history → (e : Entry)
        → Contains (calls_of agent history) e → IsServedNumber a log place (id_of e).number
    entry-served place history there e made =
        let n = entry-numbered place history there e made in
        let whole = slice_get_inside log n.0 (omega (arith, n.2, long)) in
        let of = wholes n.0 whole.0 whole.1 in
        let never : (is_served of.row.result ≡ false) ⊎ (place ≢ of.sound.is.step.item.centre) → ⊥ =
        λ other.
        All-contains (λ x. (id_of x).number ≢ n.0 + 1) (calls_of agent history) e
        (of.sound.alone place history there other) made n.1 in
        record {
          k = n.0;
          counted = n.1;
          row = whole.0;
          stands = whole.1;
          served =
              ⊎_elim (λ (yes : is_served whole.0.result ≡ true). yes)
              (λ (no : is_served whole.0.result ≡ false).
              absurd (never (inl (ap is_served (result-told n.0 whole.0 of) ∙ (is_served-told version whole.0.result ∙ no)))))
              (cases_Bool (is_served whole.0.result));
          step = of.sound.is.step;
          item = of.sound.is.asks.stands;
          there =
              ⊎_elim (λ (same : of.sound.is.step.item.centre ≡ place). same)
              (λ (other : of.sound.is.step.item.centre ≢ place). absurd (never (inr (λ same. other (sym same)))))
              (cases_eq of.sound.is.step.item.centre place);
        }

    pub whole-follows : Follows c histories agent a log
    whole-follows = record {
      rows = whole-row;
      last = whole-last;
      calls = λ place history there.
          All-from_slice_get (λ e. IsServedNumber a log place (id_of e).number) (calls_of agent history)
          (λ k e at. entry-served place history there e (Contains-slice_get (calls_of agent history) k e at));
    }

    whole-waits : (k : ℕ) (whole : LogRow) (step : ScriptStep) (history : List Entry) → slice_get log k ≡ Some whole
        → whole.result ≡ Pending → slice_get (steps_of a.scripts) k ≡ Some step
        → slice_get histories step.item.centre ≡ Some history → reply_in history (call_of agent (k + 1)) ≡ None
    whole-waits k whole step history at waits stands there =
        let of = wholes k whole at in
        let same : of.sound.is.step ≡ step = same_Some of.sound.is.step step (sym of.sound.is.asks.stands ∙ stands) in
        let here : slice_get histories of.sound.is.step.item.centre ≡ Some history =
        ap (λ (s : ScriptStep). slice_get histories s.item.centre) same ∙ there in
        subst (λ (h : List Entry). reply_in h (call_of agent (k + 1)) ≡ None)
        (same_Some of.sound.is.history history (sym of.sound.is.there ∙ here))
        (of.sound.waits (result-told k whole of ∙ ap (told version) waits))

    -- where none waits, no item is left, and no row has none
    whole-complete : any_pending log ≡ false → length log ≡ length (steps_of a.scripts)
    whole-complete settled =
        let quiet : any_pending (logged rows) ≡ false =
        subst (λ (rs : List TextRow). any_pending (logged rs) ≡ false) tells (any_pending-told version log ∙ settled) in
        let fewer : length rows < length (steps_of a.scripts) → ⊥ = λ less. are.end (inl (quiet, less)) in
        let more : length (steps_of a.scripts) < length rows → ⊥ = λ less. are.end (inr (inl less)) in
        omega (arith, fewer, more, long)

    pub whole-ended : IsEnded histories agent a log
    whole-ended = record { waits = whole-waits; complete = whole-complete }
