-- Sound rows of a text that tell of a log of a run.
use Rattle.std.proofs.Common.{◌≡◌, ◌≢◌, ℕ, ◌+◌, ◌<◌, false, ◌⊎◌, List, All, Some, length, map, slice_get}
use Rattle.std.proofs.Common.{refl, sym, subst, ap, ◌∙◌, ⊎_elim, arith}
use Rattle.std.proofs.lemmas.Bool.{true≢false}
use Rattle.std.proofs.lemmas.List.{length-map}
use Rattle.std.proofs.lemmas.List.Elements.{All-contains, All-weaker}
use Rattle.std.proofs.lemmas.Option.{same_Some, slice_get_within}
use Rattle.tc_lists.proofs.Places.{slice_get-Contains}
use Rattle.tc_lists.proofs.Sets.{slice_get-map_from}
use Rattle.tc_model.specs.Calls.{calls_of, id_of}
use Rattle.tc_model.specs.declared.entries.Entry.{Entry}
use Rattle.tc_model.specs.declared.entries.Entry.TheVariants.{Called, Gave, Looked}
use Rattle.tc_config.specs.Configurations.{Configuration}
use Rattle.tc_config.specs.Good.{Follows, IsEnded, IsNoLook, IsRow, IsServedNumber}
use Rattle.tc_config.specs.declared.configs.AgentConf.{AgentConf}
use Rattle.tc_desk.specs.Asks.{ScriptStep, steps_of}
use Rattle.tc_desk.specs.Logs.{any_pending, is_served}
use Rattle.tc_desk.specs.declared.rows.LogRow.{LogRow}
use Rattle.tc_histline.specs.declared.lines.TextRow.{TextRow}
use Rattle.tc_histline.specs.declared.versions.Version.{Version}
use Rattle.tc_rows.specs.Rows.{AreSound, HasStrayEntry, IsNoLookOf, IsSoundRow, IsWrongEnd, logged, told_row}
use Rattle.tc_rows.proofs.Faults.{sound-items}
use Rattle.tc_rows.proofs.Telling.{pending-same}
use Rattle.tc_verify.proofs.Asks.{IsRow-alike, results-alike}
use Rattle.tc_verify.proofs.Told.{any_pending-told, is_served-told}

-- an entry that is no look is none of any number
no_look-of : (agent number : ℕ) (e : Entry) → IsNoLook e → IsNoLookOf agent number e
no_look-of agent number (Called id op result items) none = tt
no_look-of agent number (Gave id result items) none = tt
no_look-of agent number (Looked id asked reply) none = absurd none

module _ (version : Version) (c : Configuration) (histories : List (List Entry)) (agent : ℕ) (a : AgentConf) (log : List LogRow)
    (follows : Follows c histories agent a log) (ended : IsEnded histories agent a log)
    (looks : (place : ℕ) (history : List Entry) → slice_get histories place ≡ Some history → All IsNoLook history) where
  abbrev rows : List TextRow
  rows = map (told_row version) log

  -- an entry of a row's number is there only where the row was served
  row-alone : (k : ℕ) (whole : LogRow) → slice_get log k ≡ Some whole → (step : ScriptStep)
      → slice_get (steps_of a.scripts) k ≡ Some step → (place number : ℕ) → IsServedNumber a log place number
      → (is_served whole.result ≡ false) ⊎ (place ≢ step.item.centre) → number ≢ k + 1
  row-alone k whole at step stands place number served other same =
      let here : served.k ≡ k = omega (arith, served.counted, same) in
      ⊎_elim
      (λ (never : is_served whole.result ≡ false).
      let row_is : served.row ≡ whole = same_Some served.row whole (sym served.stands ∙ (ap (slice_get log) here ∙ at)) in
      true≢false (sym served.served ∙ (ap (λ (row : LogRow). is_served row.result) row_is ∙ never)))
      (λ (elsewhere : place ≢ step.item.centre).
      let step_is : served.step ≡ step =
      same_Some served.step step (sym served.item ∙ (ap (slice_get (steps_of a.scripts)) here ∙ stands)) in
      elsewhere (sym served.there ∙ ap (λ (s : ScriptStep). s.item.centre) step_is))
      other

  told-sound : (k : ℕ) (whole : LogRow) → slice_get log k ≡ Some whole
      → IsSoundRow version c histories agent a rows k (told_row version whole)
  told-sound k whole at =
      let own : IsRow c histories agent a log k whole = follows.rows k whole at in
      record {
        whole = whole;
        tells = refl;
        is = IsRow-alike c histories agent a log (logged rows) k whole (λ script steps. sym (results-alike version log k script steps)) own;
        alone = λ place history there other.
            All-weaker (λ e. IsServedNumber a log place (id_of e).number) (λ e. (id_of e).number ≢ k + 1)
            (λ e served.
            row-alone k whole at own.step own.asks.stands place (id_of e).number served
            (subst (λ b. (b ≡ false) ⊎ (place ≢ own.step.item.centre)) (is_served-told version whole.result) other))
            (calls_of agent history) (follows.calls place history there);
        looks = λ place history there.
            All-weaker IsNoLook (IsNoLookOf agent (k + 1)) (no_look-of agent (k + 1)) history (looks place history there);
        last = λ waits.
            follows.last k whole at (pending-same version whole.result waits) ∙ sym (length-map log (told_row version));
        waits = λ waits.
            ended.waits k whole own.step own.history at (pending-same version whole.result waits) own.asks.stands own.there;
      }

  rows-sound : (k : ℕ) (row : TextRow) → slice_get rows k ≡ Some row → IsSoundRow version c histories agent a rows k row
  rows-sound k row at =
      let whole = slice_get-map_from (told_row version) log k row at in
      subst (IsSoundRow version c histories agent a rows k) whole.2 (told-sound k whole.0 whole.1)

  no-stray : HasStrayEntry histories agent rows → ⊥
  no-stray stray =
      let place = stray.stands.0 in
      let there : slice_get histories place ≡ Some stray.history = slice_get-Contains histories stray.history stray.stands in
      let served : IsServedNumber a log place (id_of stray.entry).number =
      All-contains (λ e. IsServedNumber a log place (id_of e).number) (calls_of agent stray.history) stray.entry
      (follows.calls place stray.history there) stray.made in
      let within : served.k < length log = slice_get_within log served.k served.row served.stands in
      ⊎_elim (λ (none : (id_of stray.entry).number ≡ 0). omega (arith, none, served.counted))
      (λ (past : length rows < (id_of stray.entry).number).
      omega (arith, past, served.counted, within, length-map log (told_row version)))
      stray.stray

  end-right : IsWrongEnd histories agent a rows → ⊥
  end-right wrong =
      ⊎_elim
      (λ (left : (any_pending (logged rows) ≡ false) × (length rows < length (steps_of a.scripts))).
      omega (arith, left.1, ended.complete (sym (any_pending-told version log) ∙ left.0), length-map log (told_row version)))
      (λ (more : (length (steps_of a.scripts) < length rows) ⊎ HasStrayEntry histories agent rows).
      ⊎_elim
      (λ (many : length (steps_of a.scripts) < length rows).
      let items = sound-items version c histories agent a rows (length rows) (omega arith) (λ k row below at. rows-sound k row at) in
      omega (arith, many, items))
      no-stray
      more)
      wrong

  pub are-sound : AreSound version c histories agent a rows
  are-sound = record { rows_are = rows-sound; end = end-right }
