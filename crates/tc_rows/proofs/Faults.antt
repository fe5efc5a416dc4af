-- The first faulty row, found one after another.
use Rattle.std.proofs.Common.{◌≡◌, ℕ, zero, suc, ◌+◌, ◌<◌, ◌≤◌, true, false, List, [], ◌∷◌, ◌++◌, Some, length, slice_get, take, inl, inr}
use Rattle.std.proofs.Common.{get_or, refl, sym, ap, ◌∙◌, ⊎_elim, arith}
use Rattle.std.proofs.lemmas.Bool.{cases_Bool}
use Rattle.std.proofs.lemmas.List.{length-map, length-take-le, map-append}
use Rattle.std.proofs.lemmas.Option.{slice_get_within}
use Rattle.tc_lists.proofs.Parts.{take_read}
use Rattle.tc_lists.proofs.Sets.{slice_get_inside}
use Rattle.tc_desk.specs.Asks.{steps_of}
use Rattle.tc_desk.specs.Logs.{any_pending, is_pending}
use Rattle.tc_desk.specs.declared.rows.LogRow.{LogRow}
use Rattle.tc_desk.proofs.Logs.{any_pending-push_settled, is_pending-true}
use Rattle.tc_config.specs.Configurations.{Configuration}
use Rattle.tc_config.specs.declared.configs.AgentConf.{AgentConf}
use Rattle.tc_histline.specs.declared.lines.TextRow.{TextRow}
use Rattle.tc_histline.specs.declared.versions.Version.{Version}
use Rattle.tc_histtext.specs.ReadTexts.{as_logged}
use Rattle.tc_model.specs.declared.entries.Entry.{Entry}
use Rattle.tc_rows.specs.Rows.{AreSound, IsFirstFaulty, IsSoundRow, IsWrongEnd, logged}

-- the log of the first rows has one for each
pub log-length : (rows : List TextRow) (n : ℕ) (log : List LogRow) → n ≤ length rows → log ≡ logged (take n rows) → length log ≡ n
log-length rows n log within is =
    ap length is ∙ (length-map (take n rows) as_logged ∙ length-take-le n rows within)

-- the log of one row more
pub log-more : (rows : List TextRow) (n : ℕ) (row : TextRow) (log new : List LogRow) (x : LogRow) → n < length rows → row ≡ get_or rows n row
    → log ≡ logged (take n rows) → x ≡ as_logged row → new ≡ log ++ x ∷ [] → new ≡ logged (take (n + 1) rows)
log-more rows n row log new x within at is x_is new_is =
    new_is
    ∙ (ap (λ l. l ++ x ∷ []) is
    ∙ (ap (λ y. logged (take n rows) ++ y ∷ []) x_is
    ∙ (sym (map-append as_logged (take n rows) (row ∷ []))
    ∙ ap logged (sym (take_read rows n row within at)))))

module _ (version : Version) (c : Configuration) (histories : List (List Entry)) (agent : ℕ) (a : AgentConf) (rows : List TextRow) where
  -- sound rows have items
  pub sound-items : (n : ℕ) → n ≤ length rows
      → ((k : ℕ) (row : TextRow) → k < n → slice_get rows k ≡ Some row → IsSoundRow version c histories agent a rows k row)
      → n ≤ length (steps_of a.scripts)
  sound-items zero within sound = omega arith
  sound-items (suc n) within sound =
      let x = slice_get_inside rows n (omega arith) in
      let r : IsSoundRow version c histories agent a rows n x.0 = sound n x.0 (omega arith) x.1 in
      omega (arith, slice_get_within (steps_of a.scripts) n r.is.step r.is.asks.stands)

  -- a sound row that isn't the last doesn't wait
  pub sound-settled : (k : ℕ) (row : TextRow) (log new : List LogRow) → IsSoundRow version c histories agent a rows k row
      → k + 1 < length rows → any_pending log ≡ false → new ≡ log ++ as_logged row ∷ [] → any_pending new ≡ false
  sound-settled k row log new sound more settled is =
      ⊎_elim
      (λ (waits : is_pending row.result ≡ true).
      absurd (omega (arith, sound.last (is_pending-true row.result waits), more)))
      (λ (never : is_pending row.result ≡ false).
      ap any_pending is ∙ any_pending-push_settled log (as_logged row) settled never)
      (cases_Bool (is_pending row.result))

  -- the first row that isn't sound is at fault
  pub first-row : (k : ℕ) (row : TextRow) (number : ℕ) → number ≡ k + 1 → slice_get rows k ≡ Some row
      → (IsSoundRow version c histories agent a rows k row → ⊥)
      → ((j : ℕ) (r : TextRow) → j < k → slice_get rows j ≡ Some r → IsSoundRow version c histories agent a rows j r)
      → IsFirstFaulty version c histories agent a rows number
  first-row k row number is at never before = record {
    faulty = inl (k, row, is, at, never);
    before = λ j r below here. before j r (omega (arith, below, is)) here;
  }

  -- behind sound rows the end is, where it is wrong
  pub first-end : IsWrongEnd histories agent a rows
      → ((j : ℕ) (r : TextRow) → j < length rows → slice_get rows j ≡ Some r → IsSoundRow version c histories agent a rows j r)
      → IsFirstFaulty version c histories agent a rows (length rows + 1)
  first-end wrong before = record {
    faulty = inr (refl, wrong);
    before = λ j r below here. before j r (omega (arith, below)) here;
  }

  -- and else all is
  pub all-sound : (IsWrongEnd histories agent a rows → ⊥)
      → ((j : ℕ) (r : TextRow) → j < length rows → slice_get rows j ≡ Some r → IsSoundRow version c histories agent a rows j r)
      → AreSound version c histories agent a rows
  all-sound right before = record {
    rows_are = λ k row at. before k row (slice_get_within rows k row at) at;
    end = right;
  }
