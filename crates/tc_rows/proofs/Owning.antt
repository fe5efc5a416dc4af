-- The row of an entry.
use Rattle.std.proofs.Common.{◌≡◌, ℕ, ◌+◌, ◌-◌, ◌<◌, List, Some, length, slice_get, refl, sym, subst, ap, ◌∙◌, arith}
use Rattle.std.proofs.lemmas.List.{length-map}
use Rattle.std.proofs.lemmas.Option.{same_Some, slice_get_within}
use Rattle.tc_desk.specs.Agreeing.{HasRow, IsMadeBy}
use Rattle.tc_desk.specs.declared.rows.LogRow.{LogRow}
use Rattle.tc_histline.specs.declared.lines.TextRow.{TextRow}
use Rattle.tc_histtext.specs.ReadTexts.{as_logged}
use Rattle.tc_lists.proofs.Sets.{slice_get-map_at}
use Rattle.tc_model.specs.Calls.{id_of}
use Rattle.tc_model.specs.declared.entries.Entry.{Entry}
use Rattle.tc_rows.specs.Rows.{logged}

module _ (rows : List TextRow) (centre : List ℕ) (e : Entry) where
  -- it has a number between those of the rows
  pub row-within : HasRow (logged rows) centre e → (0 < (id_of e).number) × ((id_of e).number < length rows + 1)
  row-within has =
      let within : has.k < length rows =
      omega (arith, slice_get_within (logged rows) has.k has.row has.stands, length-map rows as_logged) in
      (omega (arith, has.counted), omega (arith, has.counted, within))

  -- and is the row at that place
  pub row-found : (k : ℕ) (row : TextRow) → (id_of e).number ≡ k + 1 → slice_get rows k ≡ Some row
      → ((row.centre ≡ centre) × IsMadeBy e row.result → HasRow (logged rows) centre e)
      × (HasRow (logged rows) centre e → (row.centre ≡ centre) × IsMadeBy e row.result)
  row-found k row counted at =
      let there : slice_get (logged rows) k ≡ Some (as_logged row) = slice_get-map_at as_logged rows k row at in (
        λ is. record {
          k = k;
          counted = counted;
          row = as_logged row;
          stands = there;
          there = is.0;
          made = is.1;
        },
        λ has.
            let place : has.k ≡ k = omega (arith, has.counted, counted) in
            let same : has.row ≡ as_logged row =
            same_Some has.row (as_logged row) (sym has.stands ∙ (ap (slice_get (logged rows)) place ∙ there)) in (
              ap (λ (r : LogRow). r.centre) (sym same) ∙ has.there,
              subst (λ (r : LogRow). IsMadeBy e r.result) same has.made,
            ),
      )
