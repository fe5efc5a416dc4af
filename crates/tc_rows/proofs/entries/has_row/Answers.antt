use Rattle.std.proofs.Common.{◌≡◌, ◌-◌, ◌+◌, Some, length, slice_get, refl, sym, ◌∙◌, arith}
use Rattle.std.proofs.lemmas.Bool.{false≢true}
use Rattle.std.proofs.lemmas.Option.{slice_get_read}
use Rattle.tc_rows.proofs.Owning.{row-found}
use Rattle.tc_rows.proofs.entries.has_row.Goals as goal

pub returns-then-same_name : goal.returns-then-same_name
returns-then-same_name c =
    let rows = c.args.rows.now in
    let r = c.index-rows-place.result in
    let k = c.number_of-number.result - 1 in
    let at : slice_get rows k ≡ Some r = slice_get_read rows (length rows) k r refl (omega arith) c.index-rows-place.is in
    let found = row-found rows c.args.centre.now c.args.entry.now k r (omega (arith, c.number_of-number.ensures)) at in (
      λ yes. found.0 (c.same_name.ensures.0 c.if-same_name.true, c.is_made_by.ensures.0 yes),
      λ has. c.is_made_by.ensures.1 (found.1 has).1,
    )

pub returns-else-same_name : goal.returns-else-same_name
returns-else-same_name c =
    let rows = c.args.rows.now in
    let r = c.index-rows-place.result in
    let k = c.number_of-number.result - 1 in
    let at : slice_get rows k ≡ Some r = slice_get_read rows (length rows) k r refl (omega arith) c.index-rows-place.is in
    let found = row-found rows c.args.centre.now c.args.entry.now k r (omega (arith, c.number_of-number.ensures)) at in (
      λ yes. absurd (false≢true (sym c.if-same_name.false ∙ yes)),
      λ has. c.same_name.ensures.1 (found.1 has).0,
    )
