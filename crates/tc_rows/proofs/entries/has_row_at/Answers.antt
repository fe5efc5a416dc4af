use Rattle.std.proofs.Common.{length, refl, sym, subst, ◌∙◌}
use Rattle.std.proofs.lemmas.Option.{same_Some, slice_get_read}
use Rattle.tc_desk.specs.Agreeing.{HasRow}
use Rattle.tc_rows.specs.Rows.{logged}
use Rattle.tc_rows.proofs.entries.has_row_at.Goals as goal

pub returns : goal.returns
returns c = λ e at.
    let h = c.args.history.now in
    let x = c.index-history-made.result in
    let there = slice_get_read h (length h) c.args.made.now.place x refl c.requires c.index-history-made.is in
    let is = same_Some x e (sym there ∙ at) in
    let R = HasRow (logged c.args.rows.now) c.args.centre.now in
    (λ yes. subst R is (c.has_row.ensures.0 yes), λ has. c.has_row.ensures.1 (subst R (sym is) has))
