use Rattle.std.proofs.Common.{◌≡◌, ◌<◌, ◌≤◌, length, slice_get, refl, sym, subst, ap, ◌∙◌, ⊎_elim, arith}
use Rattle.std.proofs.lemmas.Bool.{cases_lt, false≢true}
use Rattle.std.proofs.lemmas.Option.{same_Some, slice_get_read, slice_get_within}
use Rattle.tc_lists.proofs.Places.{slice_get-Contains}
use Rattle.tc_rows.specs.Made.{AreAllMade, lists_of}
use Rattle.tc_rows.specs.Sound.{HasStrayIn}
use Rattle.tc_rows.proofs.ends.has_stray.Goals as goal

pub has_stray_in-requires : goal.has_stray_in-requires
has_stray_in-requires c =
    let hs = c.args.histories.now in
    let place = c.loop-place.place in
    let x = c.index.result.now in
    let inside : place < length hs = omega arith in
    let ath = slice_get_read hs (length hs) place c.index-histories-place.result refl inside c.index-histories-place.is in
    let atx = slice_get_read c.args.index.now.centres.items (length c.args.index.now.centres.items) place x refl
    (omega (arith, inside, c.requires.whole)) c.index.ensures in
    subst (AreAllMade (lists_of x.makers.items)) (sym c.items.ensures)
    (c.requires.each place c.index-histories-place.result x ath atx)

pub loop-place-preserved : goal.loop-place-preserved
loop-place-preserved c = λ k history below at stray.
    let hs = c.args.histories.now in
    let place = c.loop-place.place in
    let h = c.index-histories-place.result in
    ⊎_elim (λ (before : k < place). c.loop-place.invariant k history before at stray)
    (λ (from : place ≤ k).
    let same : k ≡ place = omega (arith, below, from) in
    let inside : place < length hs = omega arith in
    let ath = slice_get_read hs (length hs) place h refl inside c.index-histories-place.is in
    let is : h ≡ history = same_Some h history (sym ath ∙ (ap (slice_get hs) (sym same) ∙ at)) in
    false≢true
    (sym c.if-has_stray_in.false
    ∙ c.has_stray_in.ensures.1 (subst (λ es. HasStrayIn es c.args.agent c.args.rows) (sym (c.items.ensures ∙ is)) stray)))
    (cases_lt k place)

pub returns : goal.returns
returns c = (
  λ yes. absurd (false≢true yes),
  λ has.
      let at = slice_get-Contains c.args.histories.now has.history has.stands in
      absurd
      (c.loop-place.invariant has.stands.0 has.history
      (omega (arith, slice_get_within c.args.histories.now has.stands.0 has.history at)) at has.has),
)
