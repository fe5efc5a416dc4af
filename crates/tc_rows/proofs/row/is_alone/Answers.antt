use Rattle.std.proofs.Common.{◌≡◌, ◌<◌, ◌≤◌, length, slice_get, refl, sym, subst, ap, ◌∙◌, ⊎_elim, arith}
use Rattle.std.proofs.lemmas.Bool.{cases_lt, false≢true}
use Rattle.std.proofs.lemmas.Option.{same_Some, slice_get_read, slice_get_within}
use Rattle.tc_rows.specs.Made.{AreAllMade, HasNoEntry, lists_of}
use Rattle.tc_rows.proofs.Sounding.{own-not, own-other}
use Rattle.tc_rows.proofs.row.is_alone.Goals as goal

pub is_clear-requires : goal.is_clear-requires
is_clear-requires c =
    let hs = c.args.histories.now in
    let place = c.loop-place.place in
    let x = c.index.result.now in
    let inside : place < length hs = omega arith in
    let ath = slice_get_read hs (length hs) place c.index-histories-place.result refl inside c.index-histories-place.is in
    let atx = slice_get_read c.args.index.now.centres.items (length c.args.index.now.centres.items) place x refl
    (omega (arith, inside, c.requires.made.whole)) c.index.ensures in
    subst (AreAllMade (lists_of x.makers.items)) (sym c.items.ensures)
    (c.requires.made.each place c.index-histories-place.result x ath atx)

pub returns-then-not-is_clear : goal.returns-then-not-is_clear
returns-then-not-is_clear c =
    let hs = c.args.histories.now in
    let place = c.loop-place.place in
    let h = c.index-histories-place.result in
    let inside : place < length hs = omega arith in
    let ath = slice_get_read hs (length hs) place h refl inside c.index-histories-place.is in (
      λ yes. absurd (false≢true yes),
      λ alone.
          absurd (false≢true (sym c.if-not-is_clear.true ∙ c.is_clear.ensures.1
          (λ never.
          subst (HasNoEntry c.args.agent c.args.number) (sym c.items.ensures)
          (alone place h ath (own-other c.args.served c.is_own-own.result place c.args.centre c.is_own-own.ensures.1 never))))),
    )

pub loop-place-preserved : goal.loop-place-preserved
loop-place-preserved c = λ k history below at other.
    let hs = c.args.histories.now in
    let place = c.loop-place.place in
    let h = c.index-histories-place.result in
    ⊎_elim (λ (before : k < place). c.loop-place.invariant k history before at other)
    (λ (from : place ≤ k).
    let same : k ≡ place = omega (arith, below, from) in
    let inside : place < length hs = omega arith in
    let ath = slice_get_read hs (length hs) place h refl inside c.index-histories-place.is in
    let is : h ≡ history = same_Some h history (sym ath ∙ (ap (slice_get hs) (sym same) ∙ at)) in
    subst (HasNoEntry c.args.agent c.args.number) (c.items.ensures ∙ is)
    (c.is_clear.ensures.0 c.if-not-is_clear.false
    (own-not c.args.served c.is_own-own.result k c.args.centre (λ yes. let own = c.is_own-own.ensures.0 yes in (own.0, same ∙ own.1)) other)))
    (cases_lt k place)

pub returns : goal.returns
returns c = (
  λ yes place history at other. c.loop-place.invariant place history (omega (arith, slice_get_within c.args.histories.now place history at)) at other,
  λ alone. refl,
)
