use Rattle.std.proofs.Common.{◌≡◌, ◌<◌, ◌≤◌, ℕ, List, All, Some, length, slice_get, refl, sym, subst, ap, ◌∙◌, ⊎_elim, arith}
use Rattle.std.proofs.lemmas.Bool.{cases_lt, false≢true}
use Rattle.std.proofs.lemmas.Option.{same_Some, slice_get_read, slice_get_within}
use Rattle.tc_config.specs.Configurations.{centre_names}
use Rattle.tc_desk.specs.Agreeing.{HasRow}
use Rattle.tc_model.specs.Calls.{calls_of}
use Rattle.tc_model.specs.declared.entries.Entry.{Entry}
use Rattle.tc_rows.specs.Made.{AreAllMade, lists_of}
use Rattle.tc_rows.specs.Rows.{logged}
use Rattle.tc_rows.proofs.Naming.{centre-named}
use Rattle.tc_rows.proofs.entries.have_rows.Goals as goal

pub have_rows_of-requires : goal.have_rows_of-requires
have_rows_of-requires c =
    let hs = c.args.histories.now in
    let place = c.loop-place.place in
    let x = c.index.result.now in
    let inside : place < length hs = omega arith in
    let ath = slice_get_read hs (length hs) place c.index-histories-place.result refl inside c.index-histories-place.is in
    let atx = slice_get_read c.args.index.now.centres.items (length c.args.index.now.centres.items) place x refl
    (omega (arith, inside, c.requires.made.whole)) c.index.ensures in
    subst (AreAllMade (lists_of x.makers.items)) (sym c.items.ensures)
    (c.requires.made.each place c.index-histories-place.result x ath atx)

pub returns-then-not-have_rows_of : goal.returns-then-not-have_rows_of
returns-then-not-have_rows_of c =
    let config = c.args.config.now in
    let hs = c.args.histories.now in
    let place = c.loop-place.place in
    let h = c.index-histories-place.result in
    let s = c.index-centres-place.result in
    let inside : place < length hs = omega arith in
    let ath = slice_get_read hs (length hs) place h refl inside c.index-histories-place.is in
    let ats : slice_get config.centres place ≡ Some s =
    subst (λ all. slice_get all place ≡ Some s) c.centres-centres.ensures.centres
    (slice_get_read c.centres-centres.result.now (length c.centres-centres.result.now) place s refl
    (omega (arith, inside, c.requires.whole, ap length c.centres-centres.ensures.centres)) c.index-centres-place.is) in
    let R : List Entry → Type 0 = λ es. All (HasRow (logged c.args.rows.now) s.name) (calls_of c.args.agent es) in (
      λ yes. absurd (false≢true yes),
      λ have.
          absurd
          (false≢true
          (sym c.if-not-have_rows_of.true
          ∙ c.have_rows_of.ensures.1
          (subst R (sym c.items.ensures) (have place s.name h (centre-named config place s s.name ats refl) ath)))),
    )

pub loop-place-preserved : goal.loop-place-preserved
loop-place-preserved c = λ k name history below atn atk.
    let config = c.args.config.now in
    let hs = c.args.histories.now in
    let place = c.loop-place.place in
    let h = c.index-histories-place.result in
    let s = c.index-centres-place.result in
    let inside : place < length hs = omega arith in
    let ath : slice_get hs place ≡ Some h = slice_get_read hs (length hs) place h refl inside c.index-histories-place.is in
    let ats : slice_get config.centres place ≡ Some s =
    subst (λ all. slice_get all place ≡ Some s) c.centres-centres.ensures.centres
    (slice_get_read c.centres-centres.result.now (length c.centres-centres.result.now) place s refl
    (omega (arith, inside, c.requires.whole, ap length c.centres-centres.ensures.centres)) c.index-centres-place.is) in
    let R : List ℕ → List Entry → Type 0 = λ n es. All (HasRow (logged c.args.rows.now) n) (calls_of c.args.agent es) in
    ⊎_elim (λ (less : k < place). c.loop-place.invariant k name history less atn atk)
    (λ (from : place ≤ k).
    let same : place ≡ k = omega (arith, below, from) in
    let named : s.name ≡ name =
    same_Some s.name name
    (sym (centre-named config place s s.name ats refl) ∙ (ap (slice_get (centre_names config)) same ∙ atn)) in
    let is : h ≡ history = same_Some h history (sym ath ∙ (ap (slice_get hs) same ∙ atk)) in
    subst (λ n. R n history) named
    (subst (R s.name) (c.items.ensures ∙ is) (c.have_rows_of.ensures.0 c.if-not-have_rows_of.false)))
    (cases_lt k place)

pub returns : goal.returns
returns c = (
  λ yes place name history atn atk.
      c.loop-place.invariant place name history (omega (arith, slice_get_within c.args.histories.now place history atk)) atn atk,
  λ have. refl,
)
