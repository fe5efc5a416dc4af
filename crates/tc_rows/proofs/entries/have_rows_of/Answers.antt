use Rattle.std.proofs.Common.{◌≡◌, ◌<◌, ◌≤◌, ℕ, Some, get_or, length, slice_get, refl, sym, subst, ap, ◌∙◌, ⊎_elim, arith}
use Rattle.std.proofs.lemmas.Bool.{cases_lt, false≢true}
use Rattle.std.proofs.lemmas.Option.{same_Some, slice_get-get_or, slice_get_within}
use Rattle.tc_desk.specs.Agreeing.{HasRow}
use Rattle.tc_lists.proofs.Elements.{All-slice_get}
use Rattle.tc_lists.proofs.Places.{slice_get-Contains}
use Rattle.tc_model.specs.Calls.{id_of, is_call_of}
use Rattle.tc_rows.specs.Made.{AreMade, IsMadeAt}
use Rattle.tc_rows.specs.Rows.{logged}
use Rattle.tc_rows.specs.declared.made.Made.{Made}
use Rattle.tc_rows.proofs.Calls.{All-filter_at, All-filter_from}
use Rattle.tc_rows.proofs.entries.have_rows_of.Goals as goal

pub has_row_at-requires : goal.has_row_at-requires
has_row_at-requires c =
    let are = subst (AreMade c.args.agent c.args.history.now) (sym c.made_by-own.ensures) (c.requires c.args.agent) in
    let own = c.made_by-own.result.now in
    let none : Made = record { number = 0; place = 0 } in
    let m : Made = get_or own c.loop-made.made-index none in
    let at = slice_get-get_or own c.loop-made.made-index none c.loop-made-test.true in
    let here = All-slice_get (IsMadeAt c.args.agent c.args.history.now) own c.loop-made.made-index m are.each at in
    slice_get_within c.args.history.now m.place here.entry here.stands

pub returns-then-not-has_row_at : goal.returns-then-not-has_row_at
returns-then-not-has_row_at c =
    let h = c.args.history.now in
    let are = subst (AreMade c.args.agent h) (sym c.made_by-own.ensures) (c.requires c.args.agent) in
    let own = c.made_by-own.result.now in
    let none : Made = record { number = 0; place = 0 } in
    let m : Made = get_or own c.loop-made.made-index none in
    let at = slice_get-get_or own c.loop-made.made-index none c.loop-made-test.true in
    let here = All-slice_get (IsMadeAt c.args.agent h) own c.loop-made.made-index m are.each at in (
      λ yes. absurd (false≢true yes),
      λ all.
          absurd
          (false≢true
          (sym c.if-not-has_row_at.true
          ∙ (c.has_row_at.ensures here.entry here.stands).1
          (All-filter_at (is_call_of c.args.agent) (HasRow (logged c.args.rows.now) c.args.centre.now) h m.place here.entry all
          here.stands here.by))),
    )

pub loop-made-preserved : goal.loop-made-preserved
loop-made-preserved c = λ k n e below atn ate.
    let own = c.made_by-own.result.now in
    let i = c.loop-made.made-index in
    let none : Made = record { number = 0; place = 0 } in
    let m : Made = get_or own c.loop-made.made-index none in
    let at : slice_get own i ≡ Some m = slice_get-get_or own i none c.loop-made-test.true in
    ⊎_elim (λ (less : k < i). c.loop-made.invariant k n e less atn ate)
    (λ (from : i ≤ k).
    let same : i ≡ k = omega (arith, below, from) in
    let one : m ≡ n = same_Some m n (sym at ∙ (ap (slice_get own) same ∙ atn)) in
    (c.has_row_at.ensures e (ap (λ (d : Made). slice_get c.args.history.now d.place) one ∙ ate)).0 c.if-not-has_row_at.false)
    (cases_lt k i)

pub returns : goal.returns
returns c =
    let h = c.args.history.now in
    let are = subst (AreMade c.args.agent h) (sym c.made_by-own.ensures) (c.requires c.args.agent) in
    let own = c.made_by-own.result.now in (
      λ yes.
          All-filter_from (is_call_of c.args.agent) (HasRow (logged c.args.rows.now) c.args.centre.now) h
          (λ k e at by.
          let has = are.all k e at by in
          let m : Made = record { number = (id_of e).number; place = k } in
          c.loop-made.invariant has.0 m e (omega (arith, has.1)) (slice_get-Contains own m has) at),
      λ all. refl,
    )
