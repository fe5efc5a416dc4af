use Rattle.std.proofs.Common.{◌≡◌, ◌<◌, Some, length, slice_get, refl, sym, subst, ◌∙◌, arith}
use Rattle.std.proofs.lemmas.Bool.{false≢true}
use Rattle.std.proofs.lemmas.Option.{slice_get_read}
use Rattle.tc_histtext.specs.ReadTexts.{as_logged}
use Rattle.tc_rows.specs.Beside.{IsLastAt}
use Rattle.tc_rows.proofs.Polling.{last-within, polled-behind, polled-rows}
use Rattle.tc_rows.proofs.agreeing.has_polled.Goals as goal

pub returns-then-same_name : goal.returns-then-same_name
returns-then-same_name c =
    let rows = c.args.rows.now in
    let place = c.in-Some.last in
    let r = c.index-rows-last.result in
    let inside : place < length rows = last-within rows c.args.place place c.args.last c.in-Some.is c.requires.last in
    let atr : slice_get rows place ≡ Some r = slice_get_read rows (length rows) place r refl inside c.index-rows-last.is in
    let polled = polled-behind c.args.history.now c.args.id rows c.args.place place c.args.last (as_logged c.args.row.now) c.args.told.now
    (omega (arith, c.requires.there)) c.in-Some.is c.requires.last r atr in (
      λ yes. polled.0 (c.same_name.ensures.0 c.if-same_name.true, c.has_looked.ensures.0 yes),
      λ is. c.has_looked.ensures.1 (polled.1 is).1,
    )

pub returns-else-same_name : goal.returns-else-same_name
returns-else-same_name c =
    let rows = c.args.rows.now in
    let place = c.in-Some.last in
    let r = c.index-rows-last.result in
    let inside : place < length rows = last-within rows c.args.place place c.args.last c.in-Some.is c.requires.last in
    let atr : slice_get rows place ≡ Some r = slice_get_read rows (length rows) place r refl inside c.index-rows-last.is in
    let polled = polled-behind c.args.history.now c.args.id rows c.args.place place c.args.last (as_logged c.args.row.now) c.args.told.now
    (omega (arith, c.requires.there)) c.in-Some.is c.requires.last r atr in (
      λ yes. absurd (false≢true (sym c.if-same_name.false ∙ yes)),
      λ is. c.same_name.ensures.1 (polled.1 is).0,
    )

pub returns-in-None : goal.returns-in-None
returns-in-None c =
    let polled = polled-rows c.args.history.now c.args.id c.args.rows.now c.args.place (as_logged c.args.row.now) c.args.told.now
    (omega (arith, c.requires.there)) in (
      λ yes. absurd (false≢true yes),
      λ is.
          let was = polled.1 is in
          absurd (subst (IsLastAt c.args.rows.now c.args.place) c.in-None.is c.requires.last was.earlier was.last),
    )
