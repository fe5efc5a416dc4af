use Rattle.std.proofs.Common.{◌≡◌, ◌<◌, Some, length, slice_get, refl, sym, subst, ap, ◌∙◌, rules}
use Rattle.std.proofs.lemmas.Option.{none-some, same_Some, slice_get_past, slice_get_read, slice_get_within}
use Rattle.tc_lists.proofs.Elements.{All-slice_get}
use Rattle.tc_lists.proofs.Options.{IfNone-always}
use Rattle.tc_rows.specs.Made.{AreMade, HasNoEntry, IsMadeAt, Rise}
use Rattle.tc_rows.specs.declared.made.Made.{Made}
use Rattle.tc_rows.proofs.Making.{made-entry, made-no_entry}
use Rattle.tc_rows.proofs.made.entry_of.Goals as goal

pub cut-first-requires : goal.cut-first-requires
cut-first-requires c = subst Rise (sym c.made_by-made.ensures) (c.requires c.args.agent).rise

pub returns-in_err-own-clause-none : goal.returns-in_err-own-clause-none
returns-in_err-own-clause-none c =
    let are = subst (AreMade c.args.agent c.args.history.now) (sym c.made_by-made.ensures) (c.requires c.args.agent) in
    IfNone-always c.from_residual.result (HasNoEntry c.args.agent c.args.number c.args.history.now)
    (made-no_entry c.args.agent c.args.number c.args.history.now c.made_by-made.result.now are c.cut-first.result c.cut-first.ensures.point
    (λ m at same. none-some m (sym (slice_get_past c.made_by-made.result.now c.cut-first.result c.in_err-own.ensures.lookup.3) ∙ at)))

pub bounds-history-own : goal.bounds-history-own
bounds-history-own c =
    let are = subst (AreMade c.args.agent c.args.history.now) (sym c.made_by-made.ensures) (c.requires c.args.agent) in
    let look = c.in_ok-own.ensures.lookup in
    let at : slice_get c.made_by-made.result.now c.cut-first.result ≡ Some c.in_ok-own.own.now =
    slice_get_read c.made_by-made.result.now (length c.made_by-made.result.now) c.cut-first.result c.in_ok-own.own.now refl look.3.0 look.1 in
    let here = All-slice_get (IsMadeAt c.args.agent c.args.history.now) c.made_by-made.result.now c.cut-first.result c.in_ok-own.own.now are.each at in
    slice_get_within c.args.history.now c.in_ok-own.own.now.place here.entry here.stands

pub offset_bounds-history-own : goal.offset_bounds-history-own
offset_bounds-history-own c =
    let are = subst (AreMade c.args.agent c.args.history.now) (sym c.made_by-made.ensures) (c.requires c.args.agent) in
    let look = c.in_ok-own.ensures.lookup in
    let at : slice_get c.made_by-made.result.now c.cut-first.result ≡ Some c.in_ok-own.own.now =
    slice_get_read c.made_by-made.result.now (length c.made_by-made.result.now) c.cut-first.result c.in_ok-own.own.now refl look.3.0 look.1 in
    let here = All-slice_get (IsMadeAt c.args.agent c.args.history.now) c.made_by-made.result.now c.cut-first.result c.in_ok-own.own.now are.each at in
    let inside : c.in_ok-own.own.now.place < length c.args.history.now =
    slice_get_within c.args.history.now c.in_ok-own.own.now.place here.entry here.stands in
    search (rules, inside)

pub returns-then-own-number-clause-some : goal.returns-then-own-number-clause-some
returns-then-own-number-clause-some c =
    let are = subst (AreMade c.args.agent c.args.history.now) (sym c.made_by-made.ensures) (c.requires c.args.agent) in
    let look = c.in_ok-own.ensures.lookup in
    let at : slice_get c.made_by-made.result.now c.cut-first.result ≡ Some c.in_ok-own.own.now =
    slice_get_read c.made_by-made.result.now (length c.made_by-made.result.now) c.cut-first.result c.in_ok-own.own.now refl look.3.0 look.1 in
    let here = All-slice_get (IsMadeAt c.args.agent c.args.history.now) c.made_by-made.result.now c.cut-first.result c.in_ok-own.own.now are.each at in
    made-entry c.args.agent c.args.number c.args.history.now c.in_ok-own.own.now c.index-history-own.result here c.index-history-own.is
    c.if-own-number.true

pub returns-else-own-number-clause-none : goal.returns-else-own-number-clause-none
returns-else-own-number-clause-none c =
    let are = subst (AreMade c.args.agent c.args.history.now) (sym c.made_by-made.ensures) (c.requires c.args.agent) in
    let look = c.in_ok-own.ensures.lookup in
    let at : slice_get c.made_by-made.result.now c.cut-first.result ≡ Some c.in_ok-own.own.now =
    slice_get_read c.made_by-made.result.now (length c.made_by-made.result.now) c.cut-first.result c.in_ok-own.own.now refl look.3.0 look.1 in
    made-no_entry c.args.agent c.args.number c.args.history.now c.made_by-made.result.now are c.cut-first.result c.cut-first.ensures.point
    (λ m there same. c.if-own-number.false (ap (λ (x : Made). x.number) (same_Some c.in_ok-own.own.now m (sym at ∙ there)) ∙ same))
