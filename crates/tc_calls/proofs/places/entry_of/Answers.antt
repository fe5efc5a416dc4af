use Rattle.std.proofs.Common.{◌<◌, length, subst, sym, rules}
use Rattle.std.specs.Option.{MatchOption}
use Rattle.std.proofs.lemmas.Option.{slice_get_within}
use Rattle.tc_model.specs.Run.{HasCall}
use Rattle.tc_calls.specs.Places.{IsToldAt, lists_of, place_in}
use Rattle.tc_calls.proofs.Indexed.{index-at, index-reply}
use Rattle.tc_calls.proofs.places.entry_of.Goals as goal

pub offset_bounds-history-place : goal.offset_bounds-history-place
offset_bounds-history-place c =
    let told = index-at c.args.history.now c.args.id (place_in (lists_of c.args.places.now.items) c.args.id) c.in-Some.place
    c.in-Some.ensures (c.requires.index c.args.id) in
    let inside : c.in-Some.place < length c.args.history.now =
    slice_get_within c.args.history.now c.in-Some.place told.entry told.stands in
    search (rules, inside)

pub bounds-history-place : goal.bounds-history-place
bounds-history-place c =
    let told = index-at c.args.history.now c.args.id (place_in (lists_of c.args.places.now.items) c.args.id) c.in-Some.place
    c.in-Some.ensures (c.requires.index c.args.id) in
    slice_get_within c.args.history.now c.in-Some.place told.entry told.stands

pub returns-in-Some-clause-called : goal.returns-in-Some-clause-called
returns-in-Some-clause-called c =
    (index-at c.args.history.now c.args.id (place_in (lists_of c.args.places.now.items) c.args.id) c.in-Some.place
    c.in-Some.ensures (c.requires.index c.args.id)).called

pub returns-in-Some-clause-reply : goal.returns-in-Some-clause-reply
returns-in-Some-clause-reply c =
    let told = index-at c.args.history.now c.args.id (place_in (lists_of c.args.places.now.items) c.args.id) c.in-Some.place
    c.in-Some.ensures (c.requires.index c.args.id) in
    index-reply c.args.history.now c.args.id c.in-Some.place c.index-history-place.result told c.index-history-place.is

pub returns-in-None-clause-none : goal.returns-in-None-clause-none
returns-in-None-clause-none c =
    subst (λ o. MatchOption o (HasCall c.args.id c.args.history.now → ⊥) (IsToldAt c.args.history.now c.args.id))
    (sym c.in-None.ensures) (c.requires.index c.args.id)
