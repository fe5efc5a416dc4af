use Rattle.std.proofs.Common.{◌∙◌, refl, sym, ap}
use Rattle.std.proofs.lemmas.Bool.{true≢false}
use Rattle.std.proofs.lemmas.Option.{slice_get_within}
use Rattle.tc_bag.specs.Stock.{Stock, tuples_of}
use Rattle.tc_model.specs.Tables.{setting_of}
use Rattle.tc_audit.specs.Beginnings.{origin_in}
use Rattle.tc_audit.specs.Reached.{state_of}
use Rattle.tc_audit.proofs.Answering.{answered-given, given-answered, request-read, state-answered}
use Rattle.tc_audit.proofs.Resting.{sound-given}
use Rattle.tc_audit.proofs.serving.give.Goals as goal

pub returns-then-not-branch-clause-exact : goal.returns-then-not-branch-clause-exact
returns-then-not-branch-clause-exact c =
    let origin = origin_in c.args.beginning.now in
    let s = state_of c.args.reached.now in
    let at = request-read s.pending c.list.result.now c.list-2.result.now c.args.id c.in-Some.place c.index-list-place.result
    c.in-Some.ensures.found c.list.ensures c.list-2.ensures c.index-list-place.is in
    let told = c.in_ok-is_given.ensures.exact origin s (record {
      clauses_are = refl;
      tuples_are = refl;
      setting_is = ap (setting_of origin) at.of ∙ sym c.in_ok-context.ensures;
      budget_is = refl;
    }) in (
      λ never. absurd (true≢false (sym never)),
      λ answered. absurd (true≢false
          (sym (told.1 (answered-given origin s c.args.id c.args.outcome.now c.args.items.now c.requires.once c.in-Some.place at answered))
          ∙ c.if-not-branch.true)),
    )

pub remove-requires : goal.remove-requires
remove-requires c =
    let s = state_of c.args.reached.now in
    let at = request-read s.pending c.list.result.now c.list-2.result.now c.args.id c.in-Some.place c.index-list-place.result
    c.in-Some.ensures.found c.list.ensures c.list-2.ensures c.index-list-place.is in
    slice_get_within s.pending c.in-Some.place at.request at.stands

pub returns-clause-exact : goal.returns-clause-exact
returns-clause-exact c =
    let origin = origin_in c.args.beginning.now in
    let s = state_of c.args.reached.now in
    let at = request-read s.pending c.list.result.now c.list-2.result.now c.args.id c.in-Some.place c.index-list-place.result
    c.in-Some.ensures.found c.list.ensures c.list-2.ensures c.index-list-place.is in
    let told = c.in_ok-is_given.ensures.exact origin s (record {
      clauses_are = refl;
      tuples_are = refl;
      setting_is = ap (setting_of origin) at.of ∙ sym c.in_ok-context.ensures;
      budget_is = refl;
    }) in (
      λ always. given-answered origin s c.args.id c.args.outcome.now c.args.items.now c.requires.once c.in-Some.place at
          (told.0 c.if-not-branch.false),
      λ answered. refl,
    )

pub returns-clause-state : goal.returns-clause-state
returns-clause-state c always =
    let origin = origin_in c.args.beginning.now in
    let s = state_of c.args.reached.now in
    let at = request-read s.pending c.list.result.now c.list-2.result.now c.args.id c.in-Some.place c.index-list-place.result
    c.in-Some.ensures.found c.list.ensures c.list-2.ensures c.index-list-place.is in
    state-answered origin s c.args.id c.args.outcome.now c.args.items.now c.requires.once c.in-Some.place at
    (state_of c.remove.new.reached)
    (ap (λ (b : Stock). tuples_of b.now) c.remove.ensures.bag
    ∙ c.in_ok-is_given.ensures.tuples origin s (record {
      clauses_are = refl;
      tuples_are = refl;
      setting_is = ap (setting_of origin) at.of ∙ sym c.in_ok-context.ensures;
      budget_is = refl;
    }) c.if-not-branch.false)
    c.remove.ensures.spec c.remove.ensures.requests

pub returns-clause-sound : goal.returns-clause-sound
returns-clause-sound c always =
    c.remove.ensures.sound
    (sound-given c.args.reached.now _ c.requires.sound c.is_given.ensures.adds c.is_given.ensures.saved refl refl)
