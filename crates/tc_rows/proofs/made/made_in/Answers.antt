use Rattle.std.proofs.Common.{◌≡◌, ◌<◌, Some, length, take, slice_get, refl, sym, subst, ◌∙◌, take_all, arith}
use Rattle.std.proofs.lemmas.List.{length-take-le}
use Rattle.std.proofs.lemmas.Option.{slice_get_read}
use Rattle.tc_lists.proofs.Parts.{take_read}
use Rattle.tc_rows.specs.Made.{AreAllMade, lists_of}
use Rattle.tc_rows.proofs.Making.{maker-inside, made-none, run-rises}
use Rattle.tc_rows.proofs.made.made_in.Goals as goal

pub loop-place-init : goal.loop-place-init
loop-place-init c = record {
  agents = c.in_ok-makers.ensures.agents;
  made = made-none (lists_of c.in_ok-makers.makers.items) c.in_ok-makers.ensures.none;
}

pub note-requires : goal.note-requires
note-requires c = λ id by.
    let h = c.args.history.now in
    let at : slice_get h c.loop-place.place ≡ Some c.index-history-place.result =
    slice_get_read h (length h) c.loop-place.place c.index-history-place.result refl (omega arith) c.index-history-place.is in
    omega (arith, maker-inside c.args.agents h c.requires c.loop-place.place c.index-history-place.result at id by, c.loop-place.invariant.agents)

pub loop-place-preserved : goal.loop-place-preserved
loop-place-preserved c =
    let h = c.args.history.now in
    let e = c.index-history-place.result in
    let inside : c.loop-place.place < length h = omega arith in
    let at : slice_get h c.loop-place.place ≡ Some e =
    slice_get_read h (length h) c.loop-place.place e refl inside c.index-history-place.is in
    record {
      agents = c.note.ensures.agents ∙ c.loop-place.invariant.agents;
      made = subst (AreAllMade (lists_of c.note.new.makers.items))
          (sym (take_read h c.loop-place.place e inside c.index-history-place.is))
          (c.in_ok-note.ensures.noted (take c.loop-place.place h)
          (sym (length-take-le c.loop-place.place h (omega arith)))
          (run-rises c.args.agents h c.requires c.loop-place.place e at) c.loop-place.invariant.made);
    }

pub returns : goal.returns
returns c =
    subst (AreAllMade (lists_of c.loop-place.makers.items))
    (take_all c.loop-place.place c.args.history.now (omega arith)) c.loop-place.invariant.made
