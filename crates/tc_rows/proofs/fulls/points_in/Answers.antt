use Rattle.std.proofs.Common.{◌≡◌, ◌<◌, ◌+◌, true, Some, length, take, slice_get, refl, sym, subst, ◌∙◌, arith}
use Rattle.std.proofs.lemmas.Option.{slice_get_read}
use Rattle.tc_lists.proofs.Parts.{take_read}
use Rattle.tc_replay.proofs.QuietPoints.{quiet_end}
use Rattle.tc_rows.specs.Fulls.{ArePointsBelow, IsLoadOf, Notes}
use Rattle.tc_rows.proofs.Pointing.{points-all, points-noted, quiet-here}
use Rattle.tc_rows.proofs.fulls.points_in.Goals as goal

pub loop-place-preserved : goal.loop-place-preserved
loop-place-preserved c =
    let h = c.args.history.now in
    let place = c.loop-place.place in
    let e = c.index-history-place.result in
    let inside : place < length h = omega arith in
    let at : slice_get h place ≡ Some e =
    slice_get_read h (length h) place e refl inside c.index-history-place.is in
    record {
      load = λ origin quiet.
          subst (λ front. IsLoadOf origin front c.in_ok-load.load) (sym (take_read h place e inside c.index-history-place.is))
          (c.in_ok-load.ensures origin (take place h) (quiet.run.run place e at) (c.loop-place.invariant.load origin quiet));
      points = λ origin quiet.
          let rest = quiet-here origin h quiet.run place e at in
          points-noted origin h place c.loop-place.load c.loop-place.points.items (c.loop-place.invariant.points origin quiet)
          (omega arith) (c.loop-place.invariant.load origin quiet) c.args.budget c.is_no_answer.result c.note_point.new.points.items
          quiet.budget_is (λ yes. rest.0 (sym c.is_no_answer.ensures ∙ yes)) (λ is. c.is_no_answer.ensures ∙ rest.1 is) c.in_ok-note_point.ensures;
    }

pub returns : goal.returns
returns c = λ origin quiet.
    let h = c.args.history.now in
    let new = c.note_point-2.new.points.items in
    let same : c.loop-place.place ≡ length h = omega arith in
    points-all origin h new
    (subst (λ n. ArePointsBelow origin h (n + 1) new) same
    (points-noted origin h c.loop-place.place c.loop-place.load c.loop-place.points.items (c.loop-place.invariant.points origin quiet)
    (omega arith) (c.loop-place.invariant.load origin quiet) c.args.budget true new quiet.budget_is
    (λ yes. quiet_end origin h quiet.run c.loop-place.place same) (λ is. refl)
    (subst (λ n. Notes true c.args.budget c.loop-place.load n c.loop-place.points.items new) (sym same) c.in_ok-note_point-2.ensures)))
