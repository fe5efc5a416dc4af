use Rattle.std.proofs.Common.{◌≡◌, ◌∙◌, Some, ap, sym, arith}
use Rattle.std.proofs.lemmas.Option.{get_or_from_slice_get, slice_get_within}
use Rattle.std.specs.Option.{option_copied}
use Rattle.std.specs.Prelude.{slice_get}
use Rattle.tc_centre.specs.Centre.{state_of}
use Rattle.tc_load.specs.Counts.{count_of}
use Rattle.tc_load.proofs.Steps.{filter_map-first, filter_map-none}
use Rattle.tucson.proofs.Counted.{never_none}
use Rattle.tucson.proofs.loading.core_count.Goals.{in-Some+else-is_some, in_default}
use Rattle.tucson.proofs.loading.core_count.Goals as goal

pub returns-then-is_some : goal.returns-then-is_some
returns-then-is_some c =
    let tuples = (state_of c.args.core.now).tuples in
    let place = c.loop-place.place in
    let tuple = c.in-Some.tuple.now in
    let there : slice_get tuples place ≡ Some tuple = sym c.tuple.ensures ∙ ap option_copied c.in-Some.is in
    filter_map-first count_of tuples place tuple c.count_of-number.result
    (slice_get_within tuples place tuple there) c.loop-place.invariant
    (c.count_of-number.ensures ∙ ap count_of (sym (get_or_from_slice_get tuples place tuple tuple there)))
    (sym c.is_some.ensures ∙ c.if-is_some.true)

pub loop-place-preserved : goal.loop-place-preserved
loop-place-preserved c =
    let tuples = (state_of c.args.core.now).tuples in
    let place = c.loop-place.place in
    elim c.match-tuple.branch [
      | in-Some+else-is_some w ↦
          let tuple = w.in-Some.tuple.now in
          let there : slice_get tuples place ≡ Some tuple = sym c.tuple.ensures ∙ ap option_copied w.in-Some.is in
          filter_map-none count_of tuples place tuple w.count_of-number.result
          (slice_get_within tuples place tuple there) c.loop-place.invariant
          (w.count_of-number.ensures ∙ ap count_of (sym (get_or_from_slice_get tuples place tuple tuple there)))
          (sym w.is_some.ensures ∙ w.if-is_some.false)
      | in_default w ↦
          absurd (never_none tuples place (omega (arith, c.tuples-place-end.ensures, c.loop-place-test.true)) (sym c.tuple.ensures ∙ ap option_copied w.in_default.is))
    ]
