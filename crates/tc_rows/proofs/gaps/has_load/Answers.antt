use Rattle.std.proofs.Common.{◌≡◌, Some, length, slice_get, refl}
use Rattle.std.proofs.lemmas.Option.{slice_get_read}
use Rattle.tc_rows.proofs.Crowding.{load-found}
use Rattle.tc_rows.proofs.gaps.has_load.Goals as goal

pub returns-in-Some : goal.returns-in-Some
returns-in-Some c =
    let points = c.args.points.now in
    let p = c.in-Some.point.now in
    let look = c.in-Some.ensures.lookup in
    let at : slice_get points c.point_of-first.result ≡ Some p =
    slice_get_read points (length points) c.point_of-first.result p refl look.3.0 look.1 in
    let found = load-found points c.requires c.args.from c.args.to c.point_of-first.result p at c.args.load c.point_of-first.ensures.point in
    let is = c.is_loaded_within.ensures in
    (λ yes. found.0 (is.0 yes), λ has. is.1 (found.1 has))
