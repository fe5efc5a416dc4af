use Rattle.std.proofs.Common.{◌≡◌, Some, length, slice_get, refl, leb-true, le-leb}
use Rattle.std.proofs.lemmas.Option.{slice_get_read}
use Rattle.tc_rows.proofs.Crowding.{point-found}
use Rattle.tc_rows.proofs.gaps.has_point.Goals as goal

pub returns-in-Some : goal.returns-in-Some
returns-in-Some c =
    let points = c.args.points.now in
    let p = c.in-Some.point.now in
    let look = c.in-Some.ensures.lookup in
    let at : slice_get points c.point_at-first.result ≡ Some p =
    slice_get_read points (length points) c.point_at-first.result p refl look.3.0 look.1 in
    let found = point-found points c.requires c.args.from c.args.to c.point_at-first.result p at c.point_at-first.ensures.point in
    (λ yes. found.0 (leb-true p.place c.args.to yes), λ has. le-leb p.place c.args.to (found.1 has))
