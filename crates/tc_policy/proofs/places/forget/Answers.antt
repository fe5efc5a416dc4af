use Rattle.std.proofs.Common.{Some, None}
use Rattle.tc_policy.specs.Places.{place_in}
use Rattle.tc_policy.proofs.FirstPlaces.{first_place-absent, first_place-from}
use Rattle.tc_policy.proofs.Indexes.{index-forgotten}
use Rattle.tc_policy.proofs.places.forget.Goals as goal

pub returns-in-Some : goal.returns-in-Some
returns-in-Some c old left index =
    index-forgotten (place_in c.args.places.now) (place_in c.lower.new.places) (place_in c.set.new.places) old
    c.args.grants.now c.args.g c.args.place (Some c.in-Some.next) c.requires.there
    (first_place-from c.args.g c.args.grants.now c.in-Some.next c.in-Some.ensures.first) c.lower.ensures c.set.ensures left index

pub returns-in-None : goal.returns-in-None
returns-in-None c old left index =
    index-forgotten (place_in c.args.places.now) (place_in c.lower.new.places) (place_in c.clear.new.places) old
    c.args.grants.now c.args.g c.args.place None c.requires.there
    (first_place-absent c.args.g c.args.grants.now c.in-None.ensures.none) c.lower.ensures c.clear.ensures left index
