use Rattle.std.proofs.Common.{sym, ◌∙◌}
use Rattle.tc_policy.specs.Places.{place_in}
use Rattle.tc_policy.proofs.Indexes.{index-kept, index-noted}
use Rattle.tc_policy.proofs.places.note.Goals as goal

pub returns-then-contains_key : goal.returns-then-contains_key
returns-then-contains_key c grants end index =
    index-kept (place_in c.args.places.now) grants c.args.g (sym c.contains_key.ensures ∙ c.if-contains_key.true) index

pub returns : goal.returns
returns c grants end index =
    index-noted (place_in c.args.places.now) (place_in c.set.new.places) grants c.args.g c.args.place
    (sym c.contains_key.ensures ∙ c.if-contains_key.false) c.set.ensures end index
