use Rattle.std.proofs.Common.{◌≢◌, sym, ◌∙◌}
use Rattle.tc_lists.proofs.Bools.{bytes_eq-false}
use Rattle.tc_lists.proofs.Elements.{All-take_read, All-from_take}
use Rattle.tc_model.proofs.origins.is_new.Goals as goal

pub loop-other-preserved : goal.loop-other-preserved
loop-other-preserved c =
    All-take_read (λ other. other ≢ c.args.name.now) c.args.names.now c.loop-other.other-index c.other-item.result
    c.loop-other-test.true c.other-item.is c.loop-other.invariant
    (bytes_eq-false c.other-item.result c.args.name.now (sym c.eq.ensures ∙ c.if-eq.false))

pub returns-clause-yes : goal.returns-clause-yes
returns-clause-yes c told =
    All-from_take (λ other. other ≢ c.args.name.now) c.args.names.now c.loop-other.other-index
    c.loop-other-test.false c.loop-other.invariant
