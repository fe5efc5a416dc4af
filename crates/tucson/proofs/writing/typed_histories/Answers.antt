use Rattle.tc_lists.proofs.Elements.{All-take_read, All-from_take}
use Rattle.tc_centre.specs.Centre.{Centre}
use Rattle.std.proofs.Common.{All}
use Rattle.tc_model.specs.Typed.{IsTyped}
use Rattle.tucson.proofs.Histories.{histories-typed}
use Rattle.tucson.proofs.writing.typed_histories.Goals as goal

pub loop-core-preserved : goal.loop-core-preserved
loop-core-preserved c =
    All-take_read (λ (x : Centre). All IsTyped x.history) c.args.cores.now c.loop-core.core-index c.core-item.result c.loop-core-test.true
    c.core-item.is c.loop-core.invariant c.history-history.ensures.typed

pub returns : goal.returns
returns c =
    histories-typed c.args.plan.now.centres c.args.cores.now
    (All-from_take (λ (x : Centre). All IsTyped x.history) c.args.cores.now c.loop-core.core-index c.loop-core-test.false c.loop-core.invariant)
