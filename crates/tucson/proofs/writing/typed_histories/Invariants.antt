use Rattle.std.proofs.Common.{All, take}
use Rattle.tc_centre.specs.Centre.{Centre}
use Rattle.tc_model.specs.Typed.{IsTyped}
use Rattle.tucson.proofs.writing.typed_histories.Given as goal

abbrev pub invariant-loop-core : goal.invariant-loop-core
invariant-loop-core l = All (λ (x : Centre). All IsTyped x.history) (take l.core-index l.cores)
