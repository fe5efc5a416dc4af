-- Numbers of primitives, each its own.
use Rattle.std.specs.Prelude.{ℕ}
use Rattle.tc_model.specs.declared.asks.Primitive.{Primitive}
use Rattle.tc_model.specs.declared.asks.Primitive.TheVariants.{Out, In, Rd, Inp, Rdp, No, Nop}
use Rattle.tc_model.specs.declared.asks.Primitive.TheVariants.{SetSpec, GetSpec}

-- the number of a primitive
abbrev pub number_of : Primitive → ℕ
number_of Out = 0
number_of In = 1
number_of Rd = 2
number_of Inp = 3
number_of Rdp = 4
number_of No = 5
number_of Nop = 6
number_of SetSpec = 7
number_of GetSpec = 8
