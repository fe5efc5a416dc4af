-- What readers of bytes answer, as functions on lists see it.
use Rattle.std.specs.Prelude.{ℕ, List, Some, None}
use Rattle.std.specs.Borrow.{Bor}
use Rattle.std.specs.declared.option.Option.{Option}
use Rattle.tc_lists.specs.AtFront.{Front}

-- what was read, without where the rest lies in memory
abbrev pub seen : {X : Type 0} → Option (X × Bor (List ℕ)) → Front X
seen None = None
seen (Some (x, rest)) = Some (x, rest.now)
