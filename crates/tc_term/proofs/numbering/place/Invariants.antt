use Rattle.std.proofs.Common.{◌≡◌, ◌+◌, drop}
use Rattle.tc_term.specs.Variables.{place_in}
use Rattle.tc_term.proofs.numbering.place.Given as goal

abbrev pub invariant-loop-i : goal.invariant-loop-i
invariant-loop-i l = place_in l.numbers l.n ≡ l.i + place_in (drop l.i l.numbers) l.n
