use Rattle.std.proofs.Common.{◌≡◌, ◌+◌, ◌-◌, ◌*◌}
use Rattle.tc_term.specs.Text.{Alone}
use Rattle.tc_read.specs.Seen.{prepended}
use Rattle.tc_read.specs.Front.{arguments, reads}
use Rattle.tc_read.proofs.canonical.+canonical.Given as goal

abbrev pub decreases-alone : goal.decreases-alone
decreases-alone l = l.depth * 10

abbrev pub decreases-behind : goal.decreases-behind
decreases-behind l = l.depth * 10

abbrev pub decreases-from_third : goal.decreases-from_third
decreases-from_third l = l.depth * 10 + 1

abbrev pub decreases-from_second : goal.decreases-from_second
decreases-from_second l = l.depth * 10 + 2

abbrev pub decreases-arguments : goal.decreases-arguments
decreases-arguments l = l.depth * 10 + 3

abbrev pub decreases-called : goal.decreases-called
decreases-called l = l.depth * 10 + 4

abbrev pub decreases-named : goal.decreases-named
decreases-named l = l.depth * 10 + 5

abbrev pub decreases-element : goal.decreases-element
decreases-element l = l.depth * 10 + 1

abbrev pub decreases-list : goal.decreases-list
decreases-list l = l.depth * 10 + 2

abbrev pub decreases-node : goal.decreases-node
decreases-node l = l.depth * 10 + 7

abbrev pub decreases-in_quotes : goal.decreases-in_quotes
decreases-in_quotes l = l.depth * 10 + 6

abbrev pub decreases-closed : goal.decreases-closed
decreases-closed l = l.depth * 10 + 8

abbrev pub decreases-tail : goal.decreases-tail
decreases-tail l = l.depth * 10 + 9

-- with the arguments so far, those that are left are those of the whole
abbrev pub invariant-from_third-loop : goal.invariant-from_third-loop
invariant-from_third-loop l =
    prepended l.terms.items (arguments (reads l.depth Alone) (l.most - l.counter) l.rest.budget l.rest.bytes.now)
    ≡ prepended l.fn.terms.items (arguments (reads l.depth Alone) l.fn.most l.fn.rest.budget l.fn.rest.bytes.now)
