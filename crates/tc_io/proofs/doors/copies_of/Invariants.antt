use Rattle.std.proofs.Common.{◌≡◌, map, take}
use Rattle.tc_io.specs.Doors.{link_opened, copy_opened}
use Rattle.tc_io.proofs.doors.copies_of.Given as goal

-- the links so far are copied
abbrev pub invariant-loop-link : goal.invariant-loop-link
invariant-loop-link l = map copy_opened l.copies.items ≡ map link_opened (take l.link-index l.links)
