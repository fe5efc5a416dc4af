-- A door in memory.
use Rattle.std.specs.Prelude.{◌≡◌, ◌⊎◌, ◌↔◌, ◌&&◌, List, [], Some}
use Rattle.std.specs.List.{Contains}
use Rattle.tc_io.specs.Faults.{Counts}
use Rattle.tc_io.specs.Links.{Connection}
use Rattle.tc_io.specs.Memory.{Calls, never_fails, one_more}
use Rattle.tc_io.specs.declared.doors.LinkCopy.{LinkCopy}
use Rattle.tc_io.specs.declared.doors.MemLink.{MemLink}

-- a link, as the connection that is opened
abbrev pub link_opened : MemLink → Connection
link_opened l = record {
  left = Some l.source.left;
  sure = never_fails l.source.calls && never_fails l.sink.calls;
}

-- a copy, as the connection that it is a copy of
abbrev pub copy_opened : LinkCopy → Connection
copy_opened c = record { left = Some c.bytes.items; sure = c.sure }

-- a door: the links that are not opened yet, the connections that were opened, and its calls
pub record MemListening : Type 0 where
  pub links : List MemLink
  pub opened : List Connection
  pub calls : Calls

-- one call more is made, and it fails exactly where its number is one of the failing or no link is
-- left
pub record Accepts (old new : MemListening) (failure : Type 0) : Type 0 where
  pub fails : failure ↔ (Contains old.calls.failing (one_more old.calls.made) ⊎ (old.links ≡ []))
  pub made : new.calls.made ≡ one_more old.calls.made
  pub failing : new.calls.failing ≡ old.calls.failing
  pub counted : Counts failure old.calls.failed new.calls.failed
