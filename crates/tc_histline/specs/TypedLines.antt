-- What the types of a line promise besides what its text says: that bytes are bytes.
use Rattle.std.specs.Prelude.{IfSome}
use Rattle.tc_model.specs.Typed.{AreBytes, IsTypedOutcome, IsTypedReply}
use Rattle.tc_model.specs.declared.entries.Entry.TheVariants.{Called, Gave, Looked}
use Rattle.tc_desk.specs.Typed.{IsTypedResult}
use Rattle.tc_histline.specs.declared.lines.Line.{Line}
use Rattle.tc_histline.specs.declared.lines.Line.TheVariants as line

abbrev pub IsTypedLine : Line → Type 0
IsTypedLine (line.First version) = Unit {0}
IsTypedLine (line.Centre name) = AreBytes name
IsTypedLine (line.Agent name) = AreBytes name
IsTypedLine (line.Entry (Called id op result items)) = IsTypedOutcome result
IsTypedLine (line.Entry (Gave id result items)) = IsTypedOutcome result
IsTypedLine (line.Entry (Looked id asked told)) = IfSome told IsTypedReply
IsTypedLine (line.Reaction item) = Unit {0}
IsTypedLine (line.Row row) = AreBytes row.centre × IsTypedResult row.result
IsTypedLine (line.End blocked) = Unit {0}
