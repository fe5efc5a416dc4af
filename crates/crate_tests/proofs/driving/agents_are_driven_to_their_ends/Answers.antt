use denote.Param.Send.{sendable}
use Rattle.std.proofs.Crossing as std
use Rattle.tc_term.proofs.name.Name.TheSendSync as name
use Rattle.tc_desk.proofs.Sends.{row_send}
use Rattle.crate_tests.proofs.driving.agents_are_driven_to_their_ends.Goals as goal

pub drive-requires-send-D : goal.drive-requires-send-D
drive-requires-send-D g c κs = search (row_send, name.the_send, std.crosses, sendable) depth 60 fits 20000
