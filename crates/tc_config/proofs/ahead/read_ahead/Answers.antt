use denote.Param.Send.{sendable}
use Rattle.std.proofs.Crossing.{crosses}
use Rattle.tc_config.proofs.Sends.{piece_send}
use Rattle.tc_config.proofs.ahead.read_ahead.Goals as goal

pub map_indices-shares-requires-send-X : goal.map_indices-shares-requires-send-X
map_indices-shares-requires-send-X g c κs within = search (crosses, piece_send, sendable) depth 60 fits 20000
