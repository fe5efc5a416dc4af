-- What the threads of a row take and give may go to another thread, and what they share may be shared.
use denote.Param.Send.{IsSend, IsSync, recorded_sync, sendable, struct_sync}
use denote.Ref.{NamedLft}
use denote.Struct.Declared.{shape}
use Rattle.std.proofs.Crossing.{crosses}
use Rattle.test_shared_rows.specs.contracts.playing.Played as played
use Rattle.test_shared_rows.specs.contracts.moves.Move as move
use Rattle.test_shared_rows.specs.contracts.stage.Stage as stage
use Rattle.test_shared_rows.specs.contracts.together.Scene as scene
use Rattle.test_shared_rows.proofs.stage.Stage.TheSendSync as stagesync
use Rattle.tc_shared.proofs.Sends.{core_send, shared_sync}
use Rattle.tc_turn.proofs.pass.Ended.TheSendSync as ended

pub played_send : IsSend played.the_row
played_send = search (crosses, ended.the_send, core_send, sendable) depth 60 fits 20000

move_sync : IsSync move.the_row
move_sync = search (crosses, sendable) depth 60 fits 20000

stage_sync : IsSync stage.the_row
stage_sync = search (crosses, stagesync.the_sync, sendable) depth 60 fits 20000

pub scene_sync : (κ : NamedLft) → IsSync (scene.the_row κ)
scene_sync κ =
    let T = scene.the_type κ in
    recorded_sync (scene.the_field κ).row _ _ T.to_one
    (struct_sync (shape T) (
      (search (crosses, sendable) depth 60),
      (search (shared_sync, sendable) depth 60, (search (stage_sync, sendable) depth 60, (search (crosses, move_sync, sendable) depth 60, tt))),
    ))
