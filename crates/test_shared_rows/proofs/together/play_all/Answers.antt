use denote.Param.Send.{sendable, param_sync}
use mir.Syntax.{erased}
use Rattle.std.proofs.Crossing.{crosses}
use Rattle.test_shared_rows.proofs.Sends.{played_send, scene_sync}
use Rattle.test_shared_rows.proofs.together.play_all.Lts as lts
use Rattle.tc_shared.proofs.Sends.{core_send}
use Rattle.tc_turn.proofs.pass.Pass.TheSendSync as pass
use Rattle.test_shared_rows.proofs.together.play_all.Goals as goal

pub map_vec-requires-send-J : goal.map_vec-requires-send-J
map_vec-requires-send-J g c κs within = search (sendable, crosses, pass.the_send, core_send) depth 60

pub map_vec-requires-send-X : goal.map_vec-requires-send-X
map_vec-requires-send-X g c κs within = search (sendable, played_send) depth 60

-- the threads share the runtime and the scene
pub map_vec-requires-sync-F : goal.map_vec-requires-sync-F
map_vec-requires-sync-F g c κs within =
    param_sync 4 (lts.arg-1-4 g.row.R g.R.laws g.R.Threads-dict g.R.Wait-dict κs) (record {
      shared = λ x b o κ. (
        (
          ((λ q. tt), c.type_bounds.sync-R.shared x.0.now x.0.ref_ptr.0 x.0.ref_ptr.1 _),
          (((λ q. tt), (scene_sync (record { mir = erased; lft = _ })).shared x.1.now x.1.ref_ptr.0 x.1.ref_ptr.1 κ), tt),
        ),
        λ q. tt,
      );
    })
