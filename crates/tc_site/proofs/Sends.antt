-- A desk may go to another thread, where threads may share its site's warden; so may what it is made of, and what is
-- left of it, whatever the warden is.
use denote.Param.Send.{IsSend, IsSync, recorded_send, recorded_sync, sendable, struct_send, struct_sync, view_send, view_sync}
use denote.Ref.{NamedLft}
use denote.Struct.Declared.{shape}
use denote.RattleType.{RattleType}
use Rattle.std.proofs.Crossing.{crosses}
use Rattle.std.below.std_heap.proofs.GlobalAllocator.TheSendSync as galloc
use Rattle.std.proofs.alloc.Global.TheSendSync as global
use Rattle.tc_bells.proofs.roll.Roll.TheSendSync as roll
use Rattle.tc_desk.proofs.Sends.{row_send}
use Rattle.tc_desk.specs.declared.wardens.Warden as Warden
use Rattle.tc_shared.proofs.Sends.{core_send, shared_sync}
use Rattle.tc_site.specs.contracts.desks.AgentDesk as desk
use Rattle.tc_site.specs.contracts.desks.AgentDesk.TheInside as inside
use Rattle.tc_site.specs.contracts.kits.DeskKit as kit
use Rattle.tc_site.specs.contracts.kits.DeskKit.TheInside as kit_inside
use Rattle.tc_site.specs.contracts.kits.EndedDesk as ended
use Rattle.tc_site.specs.contracts.kits.EndedDesk.TheInside as ended_inside
use Rattle.tc_site.specs.contracts.sites.Site as site
use Rattle.tc_site.specs.contracts.sites.Site.TheInside as site_inside
use Rattle.tc_term.proofs.name.Name.TheSendSync as name
use Rattle.tc_turn.proofs.pass.Pass.TheSendSync as pass

site_inside_sync : (W : RattleType) (g : Warden.Ghosts W.Denot) → IsSync W → IsSync (site_inside.the_row W g)
site_inside_sync W g warden =
    let T = site_inside.the_type W g in
    recorded_sync (site_inside.the_field W g).row _ _ T.to_one
    (struct_sync (shape T) (
      (search (crosses, name.the_sync, sendable) depth 60),
      (search (crosses, shared_sync, sendable) depth 60, (search (crosses, sendable) depth 60, (warden, (search (crosses, roll.the_send, roll.the_sync, global.the_send, galloc.the_frees, sendable) depth 60, tt)))),
    ))

pub site_sync : (W : RattleType) (g : Warden.Ghosts W.Denot) → IsSync W → IsSync (site.the_row W g)
site_sync W g warden = view_sync (site_inside.the_row W g) _ _ _ _ (site_inside_sync W g warden)

inside_send : (κ : NamedLft) (W : RattleType) (g : Warden.Ghosts W.Denot) → IsSync W → IsSend (inside.the_row κ W g)
inside_send κ W g warden =
    let T = inside.the_type κ W g in
    let shared = site_sync W g warden in
    recorded_send (inside.the_field κ W g).row _ _ T.to_one
    (struct_send (shape T) (
      search (shared, sendable),
      (search sendable, (search (crosses, pass.the_send, core_send, sendable) depth 60, (search (crosses, row_send, sendable) depth 60, (search sendable depth 60, (search sendable depth 60, tt))))),
    ))

pub desk_send : (κ : NamedLft) (W : RattleType) (g : Warden.Ghosts W.Denot) → IsSync W → IsSend (desk.the_row κ W g)
desk_send κ W g warden = view_send (inside.the_row κ W g) _ _ _ _ (inside_send κ W g warden)

kit_inside_send : (W : RattleType) (g : Warden.Ghosts W.Denot) → IsSend (kit_inside.the_row W g)
kit_inside_send W g =
    let T = kit_inside.the_type W g in
    recorded_send (kit_inside.the_field W g).row _ _ T.to_one
    (struct_send (shape T) (
      search (crosses, sendable) depth 60,
      (search sendable, (search (crosses, pass.the_send, core_send, sendable) depth 60, tt)),
    ))

pub kit_send : (W : RattleType) (g : Warden.Ghosts W.Denot) → IsSend (kit.the_row W g)
kit_send W g = view_send (kit_inside.the_row W g) _ _ _ _ (kit_inside_send W g)

ended_inside_send : (W : RattleType) (g : Warden.Ghosts W.Denot) → IsSend (ended_inside.the_row W g)
ended_inside_send W g =
    let T = ended_inside.the_type W g in
    recorded_send (ended_inside.the_field W g).row _ _ T.to_one
    (struct_send (shape T) (
      search (crosses, sendable) depth 60,
      (search sendable, (search (crosses, pass.the_send, core_send, sendable) depth 60, (search (crosses, row_send, sendable) depth 60, tt))),
    ))

pub ended_send : (W : RattleType) (g : Warden.Ghosts W.Denot) → IsSend (ended.the_row W g)
ended_send W g = view_send (ended_inside.the_row W g) _ _ _ _ (ended_inside_send W g)
