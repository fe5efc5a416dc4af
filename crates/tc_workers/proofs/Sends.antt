-- A desk of roles may go to another thread.
use denote.Param.Send.{IsSend}
use denote.Ref.{NamedLft}
use Rattle.tc_policy.proofs.roles.Roles.TheSendSync as sendsync
use Rattle.tc_policy.specs.contracts.roles.Roles as roles
use Rattle.tc_policy.specs.contracts.warden.RolesWarden.TheImpl.{ghosts}
use Rattle.tc_site.proofs.Sends.{desk_send}
use Rattle.tc_site.specs.contracts.desks.AgentDesk as desk

pub roles_desk_send : (κ : NamedLft) → IsSend (desk.the_row κ roles.the_row ghosts)
roles_desk_send κ = desk_send κ roles.the_row ghosts sendsync.the_sync
