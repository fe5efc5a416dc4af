-- What an actor owns may go to another thread.
use denote.Param.Send.{IsSend, IsSync, recorded_send, sendable, struct_send, view_send}
use denote.Ref.{NamedLft}
use denote.Struct.Declared.{shape}
use denote.RattleType.{RattleType}
use Rattle.std.proofs.Crossing as std
use Rattle.tc_asks.below.tc_unify.proofs.links.Links.TheSendSync as links
use Rattle.tc_asks.below.tc_unify.proofs.log.Log.TheSendSync as log
use Rattle.tc_asks.below.tc_unify.proofs.nodes.Arena.TheSendSync as arena
use Rattle.tc_asks.below.tc_unify.proofs.sizes.Sizes.TheSendSync as sizes
use Rattle.tc_asks.below.tc_unify.proofs.walk.Walk.TheSendSync as walk
use Rattle.tc_asks.below.tc_unify.specs.contracts.store.Store as store
use Rattle.tc_asks.specs.contracts.asker.Asker as asker
use Rattle.tc_asks.specs.contracts.bindings.Bindings as bindings
use Rattle.tc_desk.specs.declared.desks.Desk as Desk
use Rattle.tc_model.specs.contracts.asks.Ask.{the_field as ask_field}
use Rattle.tc_model.specs.contracts.scripts.Script as script
use Rattle.tc_model.specs.contracts.scripts.ScriptItem as item
use Rattle.tc_sched.specs.contracts.actor.Actor as actor
use Rattle.tc_sched.specs.contracts.actor.Actor.TheInside as inside
use Rattle.tc_term.proofs.Sends.{of_terms}
use Rattle.tc_term.proofs.name.Name.TheSendSync as name
use Rattle.tc_term.proofs.terms.Args.TheLaws.TheKnot as knot
use Rattle.tc_term.specs.contracts.terms.Term.{the_field as term_field}

term_field_sync : IsSync term_field.row
term_field_sync = search of_terms depth 60

ask_field_sync : IsSync ask_field.row
ask_field_sync = search (of_terms, term_field_sync) depth 60 fits 20000

item_sync : IsSync item.the_row
item_sync = search (of_terms, ask_field_sync) depth 60 fits 20000

script_sync : IsSync script.the_row
script_sync = search (item_sync, std.crosses, sendable) depth 60 fits 20000

store_send : IsSend store.the_row
store_send =
    search (
      log.the_send,
      links.the_field_send,
      arena.the_field_send,
      sizes.the_field_send,
      walk.the_field_send,
      name.the_send,
      std.crosses,
      knot.crosses,
      sendable,
    ) depth 60 fits 20000

bindings_send : IsSend bindings.the_row
bindings_send = search (store_send, std.crosses, sendable) depth 60 fits 20000

pub asker_send : IsSend asker.the_row
asker_send = search (bindings_send, std.crosses, sendable) depth 60 fits 20000

inside_send : (κ : NamedLft) (D B : RattleType) (g : Desk.Ghosts D.Denot B.Denot) → IsSend D → IsSend (inside.the_row κ D B g)
inside_send κ D B g desk =
    let T = inside.the_type κ D B g in
    recorded_send (inside.the_field κ D B g).row _ _ T.to_one
    (struct_send (shape T) (
      desk,
      (search (std.crosses, sendable), (search (script_sync, std.crosses, sendable) depth 60 fits 20000, (search (asker_send, std.crosses, sendable) depth 60 fits 20000, tt))),
    ))

pub actor_send : (κ : NamedLft) (D B : RattleType) (g : Desk.Ghosts D.Denot B.Denot) → IsSend D → IsSend (actor.the_row κ D B g)
actor_send κ D B g desk = view_send (inside.the_row κ D B g) _ _ _ _ (inside_send κ D B g desk)
