-- Which parts of a centre may go to another thread.
use denote.Param.Send.{IsSend, IsSync, sendable}
use Rattle.std.proofs.Crossing.{crosses}
use Rattle.tc_term.proofs.Sends.{of_terms, args_send, term_send, term_field_send, ground_send, pattern_send}
use Rattle.tc_model.proofs.calls.CallId.TheSendSync as callid
use Rattle.tc_model.proofs.events.Phase.TheSendSync as phase
use Rattle.tc_model.proofs.events.EventOp.TheSendSync as eventop
use Rattle.tc_model.proofs.events.Context.TheSendSync as context
use Rattle.tc_model.proofs.events.Sign.TheSendSync as sign
use Rattle.tc_term.proofs.comparison.Cmp.TheSendSync as cmp
use Rattle.std.proofs.alloc.Global.TheSendSync as global
use Rattle.std.below.std_heap.proofs.GlobalAllocator.TheSendSync as galloc
use Rattle.tc_bag.proofs.index.Index.TheSendSync as bagindex
use Rattle.tc_bag.proofs.slots.Mark.TheSendSync as bagmark
use Rattle.tc_bag.specs.contracts.slots.Place.{the_row as place, the_field as place_field}
use Rattle.tc_bag.specs.contracts.places.Places.{the_row as places}
use Rattle.tc_bag.specs.contracts.rows.Rows.{the_row as rows}
use Rattle.tc_bag.specs.contracts.held.Held.{the_row as held}
use Rattle.slab.proofs.Slab.TheSendSync as slab
use Rattle.slab.proofs.Entry.TheSendSync as slabentry
use Rattle.tc_bag.specs.contracts.bag.Bag.{the_row as bag}
use Rattle.tc_unify.proofs.links.Links.TheSendSync as links
use Rattle.tc_unify.proofs.nodes.Arena.TheSendSync as arena
use Rattle.tc_unify.proofs.walk.Walk.TheSendSync as walk
use Rattle.tc_unify.proofs.log.Log.TheSendSync as log
use Rattle.tc_unify.proofs.sizes.Sizes.TheSendSync as sizes
use Rattle.tc_unify.specs.contracts.sizes.Added.{the_row as added, the_field as added_field}
use Rattle.tc_unify.specs.contracts.state.Solving.{the_row as solving, the_field as solving_field}
use Rattle.tc_pending.proofs.index.Index.TheSendSync as pendingindex
use Rattle.tc_pending.specs.contracts.changes.Change.{the_row as change, the_field as change_field}
use Rattle.tc_pending.specs.contracts.pending.Pending.{the_row as pending}
use Rattle.tc_spec.proofs.spec.Index.TheSendSync as specindex
use Rattle.tc_spec.specs.contracts.spec.Spec.{the_row as spec}
use Rattle.tc_centre.specs.contracts.founding.Founding.{the_row as founding, the_field as founding_field}
use Rattle.tc_centre.specs.contracts.holdings.Holdings.{the_row as holdings, the_field as holdings_field}
use Rattle.tc_centre.specs.contracts.centre.Core.{the_row as core}
use Rattle.tc_unify.specs.contracts.store.Store.{the_row as store}
use Rattle.tc_bells.proofs.bells.Bells.TheSendSync as bells
use Rattle.tc_bells.proofs.roll.Roll.TheSendSync as roll
use Rattle.tc_turn.proofs.turnstile.Turnstile.TheSendSync as turnstile
use Rattle.tc_shared.specs.contracts.centre.SharedCentre.{the_row as shared}
use Rattle.tc_model.specs.contracts.goals.Goal.{the_row as goal, the_field as goal_field}
use Rattle.tc_model.specs.contracts.reactions.Reaction.{the_row as reaction}
use Rattle.tc_model.specs.contracts.reactions.Clauses.{the_row as clauses}
use Rattle.tc_model.specs.contracts.calls.Op.{the_row as op, the_field as op_field}
use Rattle.tc_model.specs.contracts.calls.Request.{the_row as request, the_field as request_field}
use Rattle.tc_model.specs.contracts.items.Effect.{the_row as effect, the_field as effect_field}
use Rattle.tc_model.specs.contracts.items.Item.{the_row as item, the_field as item_field}
use Rattle.tc_model.specs.contracts.outcomes.Outcome.{the_row as outcome, the_field as outcome_field}
use Rattle.tc_model.specs.contracts.outcomes.Reply.{the_row as reply, the_field as reply_field}
use Rattle.tc_model.specs.contracts.entries.Entry.{the_row as entry, the_field as entry_field}

-- what the searches below know from the start
ruleset of_events = (
  of_terms,
  callid.the_send,
  callid.the_field_send,
  phase.the_field_send,
  eventop.the_field_send,
  context.the_send,
  sign.the_field_send,
  cmp.the_field_send,
)

pub goal_send : IsSend goal
goal_send = search (of_events, term_send, term_field_send) depth 60

pub goal_field_send : IsSend goal_field.row
goal_field_send = search (of_events, term_send, term_field_send, goal_send) depth 60

pub reaction_send : IsSend reaction
reaction_send = search (of_events, term_send, term_field_send, goal_send, goal_field_send, ground_send, pattern_send) depth 60

pub clauses_send : IsSend clauses
clauses_send = search (of_events, reaction_send) depth 60

pub op_send : IsSend op
op_send = search (of_events, term_send, term_field_send, ground_send, pattern_send, clauses_send) depth 60

pub op_field_send : IsSend op_field.row
op_field_send = search (of_events, term_send, term_field_send, ground_send, pattern_send, clauses_send, op_send) depth 60

pub request_send : IsSend request
request_send = search (of_events, ground_send, pattern_send) depth 60

pub request_field_send : IsSend request_field.row
request_field_send = search (of_events, ground_send, pattern_send, request_send) depth 60

pub effect_send : IsSend effect
effect_send = search (of_events, ground_send) depth 60

pub effect_field_send : IsSend effect_field.row
effect_field_send = search (of_events, ground_send, effect_send) depth 60

pub item_send : IsSend item
item_send = search (of_events, effect_send, effect_field_send, ground_send) depth 60

pub item_field_send : IsSend item_field.row
item_field_send = search (of_events, effect_send, effect_field_send, ground_send, item_send) depth 60

pub outcome_send : IsSend outcome
outcome_send = search (of_events, ground_send) depth 60

pub outcome_field_send : IsSend outcome_field.row
outcome_field_send = search (of_events, ground_send, outcome_send) depth 60

pub reply_send : IsSend reply
reply_send = search (of_events, ground_send) depth 60

pub reply_field_send : IsSend reply_field.row
reply_field_send = search (of_events, ground_send, reply_send) depth 60

pub entry_send : IsSend entry
entry_send = search (of_events, op_send, op_field_send, item_send, item_field_send, outcome_send, outcome_field_send, reply_send, reply_field_send) depth 60

pub entry_field_send : IsSend entry_field.row
entry_field_send = search (of_events, op_send, op_field_send, item_send, item_field_send, outcome_send, outcome_field_send, reply_send, reply_field_send, entry_send) depth 60

pub place_send : IsSend place
place_send = search (sendable, crosses, ground_send) depth 60

pub place_field_send : IsSend place_field.row
place_field_send = search (sendable, crosses, ground_send) depth 60

pub rows_send : IsSend rows
rows_send = search (sendable, crosses, ground_send, slab.the_send, slabentry.the_send, slabentry.the_field_send, global.the_send, galloc.the_frees) depth 60

pub places_send : IsSend places
places_send = search (sendable, crosses, place_send, place_field_send, rows_send, global.the_send, galloc.the_frees) depth 60

pub held_send : IsSend held
held_send = search (sendable, crosses, places_send, bagindex.the_send, bagindex.the_field_send) depth 60

pub bag_send : IsSend bag
bag_send = search (sendable, crosses, held_send, bagmark.the_field_send) depth 60

ruleset of_heaps = (of_terms, args_send, term_send, term_field_send, global.the_send, galloc.the_frees)

pub added_send : IsSend added
added_send = search (of_heaps, log.the_send) depth 60

pub added_field_send : IsSend added_field.row
added_field_send = search (of_heaps, log.the_send) depth 60

pub solving_send : IsSend solving
solving_send = search (of_heaps, added_send, added_field_send, arena.the_field_send, links.the_field_send, walk.the_field_send, sizes.the_field_send) depth 60

pub solving_field_send : IsSend solving_field.row
solving_field_send = search (of_heaps, added_send, added_field_send, arena.the_field_send, links.the_field_send, walk.the_field_send, sizes.the_field_send) depth 60

pub store_send : IsSend store
store_send = search (of_heaps, solving_send, solving_field_send) depth 60

pub change_send : IsSend change
change_send = search (of_heaps, request_send, request_field_send) depth 60

pub change_field_send : IsSend change_field.row
change_field_send = search (of_heaps, request_send, request_field_send) depth 60

pub pending_send : IsSend pending
pending_send = search (of_heaps, change_send, change_field_send, request_send, request_field_send, pendingindex.the_field_send) depth 60

pub spec_send : IsSend spec
spec_send = search (of_heaps, clauses_send, specindex.the_field_send) depth 60

pub founding_send : IsSend founding
founding_send = search (of_heaps, ground_send, clauses_send) depth 60

pub founding_field_send : IsSend founding_field.row
founding_field_send = search (of_heaps, ground_send, clauses_send) depth 60

pub holdings_send : IsSend holdings
holdings_send = search (of_heaps, founding_send, founding_field_send, spec_send, store_send, bag_send, pending_send, entry_send, entry_field_send) depth 60

pub holdings_field_send : IsSend holdings_field.row
holdings_field_send = search (of_heaps, founding_send, founding_field_send, spec_send, store_send, bag_send, pending_send, entry_send, entry_field_send) depth 60

pub core_send : IsSend core
core_send = search (of_heaps, holdings_send, holdings_field_send) depth 60

pub shared_sync : IsSync shared
shared_sync =
    search (sendable, crosses, turnstile.the_sync, bells.the_sync, roll.the_send, roll.the_sync, global.the_send, galloc.the_frees, core_send, entry_send) depth 60
