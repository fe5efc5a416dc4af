-- Threads may share the lines of a history or of a log.
use denote.Param.Send.{IsSync}
use Rattle.tc_desk.specs.contracts.rows.LogResult.{the_field as result_field}
use Rattle.tc_desk.specs.contracts.rows.LogRow.{the_row as row}
use Rattle.tc_model.proofs.calls.CallId.TheSendSync as callid
use Rattle.tc_model.proofs.events.Context.TheSendSync as context
use Rattle.tc_model.proofs.events.EventOp.TheSendSync as eventop
use Rattle.tc_model.proofs.events.Phase.TheSendSync as phase
use Rattle.tc_model.proofs.events.Sign.TheSendSync as sign
use Rattle.tc_model.specs.contracts.asks.Ask.{the_row as ask}
use Rattle.tc_model.specs.contracts.calls.Op.{the_field as op_field}
use Rattle.tc_model.specs.contracts.entries.Entry.{the_row as entry}
use Rattle.tc_model.specs.contracts.goals.Goal.{the_row as goal}
use Rattle.tc_model.specs.contracts.items.Effect.{the_row as effect}
use Rattle.tc_model.specs.contracts.items.Item.{the_row as item}
use Rattle.tc_model.specs.contracts.outcomes.Outcome.{the_field as outcome_field}
use Rattle.tc_model.specs.contracts.outcomes.Reply.{the_row as reply, the_field as reply_field}
use Rattle.tc_model.specs.contracts.reactions.Clauses.{the_row as clauses}
use Rattle.tc_model.specs.contracts.reactions.Reaction.{the_row as reaction}
use Rattle.tc_term.proofs.Sends.{of_terms, ground_sync, pattern_sync}
use Rattle.tc_term.proofs.comparison.Cmp.TheSendSync as cmp
use Rattle.tc_term.specs.contracts.terms.Term.{the_field as term_field}

term_field_sync : IsSync term_field.row
term_field_sync = search of_terms depth 60

-- what the searches below know from the start
ruleset of_events = (
  of_terms,
  callid.the_sync,
  callid.the_field_sync,
  phase.the_field_sync,
  eventop.the_field_sync,
  context.the_sync,
  sign.the_field_sync,
  cmp.the_field_sync,
)

goal_sync : IsSync goal
goal_sync = search (of_events, term_field_sync) depth 60

reaction_sync : IsSync reaction
reaction_sync = search (of_events, term_field_sync, goal_sync) depth 60

clauses_sync : IsSync clauses
clauses_sync = search (of_events, reaction_sync) depth 60

op_field_sync : IsSync op_field.row
op_field_sync = search (of_events, ground_sync, pattern_sync, clauses_sync) depth 60

effect_sync : IsSync effect
effect_sync = search (of_events, ground_sync) depth 60

item_sync : IsSync item
item_sync = search (of_events, effect_sync) depth 60

outcome_field_sync : IsSync outcome_field.row
outcome_field_sync = search (of_events, ground_sync) depth 60

reply_sync : IsSync reply
reply_sync = search (of_events, ground_sync) depth 60

reply_field_sync : IsSync reply_field.row
reply_field_sync = search (of_events, ground_sync) depth 60

pub entry_sync : IsSync entry
entry_sync = search (of_events, op_field_sync, item_sync, outcome_field_sync, reply_sync) depth 60

ask_sync : IsSync ask
ask_sync = search (of_terms, term_field_sync) depth 60

result_field_sync : IsSync result_field.row
result_field_sync = search (of_terms, reply_sync, reply_field_sync) depth 60

pub row_sync : IsSync row
row_sync = search (of_terms, ask_sync, result_field_sync) depth 60
