-- Rows of logs may go to another thread.
use denote.Param.Send.{IsSend}
use Rattle.tc_desk.specs.contracts.rows.LogResult.{the_field as result_field}
use Rattle.tc_desk.specs.contracts.rows.LogRow as row
use Rattle.tc_model.specs.contracts.asks.Ask.{the_row as ask}
use Rattle.tc_model.specs.contracts.outcomes.Reply.{the_row as reply, the_field as reply_field}
use Rattle.tc_term.proofs.Sends.{of_terms, ground_send, term_field_send}

ask_send : IsSend ask
ask_send = search (of_terms, term_field_send) depth 60 fits 20000

reply_send : IsSend reply
reply_send = search (of_terms, ground_send) depth 60 fits 20000

reply_field_send : IsSend reply_field.row
reply_field_send = search (of_terms, ground_send) depth 60 fits 20000

result_field_send : IsSend result_field.row
result_field_send = search (of_terms, reply_send, reply_field_send) depth 60 fits 20000

pub row_send : IsSend row.the_row
row_send = search (of_terms, ask_send, result_field_send) depth 60 fits 20000
