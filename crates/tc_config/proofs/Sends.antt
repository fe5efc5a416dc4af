-- Clauses that are read ahead may go to another thread.
use denote.Param.Send.{IsSend}
use Rattle.tc_config.specs.contracts.forms.Form.{the_row as form}
use Rattle.tc_config.specs.contracts.pieces.Piece.{the_row as piece}
use Rattle.tc_model.specs.contracts.asks.Ask.{the_field as ask_field}
use Rattle.tc_model.specs.contracts.lines.Line.{the_row as line}
use Rattle.tc_term.proofs.Sends.{of_terms, term_field_send}

ask_field_send : IsSend ask_field.row
ask_field_send = search (of_terms, term_field_send) depth 60 fits 20000

line_send : IsSend line
line_send = search (of_terms, ask_field_send) depth 60 fits 20000

form_send : IsSend form
form_send = search (of_terms, term_field_send, line_send) depth 60 fits 20000

pub piece_send : IsSend piece
piece_send = search (of_terms, form_send) depth 60 fits 20000
