use Rattle.std.proofs.Common.{ℕ, List, ◌∷◌, Option, Some, sym, ap, ◌∙◌}
use Rattle.atomic_table.specs.Table.{rest}
use Rattle.tc_turn.proofs.ticket_lock.TicketLock.take_value.Goals as goal

pub exchange-requires : goal.exchange-requires
exchange-requires g c =
    let held = c.requires.held in
    (c.requires.table, (Some held.0, held.1 ∙ ap (λ (slots : List (ℕ × Option g.row.C.Denot)). (0, Some held.0) ∷ rest slots) (sym held.1)))
