use Rattle.tc_rows.specs.Made.{HasNoEntry, IsEntryOf}
use Rattle.tc_rows.proofs.Sounding.{clear-found, entry-never}
use Rattle.tc_rows.proofs.row.is_clear.Goals as goal

pub returns-else-own : goal.returns-else-own
returns-else-own c =
    let h = c.args.history.now in
    let found = clear-found c.entry_of.result (λ e. IsEntryOf c.args.agent c.args.number h e.now) (HasNoEntry c.args.agent c.args.number h)
    c.is_none.result c.is_none.ensures c.entry_of.ensures.some c.entry_of.ensures.none
    (λ e is never. entry-never c.args.agent c.args.number h e.now is never) in
    (λ yes other. found.0 yes, λ clear. found.1 (clear c.if-own.false))
