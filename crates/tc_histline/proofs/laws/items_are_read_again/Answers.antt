use Rattle.tc_histline.proofs.ReadItems.{item_at-again, item_at-takes}
use Rattle.tc_histline.proofs.laws.items_are_read_again.Goals as goal

pub returns-clause-item : goal.returns-clause-item
returns-clause-item c = item_at-takes

pub returns-clause-again : goal.returns-clause-again
returns-clause-again c = item_at-again
