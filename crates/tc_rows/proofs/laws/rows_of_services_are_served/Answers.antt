use Rattle.tc_rows.proofs.Leaving.{left-served}
use Rattle.tc_rows.proofs.laws.rows_of_services_are_served.Goals as goal

pub returns : goal.returns
returns c = left-served
