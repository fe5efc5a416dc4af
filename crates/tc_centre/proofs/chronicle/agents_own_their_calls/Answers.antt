use Rattle.tc_centre.proofs.Owned.{owned-calls}
use Rattle.tc_centre.proofs.chronicle.agents_own_their_calls.Goals as goal

pub returns : goal.returns
returns c = owned-calls
