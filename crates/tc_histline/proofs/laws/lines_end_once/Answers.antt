use Rattle.tc_histline.proofs.LineEnds.{line-ends}
use Rattle.tc_histline.proofs.laws.lines_end_once.Goals as goal

pub returns : goal.returns
returns c = line-ends
