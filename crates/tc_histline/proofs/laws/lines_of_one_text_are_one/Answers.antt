use Rattle.tc_histline.proofs.OneLineText.{line-one}
use Rattle.tc_histline.proofs.laws.lines_of_one_text_are_one.Goals as goal

pub returns : goal.returns
returns c = λ v agents l m rest more differ is other same. line-one v agents differ l m rest more is other same
