use Rattle.std.proofs.Common.{List, set, get_or, ap, ◌∙◌}
use Rattle.std.proofs.lemmas.Result.{on_ok_weaker}
use Rattle.tc_model.specs.Reactions.{Rule}
use Rattle.tc_config.specs.Meanings.{with_clause}
use Rattle.tc_config.proofs.Changed.{changed-set}
use Rattle.tc_config.specs.declared.configs.CentreConf.{CentreConf}
use Rattle.tc_config.proofs.filling.append_clause.Goals as goal

pub returns : goal.returns
returns c =
    let s : CentreConf = get_or c.args.centres.now c.args.place c.index-centres-place.result in
    on_ok_weaker c.push.result (λ grown.
    ap (λ (clauses : List Rule). set c.args.centres.now c.args.place (record s { clauses = clauses })) grown
    ∙ changed-set (with_clause c.args.reaction) c.args.centres.now c.args.place c.index-centres-place.result c.requires.place)
    c.push.ensures.ok
