use Rattle.std.proofs.Common.{List, set, get_or, ap, ◌∙◌}
use Rattle.std.proofs.lemmas.Result.{on_ok_weaker}
use Rattle.tc_term.specs.Tree.{Tree}
use Rattle.tc_config.specs.Meanings.{with_tuple}
use Rattle.tc_config.proofs.Changed.{changed-set}
use Rattle.tc_config.specs.declared.configs.CentreConf.{CentreConf}
use Rattle.tc_config.proofs.filling.append_tuple.Goals as goal

pub returns : goal.returns
returns c =
    let s : CentreConf = get_or c.args.centres.now c.args.place c.index-centres-place.result in
    on_ok_weaker c.append.result (λ grown.
    ap (λ (tuples : List Tree). set c.args.centres.now c.args.place (record s { tuples = tuples })) grown
    ∙ changed-set (with_tuple c.args.tuple) c.args.centres.now c.args.place c.index-centres-place.result c.requires)
    c.append.ensures
