use Rattle.std.proofs.Common.{List, set, get_or, ap, ◌∙◌}
use Rattle.std.proofs.lemmas.Result.{on_ok_weaker}
use Rattle.tc_model.specs.Scripts.{Lines}
use Rattle.tc_config.specs.Meanings.{with_script}
use Rattle.tc_config.proofs.Changed.{changed-set}
use Rattle.tc_config.specs.declared.configs.AgentConf.{AgentConf}
use Rattle.tc_config.proofs.filling.append_script.Goals as goal

pub returns : goal.returns
returns c =
    let a : AgentConf = get_or c.args.agents.now c.args.place c.index-agents-place.result in
    on_ok_weaker c.append.result (λ grown.
    ap (λ (scripts : List Lines). set c.args.agents.now c.args.place (record a { scripts = scripts })) grown
    ∙ changed-set (with_script c.args.script.vars c.args.script.items) c.args.agents.now c.args.place
    c.index-agents-place.result c.requires)
    c.append.ensures
