use Rattle.std.proofs.Common.{sym, ap, ◌∙◌, length}
use Rattle.std.proofs.lemmas.List.{length-map}
use Rattle.tc_config.specs.Good.{origin_of}
use Rattle.tc_config.specs.declared.configs.AgentConf.{AgentConf}
use Rattle.tc_rows.proofs.index.centre_index.Goals as goal

pub replies_in-requires : goal.replies_in-requires
replies_in-requires c = record {
  origin = origin_of c.args.config.now c.args.centre.now;
  many = length-map c.args.config.now.agents (λ (a : AgentConf). a.name) ∙ ap length (sym c.agents-agents.ensures.agents);
  run = c.requires.run;
}

pub made_in-requires : goal.made_in-requires
made_in-requires c = record {
  origin = origin_of c.args.config.now c.args.centre.now;
  many = length-map c.args.config.now.agents (λ (a : AgentConf). a.name) ∙ ap length (sym c.agents-agents.ensures.agents);
  run = c.requires.run;
}
