use Rattle.std.proofs.Common.{◌≡◌, ◌≢◌, AllPairs, ℕ, IfErr, IfOk, map, sym, ap, subst, ◌∙◌}
use Rattle.tc_config.specs.Configurations.{agent_names, centre_names}
use Rattle.tc_config.specs.declared.configs.AgentConf.{AgentConf}
use Rattle.tc_config.specs.declared.configs.CentreConf.{CentreConf}
use Rattle.tc_histtext.specs.Answers.{IsTextFault, IsThisLine, IsWant}
use Rattle.tc_histtext.specs.ReadTexts.{IsFirstFault, IsText}
use Rattle.tc_histtext.specs.declared.read_texts.Text.{Text}
use Rattle.tc_verify.proofs.Named.{along}
use Rattle.tc_verify.proofs.texts.read_text_of.Goals as goal

pub read_text-requires : goal.read_text-requires
read_text-requires c =
    let agents : c.deref-2.result.now ≡ agent_names c.args.config.now =
    c.deref-2.ensures.value ∙ (c.in_ok-agents.ensures ∙ ap (λ l. map (λ (a : AgentConf). a.name) l) c.agents.ensures.agents) in
    record { differ = subst (AllPairs ◌≢◌) (sym agents) c.agents.ensures.config.agents_differ }

centres : (c : goal.After-drop-centres-2) → c.deref.result.now ≡ centre_names c.args.config.now
centres c = c.deref.ensures.value ∙ (c.in_ok-centres.ensures ∙ ap (λ l. map (λ (s : CentreConf). s.name) l) c.centres.ensures.centres)

agents : (c : goal.After-drop-centres-2) → c.deref-2.result.now ≡ agent_names c.args.config.now
agents c = c.deref-2.ensures.value ∙ (c.in_ok-agents.ensures ∙ ap (λ l. map (λ (a : AgentConf). a.name) l) c.agents.ensures.agents)

pub returns-clause-text : goal.returns-clause-text
returns-clause-text c =
    along (λ cs fs. IfOk c.read_text.result (λ t. IsText cs fs t c.args.text.now)) c.deref.result.now (centre_names c.args.config.now) c.deref-2.result.now (agent_names c.args.config.now)
    (centres c) (agents c) c.read_text.ensures.text

pub returns-clause-fault : goal.returns-clause-fault
returns-clause-fault c =
    along (λ cs fs. IfErr c.read_text.result (IsTextFault cs fs c.args.text.now)) c.deref.result.now (centre_names c.args.config.now) c.deref-2.result.now (agent_names c.args.config.now)
    (centres c) (agents c) c.read_text.ensures.fault

pub returns-clause-whole : goal.returns-clause-whole
returns-clause-whole c =
    along (λ cs fs. (t : Text) → IsText cs fs t c.args.text.now → IfErr c.read_text.result IsWant) c.deref.result.now (centre_names c.args.config.now) c.deref-2.result.now (agent_names c.args.config.now)
    (centres c) (agents c) c.read_text.ensures.whole

pub returns-clause-same : goal.returns-clause-same
returns-clause-same c =
    along (λ cs fs. (t : Text) → IsText cs fs t c.args.text.now → IfOk c.read_text.result (λ r. r ≡ t)) c.deref.result.now (centre_names c.args.config.now) c.deref-2.result.now (agent_names c.args.config.now)
    (centres c) (agents c) c.read_text.ensures.same

pub returns-clause-first : goal.returns-clause-first
returns-clause-first c =
    along (λ cs fs. (k : ℕ) → IsFirstFault cs fs c.args.text.now k → IfErr c.read_text.result (IsThisLine k)) c.deref.result.now (centre_names c.args.config.now) c.deref-2.result.now (agent_names c.args.config.now)
    (centres c) (agents c) c.read_text.ensures.first

pub returns-clause-refused : goal.returns-clause-refused
returns-clause-refused c =
    along (λ cs fs. (k : ℕ) → IsFirstFault cs fs c.args.text.now k → IfOk c.read_text.result (λ r. ⊥)) c.deref.result.now (centre_names c.args.config.now) c.deref-2.result.now (agent_names c.args.config.now)
    (centres c) (agents c) c.read_text.ensures.refused
