use Rattle.std.proofs.Common.{◌≡◌, ◌∙◌, map, ap}
use Rattle.std.proofs.lemmas.Result.{IfOk-weaker}
use Rattle.tc_config.specs.Configurations.{centre_names}
use Rattle.tc_config.specs.declared.configs.CentreConf.{CentreConf}
use Rattle.tc_site.proofs.Founded.{AreFreshCores-config, IsFounded-cores}
use Rattle.tc_site.proofs.sites.Site.new.Goals as goal

pub of_cores-requires : goal.of_cores-requires
of_cores-requires g c =
    let names : c.in_ok-names.names.items ≡ centre_names c.args.config.now =
    c.in_ok-names.ensures ∙ ap (map (λ (s : CentreConf). s.name)) c.centres.ensures.centres in
    record { fresh = rw names (rw c.in_ok-cores.ensures (rw c.agents.ensures.agents (AreFreshCores-config c.args.config.now c.agents.ensures.config))) }

pub returns-clause-site : goal.returns-clause-site
returns-clause-site g c =
    let names : c.in_ok-names.names.items ≡ centre_names c.args.config.now =
    c.in_ok-names.ensures ∙ ap (map (λ (s : CentreConf). s.name)) c.centres.ensures.centres in
    IfOk-weaker c.of_cores.result _ _
    (λ r. IsFounded-cores c.args.config.now names c.in_ok-cores.ensures c.agents.ensures.agents c.args.warden r.0) c.of_cores.ensures.site
