use Rattle.std.proofs.Common.{◌∙◌, List, ℕ, map, ap, sym, subst}
use Rattle.tc_config.specs.declared.configs.CentreConf.{CentreConf}
use Rattle.tc_desk.specs.Logs.{rows_of}
use Rattle.tc_site.proofs.Configured.{named-cores}
use Rattle.tc_site.specs.Sites.{AllAgree}
use Rattle.test_session_rows.proofs.Closing.{few-logs}
use Rattle.test_session_rows.proofs.desks.close.Goals as goal

pub settle-requires-clause-named : goal.settle-requires-clause-named
settle-requires-clause-named c =
    let config = c.args.config.now in
    named-cores config c.centres.ensures.config c.in_ok-closed.closed.cores.items (c.in_ok-closed.ensures.closed.origins ∙ c.requires.founded.origins)
    c.deref.result.now (c.deref.ensures.value ∙ c.in_ok-names.ensures ∙ ap (map (λ (s : CentreConf). s.name)) c.centres.ensures.centres)

pub settle-requires-clause-few : goal.settle-requires-clause-few
settle-requires-clause-few c =
    few-logs c.args.config.now c.args.site.warden c.args.site c.args.ended.items c.in_ok-closed.closed.logs.items c.centres.ensures.config
    c.requires.founded c.requires.all c.in_ok-closed.ensures.logs

pub settle-requires-clause-agree : goal.settle-requires-clause-agree
settle-requires-clause-agree c =
    let closed = c.in_ok-closed.closed in
    subst (λ (names : List (List ℕ)). AllAgree names closed.cores.items (rows_of closed.logs.items))
    (c.requires.founded.names_are ∙ sym (c.deref.ensures.value ∙ c.in_ok-names.ensures ∙ ap (map (λ (s : CentreConf). s.name)) c.centres.ensures.centres)) c.in_ok-closed.ensures.agree
