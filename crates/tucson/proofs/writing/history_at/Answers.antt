use Rattle.std.proofs.Common.{◌∙◌, ◌<◌, ◌≤◌, ℕ, List, All, Some, length, subst, sym, ap, rules}
use Rattle.tc_model.specs.Calls.{id_of}
use Rattle.tc_model.specs.declared.entries.Entry.{Entry}
use Rattle.tc_config.specs.Configurations.{agent_names}
use Rattle.tc_histtext.proofs.Agents.{ours-run}
use Rattle.tucson.proofs.Histories.{names_at, history_opened, history_unopened}
use Rattle.tucson.proofs.writing.history_at.Goals as goal

pub returns-in-Some-clause-agents : goal.returns-in-Some-clause-agents
returns-in-Some-clause-agents c =
    let there : c.args.place < length c.args.cores.now = search rules in
    c.agents.ensures ∙ names_at c.args.plan.now c.args.cores.now c.args.place c.in-Some.core.now c.requires.cores c.requires.none there (c.in-Some.ensures.lookup.1)

pub returns-in-Some-clause-history : goal.returns-in-Some-clause-history
returns-in-Some-clause-history c =
    let there : c.args.place < length c.args.cores.now = search rules in
    history_opened c.args.plan.now.centres c.args.cores.now c.args.place c.in-Some.core.now c.requires.place there c.in-Some.ensures.lookup.1
    ∙ ap Some (sym c.history.ensures.history)

pub returns-in-Some-clause-run : goal.returns-in-Some-clause-run
returns-in-Some-clause-run c =
    let there : c.args.place < length c.args.cores.now = search rules in
    let core = c.in-Some.core.now in
    let names = names_at c.args.plan.now c.args.cores.now c.args.place core c.requires.cores c.requires.none there c.in-Some.ensures.lookup.1 in
    let ours = ours-run core.origin core.history c.history.ensures.run in
    subst (λ (h : List Entry). All (λ e. (id_of e).agent < length (agent_names c.args.plan.now)) h) (sym c.history.ensures.history)
    (subst (λ (agents : List (List ℕ)). All (λ e. (id_of e).agent < length agents) core.history) names ours)

pub returns-in-None-clause-history : goal.returns-in-None-clause-history
returns-in-None-clause-history c =
    let none : length c.args.cores.now ≤ c.args.place = search rules in
    history_unopened c.args.plan.now.centres c.args.cores.now c.args.place c.requires.place none
