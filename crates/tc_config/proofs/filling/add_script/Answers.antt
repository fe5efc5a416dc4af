use Rattle.std.proofs.Common.{◌≡◌, ◌<◌, ◌≤◌, ◌+◌, None, length, ap, subst, sym, ◌∙◌, arith}
use Rattle.std.specs.Vec.{with_items}
use Rattle.tc_model.specs.Scripts.{Lines}
use Rattle.tc_config.specs.Configurations.{agent_names, centre_names, configuration, items_in}
use Rattle.tc_config.specs.Drafts.{config_of}
use Rattle.tc_config.specs.Meanings.{changed, with_script}
use Rattle.tc_names.specs.Names.{place_of}
use Rattle.tc_config.specs.declared.limits.TheConstants.{MOST_ITEMS}
use Rattle.tc_config.proofs.Changed.{refilled-changed}
use Rattle.tc_config.proofs.Declarations.{known_by}
use Rattle.tc_names.proofs.Declared.{place-within}
use Rattle.tc_config.proofs.Fillings.{all-known, centres-there, draft-script, first-agent, first-count, found_items, right-script}
use Rattle.tc_config.proofs.Growth.{config-script}
use Rattle.tc_config.proofs.Items.{length-items, operands-within}
use Rattle.std.proofs.lemmas.List.{length-map}
use Rattle.tc_config.specs.declared.configs.AgentConf.{AgentConf}
use Rattle.tc_config.proofs.filling.add_script.Goals as goal

pub returns-in_default-place-clause-fault : goal.returns-in_default-place-clause-fault
returns-in_default-place-clause-fault c =
    let d = c.args.draft.now in
    let are =
    found_items d.known_centres (centre_names (config_of d)) c.into_vec-lines.result.items c.args.lines c.in_ok-found.found
    c.in-Some.items c.in-Some.is c.in_ok-found.ensures.some c.requires.draft.centres c.into_vec-lines.ensures in
    first-agent (config_of d) c.args.agent c.args.lines (all-known (centre_names (config_of d)) c.args.lines c.in-Some.items.items are)
    (subst (λ names. place_of names c.args.agent ≡ None) c.requires.draft.agents (sym c.place.ensures ∙ c.in_default-place.is))

pub returns-then-count-draft-clause-fault : goal.returns-then-count-draft-clause-fault
returns-then-count-draft-clause-fault c =
    let d = c.args.draft.now in
    let are =
    found_items d.known_centres (centre_names (config_of d)) c.into_vec-lines.result.items c.args.lines c.in_ok-found.found
    c.in-Some.items c.in-Some.is c.in_ok-found.ensures.some c.requires.draft.centres c.into_vec-lines.ensures in
    first-count (config_of d) c.args.agent c.args.lines c.in-Some-place.place
    (all-known (centre_names (config_of d)) c.args.lines c.in-Some.items.items are)
    (known_by d.known_agents (agent_names (config_of d)) c.args.agent c.in-Some-place.place c.requires.draft.agents
    (sym c.place.ensures ∙ c.in-Some-place.is))
    (omega (
      arith,
      c.if-count-draft.true,
      c.len-count.ensures,
      c.into_vec-lines.result.ok.0,
      ap length c.into_vec-lines.ensures,
      c.requires.draft.items,
    ))

pub new-requires : goal.new-requires
new-requires c =
    let d = c.args.draft.now in
    let are =
    found_items d.known_centres (centre_names (config_of d)) c.into_vec-lines.result.items c.args.lines c.in_ok-found.found
    c.in-Some.items c.in-Some.is c.in_ok-found.ensures.some c.requires.draft.centres c.into_vec-lines.ensures in
    operands-within c.args.vars (centre_names (config_of d)) c.args.lines c.in-Some.items.items are c.requires.operands

pub returns-clause-added : goal.returns-clause-added
returns-clause-added c =
    let d = c.args.draft.now in
    let k = c.in-Some-place.place in
    let are =
    found_items d.known_centres (centre_names (config_of d)) c.into_vec-lines.result.items c.args.lines c.in_ok-found.found
    c.in-Some.items c.in-Some.is c.in_ok-found.ensures.some c.requires.draft.centres c.into_vec-lines.ensures in
    let at =
    known_by d.known_agents (agent_names (config_of d)) c.args.agent k c.requires.draft.agents
    (sym c.place.ensures ∙ c.in-Some-place.is) in
    let long : length c.in-Some.items.items ≡ c.len-count.result =
    omega (
      arith,
      length-items (centre_names (config_of d)) c.args.lines c.in-Some.items.items are,
      c.len-count.ensures,
      c.into_vec-lines.result.ok.0,
      ap length c.into_vec-lines.ensures,
    ) in
    let inside : k < length d.agents.items =
    omega (arith, place-within (agent_names (config_of d)) c.args.agent k at, length-map d.agents.items (λ (a : AgentConf). a.name)) in
    let few : items_in (config_of d) + c.len-count.result ≤ MOST_ITEMS =
    omega (arith, c.if-count-draft.false, c.requires.draft.items, c.requires.draft.config.few_items) in
    let grown =
    refilled-changed (with_script c.args.vars c.in-Some.items.items) d.agents c.append_script.new.agents k
    (c.in_ok-append_script.ensures
    ∙ ap (λ (s : Lines). changed k (with_script s.vars s.items) c.deref_mut.result.now) c.new.ensures
    ∙ ap (changed k (with_script c.args.vars c.in-Some.items.items)) c.deref_mut.ensures.value) in
    record {
      right =
          right-script (config_of d) c.args.agent c.args.lines k
          (all-known (centre_names (config_of d)) c.args.lines c.in-Some.items.items are) at
          (omega (arith, few, long, length-items (centre_names (config_of d)) c.args.lines c.in-Some.items.items are));
      makes = (
        k,
        c.in-Some.items.items,
        at,
        are,
        ap (λ xs. configuration d.centres.items d.role_names.items d.roles xs) grown,
      );
      draft =
          draft-script d (with_items d.agents c.append_script.new.agents) c.len-count.result c.args.vars c.in-Some.items.items k c.requires.draft inside long
          (config-script (config_of d) c.args.vars c.in-Some.items.items k c.requires.draft.config inside
          (centres-there (config_of d) c.args.lines c.in-Some.items.items are) (omega (arith, few, long)))
          grown;
    }
