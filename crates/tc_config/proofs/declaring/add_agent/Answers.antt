use Rattle.std.proofs.Common.{◌++◌, ◌∷◌, [], ap, subst, sym, ◌∙◌, rules, arith}
use Rattle.tc_lists.proofs.Options.{none_from_is_some}
use Rattle.tc_model.specs.State.{IsName}
use Rattle.tc_config.specs.Configurations.{configuration}
use Rattle.tc_config.proofs.Declarations.{draft-agent, known_by, pushed-agent}
use Rattle.tc_config.proofs.declaring.add_agent.Goals as goal

pub returns-clause-added : goal.returns-clause-added
returns-clause-added c =
    let d = c.args.draft.now in
    let grown =
    pushed-agent d.agents.items c.push.new.list.items c.args.name c.in-Some.role c.empty.result c.empty.ensures
    c.in_ok-push.ensures in
    record {
      right = search rules;
      makes = (
        c.in-Some.role,
        known_by d.known_roles d.role_names.items c.args.role c.in-Some.role c.requires.draft.roles
            (sym c.place.ensures ∙ c.in-Some.is),
        ap (λ xs. configuration d.centres.items d.role_names.items d.roles xs) grown,
      );
      draft =
          draft-agent d c.push.new.list c.add.new.self c.args.name c.args.role c.in-Some.role c.requires.draft
          (subst IsName c.bytes.ensures c.tell_name.ensures) (sym c.place.ensures ∙ c.in-Some.is)
          (sym c.place-2.ensures ∙ none_from_is_some c.place-2.result (sym c.is_some.ensures ∙ c.if-is_some.false))
          (omega arith) (c.in_ok-add.ensures.added ∙ ap (λ n. d.known_agents ++ n ∷ []) c.in_ok-known.ensures) grown;
    }
