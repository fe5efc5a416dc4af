use Rattle.std.proofs.Common.{◌++◌, ◌∷◌, [], ap, subst, sym, ◌∙◌, rules, arith}
use Rattle.tc_lists.proofs.Options.{none_from_is_some}
use Rattle.tc_model.specs.State.{IsName}
use Rattle.tc_config.specs.Configurations.{configuration}
use Rattle.tc_config.proofs.Declarations.{draft-role}
use Rattle.tc_config.proofs.declaring.add_role.Goals as goal

pub returns-clause-added : goal.returns-clause-added
returns-clause-added c =
    let d = c.args.draft.now in
    record {
      right = search rules;
      makes = ap (λ names. configuration d.centres.items names d.roles d.agents.items) c.in_ok-push.ensures;
      draft =
          draft-role d c.push.new.list c.add.new.self c.args.name c.requires.draft
          (subst IsName c.bytes.ensures c.tell_name.ensures)
          (sym c.place.ensures ∙ none_from_is_some c.place.result (sym c.is_some.ensures ∙ c.if-is_some.false))
          (omega arith) (c.in_ok-add.ensures.added ∙ ap (λ n. d.known_roles ++ n ∷ []) c.in_ok-known.ensures) c.in_ok-push.ensures;
    }
