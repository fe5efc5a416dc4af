use Rattle.std.proofs.Common.{◌++◌, ◌∷◌, [], ap, subst, sym, ◌∙◌, rules, arith}
use Rattle.tc_lists.proofs.Options.{none_from_is_some}
use Rattle.tc_model.specs.State.{IsName}
use Rattle.tc_config.specs.Configurations.{configuration}
use Rattle.tc_config.proofs.Declarations.{draft-centre, pushed-centre}
use Rattle.tc_config.proofs.declaring.add_centre.Goals as goal

pub returns-clause-added : goal.returns-clause-added
returns-clause-added c =
    let d = c.args.draft.now in
    let grown =
    pushed-centre d.centres.items c.push.new.list.items c.args.name c.args.budget c.unwrap_or.result c.new.result
    c.empty.result c.unwrap_or.ensures c.new.ensures c.empty.ensures c.in_ok-push.ensures in
    record {
      right = search rules;
      makes = ap (λ xs. configuration xs d.role_names.items d.roles d.agents.items) grown;
      draft =
          draft-centre d c.push.new.list c.add.new.self c.args.name c.args.budget c.requires.draft
          (subst IsName c.bytes.ensures c.tell_name.ensures) c.requires.budget
          (sym c.place.ensures ∙ none_from_is_some c.place.result (sym c.is_some.ensures ∙ c.if-is_some.false))
          (omega arith) (c.in_ok-add.ensures.added ∙ ap (λ n. d.known_centres ++ n ∷ []) c.in_ok-known.ensures) grown;
    }
