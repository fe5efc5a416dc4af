use Rattle.std.proofs.Common.{ap, refl, sym, ◌∙◌, rules}
use Rattle.std.specs.Vec.{with_items}
use Rattle.tc_term.specs.TreeView.{tree_of}
use Rattle.tc_config.specs.Configurations.{centre_names, configuration}
use Rattle.tc_config.specs.Drafts.{config_of}
use Rattle.tc_config.specs.Meanings.{changed, with_tuple}
use Rattle.tc_config.proofs.Changed.{refilled-changed}
use Rattle.tc_config.proofs.Declarations.{known_by}
use Rattle.tc_config.proofs.Fillings.{draft-centres}
use Rattle.tc_config.proofs.Growth.{config-tuple}
use Rattle.tc_config.proofs.filling.add_tuple.Goals as goal

pub returns-clause-added : goal.returns-clause-added
returns-clause-added c =
    let d = c.args.draft.now in
    let grown =
    refilled-changed (with_tuple (tree_of c.args.tuple)) d.centres c.append_tuple.new.centres c.in-Some.place
    (c.in_ok-append_tuple.ensures
    ∙ ap (changed c.in-Some.place (with_tuple c.in_ok-tuple.tuple)) c.deref_mut.ensures.value
    ∙ ap (λ t. changed c.in-Some.place (with_tuple t) d.centres.items) c.in_ok-tuple.ensures.tuple.0) in
    record {
      right = search rules;
      makes = (
        c.in-Some.place,
        known_by d.known_centres (centre_names (config_of d)) c.args.centre c.in-Some.place c.requires.draft.centres
            (sym c.place.ensures ∙ c.in-Some.is),
        ap (λ xs. configuration xs d.role_names.items d.roles d.agents.items) grown,
      );
      draft =
          draft-centres d (with_items d.centres c.append_tuple.new.centres) (with_tuple (tree_of c.args.tuple)) c.in-Some.place c.requires.draft (λ s. refl)
          (config-tuple (config_of d) (tree_of c.args.tuple) c.in-Some.place c.requires.draft.config
          c.in_ok-tuple.ensures.tuple.1 c.requires.room.tuples)
          grown;
    }
