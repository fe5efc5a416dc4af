use Rattle.std.proofs.Common.{ap, refl, sym, ◌∙◌, arith}
use Rattle.std.specs.Vec.{with_items}
use Rattle.tc_config.specs.Configurations.{centre_names, configuration}
use Rattle.tc_config.specs.Drafts.{config_of}
use Rattle.tc_config.specs.Meanings.{changed, with_clause}
use Rattle.tc_config.proofs.Changed.{refilled-changed}
use Rattle.tc_config.proofs.Declarations.{known_by}
use Rattle.tc_config.proofs.Fillings.{draft-centres, right-spec, room_at}
use Rattle.tc_config.proofs.Growth.{config-clause}
use Rattle.tc_config.proofs.filling.add_clause.Goals as goal

pub returns-clause-added : goal.returns-clause-added
returns-clause-added c =
    let d = c.args.draft.now in
    let at =
    known_by d.known_centres (centre_names (config_of d)) c.args.centre c.in-Some.place c.requires.draft.centres
    (sym c.place.ensures ∙ c.in-Some.is) in
    let room =
    room_at d.centres.items c.in-Some.place c.index.result.now c.items.result.now c.items.ensures.items c.index.ensures
    (omega (arith, c.if-items-ge-MOST_CLAUSES.false)) in
    let written = c.in_ok-reaction.ensures.reaction in
    let grown =
    refilled-changed (with_clause c.in_ok-reaction.reaction) d.centres c.append_clause.new.centres c.in-Some.place
    (c.in_ok-append_clause.ensures
    ∙ ap (changed c.in-Some.place (with_clause c.in_ok-reaction.reaction)) c.deref_mut.ensures.value) in
    record {
      right =
          right-spec (config_of d) c.args.centre c.args.reaction c.in_ok-reaction.reaction c.in-Some.place at written room;
      makes = (
        c.in-Some.place,
        c.in_ok-reaction.reaction,
        at,
        written,
        ap (λ xs. configuration xs d.role_names.items d.roles d.agents.items) grown,
      );
      draft =
          draft-centres d (with_items d.centres c.append_clause.new.centres) (with_clause c.in_ok-reaction.reaction) c.in-Some.place c.requires.draft (λ s. refl)
          (config-clause (config_of d) c.in_ok-reaction.reaction c.in-Some.place c.requires.draft.config written.rule room)
          grown;
    }
