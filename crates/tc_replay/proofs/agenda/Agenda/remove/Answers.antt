use Rattle.std.proofs.Common.{◌≡◌, List, set, refl, subst, ◌∙◌}
use Rattle.std.specs.List.{flat_map}
use Rattle.tc_model.specs.Triggers.{Member}
use Rattle.tc_model.specs.Cascades.{without}
use Rattle.tc_replay.proofs.Agendas.{lies-without}
use Rattle.tc_replay.proofs.agenda.Agenda.remove.Goals as goal

pub returns : goal.returns
returns c =
    let same : List Member → List Member = λ ms. ms in
    let groups = c.self.inside.groups.items in
    let after = c.remove.new.self in
    subst (λ (ms : List Member). flat_map same c.drop_spent.new.parts.items ≡ without c.args.place ms) c.self.view_is
    (c.drop_spent.ensures
    ∙ lies-without same groups c.args.place c.in-Some.at c.in-Some.offset c.in-Some.ensures.some c.index_mut.result.now after
    (set groups c.in-Some.at after) c.index_mut.ensures.value c.remove.ensures refl)
