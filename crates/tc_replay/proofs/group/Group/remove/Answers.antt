use Rattle.std.proofs.Common.{◌≡◌, List, set, refl, subst, ◌∙◌, arith}
use Rattle.std.specs.List.{flat_map}
use Rattle.tc_model.specs.Triggers.{Member}
use Rattle.tc_model.specs.Cascades.{without}
use Rattle.tc_replay.specs.Agendas.{members_of}
use Rattle.tc_replay.proofs.Agendas.{lies-below, lies-fewer, lies-without-number}
use Rattle.tc_replay.proofs.group.Group.remove.Goals as goal

pub overflow_sub-self : goal.overflow_sub-self
overflow_sub-self c =
    omega (
      arith,
      c.self.invariant,
      lies-below members_of c.self.inside.batches.items c.args.place c.in-Some.at c.in-Some.offset c.in-Some.ensures.some,
    )

pub invariant_of-self : goal.invariant_of-self
invariant_of-self c =
    let b = c.index_mut.result.now in
    let after = record b { numbers = c.remove-number.new.self } in
    let bs = c.self.inside.batches.items in
    lies-fewer members_of bs c.args.place c.in-Some.at c.in-Some.offset c.in-Some.ensures.some c.drop_spent.new.parts.items c.self.inside.count
    c.self.invariant
    (c.drop_spent.ensures
    ∙ lies-without-number bs c.args.place c.in-Some.at c.in-Some.offset c.in-Some.ensures.some b after (set bs c.in-Some.at after)
    c.index_mut.ensures.value refl c.remove-number.ensures.by_index.2 refl)

pub returns : goal.returns
returns c =
    let b = c.index_mut.result.now in
    let after = record b { numbers = c.remove-number.new.self } in
    let bs = c.self.inside.batches.items in
    subst (λ (ms : List Member). flat_map members_of c.drop_spent.new.parts.items ≡ without c.args.place ms) c.self.view_is
    (c.drop_spent.ensures
    ∙ lies-without-number bs c.args.place c.in-Some.at c.in-Some.offset c.in-Some.ensures.some b after (set bs c.in-Some.at after)
    c.index_mut.ensures.value refl c.remove-number.ensures.by_index.2 refl)
