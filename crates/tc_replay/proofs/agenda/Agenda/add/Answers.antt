use Rattle.std.proofs.Common.{◌≡◌, ◌<◌, ◌-◌, ◌++◌, List, set, deque_len, refl, subst, arith}
use Rattle.std.specs.List.{flat_map}
use Rattle.std.proofs.lemmas.Result.{on_ok_weaker}
use Rattle.tc_model.specs.Triggers.{Member, members}
use Rattle.tc_replay.proofs.Agendas.{set_last-more}
use Rattle.tc_replay.proofs.agenda.Agenda.add.Goals as goal

pub returns-then-has_room : goal.returns-then-has_room
returns-then-has_room c =
    let same : List Member → List Member = λ ms. ms in
    let groups = c.self.inside.groups in
    let last = deque_len groups - 1 in
    let more = members c.args.event c.args.numbers.items in
    let some : 0 < deque_len groups = c.in-Some.ensures.variant.0 refl in
    on_ok_weaker c.add.result (λ (grown : c.add.new.self ≡ c.in-Some.last.now ++ more).
    subst (λ (ms : List Member). flat_map same (set groups.items last c.add.new.self) ≡ ms ++ more) c.self.view_is
    (set_last-more same groups.items last c.in-Some.last.now c.add.new.self more (omega (arith, some)) c.in-Some.ensures.value grown))
    c.add.ensures
