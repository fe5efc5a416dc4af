use Rattle.std.proofs.Common.{◌≡◌, ◌≤◌, List, length, slice_get, Some, subst, arith}
use Rattle.std.proofs.lemmas.Option.{IfSome_then}
use Rattle.tc_lists.proofs.Options.{IfNone-weaker}
use Rattle.tc_model.specs.Triggers.{Member}
use Rattle.tc_replay.proofs.Agendas.{lies-member, lies-inside}
use Rattle.tc_replay.proofs.agenda.Agenda.get.Goals as goal

pub returns-clause-some : goal.returns-clause-some
returns-clause-some c =
    let same : List Member → List Member = λ ms. ms in
    let at = c.in_ok-at.at in
    let offset = c.in_ok-at.offset in
    IfSome_then c.get.result c.get.ensures.some (λ m found.
    subst (λ (ms : List Member). slice_get ms c.args.place ≡ Some (record { clause = m.0; event = m.1.now })) c.self.view_is
    (lies-member same c.self.inside.groups.items c.args.place at offset c.in_ok-at.ensures.some c.index.result.now
    (record { clause = m.0; event = m.1.now }) c.index.ensures found))

pub returns-clause-none : goal.returns-clause-none
returns-clause-none c =
    let same : List Member → List Member = λ ms. ms in
    IfNone-weaker c.get.result (length c.index.result.now ≤ c.in_ok-at.offset) (length c.args.self.now ≤ c.args.place) (λ past. absurd (omega (
      arith,
      past,
      lies-inside same c.self.inside.groups.items c.args.place c.in_ok-at.at c.in_ok-at.offset c.in_ok-at.ensures.some c.index.result.now c.index.ensures,
    )))
    c.get.ensures.none
