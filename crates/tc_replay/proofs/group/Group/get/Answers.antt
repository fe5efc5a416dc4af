use Rattle.std.proofs.Common.{◌≡◌, List, slice_get, Some, subst}
use Rattle.tc_model.specs.Triggers.{Member}
use Rattle.tc_replay.specs.Agendas.{members_of}
use Rattle.tc_replay.proofs.Agendas.{batch-member, lies-member, lies-number}
use Rattle.tc_replay.proofs.group.Group.get.Goals as goal

pub returns-clause-some : goal.returns-clause-some
returns-clause-some c =
    let bs = c.self.inside.batches.items in
    let b = c.index-batch.result.now in
    let n = c.index.result.now in
    let m : Member = record { clause = n; event = b.event } in
    let at = c.in_ok-at.at in
    let offset = c.in_ok-at.offset in
    let lies = c.in_ok-at.ensures.some in
    subst (λ (ms : List Member). slice_get ms c.args.place ≡ Some m) c.self.view_is
    (lies-member members_of bs c.args.place at offset lies b m c.index-batch.ensures
    (batch-member b offset n (lies-number bs c.args.place at offset lies b c.index-batch.ensures) c.index.ensures))
