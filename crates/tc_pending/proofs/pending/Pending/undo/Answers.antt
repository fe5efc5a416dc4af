use Rattle.std.proofs.Common.{subst, arith}
use Rattle.tc_pending.specs.Changes.{saved_at}
use Rattle.tc_lists.specs.Marks.{IsBack}
use Rattle.tc_pending.specs.Waiting.{Waiting}
use Rattle.tc_pending.proofs.Log.{climbs_last, IsLog-undone, waiting-undone}
use Rattle.tc_pending.proofs.Coded.{length-codes}
use Rattle.tc_pending.proofs.Filed.{AreFiled-length, AreFiled-undone}
use Rattle.tc_pending.proofs.pending.Pending.undo.Goals as goal

pub go_back-requires-clause-each : goal.go_back-requires-clause-each
go_back-requires-clause-each c =
    let p = c.self.inside in
    omega (
      arith,
      AreFiled-length p.index p.filed p.absences p.requests.items p.serials.items p.changes.items c.self.invariant.filed,
      p.serials.ok.0,
      p.requests.ok.0,
    )

pub invariant_of-self : goal.invariant_of-self
invariant_of-self c =
    let fewer = c.go_back.ensures.fewer in
    let p = c.self.inside in
    record {
      log = IsLog-undone c.self.inside.requests.items c.self.inside.changes.items c.self.inside.marks.items c.pop.new.self.items
          c.in-Some.count c.self.invariant.log c.in-Some.ensures.items c.go_back.new.requests.items c.go_back.new.changes.items
          c.go_back.ensures.requests c.go_back.ensures.changes;
      coded = c.go_back.ensures.codes;
      filed = AreFiled-undone p.index p.filed p.absences p.requests.items p.serials.items p.changes.items c.self.invariant.filed
          c.go_back.new.requests.items c.go_back.new.serials.items c.go_back.new.changes.items c.in-Some.count
          (climbs_last p.requests.items p.changes.items p.marks.items c.pop.new.self.items c.in-Some.count c.self.invariant.log
          c.in-Some.ensures.items).0
          c.go_back.ensures.requests c.go_back.ensures.serials c.go_back.ensures.changes;
      serials_room = omega (
        arith,
        c.go_back.ensures.each,
        AreFiled-length p.index p.filed p.absences p.requests.items p.serials.items p.changes.items c.self.invariant.filed,
        fewer,
        c.go_back.ensures.serials_capacity,
        c.self.invariant.serials_room,
        c.go_back.new.serials.ok.0,
        c.go_back.new.requests.ok.0,
        c.go_back.new.changes.ok.0,
        p.serials.ok.0,
        p.requests.ok.0,
        p.changes.ok.0,
      );
      list_room = omega arith;
      codes_room = omega (
        arith,
        length-codes c.go_back.new.requests.items c.go_back.new.codes.items c.go_back.ensures.codes,
        length-codes c.self.inside.requests.items c.self.inside.request_codes.items c.self.invariant.coded,
        fewer,
        c.go_back.ensures.codes_capacity,
        c.self.invariant.codes_room,
      );
      log_room = omega arith;
    }

pub returns-in-Some-clause-back : goal.returns-in-Some-clause-back
returns-in-Some-clause-back c =
    let requests = c.go_back.new.requests.items in
    let changes = c.go_back.new.changes.items in
    subst (λ (old : Waiting). IsBack old.saved requests (saved_at c.pop.new.self.items changes requests)) c.self.view_is
    (waiting-undone c.self.inside.requests.items c.self.inside.changes.items c.self.inside.marks.items c.pop.new.self.items
    c.in-Some.count c.self.invariant.log c.in-Some.ensures.items requests changes
    c.go_back.ensures.requests c.go_back.ensures.changes)
