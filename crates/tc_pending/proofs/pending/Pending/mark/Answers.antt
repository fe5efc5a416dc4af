use Rattle.std.proofs.Common.{◌==◌, ◌∷◌, [], ◌++◌, not, ap, sym, ◌∙◌}
use Rattle.tc_pending.specs.Changes.{AreFiled}
use Rattle.tc_pending.specs.Codes.{codes_of}
use Rattle.tc_pending.specs.Waiting.{marked_requests}
use Rattle.tc_pending.proofs.Filed.{IsFiled-at, AreFiled-now, AreFiled-filed}
use Rattle.tc_pending.proofs.Log.{waiting, IsLog-marked, saved-marked}
use Rattle.tc_pending.proofs.pending.Pending.mark.Goals as goal
use Rattle.tc_pending.proofs.pending.Pending.mark.Goals.{After-file}

filed : (c : After-file)
    → AreFiled c.file.new.index c.file.new.filed c.self.inside.absences c.self.inside.requests.items c.self.inside.serials.items c.self.inside.changes.items
filed c =
    let p = c.self.inside in
    AreFiled-filed p.index p.filed p.absences p.requests.items p.serials.items p.changes.items c.self.invariant.filed
    c.file.new.index c.file.new.filed p.marks.items (not c.is_empty-is_marked.result) c.self.invariant.log
    (ap not (c.is_empty-is_marked.ensures ∙ ap (λ n. n == 0) p.marks.ok.0)) c.file.ensures.marked
    (IsFiled-at c.file.new.index c.file.new.filed c.deref.result.now (codes_of p.requests.items) c.deref-2.result.now p.serials.items
    (sym (c.deref.ensures.value ∙ c.self.invariant.coded)) (sym c.deref-2.ensures.value) c.file.ensures.filed)

pub file-requires : goal.file-requires
file-requires c =
    let p = c.self.inside in
    record {
      filed = IsFiled-at p.index p.filed (codes_of p.requests.items) c.deref.result.now p.serials.items c.deref-2.result.now
          (c.deref.ensures.value ∙ c.self.invariant.coded) c.deref-2.ensures.value
          (AreFiled-now p.index p.filed p.absences p.requests.items p.serials.items p.changes.items c.self.invariant.filed).filed_is;
    }

pub invariant_of-self-2 : goal.invariant_of-self-2
invariant_of-self-2 c = record {
  log = IsLog-marked c.self.inside.requests.items c.self.inside.changes.items c.self.inside.marks.items
      c.push.new.self.items c.self.invariant.log
      (c.in_ok-push.ensures.items ∙ ap (λ n. c.self.inside.marks.items ++ n ∷ []) (c.len.ensures ∙ c.self.inside.changes.ok.0));
  coded = c.self.invariant.coded;
  filed = filed (goal.at.invariant_of-self-2 c).After-file;
  list_room = c.self.invariant.list_room;
  codes_room = c.self.invariant.codes_room;
  serials_room = c.self.invariant.serials_room;
  log_room = c.self.invariant.log_room;
}

pub returns-clause-marked : goal.returns-clause-marked
returns-clause-marked c =
    ap (waiting c.self.inside.requests.items)
    (saved-marked c.self.inside.requests.items c.self.inside.changes.items c.self.inside.marks.items c.push.new.self.items
    (c.in_ok-push.ensures.items ∙ ap (λ n. c.self.inside.marks.items ++ n ∷ []) (c.len.ensures ∙ c.self.inside.changes.ok.0)))
    ∙ ap marked_requests c.self.view_is
