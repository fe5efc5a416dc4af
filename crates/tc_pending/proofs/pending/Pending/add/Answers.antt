use Rattle.std.proofs.Common.{◌≡◌, ◌==◌, ◌∷◌, [], ◌++◌, All, length, ap, sym, subst, ◌∙◌, length-append, arith}
use Rattle.std.proofs.lemmas.List.Elements.{All-push}
use Rattle.tc_lists.proofs.Parts.{take_pushed}
use Rattle.tc_model.specs.State.{WantsTuple}
use Rattle.tc_model.specs.declared.calls.Request.{Request}
use Rattle.tc_pending.specs.declared.changes.Change.TheVariants.{Added}
use Rattle.tc_pending.specs.Changes.{earlier, earlier_serials, saved_at, AreFiled, IsKept, IsLog}
use Rattle.tc_pending.specs.Waiting.{Waiting}
use Rattle.tc_pending.proofs.Log.{same_waiting, IsLog-noted, saved-logged, length-noted}
use Rattle.tc_pending.specs.Codes.{request_code, codes_of}
use Rattle.tc_pending.proofs.Coded.{codes-push}
use Rattle.tc_pending.specs.Rising.{NumbersRise, IsAbove}
use Rattle.tc_pending.proofs.Filed.{IsFiled-at, IsFiled-push, AreFiled-now, AreFiled-noted, AreFiled-weaker}
use Rattle.tc_pending.proofs.pending.Pending.add.Goals as goal
use Rattle.tc_pending.proofs.pending.Pending.add.Goals.{After-note}

module _ (c : After-note) where
  back : earlier Added c.push.new.self.items ≡ c.self.inside.requests.items
  back =
      ap (earlier Added) c.in_ok-push.ensures.items
      ∙ take_pushed c.make_room.new.requests.items c.args.request ∙ c.make_room.ensures.requests

  before : earlier_serials Added c.append-2.new.numbers.items ≡ c.self.inside.serials.items
  before =
      ap (earlier_serials Added) c.append-2.ensures.items
      ∙ take_pushed c.make_room.new.serials.items c.in_ok-serial.serial ∙ c.make_room.ensures.serials

  -- of the requests that there were
  kept : IsKept c.self.inside.index c.self.inside.filed c.self.inside.absences c.self.inside.requests.items c.self.inside.serials.items
  kept =
      let p = c.self.inside in
      AreFiled-now p.index p.filed p.absences p.requests.items p.serials.items p.changes.items c.self.invariant.filed

  more : c.push.new.self.items ≡ c.self.inside.requests.items ++ c.args.request ∷ []
  more = c.in_ok-push.ensures.items ∙ ap (λ rs. rs ++ c.args.request ∷ []) c.make_room.ensures.requests

  now : IsKept c.self.inside.index c.self.inside.filed c.with_absence-absences.result c.push.new.self.items c.append-2.new.numbers.items
  now =
      let p = c.self.inside in
      let r = c.args.request in
      let serial = c.in_ok-serial.serial in
      let above : IsAbove p.serials.items serial =
      subst (λ ns. IsAbove ns serial) (c.deref.ensures.value ∙ c.make_room.ensures.serials) c.in_ok-serial.ensures.above in
      record {
        filed_is = IsFiled-at p.index p.filed (codes_of p.requests.items ++ request_code r ∷ []) (codes_of c.push.new.self.items)
            (p.serials.items ++ serial ∷ []) c.append-2.new.numbers.items
            (ap codes_of more ∙ sym (codes-push p.requests.items r))
            (c.append-2.ensures.items ∙ ap (λ ns. ns ++ serial ∷ []) c.make_room.ensures.serials)
            (IsFiled-push p.index p.filed (codes_of p.requests.items) p.serials.items kept.filed_is (request_code r) serial above
            c.in_ok-serial.ensures.least);
        absences_is = λ never.
            subst (All (λ (q : Request). WantsTuple q.wants)) (sym more)
            (All-push (λ (q : Request). WantsTuple q.wants) p.requests.items r
            (kept.absences_is (c.with_absence-absences.ensures never).0) (c.with_absence-absences.ensures never).1);
      }

  log : IsLog c.self.inside.requests.items c.make_room.new.changes.items c.self.inside.marks.items
  log =
      subst (λ cs. IsLog c.self.inside.requests.items cs c.self.inside.marks.items) (sym c.make_room.ensures.changes)
      c.self.invariant.log

  empty : c.is_empty.result ≡ (length c.self.inside.marks.items == 0)
  empty = c.is_empty.ensures ∙ ap (λ n. n == 0) c.self.inside.marks.ok.0

  filed : AreFiled c.self.inside.index c.self.inside.filed c.with_absence-absences.result c.push.new.self.items c.append-2.new.numbers.items c.note.new.changes.items
  filed =
      let p = c.self.inside in
      let absences = c.with_absence-absences.result in
      AreFiled-noted p.index p.filed absences p.requests.items p.serials.items c.make_room.new.changes.items
      (subst (AreFiled p.index p.filed absences p.requests.items p.serials.items) (sym c.make_room.ensures.changes)
      (AreFiled-weaker p.index p.filed p.absences absences p.requests.items p.serials.items p.changes.items
      (λ never. (c.with_absence-absences.ensures never).0) c.self.invariant.filed))
      c.push.new.self.items c.append-2.new.numbers.items c.note.new.changes.items p.marks.items Added c.is_empty.result
      log empty c.note.ensures.noted back before now

pub number_behind-requires : goal.number_behind-requires
number_behind-requires c =
    let p = c.self.inside in
    subst NumbersRise (sym (c.deref.ensures.value ∙ c.make_room.ensures.serials))
    (AreFiled-now p.index p.filed p.absences p.requests.items p.serials.items p.changes.items c.self.invariant.filed).filed_is.rises

pub invariant_of-self-2 : goal.invariant_of-self-2
invariant_of-self-2 c =
    let requests = c.make_room.new.requests in
    let changes = c.make_room.new.changes in
    let longer = length-noted changes.items c.note.new.changes.items Added c.is_empty.result c.note.ensures.noted in
    let counted = ap length c.in_ok-push.ensures.items in
    record {
      log = IsLog-noted c.self.inside.requests.items c.push.new.self.items changes.items c.note.new.changes.items
          c.self.inside.marks.items Added c.is_empty.result (log c) (empty c) c.note.ensures.noted tt (back c);
      coded = (c.append.ensures.items ∙ ap (λ cs. cs ++ c.request_code-code.result ∷ []) (c.make_room.ensures.codes ∙ c.self.invariant.coded))
          ∙ ap (λ k. codes_of c.self.inside.requests.items ++ k ∷ []) c.request_code-code.ensures
          ∙ codes-push c.self.inside.requests.items c.args.request
          ∙ ap codes_of (sym (c.in_ok-push.ensures.items ∙ ap (λ rs. rs ++ c.args.request ∷ []) c.make_room.ensures.requests));
      filed = filed c;
      serials_room = omega (
        arith,
        longer,
        ap length c.append-2.ensures.items,
        length-append c.make_room.new.serials.items (c.in_ok-serial.serial ∷ []),
        c.append-2.ensures.capacity,
        c.in_ok-make_room.ensures.serials_room,
        c.make_room.new.serials.ok.0,
        changes.ok.0,
      );
      codes_room = omega (
        arith,
        longer,
        ap length c.append.ensures.items,
        length-append c.make_room.new.codes.items (c.request_code-code.result ∷ []),
        c.append.ensures.capacity,
        c.in_ok-make_room.ensures.codes_room,
        c.make_room.new.codes.ok.0,
        changes.ok.0,
      );
      list_room = omega (arith, longer, counted, length-append requests.items (c.args.request ∷ []), c.in_ok-make_room.ensures.list_room, requests.ok.0, changes.ok.0);
      log_room = omega (arith, longer, counted, length-append requests.items (c.args.request ∷ []), c.in_ok-make_room.ensures.log_room, requests.ok.0, changes.ok.0);
    }

pub returns-clause-added : goal.returns-clause-added
returns-clause-added c =
    let saved = saved-logged c.self.inside.requests.items c.push.new.self.items c.make_room.new.changes.items
    c.note.new.changes.items c.self.inside.marks.items Added c.is_empty.result (log c) (empty c) c.note.ensures.noted (back c) in
    let kept = ap (λ cs. saved_at c.self.inside.marks.items cs c.self.inside.requests.items) c.make_room.ensures.changes in
    let now = c.in_ok-push.ensures.items ∙ ap (λ rs. rs ++ c.args.request ∷ []) c.make_room.ensures.requests in
    same_waiting _ _ _ _ now (saved ∙ kept)
    ∙ ap (λ (w : Waiting). record w { now = w.now ++ c.args.request ∷ [] }) c.self.view_is
