use Rattle.std.proofs.Common.{◌≡◌, ◌<◌, ◌≤◌, ◌+◌, ◌==◌, All, length, ap, sym, subst, ◌∙◌, arith}
use Rattle.std.specs.List.{remove}
use Rattle.std.proofs.lemmas.List.Edits.{length-remove}
use Rattle.tc_lists.proofs.Pairs.{insert-remove}
use Rattle.tc_pending.specs.declared.changes.Change.{Change}
use Rattle.tc_pending.specs.declared.changes.Change.TheVariants.{Removed}
use Rattle.tc_model.specs.State.{WantsTuple}
use Rattle.tc_model.specs.declared.calls.Request.{Request}
use Rattle.tc_pending.specs.Changes.{earlier, earlier_serials, Fits, IsKept, IsLog}
use Rattle.tc_pending.specs.Codes.{codes_of}
use Rattle.tc_pending.specs.Filed.{IsFiled, KeepsAll, NeverFree}
use Rattle.tc_pending.specs.Rising.{NumbersRise}
use Rattle.tc_pending.specs.Waiting.{Waiting}
use Rattle.tc_pending.proofs.Log.{same_waiting, none-noted, IsLog-noted, saved-logged, length-noted, Fits-removed}
use Rattle.tc_pending.proofs.Wanting.{All-remove}
use Rattle.tc_pending.proofs.Coded.{codes-remove, length-codes}
use Rattle.tc_pending.proofs.Filed.{IsFiled-remove, IsFiled-kept, AreFiled-now, AreFiled-length, AreFiled-only, AreFiled-noted}
use Rattle.tc_pending.proofs.pending.Pending.remove.Goals as goal
use Rattle.tc_pending.proofs.pending.Pending.remove.Goals.{After-note}

module _ (c : After-note) where
  abbrev change : Change
  change = Removed c.args.place c.remove-request.result c.remove-serial.result

  inside : c.args.place < length c.self.inside.requests.items
  inside = omega (arith, c.requires, ap (λ w. length w.now) c.self.view_is)

  kept : IsKept c.self.inside.index c.self.inside.filed c.self.inside.absences c.self.inside.requests.items c.self.inside.serials.items
  kept =
      AreFiled-now c.self.inside.index c.self.inside.filed c.self.inside.absences c.self.inside.requests.items c.self.inside.serials.items
      c.self.inside.changes.items c.self.invariant.filed

  filed : IsFiled c.self.inside.index c.self.inside.filed (codes_of c.self.inside.requests.items) c.self.inside.serials.items
  filed = kept.filed_is

  numbered : c.args.place < length c.self.inside.serials.items
  numbered =
      omega (
        arith,
        inside,
        AreFiled-length c.self.inside.index c.self.inside.filed c.self.inside.absences c.self.inside.requests.items c.self.inside.serials.items
            c.self.inside.changes.items c.self.invariant.filed,
      )

  back : earlier change c.remove-request.new.self.items ≡ c.self.inside.requests.items
  back =
      ap (earlier change) c.remove-request.ensures.items
      ∙ insert-remove c.self.inside.requests.items c.args.place c.remove-request.result inside c.remove-request.ensures.value

  before : earlier_serials change c.remove-serial.new.self.items ≡ c.self.inside.serials.items
  before =
      ap (earlier_serials change) c.remove-serial.ensures.items
      ∙ insert-remove c.self.inside.serials.items c.args.place c.remove-serial.result numbered c.remove-serial.ensures.value

  fits : Fits change c.remove-request.new.self.items
  fits =
      omega (
        arith,
        ap length c.remove-request.ensures.items,
        Fits-removed c.self.inside.requests.items c.args.place c.remove-request.result c.remove-serial.result inside,
      )

  empty : c.is_empty.result ≡ (length c.self.inside.marks.items == 0)
  empty = c.is_empty.ensures ∙ ap (λ n. n == 0) c.self.inside.marks.ok.0

  coded : c.remove-code.new.self.items ≡ codes_of c.remove-request.new.self.items
  coded =
      c.remove-code.ensures.items ∙ ap (λ cs. remove cs c.args.place) c.self.invariant.coded
      ∙ codes-remove c.self.inside.requests.items c.args.place ∙ ap codes_of (sym c.remove-request.ensures.items)

  now : IsFiled c.self.inside.index c.self.inside.filed (codes_of c.remove-request.new.self.items) c.remove-serial.new.self.items
  now =
      subst (λ cs. IsFiled c.self.inside.index c.self.inside.filed cs c.remove-serial.new.self.items)
      (codes-remove c.self.inside.requests.items c.args.place ∙ ap codes_of (sym c.remove-request.ensures.items))
      (subst (λ ns. IsFiled c.self.inside.index c.self.inside.filed (remove (codes_of c.self.inside.requests.items) c.args.place) ns)
      (sym c.remove-serial.ensures.items)
      (IsFiled-remove c.self.inside.index c.self.inside.filed (codes_of c.self.inside.requests.items) c.self.inside.serials.items
      filed c.args.place numbered))

  never : NeverFree c.self.inside.absences c.remove-request.new.self.items
  never is =
      subst (All (λ (r : Request). WantsTuple r.wants)) (sym c.remove-request.ensures.items)
      (All-remove (λ (r : Request). WantsTuple r.wants) c.self.inside.requests.items c.args.place (kept.absences_is is))

  log : IsLog c.remove-request.new.self.items c.note.new.changes.items c.self.inside.marks.items
  log =
      IsLog-noted c.self.inside.requests.items c.remove-request.new.self.items c.self.inside.changes.items c.note.new.changes.items
      c.self.inside.marks.items change c.is_empty.result c.self.invariant.log empty c.note.ensures.noted fits back

  longer : length c.note.new.changes.items ≤ length c.self.inside.changes.items + 1
  longer = length-noted c.self.inside.changes.items c.note.new.changes.items change c.is_empty.result c.note.ensures.noted

  fewer : length c.remove-request.new.self.items + 1 ≡ length c.self.inside.requests.items
  fewer = omega (arith, ap length c.remove-request.ensures.items, length-remove c.self.inside.requests.items c.args.place inside)

  fewer_codes : length c.remove-code.new.self.items + 1 ≡ length c.self.inside.request_codes.items
  fewer_codes =
      omega (
        arith,
        fewer,
        length-codes c.remove-request.new.self.items c.remove-code.new.self.items coded,
        length-codes c.self.inside.requests.items c.self.inside.request_codes.items c.self.invariant.coded,
      )

  fewer_serials : length c.remove-serial.new.self.items + 1 ≡ length c.self.inside.serials.items
  fewer_serials =
      omega (arith, ap length c.remove-serial.ensures.items, length-remove c.self.inside.serials.items c.args.place numbered)

pub remove-serial-requires : goal.remove-serial-requires
remove-serial-requires c =
    omega (
      arith,
      c.requires,
      ap (λ w. length w.now) c.self.view_is,
      AreFiled-length c.self.inside.index c.self.inside.filed c.self.inside.absences c.self.inside.requests.items c.self.inside.serials.items
          c.self.inside.changes.items c.self.invariant.filed,
      c.self.inside.serials.ok.0,
    )

pub leave-requires : goal.leave-requires
leave-requires c = subst NumbersRise (sym c.deref.ensures.value) (now (goal.at.leave-requires c).After-note).rises

pub invariant_of-self : goal.invariant_of-self
invariant_of-self c =
    let at = (goal.at.invariant_of-self c).After-note in
    let p = c.self.inside in
    let requests = c.remove-request.new.self.items in
    let serials = c.remove-serial.new.self.items in
    let none = none-noted p.requests.items p.changes.items c.note.new.changes.items p.marks.items (change at) c.is_empty.result
    c.self.invariant.log (empty at) (c.is_empty.ensures ∙ sym c.is_empty-2.ensures ∙ c.if-is_empty.true) c.note.ensures.noted in
    record {
      log = log at;
      coded = coded at;
      filed = AreFiled-only c.leave.new.self p.filed p.absences requests serials c.note.new.changes.items none (record {
        filed_is = IsFiled-kept p.index p.filed (codes_of requests) serials (now at) c.leave.new.self
            (subst (KeepsAll p.index c.leave.new.self) c.deref.ensures.value c.leave.ensures);
        absences_is = never at;
      });
      list_room = omega (arith, longer at, fewer at, c.self.invariant.list_room, c.remove-request.ensures.capacity);
      codes_room = omega (arith, longer at, fewer_codes at, c.self.invariant.codes_room, c.remove-code.ensures.capacity);
      serials_room = omega (arith, longer at, fewer_serials at, c.self.invariant.serials_room, c.remove-serial.ensures.capacity);
      log_room = omega (arith, longer at, fewer at, c.self.invariant.log_room, c.note.ensures.capacity);
    }

pub invariant_of-self-else-is_empty : goal.invariant_of-self-else-is_empty
invariant_of-self-else-is_empty c =
    let at = (goal.at.invariant_of-self-else-is_empty c).After-note in
    let p = c.self.inside in
    record {
      log = log at;
      coded = coded at;
      filed = AreFiled-noted p.index p.filed p.absences p.requests.items p.serials.items p.changes.items c.self.invariant.filed
          c.remove-request.new.self.items c.remove-serial.new.self.items c.note.new.changes.items p.marks.items (change at)
          c.is_empty.result c.self.invariant.log (empty at) c.note.ensures.noted (back at) (before at)
          (record { filed_is = now at; absences_is = never at });
      list_room = omega (arith, longer at, fewer at, c.self.invariant.list_room, c.remove-request.ensures.capacity);
      codes_room = omega (arith, longer at, fewer_codes at, c.self.invariant.codes_room, c.remove-code.ensures.capacity);
      serials_room = omega (arith, longer at, fewer_serials at, c.self.invariant.serials_room, c.remove-serial.ensures.capacity);
      log_room = omega (arith, longer at, fewer at, c.self.invariant.log_room, c.note.ensures.capacity);
    }

pub returns-else-is_empty : goal.returns-else-is_empty
returns-else-is_empty c =
    let at = (goal.at.returns-else-is_empty c).After-note in
    let p = c.self.inside in
    let saved = saved-logged p.requests.items c.remove-request.new.self.items p.changes.items c.note.new.changes.items
    p.marks.items (change at) c.is_empty.result c.self.invariant.log (empty at) c.note.ensures.noted (back at) in
    same_waiting _ _ _ _ c.remove-request.ensures.items saved
    ∙ ap (λ (w : Waiting). record w { now = remove w.now c.args.place }) c.self.view_is
