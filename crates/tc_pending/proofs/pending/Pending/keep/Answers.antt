use Rattle.std.proofs.Common.{◌≡◌, ◌<◌, ◌-◌, ◌∷◌, [], ◌++◌, ℕ, length, get_or, ap, sym, subst, ◌∙◌, arith}
use Rattle.std.proofs.lemmas.List.{nil_from_length}
use Rattle.std.specs.Option.{option_to_list}
use Rattle.tc_pending.specs.Changes.{saved_at, IsLog}
use Rattle.tc_lists.specs.Marks.{IsGivenUp}
use Rattle.tc_pending.specs.Waiting.{Waiting}
use Rattle.tc_pending.proofs.Log.{IsLog-none, IsLog-kept, waiting-kept}
use Rattle.tc_lists.proofs.Bools.{some_from_test, none_from_test}
use Rattle.tc_pending.specs.Codes.{codes_of}
use Rattle.tc_pending.specs.Filed.{KeepsAll}
use Rattle.tc_pending.specs.Rising.{NumbersRise}
use Rattle.tc_pending.proofs.Filed.{IsFiled-kept, AreFiled-now, AreFiled-only}
use Rattle.tc_pending.proofs.pending.Pending.keep.Goals as goal

module _ (c : goal.Else-is_empty) where
  -- the mark that goes
  abbrev top : ℕ
  top = get_or c.self.inside.marks.items (c.self.inside.marks.len - 1) 0

  -- others are left
  left : 0 < c.pop-count.new.self.len
  left = some_from_test c.pop-count.new.self.len c.is_empty.result c.is_empty.ensures c.if-is_empty.false

  last : c.self.inside.marks.items ≡ c.pop-count.new.self.items ++ top ∷ []
  last =
      c.pop-count.ensures.items
      ∙ ap (λ o. c.pop-count.new.self.items ++ option_to_list o)
      (c.pop-count.ensures.value 0 (omega (arith, left, c.pop-count.ensures.len)))

pub forget_removed-requires : goal.forget_removed-requires
forget_removed-requires c =
    let p = c.self.inside in
    subst NumbersRise (sym c.deref.ensures.value)
    (AreFiled-now p.index p.filed p.absences p.requests.items p.serials.items p.changes.items c.self.invariant.filed).filed_is.rises

pub invariant_of-self : goal.invariant_of-self
invariant_of-self c =
    let p = c.self.inside in
    let new = c.forget_removed.new.index in
    let none = c.forget_removed.ensures.none in
    let kept = AreFiled-now p.index p.filed p.absences p.requests.items p.serials.items p.changes.items c.self.invariant.filed in
    let left : c.pop-count.new.self.items ≡ [] =
    nil_from_length c.pop-count.new.self.items
    (omega (
      arith,
      none_from_test c.pop-count.new.self.len c.is_empty.result c.is_empty.ensures c.if-is_empty.true,
      c.pop-count.new.self.ok.0,
    )) in
    record {
      log = subst (λ ms. IsLog p.requests.items c.forget_removed.new.changes.items ms) (sym left)
          (subst (λ cs. IsLog p.requests.items cs []) (sym none) (IsLog-none p.requests.items));
      coded = c.self.invariant.coded;
      filed = AreFiled-only new p.filed p.absences p.requests.items p.serials.items c.forget_removed.new.changes.items none (record {
        filed_is = IsFiled-kept p.index p.filed (codes_of p.requests.items) p.serials.items kept.filed_is new
            (subst (KeepsAll p.index new) c.deref.ensures.value c.forget_removed.ensures.kept);
        absences_is = kept.absences_is;
      });
      list_room = omega (arith, ap length none, c.self.invariant.list_room);
      codes_room = omega (arith, ap length none, c.self.invariant.codes_room);
      serials_room = omega (arith, ap length none, c.self.invariant.serials_room);
      log_room = omega (arith, ap length none, c.self.invariant.log_room, c.forget_removed.ensures.log);
    }

pub invariant_of-self-else-is_empty : goal.invariant_of-self-else-is_empty
invariant_of-self-else-is_empty c = record {
  log = IsLog-kept c.self.inside.requests.items c.self.inside.changes.items c.self.inside.marks.items c.pop-count.new.self.items
      (top c) c.self.invariant.log (last c) (omega (arith, left c, c.pop-count.new.self.ok.0));
  coded = c.self.invariant.coded;
  filed = c.self.invariant.filed;
  serials_room = c.self.invariant.serials_room;
  list_room = c.self.invariant.list_room;
  codes_room = c.self.invariant.codes_room;
  log_room = c.self.invariant.log_room;
}

pub returns-else-is_empty-clause-given_up : goal.returns-else-is_empty-clause-given_up
returns-else-is_empty-clause-given_up c =
    let requests = c.self.inside.requests.items in
    let changes = c.self.inside.changes.items in
    subst (λ (old : Waiting). IsGivenUp old.saved (saved_at c.pop-count.new.self.items changes requests)) c.self.view_is
    (waiting-kept requests changes c.self.inside.marks.items c.pop-count.new.self.items (top c) c.self.invariant.log (last c))
