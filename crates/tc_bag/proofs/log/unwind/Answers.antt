use Rattle.std.proofs.Common.{◌≡◌, ◌<◌, ◌≤◌, ◌+◌, ◌-◌, ◌++◌, ◌∷◌, [], length, get_or, map, filter, take, All, refl, ap, sym, subst, ◌∙◌, arith}
use Rattle.std.proofs.lemmas.List.{take-take, take_all, length-take}
use Rattle.std.proofs.lemmas.List.Elements.{All-weaker}
use Rattle.tc_lists.proofs.Parts.{split_last_read}
use Rattle.tc_bag.specs.Slots.{Slot, InOrder, IsLogged, is_there, revived, revived_at}
use Rattle.tc_bag.proofs.Logged.{InOrder-map, revived-twice, revived-all, logged_back, revived-count, taken_within}
use Rattle.tc_bag.proofs.log.unwind.Goals as goal

pub loop-log-preserved : goal.loop-log-preserved
loop-log-preserved c =
    let before = c.loop-log.invariant in
    let n = c.args.count in
    let rows = c.loop-log.rows in
    let items = c.loop-log.log.items in
    let last = length items - 1 in
    let front = take last items in
    let age = c.index-age.result.now in
    let whole : c.len-last.result ≡ length items = c.len-last.ensures ∙ c.loop-log.log.ok.0 in
    let whole_test : c.len.result ≡ length items = c.len.ensures ∙ c.loop-log.log.ok.0 in
    let some : 0 < length items = omega (arith, c.loop-log-test.true, whole_test) in
    let more : n < length items = omega (arith, c.loop-log-test.true, whole_test) in
    let read : age ≡ get_or items last age = subst (λ k. age ≡ get_or items (k - 1) age) whole c.index-age.ensures in
    let split : items ≡ front ++ age ∷ [] = split_last_read items age some read in
    let left : c.truncate.new.self.items ≡ front = c.truncate.ensures.items ∙ ap (λ k. take (k - 1) items) whole in
    let count : length front ≡ last = omega (arith, length-take last items) in
    let is = c.revive.ensures in
    let logged : All (IsLogged front) (map (revived_at age n) rows) =
    logged_back front age n rows (omega (arith, count, more)) (subst (λ l. All (IsLogged l) rows) split before.2) in (
      ap (map (revived n)) is ∙ revived-twice age n rows ∙ before.0,
      subst InOrder (sym is) (InOrder-map (revived_at age n) rows (λ s. refl) before.1),
      subst (λ l. All (IsLogged l) c.revive.new.self) (sym left) (subst (All (IsLogged front)) (sym is) logged),
      ap (take n) left ∙ take-take n last items (omega (arith, more)) ∙ before.3,
      c.truncate.ensures.capacity ∙ before.4,
      subst (λ l. length l + length (filter is_there c.revive.new.self)
          ≤ length c.args.log.now.items + length (filter is_there c.args.rows.now)) (sym left)
          (subst (λ ss. length front + length (filter is_there ss)
          ≤ length c.args.log.now.items + length (filter is_there c.args.rows.now)) (sym is)
          (omega (arith, count, some, before.5, revived-count age n rows before.1))),
    )

pub returns : goal.returns
returns c =
    let before = c.loop-log.invariant in
    let n = c.args.count in
    let rows = c.loop-log.rows in
    let items = c.loop-log.log.items in
    let whole_test : c.len.result ≡ length items = c.len.ensures ∙ c.loop-log.log.ok.0 in
    let few : length items ≤ n = omega (arith, c.loop-log-test.false, whole_test) in
    record {
      rows = revived-all n rows (All-weaker (λ (s : Slot). s.taken ≤ length items) (λ s. s.taken ≤ n)
          (λ s below. omega (arith, below, few)) rows (taken_within items rows before.2)) ∙ before.0;
      log = sym (take_all n items few) ∙ before.3;
      room = before.4;
      fits = before.5;
    }
