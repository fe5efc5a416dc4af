use Rattle.std.proofs.Common.{◌≡◌, ◌≢◌, ◌+◌, [], Option, List, All, filter, take, drop, ap, sym, subst, ◌∙◌}
use Rattle.std.proofs.lemmas.List.{get_or_default}
use Rattle.tc_term.specs.Tree.{Tree}
use Rattle.tc_lists.proofs.Options.{IfNone-always}
use Rattle.tc_lists.proofs.Sets.{set_parts}
use Rattle.tc_bag.specs.Places.{slots_of, row_in, gap_of}
use Rattle.tc_bag.specs.Slots.{is_not_of}
use Rattle.tc_bag.proofs.ByAge.{filter-others}
use Rattle.tc_bag.proofs.Gaps.{IsPlaceOf, slots-others, placed, same_age}
use Rattle.tc_bag.proofs.Kept.{slots-gap_gone}
use Rattle.tc_bag.proofs.places.clear.Goals as goal

pub returns-in_err-i-clause-none : goal.returns-in_err-i-clause-none
returns-in_err-i-clause-none c =
    let ps = c.args.places.now.items in
    let age = c.args.age in
    let others = subst (All (λ p. p.age ≢ age)) c.deref.ensures.value c.in_err-i.ensures.none in
    IfNone-always c.from_residual.result ((rows : List (Option Tree)) → slots_of rows ps ≡ filter (is_not_of age) (slots_of rows ps))
    (λ rows. sym (filter-others age (slots_of rows ps) (slots-others rows age ps others)))

pub returns-in_err-row-clause-none : goal.returns-in_err-row-clause-none
returns-in_err-row-clause-none c =
    let ps = c.args.places.now.items in
    let age = c.args.age in
    let i = c.in_ok-i.i in
    let at = subst (λ qs. IsPlaceOf age qs i) c.deref.ensures.value c.in_ok-i.ensures.found in
    IfNone-always c.from_residual-in_err-row.result ((rows : List (Option Tree)) → slots_of rows ps ≡ filter (is_not_of age) (slots_of rows ps))
    (λ rows. slots-gap_gone rows age i ps c.index.result.now c.requires at c.index.ensures (sym c.in_err-row.ensures))

pub returns-clause-cleared : goal.returns-clause-cleared
returns-clause-cleared c =
    let ps = c.args.places.now.items in
    let age = c.args.age in
    let i = c.in_ok-i.i in
    let p = c.index_mut.result.now in
    let none : List (Option Tree) = [] in
    let at = subst (λ qs. IsPlaceOf age qs i) c.deref.ensures.value c.in_ok-i.ensures.found in
    record {
      before = take i ps;
      place = p;
      behind = drop (i + 1) ps;
      was = placed none age i ps p c.requires at c.index_mut.ensures.value;
      is = set_parts ps i (gap_of p) at.0;
      same = same_age none age i ps p c.requires at c.index_mut.ensures.value;
      had =
          ap row_in (c.index_mut.ensures.value ∙ get_or_default ps i p c.index.result.now at.0 ∙ sym c.index.ensures)
          ∙ sym c.in_ok-row.ensures;
    }
