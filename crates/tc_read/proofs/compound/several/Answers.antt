use Rattle.std.proofs.Common.{◌≡◌, ◌-◌, [], ◌∷◌, refl, sym, ◌∙◌, ap, arith}
use Rattle.tc_read.specs.Frames.{below, items_of, top, tops, under}
use Rattle.tc_read.specs.Items.{kept_item, parts_view}
use Rattle.tc_read.specs.Kept.{finished, joined, parts}
use Rattle.tc_read.specs.Machine.{turned}
use Rattle.tc_read.proofs.Framed.{applied-turned, tops-some, under-some}
use Rattle.tc_read.proofs.compound.several.Goals as goal

pub loop-left-init : goal.loop-left-init
loop-left-init c = (λ last e. (last, refl, e), refl, refl)

pub loop-left-preserved : goal.loop-left-preserved
loop-left-preserved c =
    let n = c.loop-left.left in
    let ks = items_of c.loop-left.stack in (
      λ last e.
          let before = c.loop-left.invariant.0 last e in (
            top ks ∷ before.0,
            before.1
                ∙ ap (λ xs. turned xs before.0) (tops-some n ks c.loop-left-test.true)
                ∙ ap (λ xs. turned (tops (n - 1) xs) (top ks ∷ before.0)) (sym c.pop_item-in-loop-left.ensures.items),
            c.in_ok-parts-2.ensures
                ∙ ap (λ k. joined k (parts_view c.loop-left.parts)) c.pop_item-in-loop-left.ensures.item
                ∙ ap (joined (top ks)) before.2,
          ),
      c.loop-left.invariant.1 ∙ under-some n ks c.loop-left-test.true ∙ ap (under (n - 1)) (sym c.pop_item-in-loop-left.ensures.items),
      c.pop_item-in-loop-left.ensures.frames ∙ c.loop-left.invariant.2,
    )

pub returns-clause-compound : goal.returns-clause-compound
returns-clause-compound c =
    let name = c.args.name in
    let first = top (items_of c.args.stack.now) in
    let done = tops c.args.count (below (items_of c.args.stack.now)) in
    let begun : parts_view c.in_ok-parts.parts ≡ parts (first ∷ []) =
    c.in_ok-parts.ensures ∙ ap (joined (kept_item c.pop_item.result)) c.in_ok-none.ensures ∙ ap (λ k. joined k (parts [])) c.pop_item.ensures.item in
    let all = c.loop-left.invariant.0 (first ∷ []) begun in
    let zero : c.loop-left.left ≡ 0 = omega (arith, c.loop-left-test.false) in
    let whole : turned done (first ∷ []) ≡ all.0 =
    ap (λ ks. turned (tops c.args.count ks) (first ∷ [])) (sym c.pop_item.ensures.items)
    ∙ all.1 ∙ ap (λ n. turned (tops n (items_of c.loop-left.stack)) all.0) zero in
    c.in_ok-item.ensures
    ∙ ap (finished name) (all.2 ∙ ap parts (sym whole))
    ∙ sym (applied-turned name done [] first)

pub returns-clause-items : goal.returns-clause-items
returns-clause-items c =
    let zero : c.loop-left.left ≡ 0 = omega (arith, c.loop-left-test.false) in
    sym (ap (under c.args.count) (sym c.pop_item.ensures.items) ∙ c.loop-left.invariant.1 ∙ ap (λ n. under n (items_of c.loop-left.stack)) zero)
