-- What a cascade has left of a marked bag is kept or undone.
use Rattle.std.proofs.Common.{◌≡◌, sym, ap, subst, ◌∙◌, arith}
use Rattle.std.specs.Prelude.{Ok, Err}
use Rattle.std.specs.declared.result.Result.{Result}
use Rattle.tc_bag.specs.Stock.{AddsYounger, Stock, marked}
use Rattle.tc_cascade.specs.Ends.{kept_or_undone}
use Rattle.tc_cascade.specs.declared.cascade.Cascade.{Cascade}
use Rattle.tc_cascade.specs.declared.cascade.Cascade.TheVariants.{Whole, Over}

-- what is true of the bag of before, and of the one that is left, whatever the marks
kept_or_undone-either : {E : Type 0} (P : Stock → Type 0) (r : Result Cascade E) (before left : Stock)
    → P before → P (record left { saved = before.saved }) → P (kept_or_undone r before left)
kept_or_undone-either P (Ok (Whole items)) before left old new = new
kept_or_undone-either P (Ok (Over items)) before left old new = old
kept_or_undone-either P (Err fault) before left old new = old

-- only younger rows appear, where only such had appeared since the mark
pub AddsYounger-kept_or_undone : {E : Type 0} (r : Result Cascade E) (before start left new : Stock)
    → start ≡ marked before → left.saved ≡ start.saved
    → ((s : Stock) → left.saved ≡ (marked s).saved → new ≡ kept_or_undone r s left)
    → AddsYounger start left → AddsYounger before new
AddsYounger-kept_or_undone r before start left new begins stays ends adds =
    let is : new ≡ kept_or_undone r before left = ends before (stays ∙ ap (λ (s : Stock). s.saved) begins) in
    let since : AddsYounger (marked before) left = subst (λ (s : Stock). AddsYounger s left) begins adds in
    subst (λ (s : Stock). AddsYounger before s) (sym is)
    (kept_or_undone-either (AddsYounger before) r before left
    (record { rises = omega arith; added = λ row there older. there })
    (record { rises = since.rises; added = since.added }))
