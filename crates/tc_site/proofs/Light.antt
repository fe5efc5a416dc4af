-- How many entries a desk has seen at a centre.
use Rattle.std.proofs.Common.{◌≡◌, ℕ, ◌≤◌, ◌<◌, List, [], ◌∷◌, Some, length, get_or, refl, sym, subst, arith}
use Rattle.std.specs.List.{slice_get, slice_index}
use Rattle.std.proofs.lemmas.List.Sums.{sum_by-cons}
use Rattle.std.proofs.lemmas.Option.{slice_get_read}
use Rattle.tc_lists.proofs.Sets.{get_or-map_at, slice_get_inside}
use Rattle.tc_model.specs.Entries.{weight, weight_of}
use Rattle.tc_model.specs.State.{Origin}
use Rattle.tc_model.specs.declared.entries.Entry.{Entry}
use Rattle.tc_model.specs.declared.entries.Entry.TheVariants.{Called, Gave, Looked}
use Rattle.tc_model.specs.declared.limits.TheConstants.{MOST_WEIGHT}
use Rattle.tc_turn.specs.Passes.{PassState}
use Rattle.tc_site.specs.Desks.{AgentState, IsDesk, desk_of}

-- each entry weighs something
weighs : (e : Entry) → 1 ≤ weight_of e
weighs (Called id op outcome items) = omega arith
weighs (Gave id outcome items) = omega arith
weighs (Looked id asked reply) = omega arith

pub length-weight : (history : List Entry) → length history ≤ weight history
length-weight [] = omega arith
length-weight (e ∷ history) = omega (arith, weighs e, length-weight history, sum_by-cons weight_of e history)

module _ {W : Type 0} (d : AgentState W) (is : IsDesk d) (place : ℕ) (inside : place < length d.site.names) where
  pub seen-inside : place < length d.passes
  seen-inside = let whole = is.site.whole in let wide = is.are.wide in omega (arith, inside, whole, wide)

  module _ (p : PassState Entry Origin) (value : p ≡ get_or d.passes place p) where
    at : slice_get d.passes place ≡ Some p
    at = slice_get_read d.passes (length d.passes) place p refl seen-inside value

    pub seen-count : (s : AgentState W) → d ≡ s → length p.seen ≡ slice_index (desk_of s).seen place
    seen-count s same =
        subst (λ (x : AgentState W). length p.seen ≡ slice_index (desk_of x).seen place) same
        (sym (get_or-map_at (λ (x : PassState Entry Origin). length x.seen) d.passes place p 0 at))

    pub seen-few : length p.seen ≤ MOST_WEIGHT
    seen-few =
        let whole = is.site.whole in
        let t = slice_get_inside d.site.centres place (omega (arith, inside, whole)) in
        let light = (is.are.each place t.0 p t.1 at).own.rest.light in
        omega (arith, length-weight p.seen, light)
