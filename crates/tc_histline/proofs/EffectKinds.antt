-- An effect is read by its word, and then its tuple.
use Rattle.std.proofs.Common.{◌≡◌, ℕ, List, Option, Some, None, codes, refl, ap, ap₂, ◌∙◌}
use Rattle.tc_lists.specs.AtFront.{Front, and_then, behind, closed, made, or_else}
use Rattle.tc_lists.specs.Texts.{after}
use Rattle.tc_lists.proofs.After.{after-takes}
use Rattle.tc_model.specs.declared.items.Effect.{Effect}
use Rattle.tc_model.specs.declared.items.Effect.TheVariants as effect
use Rattle.tc_histline.specs.EffectKinds.{effect_kind_at, effect_of}
use Rattle.tc_histline.specs.Outcomes.{effect_at}
use Rattle.tc_histline.specs.Words.{tuple_at}
use Rattle.tc_histline.specs.declared.read_outcomes.EffectKind.{EffectKind}
use Rattle.tc_histline.specs.declared.read_outcomes.EffectKind.TheVariants.{Put, Took, Read}

or_else-none : {X : Type 0} (a : Front X) → or_else a None ≡ a
or_else-none None = refl
or_else-none (Some found) = refl

-- what stands behind one of three words, of which one at most is there
by_word : (put took read : Option (List ℕ)) → ((r : List ℕ) → put ≡ Some r → (took ≡ None) × (read ≡ None)) → ((r : List ℕ) → took ≡ Some r → read ≡ None)
    → or_else (made effect.Put (behind put tuple_at)) (or_else (made effect.Took (behind took tuple_at)) (made effect.Read (behind read tuple_at)))
    ≡ and_then (or_else (closed Put put) (or_else (closed Took took) (closed Read read))) (λ k rest. made (effect_of k) (tuple_at rest))
by_word None None None first second = refl
by_word None None (Some r) first second = refl
by_word None (Some r) read first second =
    ap (λ x. or_else (made effect.Took (tuple_at r)) (made effect.Read (behind x tuple_at))) (second r refl) ∙ or_else-none (made effect.Took (tuple_at r))
by_word (Some r) took read first second =
    let none = first r refl in
    ap₂ (λ x y. or_else (made effect.Put (tuple_at r)) (or_else (made effect.Took (behind x tuple_at)) (made effect.Read (behind y tuple_at)))) none.0 none.1
    ∙ or_else-none (made effect.Put (tuple_at r))

pub effect_at-by_kind : (bytes : List ℕ) → effect_at bytes ≡ and_then (effect_kind_at bytes) (λ k rest. made (effect_of k) (tuple_at rest))
effect_at-by_kind bytes =
    by_word (after (codes " put ") bytes) (after (codes " took ") bytes) (after (codes " read ") bytes)
    (λ r is. let stands = after-takes (codes " put ") bytes r is in (ap (after (codes " took ")) stands, ap (after (codes " read ")) stands))
    (λ r is. ap (after (codes " read ")) (after-takes (codes " took ") bytes r is))
