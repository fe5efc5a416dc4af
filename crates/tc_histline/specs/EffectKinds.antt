-- The words of effects at the front of bytes.
use Rattle.std.specs.Prelude.{ℕ, List, codes}
use Rattle.tc_lists.specs.AtFront.{Front, or_else, word_for}
use Rattle.tc_term.specs.Tree.{Tree}
use Rattle.tc_model.specs.declared.items.Effect.{Effect}
use Rattle.tc_model.specs.declared.items.Effect.TheVariants as effect
use Rattle.tc_histline.specs.declared.read_outcomes.EffectKind.{EffectKind}
use Rattle.tc_histline.specs.declared.read_outcomes.EffectKind.TheVariants.{Put, Took, Read}

-- the word of an effect, between spaces
abbrev pub effect_kind_at : List ℕ → Front EffectKind
effect_kind_at bytes =
    or_else (word_for Put (codes " put ") bytes)
    (or_else (word_for Took (codes " took ") bytes) (word_for Read (codes " read ") bytes))

-- the effect of this kind on a tuple
abbrev pub effect_of : EffectKind → Tree → Effect
effect_of Put tuple = effect.Put tuple
effect_of Took tuple = effect.Took tuple
effect_of Read tuple = effect.Read tuple
