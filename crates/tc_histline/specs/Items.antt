-- Items at the front of bytes.
use Rattle.std.specs.Prelude.{ℕ, zero, suc, ◌-◌, ◌^◌, ◌==◌, if◌then◌else◌, List, [], ◌∷◌}
use Rattle.std.specs.Prelude.{length, codes}
use Rattle.std.specs.Prelude.{Some, None}
use Rattle.tc_lists.specs.AtFront.{Front, and_then, behind, closed, closed_by, or_else}
use Rattle.tc_lists.specs.Decimals.{number_at}
use Rattle.tc_lists.specs.Texts.{after}
use Rattle.tc_model.specs.Entries.{IsNumbered}
use Rattle.tc_model.specs.Typed.{IsTypedItem}
use Rattle.tc_model.specs.declared.items.Effect.{Effect}
use Rattle.tc_model.specs.declared.items.Item.{Item}
use Rattle.tc_model.specs.declared.items.Item.TheVariants.{Fired, Failed}
use Rattle.tc_histline.specs.Outcomes.{effect_at}

-- one thing before others
abbrev pub ahead : {X : Type 0} → X → List X × List ℕ → List X × List ℕ
ahead x (xs, rest) = (x ∷ xs, rest)

-- what is read, and others behind it; or nothing
abbrev pub and_others : {X : Type 0}
    → (List ℕ → List X × List ℕ) → List ℕ → Front X → List X × List ℕ
and_others more bytes None = ([], bytes)
and_others more bytes (Some (x, rest)) = ahead x (more rest)

-- things one behind another, so many at most, and what stands behind them
abbrev pub several : {X : Type 0} → (List ℕ → Front X) → ℕ → List ℕ → List X × List ℕ
several read zero bytes = ([], bytes)
several read (suc n) bytes = and_others (several read n) bytes (read bytes)

-- effects one behind another
abbrev pub effects_at : List ℕ → List Effect × List ℕ
effects_at bytes = several effect_at (length bytes) bytes

-- a number of 32 bits that isn't 0
abbrev pub unless_zero : Front ℕ → Front ℕ
unless_zero None = None
unless_zero (Some (n, rest)) = if n == 0 then None else Some (n, rest)

abbrev pub place_at : List ℕ → Front ℕ
place_at bytes = unless_zero (number_at (2 ^ 32 - 1) bytes)

-- an item of these effects, where the line ends behind them
abbrev pub with_effects : (List Effect → Item) → List Effect × List ℕ → Front Item
with_effects make (effects, rest) = closed (make effects) (after (codes "\n") rest)

-- the line of a reaction of this pick that fired, behind the pick
abbrev pub fired_at : ℕ → List ℕ → Front Item
fired_at pick bytes =
    behind (after (codes " fired ") bytes) (λ rest.
    and_then (place_at rest) (λ clause rest.
    with_effects (Fired pick clause) (effects_at rest)))

-- the line of one that failed
abbrev pub failed_at : ℕ → List ℕ → Front Item
failed_at pick bytes =
    behind (after (codes " failed ") bytes) (λ rest.
    and_then (closed_by (codes " at ") (place_at rest)) (λ clause rest.
    and_then (place_at rest) (λ goal rest.
    with_effects (Failed pick clause goal) (effects_at rest))))

-- the line of a reaction
abbrev pub item_at : List ℕ → Front Item
item_at bytes =
    behind (after (codes "  ") bytes) (λ rest.
    and_then (place_at rest) (λ pick rest.
    or_else (fired_at pick rest) (failed_at pick rest)))

-- the item has a line: it is what the program's types promise, and its places are counted from 1
abbrev pub HasItemLine : Item → Type 0
HasItemLine i = IsTypedItem i × IsNumbered i
