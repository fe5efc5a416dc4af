-- Lines and their parts of which the texts are the same are one.
use Rattle.std.proofs.Common.{◌≡◌, ◌≢◌, ◌<◌, ◌-◌, ◌^◌, ℕ, List, [], ◌∷◌, ◌++◌, codes, length, drop, get_or, Some, None, All, AllPairs, refl, sym, ap, ap₂, subst, ◌∙◌, arith}
use Rattle.std.specs.Fmt.{decimal}
use Rattle.std.proofs.lemmas.Option.{none-some, same_Some, some_pair_parts}
use Rattle.tc_lists.specs.Decimals.{number_at, StartsWithNoDigit}
use Rattle.tc_lists.specs.Texts.{after, joined}
use Rattle.tc_lists.proofs.After.{after-append}
use Rattle.tc_lists.proofs.Decimals.{number_at-again}
use Rattle.tc_term.specs.Text.{atom_text}
use Rattle.tc_read.specs.Canonical.{EndsTerm}
use Rattle.tc_read.proofs.Again.{NoWord, Stops-digit}
use Rattle.tc_model.specs.Typed.{IsTypedEffect, IsTypedId, IsTypedItem}
use Rattle.tc_model.specs.declared.calls.CallId.{CallId}
use Rattle.tc_model.specs.declared.items.Effect.{Effect}
use Rattle.tc_model.specs.declared.items.Effect.TheVariants.{Put, Took, Read}
use Rattle.tc_model.specs.declared.items.Item.{Item}
use Rattle.tc_model.specs.declared.items.Item.TheVariants.{Fired, Failed}
use Rattle.tc_histline.specs.Text.{call_text, effect_text, effects_text, item_text, items_text}
use Rattle.tc_histline.specs.Words.{atom_at}
use Rattle.tc_histline.proofs.ReadWords.{atom_at-again}
use Rattle.tc_histline.proofs.ReadOutcomes.{effect-one}
use Rattle.tc_histline.proofs.Repeated.{IsOne, before, joined-before, list-ends, list-one}

-- words, numbers and names

-- a text that begins with a word is none that doesn't
pub apart : (word left right behind : List ℕ) → after word left ≡ Some behind → after word right ≡ None → left ≡ right → ⊥
apart word left right behind there none same = none-some behind (sym none ∙ (ap (after word) (sym same) ∙ there))

-- what stands behind one text
pub behind-one : (text rest more : List ℕ) → text ++ rest ≡ text ++ more → rest ≡ more
behind-one text rest more same = same_Some rest more (sym (after-append text rest) ∙ (ap (after text) same ∙ after-append text more))

pub number-one : (n m : ℕ) (rest more : List ℕ) → n < 2 ^ 64 → m < 2 ^ 64 → StartsWithNoDigit rest → StartsWithNoDigit more
    → decimal n ++ rest ≡ decimal m ++ more → (n ≡ m) × (rest ≡ more)
number-one n m rest more small less ends end same =
    some_pair_parts n m rest more
    (sym (number_at-again (2 ^ 64 - 1) n rest (omega arith) (omega arith) (omega (arith, small)) ends)
    ∙ (ap (number_at (2 ^ 64 - 1)) same ∙ number_at-again (2 ^ 64 - 1) m more (omega arith) (omega arith) (omega (arith, less)) end))

pub name-one : (n m rest more : List ℕ) → NoWord rest → NoWord more → atom_text n ++ rest ≡ atom_text m ++ more → (n ≡ m) × (rest ≡ more)
name-one n m rest more ends end same =
    some_pair_parts n m rest more (sym (atom_at-again n rest ends) ∙ (ap atom_at same ∙ atom_at-again m more end))

-- effects, up to the end of the line

abbrev pub IsLineEnd : List ℕ → Type 0
IsLineEnd [] = ⊥
IsLineEnd (b ∷ s) = b ≡ 10

line_end-ends : (rest : List ℕ) → IsLineEnd rest → EndsTerm rest
line_end-ends [] is = absurd is
line_end-ends (b ∷ s) is = subst (λ c. EndsTerm (c ∷ s)) (sym is) (refl, λ e. omega (arith, e))

effect-goes_on : (e : Effect) (rest : List ℕ) → IsTypedEffect e → EndsTerm (effect_text e ++ rest)
effect-goes_on (Put t) rest is = (refl, λ e. omega (arith, e))
effect-goes_on (Took t) rest is = (refl, λ e. omega (arith, e))
effect-goes_on (Read t) rest is = (refl, λ e. omega (arith, e))

no_line_end : (e : Effect) (rest : List ℕ) → IsLineEnd (effect_text e ++ rest) → ⊥
no_line_end (Put t) rest is = omega (arith, is)
no_line_end (Took t) rest is = omega (arith, is)
no_line_end (Read t) rest is = omega (arith, is)

effect-apart : (e : Effect) (rest more : List ℕ) → IsTypedEffect e → IsLineEnd more → effect_text e ++ rest ≡ more → ⊥
effect-apart e rest more is ends same = no_line_end e rest (subst IsLineEnd (sym same) ends)

effects-one : IsOne (All IsTypedEffect) IsLineEnd effects_text
effects-one = list-one IsTypedEffect EndsTerm IsLineEnd effect_text effect-one effect-goes_on line_end-ends effect-apart

pub effects-end : (es : List Effect) (rest : List ℕ) → All IsTypedEffect es → IsLineEnd rest → EndsTerm (effects_text es ++ rest)
effects-end es rest all ends =
    list-ends IsTypedEffect EndsTerm IsLineEnd effect_text effect-one effect-goes_on line_end-ends effect-apart es rest all ends

pub effects-no_digit : (es : List Effect) (rest : List ℕ) → All IsTypedEffect es → StartsWithNoDigit (effects_text es ++ (codes "\n" ++ rest))
effects-no_digit es rest all =
    Stops-digit (effects_text es ++ (codes "\n" ++ rest)) (effects-end es (codes "\n" ++ rest) all refl)

-- items, up to a line that begins with no space

abbrev pub StartsWithNoSpace : List ℕ → Type 0
StartsWithNoSpace [] = Unit {0}
StartsWithNoSpace (b ∷ s) = b ≢ 32

-- the parts of an item's line
abbrev pub fired_parts : ℕ → ℕ → List Effect → List (List ℕ)
fired_parts pick clause effects = codes "  " ∷ decimal pick ∷ codes " fired " ∷ decimal clause ∷ effects_text effects ∷ codes "\n" ∷ []

abbrev pub failed_parts : ℕ → ℕ → ℕ → List Effect → List (List ℕ)
failed_parts pick clause goal effects =
    codes "  " ∷ decimal pick ∷ codes " failed " ∷ decimal clause ∷ codes " at " ∷ decimal goal ∷ effects_text effects ∷ codes "\n" ∷ []

-- two texts of parts, one behind another
pub parts-one : (ps qs : List (List ℕ)) (rest more : List ℕ) → joined ps ++ rest ≡ joined qs ++ more → before ps rest ≡ before qs more
parts-one ps qs rest more same = sym (joined-before ps rest) ∙ (same ∙ joined-before qs more)

picks-one : (n m : ℕ) (rest more : List ℕ) → n < 2 ^ 32 → m < 2 ^ 32 → codes "  " ++ (decimal n ++ (codes " " ++ rest)) ≡ codes "  " ++ (decimal m ++ (codes " " ++ more))
    → (n ≡ m) × (rest ≡ more)
picks-one n m rest more small less same =
    let both = number-one n m (codes " " ++ rest) (codes " " ++ more) (omega (arith, small)) (omega (arith, less)) refl refl (ap (drop 2) same) in
    (both.0, ap (drop 1) both.1)

item-one : IsOne IsTypedItem (λ rest. Unit {0}) item_text
item-one (Fired p c es) (Fired q d fs) rest more is other ends end same =
    let picks = picks-one p q _ _ is.0 other.0 (parts-one (fired_parts p c es) (fired_parts q d fs) rest more same) in
    let clauses = number-one c d (effects_text es ++ (codes "\n" ++ rest)) (effects_text fs ++ (codes "\n" ++ more))
    (omega (arith, is.1)) (omega (arith, other.1)) (effects-no_digit es rest is.2) (effects-no_digit fs more other.2) (ap (drop 6) picks.1) in
    let effects = effects-one es fs (codes "\n" ++ rest) (codes "\n" ++ more) is.2 other.2 refl refl clauses.1 in
    (ap (λ x. Fired x c es) picks.0 ∙ (ap (λ x. Fired q x es) clauses.0 ∙ ap (λ x. Fired q d x) effects.0), ap (drop 1) effects.1)
item-one (Failed p c g es) (Failed q d h fs) rest more is other ends end same =
    let picks = picks-one p q _ _ is.0 other.0 (parts-one (failed_parts p c g es) (failed_parts q d h fs) rest more same) in
    let clauses = number-one c d (codes " at " ++ (decimal g ++ (effects_text es ++ (codes "\n" ++ rest)))) (codes " at " ++ (decimal h ++ (effects_text fs ++ (codes "\n" ++ more))))
    (omega (arith, is.1)) (omega (arith, other.1)) refl refl (ap (drop 7) picks.1) in
    let goals = number-one g h (effects_text es ++ (codes "\n" ++ rest)) (effects_text fs ++ (codes "\n" ++ more))
    (omega (arith, is.2)) (omega (arith, other.2)) (effects-no_digit es rest is.3) (effects-no_digit fs more other.3) (ap (drop 4) clauses.1) in
    let effects = effects-one es fs (codes "\n" ++ rest) (codes "\n" ++ more) is.3 other.3 refl refl goals.1 in (
      ap (λ x. Failed x c g es) picks.0 ∙ (ap (λ x. Failed q x g es) clauses.0 ∙ (ap (λ x. Failed q d x es) goals.0 ∙ ap (λ x. Failed q d h x) effects.0)),
      ap (drop 1) effects.1,
    )
item-one (Fired p c es) (Failed q d h fs) rest more is other ends end same =
    absurd (apart (codes "fired ") _ _ _ refl refl (picks-one p q _ _ is.0 other.0 (parts-one (fired_parts p c es) (failed_parts q d h fs) rest more same)).1)
item-one (Failed p c g es) (Fired q d fs) rest more is other ends end same =
    absurd (apart (codes "failed ") _ _ _ refl refl (picks-one p q _ _ is.0 other.0 (parts-one (failed_parts p c g es) (fired_parts q d fs) rest more same)).1)

space_at_front : (i : Item) (rest : List ℕ) → StartsWithNoSpace (item_text i ++ rest) → ⊥
space_at_front (Fired p c es) rest none = none refl
space_at_front (Failed p c g es) rest none = none refl

item-apart : (i : Item) (rest more : List ℕ) → IsTypedItem i → StartsWithNoSpace more → item_text i ++ rest ≡ more → ⊥
item-apart i rest more is none same = space_at_front i rest (subst StartsWithNoSpace (sym same) none)

pub items-one : IsOne (All IsTypedItem) StartsWithNoSpace items_text
items-one = list-one IsTypedItem (λ rest. Unit {0}) StartsWithNoSpace item_text item-one (λ i rest is. tt) (λ rest stops. tt) item-apart

-- agents and calls

module _ (agents : List (List ℕ)) (differ : AllPairs ◌≢◌ agents) where
  pub agent-one : (i j : ℕ) → i < length agents → j < length agents → get_or agents i [] ≡ get_or agents j [] → i ≡ j
  agent-one i j inside within same =
      let before_not : (i < j) → ⊥ = λ less. differ i j [] less within same in
      let behind_not : (j < i) → ⊥ = λ less. differ j i [] less inside (sym same) in
      omega (arith, before_not, behind_not)

  pub call-one : (i j : CallId) (rest more : List ℕ) → IsTypedId i → IsTypedId j → i.agent < length agents → j.agent < length agents
      → call_text agents i ++ (codes " " ++ rest) ≡ call_text agents j ++ (codes " " ++ more) → (i ≡ j) × (rest ≡ more)
  call-one i j rest more is other inside within same =
      let names = name-one (get_or agents i.agent []) (get_or agents j.agent []) (codes " " ++ (decimal i.number ++ (codes " " ++ rest))) (codes " " ++ (decimal j.number ++ (codes " " ++ more)))
      refl refl (parts-one (atom_text (get_or agents i.agent []) ∷ codes " " ∷ decimal i.number ∷ []) (atom_text (get_or agents j.agent []) ∷ codes " " ∷ decimal j.number ∷ [])
      (codes " " ++ rest) (codes " " ++ more) same) in
      let numbers = number-one i.number j.number (codes " " ++ rest) (codes " " ++ more) is.number other.number refl refl (ap (drop 1) names.1) in
      (ap₂ (λ a n. record { agent = a; number = n }) (agent-one i.agent j.agent inside within names.0) numbers.0, ap (drop 1) numbers.1)
