-- Items: what is read stands there, and what is written is read again.
use Rattle.std.proofs.Common.{◌≡◌, ◌<◌, ◌≤◌, ◌-◌, ◌^◌, ◌==◌, ℕ, zero, suc, Bool, true, false, if◌then◌else◌, List, [], ◌∷◌, ◌++◌, codes, length, Some, None, All, refl, sym, ap, subst, ◌∙◌, arith, append_assoc, append-nil, length-append}
use Rattle.std.specs.Fmt.{decimal}
use Rattle.std.specs.List.{flat_map}
use Rattle.std.proofs.lemmas.Bool.{ne_eqb, eqb-false}
use Rattle.std.proofs.lemmas.List.Elements.{All-head, All-tail, All-nil, All-cons}
use Rattle.tc_lists.specs.AtFront.{AlwaysTakes, Front, IsReadAgain, Takes, and_then, closed, closed_by, or_else}
use Rattle.tc_lists.specs.Decimals.{number_at, StartsWithNoDigit}
use Rattle.tc_lists.specs.Texts.{after}
use Rattle.tc_lists.proofs.AtFront.{and_then-again, closed_by-again, closed_by-takes, number-takes, or_else-first}
use Rattle.tc_lists.proofs.Decimals.{number_at-again}
use Rattle.tc_read.specs.Canonical.{EndsTerm}
use Rattle.tc_model.specs.Typed.{IsTypedEffect}
use Rattle.tc_model.specs.declared.items.Effect.{Effect}
use Rattle.tc_model.specs.declared.items.Effect.TheVariants.{Put, Took, Read}
use Rattle.tc_model.specs.declared.items.Item.{Item}
use Rattle.tc_model.specs.declared.items.Item.TheVariants.{Fired, Failed}
use Rattle.tc_histline.specs.Items.{ahead, and_others, effects_at, failed_at, fired_at, item_at, place_at, several, unless_zero, with_effects, HasItemLine}
use Rattle.tc_histline.specs.Outcomes.{effect_at}
use Rattle.tc_histline.specs.Text.{effect_text, effects_text, item_text}
use Rattle.tc_histline.proofs.OneLine.{IsLineEnd, effects-end, effects-no_digit, failed_parts, fired_parts}
use Rattle.tc_histline.proofs.ReadOutcomes.{effect_at-again, effect_at-takes}
use Rattle.tc_histline.proofs.Found.{and_then-some, behind-some, closed-some, takes-from, takes-some}
use Rattle.tc_histline.proofs.Repeated.{joined-before}

-- places

abbrev IsPlace : ℕ → Type 0
IsPlace n = (n < 2 ^ 32) × (1 ≤ n)

place_at-takes : AlwaysTakes IsPlace decimal place_at
place_at-takes bytes = by (number_at (2 ^ 32 - 1) bytes) (number-takes (2 ^ 32 - 1) (omega arith) (omega arith) bytes)
  where
    tested : (n : ℕ) (rest : List ℕ) (b : Bool) → (n == 0) ≡ b → (n ≤ 2 ^ 32 - 1) × (bytes ≡ decimal n ++ rest)
        → Takes IsPlace decimal bytes (if b then None else Some (n, rest))
    tested n rest true e takes = tt
    tested n rest false e takes = ((omega (arith, takes.0), omega (arith, eqb-false n 0 e)), takes.1)

    by : (found : Front ℕ) → Takes (λ n. n ≤ 2 ^ 32 - 1) decimal bytes found → Takes IsPlace decimal bytes (unless_zero found)
    by None takes = tt
    by (Some (n, rest)) takes = tested n rest (n == 0) refl takes

place_at-again : (n : ℕ) (rest : List ℕ) → n < 2 ^ 32 → 1 ≤ n → StartsWithNoDigit rest → place_at (decimal n ++ rest) ≡ Some (n, rest)
place_at-again n rest small some ends =
    ap unless_zero (number_at-again (2 ^ 32 - 1) n rest (omega arith) (omega arith) (omega (arith, small)) ends)
    ∙ ap (λ b. if b then None else Some (n, rest)) (ne_eqb n 0 (λ e. omega (arith, e, some)))

-- several things, one behind another

-- things before others
abbrev pub all_ahead : {X : Type 0} → List X → List X × List ℕ → List X × List ℕ
all_ahead xs (ys, rest) = (xs ++ ys, rest)

pub all_ahead-end : {X : Type 0} (xs : List X) (rest : List ℕ) → (xs, rest) ≡ all_ahead xs ([], rest)
all_ahead-end xs rest = ap (λ zs. (zs, rest)) (sym (append-nil xs))

module _ {X : Type 0} (read : List ℕ → Front X) where
  pub all_ahead-nil : (found : List X × List ℕ) → all_ahead [] found ≡ found
  all_ahead-nil (xs, rest) = refl

  all_ahead-more : (xs : List X) (x : X) (found : List X × List ℕ) → all_ahead xs (ahead x found) ≡ all_ahead (xs ++ x ∷ []) found
  all_ahead-more xs x (ys, rest) = ap (λ zs. (zs, rest)) (sym (append_assoc xs (x ∷ []) ys))

  -- one more is read, where it is there
  pub several-next : (n : ℕ) (xs : List X) (bytes : List ℕ) (x : X) (rest : List ℕ) → read bytes ≡ Some (x, rest)
      → all_ahead xs (several read (suc n) bytes) ≡ all_ahead (xs ++ x ∷ []) (several read n rest)
  several-next n xs bytes x rest e = ap (λ o. all_ahead xs (and_others (several read n) bytes o)) e ∙ all_ahead-more xs x (several read n rest)

  -- none is read where none is there
  pub several-none : (n : ℕ) (bytes : List ℕ) → read bytes ≡ None → several read n bytes ≡ ([], bytes)
  several-none zero bytes e = refl
  several-none (suc n) bytes e = ap (and_others (several read n) bytes) e

  -- the loop of the code: one more is read, none is there, and no more may be read
  pub several-more : (xs ys : List X) (n m : ℕ) (bytes : List ℕ) (x : X) (rest : List ℕ) → n ≡ suc m → Some (x, rest) ≡ read bytes → ys ≡ xs ++ x ∷ []
      → all_ahead ys (several read m rest) ≡ all_ahead xs (several read n bytes)
  several-more xs ys n m bytes x rest more there pushed =
      ap (λ zs. all_ahead zs (several read m rest)) pushed
      ∙ (sym (several-next m xs bytes x rest (sym there)) ∙ ap (λ k. all_ahead xs (several read k bytes)) (sym more))

  pub several-last : (xs : List X) (n : ℕ) (bytes : List ℕ) → None ≡ read bytes → (xs, bytes) ≡ all_ahead xs (several read n bytes)
  several-last xs n bytes none = all_ahead-end xs bytes ∙ ap (all_ahead xs) (sym (several-none n bytes (sym none)))

  module _ (good : X → Type 0) (text : X → List ℕ) where
    -- what is read stands there
    pub several-takes : AlwaysTakes good text read → (n : ℕ) (bytes : List ℕ) (xs : List X) (rest : List ℕ) → several read n bytes ≡ (xs, rest)
        → All good xs × (bytes ≡ flat_map text xs ++ rest)
    several-takes takes zero bytes xs rest e = (subst (All good) (ap (λ p. p.0) e) (All-nil good), ap (λ p. flat_map text p.0 ++ p.1) e)
    several-takes takes (suc n) bytes xs rest e =
        by (read bytes) (takes bytes) (λ more. several-takes takes n more (several read n more).0 (several read n more).1 refl) e
      where
        by : (found : Front X) → Takes good text bytes found
            → ((more : List ℕ) → All good (several read n more).0 × (more ≡ flat_map text (several read n more).0 ++ (several read n more).1))
            → and_others (several read n) bytes found ≡ (xs, rest) → All good xs × (bytes ≡ flat_map text xs ++ rest)
        by None there others f = (subst (All good) (ap (λ p. p.0) f) (All-nil good), ap (λ p. flat_map text p.0 ++ p.1) f)
        by (Some (x, more)) there others f = (
          subst (All good) (ap (λ p. p.0) f) (All-cons good x (several read n more).0 there.0 (others more).0),
          there.1 ∙ (ap (λ r. text x ++ r) (others more).1
              ∙ (sym (append_assoc (text x) (flat_map text (several read n more).0) (several read n more).1)
              ∙ ap (λ p. flat_map text p.0 ++ p.1) f)),
        )

    -- what is written is read again, up to where nothing of it stands
    pub several-again : (Ends Stops : List ℕ → Type 0) → ((x : X) (rest : List ℕ) → good x → Ends rest → read (text x ++ rest) ≡ Some (x, rest))
        → ((xs : List X) (rest : List ℕ) → All good xs → Stops rest → Ends (flat_map text xs ++ rest)) → ((rest : List ℕ) → Stops rest → read rest ≡ None)
        → (n : ℕ) (xs : List X) (rest : List ℕ) → All good xs → Stops rest → length xs ≤ n → several read n (flat_map text xs ++ rest) ≡ (xs, rest)
    several-again Ends Stops again ends none n [] rest all stops enough = several-none n rest (none rest stops)
    several-again Ends Stops again ends none zero (x ∷ xs) rest all stops enough = absurd (omega (arith, enough))
    several-again Ends Stops again ends none (suc n) (x ∷ xs) rest all stops enough =
        ap (λ bytes. and_others (several read n) bytes (read bytes)) (append_assoc (text x) (flat_map text xs) rest)
        ∙ (ap (and_others (several read n) (text x ++ (flat_map text xs ++ rest)))
        (again x (flat_map text xs ++ rest) (All-head good x xs all) (ends xs rest (All-tail good x xs all) stops))
        ∙ ap (ahead x) (several-again Ends Stops again ends none n xs rest (All-tail good x xs all) stops (omega (arith, enough))))

-- effects

none_at_end : (rest : List ℕ) → IsLineEnd rest → effect_at rest ≡ None
none_at_end [] is = absurd is
none_at_end (b ∷ s) is = ap (λ c. effect_at (c ∷ s)) is

effect-some : (e : Effect) → 1 ≤ length (effect_text e)
effect-some (Put t) = omega arith
effect-some (Took t) = omega arith
effect-some (Read t) = omega arith

effects-count : (es : List Effect) → length es ≤ length (effects_text es)
effects-count [] = omega arith
effects-count (e ∷ es) = omega (arith, effect-some e, effects-count es, length-append (effect_text e) (effects_text es))

effects_at-again : (es : List Effect) (rest : List ℕ) → All IsTypedEffect es → effects_at (effects_text es ++ (codes "\n" ++ rest)) ≡ (es, codes "\n" ++ rest)
effects_at-again es rest all =
    several-again effect_at IsTypedEffect effect_text EndsTerm IsLineEnd effect_at-again effects-end none_at_end
    (length (effects_text es ++ (codes "\n" ++ rest))) es (codes "\n" ++ rest) all refl
    (omega (arith, effects-count es, length-append (effects_text es) (codes "\n" ++ rest)))

-- items

with_effects-again : (make : List Effect → Item) (es : List Effect) (rest : List ℕ) → All IsTypedEffect es
    → with_effects make (effects_at (effects_text es ++ (codes "\n" ++ rest))) ≡ Some (make es, rest)
with_effects-again make es rest all = ap (with_effects make) (effects_at-again es rest all)

fired_at-again : (p c : ℕ) (es : List Effect) (rest : List ℕ) → c < 2 ^ 32 → 1 ≤ c → All IsTypedEffect es
    → fired_at p (codes " fired " ++ (decimal c ++ (effects_text es ++ (codes "\n" ++ rest)))) ≡ Some (Fired p c es, rest)
fired_at-again p c es rest small some all =
    and_then-again _ _ c (effects_text es ++ (codes "\n" ++ rest)) _
    (place_at-again c (effects_text es ++ (codes "\n" ++ rest)) small some (effects-no_digit es rest all))
    (with_effects-again (Fired p c) es rest all)

failed_at-again : (p c g : ℕ) (es : List Effect) (rest : List ℕ) → c < 2 ^ 32 → 1 ≤ c → g < 2 ^ 32 → 1 ≤ g → All IsTypedEffect es
    → failed_at p (codes " failed " ++ (decimal c ++ (codes " at " ++ (decimal g ++ (effects_text es ++ (codes "\n" ++ rest)))))) ≡ Some (Failed p c g es, rest)
failed_at-again p c g es rest small some less one all =
    and_then-again _ _ c (decimal g ++ (effects_text es ++ (codes "\n" ++ rest))) _
    (closed_by-again (codes " at ") (decimal g ++ (effects_text es ++ (codes "\n" ++ rest))) _ c
    (place_at-again c (codes " at " ++ (decimal g ++ (effects_text es ++ (codes "\n" ++ rest)))) small some refl))
    (and_then-again _ _ g (effects_text es ++ (codes "\n" ++ rest)) _
    (place_at-again g (effects_text es ++ (codes "\n" ++ rest)) less one (effects-no_digit es rest all))
    (with_effects-again (Failed p c g) es rest all))

pub item_at-again : IsReadAgain HasItemLine item_text item_at
item_at-again (Fired p c es) rest is =
    ap item_at (joined-before (fired_parts p c es) rest)
    ∙ and_then-again _ _ p (codes " fired " ++ (decimal c ++ (effects_text es ++ (codes "\n" ++ rest)))) _
    (place_at-again p (codes " fired " ++ (decimal c ++ (effects_text es ++ (codes "\n" ++ rest)))) is.0.0 is.1.0 refl)
    (or_else-first _ _ _ (fired_at-again p c es rest is.0.1 is.1.1 is.0.2))
item_at-again (Failed p c g es) rest is =
    ap item_at (joined-before (failed_parts p c g es) rest)
    ∙ and_then-again _ _ p (codes " failed " ++ (decimal c ++ (codes " at " ++ (decimal g ++ (effects_text es ++ (codes "\n" ++ rest)))))) _
    (place_at-again p (codes " failed " ++ (decimal c ++ (codes " at " ++ (decimal g ++ (effects_text es ++ (codes "\n" ++ rest)))))) is.0.0 is.1.0 refl)
    (failed_at-again p c g es rest is.0.1 is.1.1 is.0.2 is.1.2 is.0.3)

-- what is read stands there

-- effects up to the end of the line
record WithEffects (make : List Effect → Item) (bytes : List ℕ) (i : Item) (rest : List ℕ) : Type 0 where
  effects : List Effect
  typed : All IsTypedEffect effects
  is : make effects ≡ i
  text : bytes ≡ effects_text effects ++ (codes "\n" ++ rest)

with_effects-some : (make : List Effect → Item) (bytes : List ℕ) (i : Item) (rest : List ℕ) → with_effects make (effects_at bytes) ≡ Some (i, rest) → WithEffects make bytes i rest
with_effects-some make bytes i rest e = by (effects_at bytes).0 (effects_at bytes).1 refl e
  where
    by : (es : List Effect) (more : List ℕ) → effects_at bytes ≡ (es, more) → closed (make es) (after (codes "\n") more) ≡ Some (i, rest) → WithEffects make bytes i rest
    by es more f g =
        let stands = several-takes effect_at IsTypedEffect effect_text effect_at-takes (length bytes) bytes es more f in
        let ends = closed-some (codes "\n") more (make es) i rest g in
        record { effects = es; typed = stands.0; is = ends.0; text = stands.1 ∙ ap (λ r. effects_text es ++ r) ends.1 }

fired_at-some : (p : ℕ) (bytes : List ℕ) (i : Item) (rest : List ℕ) → IsPlace p → fired_at p bytes ≡ Some (i, rest)
    → HasItemLine i × (codes "  " ++ (decimal p ++ bytes) ≡ item_text i ++ rest)
fired_at-some p bytes i rest is e =
    let word = behind-some (codes " fired ") bytes _ i rest e in
    let clause = and_then-some (place_at word.0) _ i rest word.2 in
    let place = takes-some IsPlace decimal word.0 (place_at word.0) clause.0 clause.1 (place_at-takes word.0) clause.2 in
    let tail = with_effects-some (Fired p clause.0) clause.1 i rest clause.3 in (
      subst HasItemLine tail.is ((is.0, place.0.0, tail.typed), (is.1, place.0.1)),
      ap (λ b. codes "  " ++ (decimal p ++ b)) (word.1 ∙ ap (λ b. codes " fired " ++ b) (place.1 ∙ ap (λ b. decimal clause.0 ++ b) tail.text))
          ∙ (sym (joined-before (fired_parts p clause.0 tail.effects) rest) ∙ ap (λ j. item_text j ++ rest) tail.is),
    )

failed_at-some : (p : ℕ) (bytes : List ℕ) (i : Item) (rest : List ℕ) → IsPlace p → failed_at p bytes ≡ Some (i, rest)
    → HasItemLine i × (codes "  " ++ (decimal p ++ bytes) ≡ item_text i ++ rest)
failed_at-some p bytes i rest is e =
    let word = behind-some (codes " failed ") bytes _ i rest e in
    let clause = and_then-some (closed_by (codes " at ") (place_at word.0)) _ i rest word.2 in
    let place = takes-some IsPlace (λ n. decimal n ++ codes " at ") word.0 (closed_by (codes " at ") (place_at word.0)) clause.0 clause.1
    (closed_by-takes IsPlace decimal (codes " at ") word.0 (place_at word.0) (place_at-takes word.0)) clause.2 in
    let goal = and_then-some (place_at clause.1) _ i rest clause.3 in
    let goals = takes-some IsPlace decimal clause.1 (place_at clause.1) goal.0 goal.1 (place_at-takes clause.1) goal.2 in
    let tail = with_effects-some (Failed p clause.0 goal.0) goal.1 i rest goal.3 in (
      subst HasItemLine tail.is ((is.0, place.0.0, goals.0.0, tail.typed), (is.1, place.0.1, goals.0.1)),
      ap (λ b. codes "  " ++ (decimal p ++ b)) (word.1 ∙ ap (λ b. codes " failed " ++ b) (place.1
          ∙ (append_assoc (decimal clause.0) (codes " at ") clause.1
          ∙ ap (λ b. decimal clause.0 ++ (codes " at " ++ b)) (goals.1 ∙ ap (λ b. decimal goal.0 ++ b) tail.text))))
          ∙ (sym (joined-before (failed_parts p clause.0 goal.0 tail.effects) rest) ∙ ap (λ j. item_text j ++ rest) tail.is),
    )

item_at-some : (bytes : List ℕ) (i : Item) (rest : List ℕ) → item_at bytes ≡ Some (i, rest) → HasItemLine i × (bytes ≡ item_text i ++ rest)
item_at-some bytes i rest e =
    let word = behind-some (codes "  ") bytes _ i rest e in
    let pick = and_then-some (place_at word.0) _ i rest word.2 in
    let place = takes-some IsPlace decimal word.0 (place_at word.0) pick.0 pick.1 (place_at-takes word.0) pick.2 in
    by word pick.0 pick.1 place (fired_at pick.0 pick.1) refl pick.3
  where
    by : (word : (more : List ℕ) × (bytes ≡ codes "  " ++ more) × (and_then (place_at more) (λ pick left. or_else (fired_at pick left) (failed_at pick left)) ≡ Some (i, rest)))
        (p : ℕ) (more : List ℕ) → IsPlace p × (word.0 ≡ decimal p ++ more) → (o : Front Item) → fired_at p more ≡ o → or_else o (failed_at p more) ≡ Some (i, rest)
        → HasItemLine i × (bytes ≡ item_text i ++ rest)
    by word p more place None f g =
        let both = failed_at-some p more i rest place.0 g in
        (both.0, word.1 ∙ (ap (λ b. codes "  " ++ b) place.1 ∙ both.1))
    by word p more place (Some found) f g =
        let both = fired_at-some p more i rest place.0 (f ∙ g) in
        (both.0, word.1 ∙ (ap (λ b. codes "  " ++ b) place.1 ∙ both.1))

pub item_at-takes : AlwaysTakes HasItemLine item_text item_at
item_at-takes bytes = takes-from HasItemLine item_text bytes (item_at bytes) (item_at-some bytes)
