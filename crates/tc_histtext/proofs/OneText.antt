-- The text of a run is that of one list of histories, whatever its logs are.
use Rattle.std.proofs.Common.{◌≡◌, ◌≢◌, ◌-◌, ℕ, List, [], ◌∷◌, ◌++◌, codes, length, drop, None, All, AllPairs, refl, sym, ap, ap₂, subst, ◌∙◌, arith, append_assoc}
use Rattle.std.specs.Fmt.{decimal}
use Rattle.std.specs.List.{flat_map}
use Rattle.std.proofs.lemmas.List.Elements.{All-head, All-tail}
use Rattle.std.proofs.lemmas.Option.{none-some}
use Rattle.tc_lists.specs.Texts.{after}
use Rattle.tc_model.specs.Typed.{IsTypedItem}
use Rattle.tc_model.specs.declared.entries.Entry.{Entry}
use Rattle.tc_model.specs.declared.entries.Entry.TheVariants.{Called, Gave, Looked}
use Rattle.tc_model.specs.declared.items.Item.{Item}
use Rattle.tc_model.specs.declared.outcomes.Outcome.{Outcome}
use Rattle.tc_histtext.specs.Lines.{HasLines}
use Rattle.tc_histline.specs.Text.{call_text, centre_heading, entry_text, items_text, op_text, outcome_text, told_text}
use Rattle.tc_histtext.specs.Text.{histories_text}
use Rattle.tc_histline.proofs.ReadOperations.{op-one}
use Rattle.tc_histline.proofs.ReadOutcomes.{outcome-one, told-one}
use Rattle.tc_histline.proofs.Repeated.{IsOne, list-one}
use Rattle.tc_histline.proofs.OneLine.{StartsWithNoSpace, apart, behind-one, call-one, items-one, number-one, parts-one}

-- entries

-- no entry begins here
pub record StopsHistory (bytes : List ℕ) : Type 0 where
  pub call : after (codes "call ") bytes ≡ None
  pub give : after (codes "give ") bytes ≡ None
  pub look : after (codes "look ") bytes ≡ None
  pub item : StartsWithNoSpace bytes

module _ (agents : List (List ℕ)) (differ : AllPairs ◌≢◌ agents) where
  -- an outcome, the end of its line, and items
  result-one : (o p : Outcome) (is js : List Item) (rest more : List ℕ)
      → (one : (left right : List ℕ) → outcome_text o ++ (codes "\n" ++ left) ≡ outcome_text p ++ (codes "\n" ++ right) → (o ≡ p) × (codes "\n" ++ left ≡ codes "\n" ++ right))
      → All IsTypedItem is → All IsTypedItem js → StartsWithNoSpace rest → StartsWithNoSpace more
      → outcome_text o ++ (codes "\n" ++ (items_text is ++ rest)) ≡ outcome_text p ++ (codes "\n" ++ (items_text js ++ more))
      → (o ≡ p) × (is ≡ js) × (rest ≡ more)
  result-one o p is js rest more one all also ends end same =
      let results = one (items_text is ++ rest) (items_text js ++ more) same in
      let items = items-one is js rest more all also ends end (ap (drop 1) results.1) in
      (results.0, items.0, items.1)

  entry-one : IsOne (HasLines agents) StartsWithNoSpace (entry_text agents)
  entry-one (Called i o r is) (Called j p s js) rest more lines others ends end same =
      let ids = call-one agents differ i j _ _ lines.typed.0 others.typed.0 lines.agent others.agent
      (ap (drop 5) (parts-one
      (codes "call " ∷ call_text agents i ∷ codes " " ∷ op_text o ∷ codes " = " ∷ outcome_text r ∷ codes "\n" ∷ items_text is ∷ [])
      (codes "call " ∷ call_text agents j ∷ codes " " ∷ op_text p ∷ codes " = " ∷ outcome_text s ∷ codes "\n" ∷ items_text js ∷ [])
      rest more same)) in
      let ops = op-one o p _ _ lines.typed.1 others.typed.1 ids.1 in
      let results = result-one r s is js rest more
      (λ left right. outcome-one r s left right lines.typed.2 others.typed.2 lines.form.0 others.form.0)
      lines.typed.3 others.typed.3 ends end (ap (drop 3) ops.1) in (
        ap (λ x. Called x o r is) ids.0 ∙ (ap (λ x. Called j x r is) ops.0 ∙ (ap (λ x. Called j p x is) results.0 ∙ ap (λ x. Called j p s x) results.1)),
        results.2,
      )
  entry-one (Gave i r is) (Gave j s js) rest more lines others ends end same =
      let ids = call-one agents differ i j _ _ lines.typed.0 others.typed.0 lines.agent others.agent
      (ap (drop 5) (parts-one
      (codes "give " ∷ call_text agents i ∷ codes " = " ∷ outcome_text r ∷ codes "\n" ∷ items_text is ∷ [])
      (codes "give " ∷ call_text agents j ∷ codes " = " ∷ outcome_text s ∷ codes "\n" ∷ items_text js ∷ [])
      rest more same)) in
      let results = result-one r s is js rest more
      (λ left right. outcome-one r s left right lines.typed.1 others.typed.1 lines.form.0 others.form.0)
      lines.typed.2 others.typed.2 ends end (ap (drop 2) ids.1) in
      (ap (λ x. Gave x r is) ids.0 ∙ (ap (λ x. Gave j x is) results.0 ∙ ap (λ x. Gave j s x) results.1), results.2)
  entry-one (Looked i a t) (Looked j b u) rest more lines others ends end same =
      let ids = call-one agents differ i j _ _ lines.typed.0 others.typed.0 lines.agent others.agent
      (ap (drop 5) (parts-one
      (codes "look " ∷ call_text agents i ∷ codes " " ∷ decimal a ∷ codes " = " ∷ told_text t ∷ codes "\n" ∷ [])
      (codes "look " ∷ call_text agents j ∷ codes " " ∷ decimal b ∷ codes " = " ∷ told_text u ∷ codes "\n" ∷ [])
      rest more same)) in
      let asked = number-one a b _ _ lines.typed.1 others.typed.1 refl refl ids.1 in
      let told = told-one t u rest more lines.typed.2 others.typed.2 (ap (drop 3) asked.1) in
      (ap (λ x. Looked x a t) ids.0 ∙ (ap (λ x. Looked j x t) asked.0 ∙ ap (λ x. Looked j b x) told.0), ap (drop 1) told.1)
  entry-one (Called i o r is) (Gave j s js) rest more lines others ends end same = absurd (apart (codes "call ") _ _ _ refl refl same)
  entry-one (Called i o r is) (Looked j b u) rest more lines others ends end same = absurd (apart (codes "call ") _ _ _ refl refl same)
  entry-one (Gave i r is) (Called j p s js) rest more lines others ends end same = absurd (apart (codes "give ") _ _ _ refl refl same)
  entry-one (Gave i r is) (Looked j b u) rest more lines others ends end same = absurd (apart (codes "give ") _ _ _ refl refl same)
  entry-one (Looked i a t) (Called j p s js) rest more lines others ends end same = absurd (apart (codes "look ") _ _ _ refl refl same)
  entry-one (Looked i a t) (Gave j s js) rest more lines others ends end same = absurd (apart (codes "look ") _ _ _ refl refl same)

  entry-no_space : (e : Entry) (rest : List ℕ) → HasLines agents e → StartsWithNoSpace (entry_text agents e ++ rest)
  entry-no_space (Called i o r is) rest lines = λ e. omega (arith, e)
  entry-no_space (Gave i r is) rest lines = λ e. omega (arith, e)
  entry-no_space (Looked i a t) rest lines = λ e. omega (arith, e)

  goes_on : (e : Entry) (rest : List ℕ) → StopsHistory (entry_text agents e ++ rest) → ⊥
  goes_on (Called i o r is) rest stops = none-some _ (sym stops.call)
  goes_on (Gave i r is) rest stops = none-some _ (sym stops.give)
  goes_on (Looked i a t) rest stops = none-some _ (sym stops.look)

  entry-apart : (e : Entry) (rest more : List ℕ) → HasLines agents e → StopsHistory more → entry_text agents e ++ rest ≡ more → ⊥
  entry-apart e rest more lines stops same = goes_on e rest (subst StopsHistory (sym same) stops)

  -- entries, up to where no entry begins
  entries-one : IsOne (All (HasLines agents)) StopsHistory (flat_map (entry_text agents))
  entries-one = list-one (HasLines agents) StartsWithNoSpace StopsHistory (entry_text agents) entry-one entry-no_space (λ rest stops. stops.item) entry-apart

  -- histories

  histories-stop : (names : List (List ℕ)) (hs : List (List Entry)) (rest : List ℕ) → StopsHistory rest → StopsHistory (histories_text agents names hs ++ rest)
  histories-stop [] hs rest stops = stops
  histories-stop (n ∷ ns) [] rest stops = stops
  histories-stop (n ∷ ns) (h ∷ hs) rest stops = record { call = refl; give = refl; look = refl; item = λ e. omega (arith, e) }

  regrouped : (a b c d : List ℕ) → ((a ++ b) ++ c) ++ d ≡ a ++ (b ++ (c ++ d))
  regrouped a b c d = append_assoc (a ++ b) c d ∙ append_assoc a b (c ++ d)

  pub histories-one : (names : List (List ℕ)) (hs gs : List (List Entry)) (rest more : List ℕ) → length hs ≡ length names → length gs ≡ length names
      → All (All (HasLines agents)) hs → All (All (HasLines agents)) gs → StopsHistory rest → StopsHistory more
      → histories_text agents names hs ++ rest ≡ histories_text agents names gs ++ more → hs ≡ gs
  histories-one [] [] [] rest more whole all lines others stops stop same = refl
  histories-one [] (h ∷ hs) gs rest more whole all lines others stops stop same = absurd (omega (arith, whole))
  histories-one [] [] (g ∷ gs) rest more whole all lines others stops stop same = absurd (omega (arith, all))
  histories-one (n ∷ ns) [] gs rest more whole all lines others stops stop same = absurd (omega (arith, whole))
  histories-one (n ∷ ns) (h ∷ hs) [] rest more whole all lines others stops stop same = absurd (omega (arith, all))
  histories-one (n ∷ ns) (h ∷ hs) (g ∷ gs) rest more whole all lines others stops stop same =
      let behind = behind-one (centre_heading n)
      (flat_map (entry_text agents) h ++ (histories_text agents ns hs ++ rest)) (flat_map (entry_text agents) g ++ (histories_text agents ns gs ++ more))
      (sym (regrouped (centre_heading n) (flat_map (entry_text agents) h) (histories_text agents ns hs) rest)
      ∙ (same ∙ regrouped (centre_heading n) (flat_map (entry_text agents) g) (histories_text agents ns gs) more)) in
      let first = entries-one h g (histories_text agents ns hs ++ rest) (histories_text agents ns gs ++ more)
      (All-head (All (HasLines agents)) h hs lines) (All-head (All (HasLines agents)) g gs others)
      (histories-stop ns hs rest stops) (histories-stop ns gs more stop) behind in
      ap₂ (λ x xs. x ∷ xs) first.0
      (histories-one ns hs gs rest more (omega (arith, whole)) (omega (arith, all))
      (All-tail (All (HasLines agents)) h hs lines) (All-tail (All (HasLines agents)) g gs others) stops stop first.1)
