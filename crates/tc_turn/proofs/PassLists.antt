-- The lists of passes as they are made, and of passes that have ended.
use Rattle.std.proofs.Common.{◌≡◌, ℕ, zero, suc, ◌+◌, ◌*◌, ◌<◌, ◌≤◌, List, [], ◌∷◌, ◌++◌, map, length, get_or, sym, refl, ap, ◌∙◌, arith, false, sum_by, All, Option, Some, append_assoc, mul-le-mul_right}
use Rattle.std.proofs.lemmas.List.Elements.{All-nil, All-cons, All-head, All-tail, All-same}
use Rattle.std.proofs.lemmas.List.Sums.{sum_by-cons}
use Rattle.atomic_table.specs.Seated.{TableId}
use Rattle.tc_turn.specs.declared.view.View.{View}
use Rattle.tc_turn.specs.declared.view.PassRecord.{PassRecord}
use Rattle.tc_turn.specs.Order.{one_if_record, FitsRecord}
use Rattle.tc_turn.specs.Passes.{TurnstileState, PassState, EndedState, IsPassOfTurnstile, new_pass, new_passes, record_of_ended, ended_count, AgreesWith, IsMaker}

module _ {E O : Type 0} where
  -- the maker has the turns of one more pass
  pub turns_for_one : (v : View E O) (first : O) (passes k share : ℕ) → IsMaker v first passes k share → k < passes → v.share ≤ v.turns
  turns_for_one v first passes k share is more =
      let bound : (k + 1) * share ≤ passes * share = mul-le-mul_right share (omega arith) in
      omega (arith, is.each, is.left, bound)

  -- one more pass at the end
  pub new_passes-push : (table : TableId) (origin : O) (turns k n : ℕ) → new_passes {E = E} table origin turns k (n + 1) ≡ new_passes table origin turns k n ++ new_pass table origin turns (k + n) ∷ []
  new_passes-push table origin turns k zero = let e : k ≡ k + 0 = omega arith in ap (λ (i : ℕ). new_pass table origin turns i ∷ []) e
  new_passes-push table origin turns k (suc n) =
      let e : suc n + 1 ≡ suc (n + 1) = omega arith in
      let d : (k + 1) + n ≡ k + suc n = omega arith in
      ap (new_passes {E = E} table origin turns k) e
      ∙ ap (λ (l : List (PassState E O)). new_pass table origin turns k ∷ l) (new_passes-push table origin turns (k + 1) n)
      ∙ ap (λ (i : ℕ). new_pass table origin turns k ∷ (new_passes {E = E} table origin turns (k + 1) n ++ new_pass table origin turns i ∷ [])) d

module _ {E : Type 0} where
  -- the records of ended passes count as these do
  pub sum_by-records : (n : ℕ) (ended : List (EndedState E)) → sum_by (one_if_record n) (map record_of_ended ended) ≡ ended_count n ended
  sum_by-records n [] = refl
  sum_by-records n (e ∷ es) = omega (arith, sum_by-records n es, sum_by-cons (one_if_record n) (record_of_ended e) (map record_of_ended es), sum_by-cons (λ (x : EndedState E). one_if_record n (record_of_ended x)) e es)

  -- where their records fit the history, the ended passes agree with it
  pub AgreesWith-records : (owner : E → Option ℕ) (history : List E) (ended : List (EndedState E)) → All (FitsRecord owner history) (map record_of_ended ended) → All (AgreesWith owner history) ended
  AgreesWith-records owner history [] fit = All-nil _
  AgreesWith-records owner history (e ∷ es) fit =
      let f = All-head (FitsRecord owner history) (record_of_ended e) (map record_of_ended es) fit in
      All-cons (AgreesWith owner history) e es (f.seen, f.mine) (AgreesWith-records owner history es (All-tail (FitsRecord owner history) (record_of_ended e) (map record_of_ended es) fit))

module _ {E O : Type 0} where
  pub IsMaker-same : (v : View E O) (first first' : O) (passes passes' k share : ℕ) → first ≡ first' → passes ≡ passes' → IsMaker v first passes k share → IsMaker v first' passes' k share
  IsMaker-same v first first' passes passes' k share e d is = record { next = is.next; each = is.each; left = omega (arith, is.left, ap (λ (n : ℕ). n * share) d); origin = is.origin ∙ ap (λ (o : O). Some o) e }

  -- the list that gets the next pass
  pub new_passes-more : (table : TableId) (origin origin' : O) (turns n : ℕ) (made all : List (PassState E O)) (pass : PassState E O) → origin' ≡ origin → made ≡ new_passes table origin turns 0 n → pass ≡ new_pass table origin' turns n → all ≡ made ++ pass ∷ [] → all ≡ new_passes table origin turns 0 (n + 1)
  new_passes-more table origin origin' turns n made all pass same before is after =
      let zero_more : n ≡ 0 + n = omega arith in
      after
      ∙ ap (λ (l : List (PassState E O)). l ++ pass ∷ []) before
      ∙ ap (λ (p : PassState E O). new_passes table origin turns 0 n ++ p ∷ []) (is ∙ ap (λ (o : O). new_pass table o turns n) same ∙ ap (λ (i : ℕ). new_pass table origin turns i) zero_more)
      ∙ sym (new_passes-push table origin turns 0 n)

module _ {E : Type 0} where
  -- the last of the list is the next that is taken in
  pub taken_from_end : (items before rest done : List (EndedState E)) (one : EndedState E) → items ≡ before ++ done → before ≡ rest ++ one ∷ [] → items ≡ rest ++ one ∷ done
  taken_from_end items before rest done one e last = e ∙ ap (λ (l : List (EndedState E)). l ++ done) last ∙ append_assoc rest (one ∷ []) done

  nil_from_length : (xs : List (EndedState E)) → length xs ≡ 0 → xs ≡ []
  nil_from_length [] e = refl
  nil_from_length (x ∷ xs) e = absurd (omega arith)

  -- once nothing is left in the list, all of it is taken in
  all_done : (items rest done : List (EndedState E)) → length rest ≡ 0 → items ≡ rest ++ done → items ≡ done
  all_done items rest done none' e = e ∙ ap (λ (l : List (EndedState E)). l ++ done) (nil_from_length rest none')

  pub whole_at_end : (items rest done : List (EndedState E)) (records : List (PassRecord E)) (passes : ℕ) → length rest ≡ 0 → items ≡ rest ++ done → records ≡ map record_of_ended done → ((n : ℕ) → n < passes → 0 < ended_count n items) → (n : ℕ) → n < passes → 0 < sum_by (one_if_record n) records
  whole_at_end items rest done records passes none' e r whole n below = omega (arith, whole n below, ap (ended_count n) (all_done items rest done none' e), ap (sum_by (one_if_record n)) r, sum_by-records n done)

  pub agree_at_end : (owner : E → Option ℕ) (history : List E) (items rest done : List (EndedState E)) (records : List (PassRecord E)) → length rest ≡ 0 → items ≡ rest ++ done → records ≡ map record_of_ended done → All (FitsRecord owner history) records → All (AgreesWith owner history) items
  agree_at_end owner history items rest done records none' e r fit =
      All-same (AgreesWith owner history) items done (all_done items rest done none' e)
      (AgreesWith-records owner history done (All-same (FitsRecord owner history) (map record_of_ended done) records (sym r) fit))

module _ {E O : Type 0} where
  -- new passes are of their turnstile, and hold no turn
  pub new_passes-own : (t : TurnstileState O) (origin : O) (turns k n : ℕ) → t.origin ≡ origin → All (λ (p : PassState E O). IsPassOfTurnstile t p × (p.holds ≡ false)) (new_passes t.table origin turns k n)
  new_passes-own t origin turns k zero same = All-nil _
  new_passes-own t origin turns k (suc n) same =
      All-cons (λ (p : PassState E O). IsPassOfTurnstile t p × (p.holds ≡ false)) (new_pass t.table origin turns k) (new_passes t.table origin turns (k + 1) n)
      ((refl, ap (λ (o : O). Some o) (sym same)), refl)
      (new_passes-own t origin turns (k + 1) n same)

pub length-new_passes : (E : Type 0) {O : Type 0} (table : TableId) (origin : O) (turns k n : ℕ) → length (new_passes {E = E} table origin turns k n) ≡ n
length-new_passes E table origin turns k zero = refl
length-new_passes E table origin turns k (suc n) = omega (arith, length-new_passes E table origin turns (k + 1) n)

module _ {E O : Type 0} (table : TableId) (origin : O) (turns : ℕ) where
  -- the pass at each place has the number of the place
  pub number-new_passes : (k n i : ℕ) (d : PassState E O) → i < n → (get_or (new_passes table origin turns k n) i d).number ≡ k + i
  number-new_passes k zero i d lt = absurd (omega arith)
  number-new_passes k (suc n) zero d lt = omega arith
  number-new_passes k (suc n) (suc i) d lt = omega (arith, number-new_passes (k + 1) n i d (omega arith))
