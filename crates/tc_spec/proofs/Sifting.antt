-- Going through numbers of clauses, and keeping those that have a property.
use Rattle.std.proofs.Common.{◌≡◌, ◌<◌, ◌≤◌, ◌+◌, ◌↔◌, ℕ, ◌⊎◌, inl, inr, ⊎_elim, List, [], ◌∷◌, ◌++◌, length, get_or, Some, refl, sym, ap, subst, ◌∙◌, arith, Bool, true, false, IsTrue, not, if◌then◌else◌, ◌-◌, ◌==◌}
use Rattle.std.specs.List.{AllPairs, Contains, slice_get}
use Rattle.std.proofs.lemmas.Bool.{cases_lt, ne_eqb}
use Rattle.std.proofs.lemmas.List.{get_or_default}
use Rattle.std.proofs.lemmas.List.Elements.{Contains-get_or, Contains-append_left, Contains-push, Contains-push_cases}
use Rattle.std.proofs.lemmas.List.Quantifiers.{all_pairs_push}
use Rattle.std.proofs.lemmas.Option.{slice_get-get_or, slice_get_read, slice_get_within}
use Rattle.tc_model.specs.Events.{Occurrence}
use Rattle.tc_model.specs.Reactions.{Rule}
use Rattle.tc_model.specs.Triggers.{IsClause, IsTriggered, AreTriggered}
use Rattle.tc_model.specs.declared.events.EventOp.{EventOp}
use Rattle.tc_spec.specs.Numbers.{AreNumbers, AreThose}
use Rattle.tc_spec.specs.Indexed.{AreEnough, AreOf, HasOp}

-- of the first so many numbers, as f counts them off, those with the property are kept, in order
pub record IsKept (f : ℕ → ℕ) (P : ℕ → Type 0) (count : ℕ) (found : List ℕ) : Type 0 where
  pub rising : AllPairs ◌<◌ found
  pub from : (n : ℕ) → Contains found n → (k : ℕ) × (k < count) × (f k ≡ n) × P n
  pub all : (k : ℕ) → k < count → P (f k) → Contains found (f k)

module _ (f : ℕ → ℕ) (P : ℕ → Type 0) where
  pub kept_none : (found : List ℕ) → found ≡ [] → IsKept f P 0 found
  kept_none found none = subst (IsKept f P 0) (sym none) (record {
    rising = λ i j d before within. absurd (omega (arith, within));
    from = λ n inside. absurd (omega (arith, inside.1));
    all = λ k before has. absurd (omega (arith, before));
  })

  below_next : (i k : ℕ) → k < i + 1 → (k < i) ⊎ (k ≡ i)
  below_next i k lt = ⊎_elim (λ less. inl less) (λ most. inr (omega (arith, lt, most))) (cases_lt k i)

  pub kept_more : (i : ℕ) (found : List ℕ) → IsKept f P i found → ((k : ℕ) → k < i → f k < f i) → P (f i)
      → IsKept f P (i + 1) (found ++ f i ∷ [])
  kept_more i found h rises has = record {
    rising = all_pairs_push ◌<◌ found (f i) h.rising
        (λ j d inside.
        let from = h.from (get_or found j d) (Contains-get_or found j d inside) in
        subst (λ n. n < f i) from.2 (rises from.0 from.1));
    from = λ n inside.
        ⊎_elim
        (λ (old : Contains found n). let from = h.from n old in (from.0, omega (arith, from.1), from.2, from.3))
        (λ (last : f i ≡ n). (i, omega arith, last, subst P last has))
        (Contains-push_cases found (f i) n inside);
    all = λ k before hask.
        ⊎_elim
        (λ (less : k < i). Contains-append_left found (f i ∷ []) (f k) (h.all k less hask))
        (λ (last : k ≡ i). subst (λ j. Contains (found ++ f i ∷ []) (f j)) (sym last) (Contains-push found (f i)))
        (below_next i k before);
  }

  pub kept_less : (i : ℕ) (found : List ℕ) → IsKept f P i found → (P (f i) → ⊥) → IsKept f P (i + 1) found
  kept_less i found h never = record {
    rising = h.rising;
    from = λ n inside. let from = h.from n inside in (from.0, omega (arith, from.1), from.2, from.3);
    all = λ k before hask.
        ⊎_elim
        (λ (less : k < i). h.all k less hask)
        (λ (last : k ≡ i). absurd (never (subst (λ j. P (f j)) last hask)))
        (below_next i k before);
  }

  pub kept_if : (i : ℕ) (found new : List ℕ) (keep : Bool) → IsKept f P i found → ((k : ℕ) → k < i → f k < f i)
      → (IsTrue keep → P (f i)) → (keep ≡ false → P (f i) → ⊥) → new ≡ (if keep then found ++ f i ∷ [] else found)
      → IsKept f P (i + 1) new
  kept_if i found new true h rises holds fails is = subst (IsKept f P (i + 1)) (sym is) (kept_more i found h rises (holds refl))
  kept_if i found new false h rises holds fails is = subst (IsKept f P (i + 1)) (sym is) (kept_less i found h (fails refl))

-- a number names one clause
pub one_clause : (clauses : List Rule) (n : ℕ) (q r : Rule) → IsClause clauses n q → IsClause clauses n r → q ≡ r
one_clause clauses n q r h k =
    let same : h.place ≡ k.place = omega (arith, h.at, k.at) in
    let some : Some q ≡ Some r = sym h.stands ∙ ap (slice_get clauses) same ∙ k.stands in
    cc

-- the clause of a place, and its number
pub clause_at : (clauses : List Rule) (i : ℕ) (d : Rule) → i < length clauses → IsClause clauses (i + 1) (get_or clauses i d)
clause_at clauses i d inside = record { place = i; at = refl; stands = slice_get-get_or clauses i d inside }

-- some clause of the number has the property
abbrev pub HasClause : List Rule → (Rule → Type 0) → ℕ → Type 0
HasClause clauses P n = (r : Rule) × IsClause clauses n r × P r

pub all_numbers : (P : Rule → Type 0) (clauses : List Rule) (found : List ℕ)
    → IsKept (λ k. k + 1) (HasClause clauses P) (length clauses) found → AreThose P clauses found
all_numbers P clauses found h = record {
  rising = h.rising;
  exact = λ n r clause. (
    λ inside. let from = h.from n inside in subst P (one_clause clauses n from.3.0 r from.3.1 clause) from.3.2,
    λ has.
        let within = slice_get_within clauses clause.place r clause.stands in
        let number : clause.place + 1 ≡ n = sym clause.at in
        subst (Contains found) number
        (h.all clause.place within (subst (HasClause clauses P) (sym number) (r, clause, has))),
  );
  only = λ n inside. let from = h.from n inside in (from.3.0, from.3.1);
}

-- an operation's clauses are enough for its events
pub of_enough : (clauses : List Rule) (e : Occurrence) (o : EventOp) (numbers : List ℕ) → o ≡ e.op → AreOf o clauses numbers
    → AreEnough clauses e numbers
of_enough clauses e o numbers same of = record {
  rising = of.rising;
  only = of.only;
  all = λ n r clause triggered. (of.exact n r clause).1 (triggered.op ∙ sym same);
}

-- of enough numbers those whose clauses the event triggers are all of them
pub all_triggered : (clauses : List Rule) (e : Occurrence) (numbers found : List ℕ) → AreEnough clauses e numbers
    → IsKept (λ k. get_or numbers k 0) (HasClause clauses (λ r. IsTriggered r e)) (length numbers) found
    → AreTriggered clauses e found
all_triggered clauses e numbers found of h = record {
  rising = h.rising;
  exact = λ n r clause. (
    λ inside. let from = h.from n inside in subst (λ q. IsTriggered q e) (one_clause clauses n from.3.0 r from.3.1 clause) from.3.2,
    λ triggered.
        let inside = of.all n r clause triggered in
        let number : get_or numbers inside.0 0 ≡ n = get_or_default numbers inside.0 0 n inside.1 ∙ inside.2 in
        subst (Contains found) number
        (h.all inside.0 inside.1 (subst (HasClause clauses (λ q. IsTriggered q e)) (sym number) (r, clause, triggered))),
  );
  only = λ n inside. let from = h.from n inside in (from.3.0, from.3.1);
}

-- numbers that are enough, or those of some property, are numbers of clauses
pub numbers_enough : (clauses : List Rule) (e : Occurrence) (numbers : List ℕ) → AreEnough clauses e numbers → AreNumbers clauses numbers
numbers_enough clauses e numbers enough = record { rising = enough.rising; only = enough.only }

pub numbers_those : (P : Rule → Type 0) (clauses : List Rule) (numbers : List ℕ) → AreThose P clauses numbers → AreNumbers clauses numbers
numbers_those P clauses numbers those = record { rising = those.rising; only = those.only }

-- the clause of the number at a place
pub clause_of_number : (clauses : List Rule) (numbers : List ℕ) (i d : ℕ) → AreNumbers clauses numbers
    → i < length numbers → (r : Rule) × IsClause clauses (get_or numbers i d) r
clause_of_number clauses numbers i d are inside =
    are.only (get_or numbers i d) (Contains-get_or numbers i d inside)

-- the clause that stands where its number says
pub clause_read : (clauses : List Rule) (n : ℕ) (q r : Rule) → IsClause clauses n q → r ≡ get_or clauses (n - 1) r → IsClause clauses n r
clause_read clauses n q r h is =
    let place : n - 1 ≡ h.place = omega (arith, h.at) in
    let within = slice_get_within clauses h.place q h.stands in
    record { place = h.place; at = h.at; stands = slice_get_read clauses (length clauses) h.place r refl within (subst (λ k. r ≡ get_or clauses k r) place is) }

-- one clause more, kept or not
pub rule_kept : (P : Rule → Type 0) (clauses : List Rule) (found new : List ℕ) (i : ℕ) (r : Rule) (keep : Bool)
    → IsClause clauses (i + 1) r → IsKept (λ k. k + 1) (HasClause clauses P) i found → (IsTrue keep ↔ P r)
    → new ≡ (if keep then found ++ (i + 1) ∷ [] else found) → IsKept (λ k. k + 1) (HasClause clauses P) (i + 1) new
rule_kept P clauses found new i r keep clause h same kept =
    kept_if (λ k. k + 1) (HasClause clauses P) i found new keep h (λ k lt. omega (arith, lt))
    (λ holds. (r, clause, same.0 holds))
    (λ fails has.
    let holds = same.1 (subst P (one_clause clauses (i + 1) has.0 r has.1 clause) has.2) in
    let never : false ≡ true = sym fails ∙ holds in
    absurd cc)
    kept

pub op_kept : (o : EventOp) (clauses : List Rule) (found new : List ℕ) (i : ℕ) (r : Rule) (keep : Bool)
    → i < length clauses → r ≡ get_or clauses i r → IsKept (λ k. k + 1) (HasClause clauses (λ q. q.op ≡ o)) i found
    → (IsTrue keep ↔ (r.op ≡ o)) → new ≡ (if keep then found ++ (i + 1) ∷ [] else found)
    → IsKept (λ k. k + 1) (HasClause clauses (λ q. q.op ≡ o)) (i + 1) new
op_kept o clauses found new i r keep inside is h same kept =
    rule_kept (λ q. q.op ≡ o) clauses found new i r keep
    (record { place = i; at = refl; stands = slice_get_read clauses (length clauses) i r refl inside is }) h same kept

-- a number is kept where its clause has the property
pub number_kept : (Q : Rule → Type 0) (clauses : List Rule) (numbers found new : List ℕ) (i : ℕ) (r : Rule) (keep : Bool)
    → AreNumbers clauses numbers → i < length numbers → r ≡ get_or clauses (get_or numbers i 0 - 1) r
    → IsKept (λ k. get_or numbers k 0) (HasClause clauses Q) i found
    → (IsTrue keep → Q r) → (keep ≡ false → Q r → ⊥)
    → new ≡ (if keep then found ++ get_or numbers i 0 ∷ [] else found)
    → IsKept (λ k. get_or numbers k 0) (HasClause clauses Q) (i + 1) new
number_kept Q clauses numbers found new i r keep are inside is h holds fails kept =
    let there = clause_of_number clauses numbers i 0 are inside in
    let clause = clause_read clauses (get_or numbers i 0) there.0 r there.1 is in
    kept_if (λ k. get_or numbers k 0) (HasClause clauses Q) i found new keep h
    (λ k lt. are.rising k i 0 lt inside)
    (λ y. (r, clause, holds y))
    (λ n has. fails n (subst Q (one_clause clauses (get_or numbers i 0) has.0 r has.1 clause) has.2))
    kept

-- of the numbers of those with one property those with another are the numbers of those with both
pub all_with_both : (P Q : Rule → Type 0) (clauses : List Rule) (numbers found : List ℕ) → AreThose P clauses numbers
    → IsKept (λ k. get_or numbers k 0) (HasClause clauses Q) (length numbers) found → AreThose (λ r. P r × Q r) clauses found
all_with_both P Q clauses numbers found those h = record {
  rising = h.rising;
  exact = λ n r clause. (
    λ inside.
        let from = h.from n inside in
        let there : Contains numbers n = subst (Contains numbers) from.2 (Contains-get_or numbers from.0 0 from.1) in
        ((those.exact n r clause).0 there, subst Q (one_clause clauses n from.3.0 r from.3.1 clause) from.3.2),
    λ has.
        let inside = (those.exact n r clause).1 has.0 in
        let number : get_or numbers inside.0 0 ≡ n = get_or_default numbers inside.0 0 n inside.1 ∙ inside.2 in
        subst (Contains found) number
        (h.all inside.0 inside.1 (subst (HasClause clauses Q) (sym number) (r, clause, has.1))),
  );
  only = λ n inside. let from = h.from n inside in (from.3.0, from.3.1);
}

-- the number is at least 1, and its place is inside
pub number_inside : (clauses : List Rule) (numbers : List ℕ) (i : ℕ) → AreNumbers clauses numbers → i < length numbers
    → (1 ≤ get_or numbers i 0) × (get_or numbers i 0 - 1 < length clauses)
number_inside clauses numbers i are inside =
    let there = clause_of_number clauses numbers i 0 are inside in
    let within = slice_get_within clauses there.1.place there.0 there.1.stands in
    (omega (arith, there.1.at), omega (arith, there.1.at, within))

-- an operation has a clause exactly where it has a number
has_number : (o : EventOp) (clauses : List Rule) (n : ℕ) (ns : List ℕ) → AreOf o clauses (n ∷ ns) → HasOp o clauses
has_number o clauses n ns of =
    let inside : Contains (n ∷ ns) n = (0, omega arith, refl) in
    let only = of.only n inside in
    record { number = n; rule = only.0; clause = only.1; op = (of.exact n only.0 only.1).0 inside }

has_clause : (o : EventOp) (clauses : List Rule) (numbers : List ℕ) → AreOf o clauses numbers
    → HasOp o clauses → numbers ≡ [] → ⊥
has_clause o clauses numbers of has none =
    let inside = subst (λ ns. Contains ns has.number) none ((of.exact has.number has.rule has.clause).1 has.op) in
    absurd (omega (arith, inside.1))

pub has_by_test : (o : EventOp) (clauses : List Rule) (numbers : List ℕ) (empty : Bool) → AreOf o clauses numbers
    → empty ≡ (length numbers == 0) → IsTrue (not empty) ↔ HasOp o clauses
has_by_test o clauses [] empty of is =
    let never : not empty ≡ false = ap not is in (
      λ some. let e : false ≡ true = sym never ∙ some in absurd (cc),
      λ has. absurd (has_clause o clauses [] of has refl),
    )
has_by_test o clauses (n ∷ ns) empty of is =
    let some : not empty ≡ true = ap not (is ∙ ne_eqb (length (n ∷ ns)) 0 (λ e. absurd (omega (arith, e)))) in
    (λ more. has_number o clauses n ns of, λ has. some)
