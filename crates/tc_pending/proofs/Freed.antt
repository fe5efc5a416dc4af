-- The tuples that went since the first mark are gone through one by one.
use Rattle.std.proofs.Common.{◌≡◌, ◌<◌, ◌≤◌, ◌+◌, ℕ, zero, suc, cond, inl, inr, Option, List, [], ◌∷◌, Some, None, All, Contains, length, take, get_or, slice_get, refl, sym, ap, subst, ◌∙◌, ⊎_elim, arith}
use Rattle.std.proofs.lemmas.Bool.{cases_lt, eq-eqb, ne_eqb}
use Rattle.std.proofs.lemmas.Option.{same_Some}
use Rattle.std.proofs.lemmas.List.{get_or-map, length-map}
use Rattle.std.proofs.lemmas.List.Elements.{All-map, All-contains, Contains-get_or}
use Rattle.tc_lists.specs.Firsts.{NoneOf}
use Rattle.tc_lists.proofs.Firsts.{NoneOf-from_All}
use Rattle.tc_lists.proofs.Places.{Contains-take_longer, slice_get-Contains}
use Rattle.tc_term.specs.Tree.{Tree}
use Rattle.tc_bag.specs.Stock.{Row, Stock, AgesRiseBelow, begun, HasGone, tuple_at, tuples_of}
use Rattle.tc_model.specs.State.{IsMatch}
use Rattle.tc_model.specs.declared.calls.Request.{Request}
use Rattle.tc_pending.specs.Answers.{AsksFor, IsFree, IsOldestSuch}
use Rattle.tc_pending.specs.Filed.{IsSuch}
use Rattle.tc_pending.proofs.Wanting.{NoneOf-fewer}
use Rattle.tc_pending.proofs.Lookups.{oldest}

-- the tuple of a row's age is the row's
tuple_of-row : (rows : List Row) (next : ℕ) (row : Row) → AgesRiseBelow rows next → Contains rows row → tuple_at row.age rows ≡ Some row.tuple
tuple_of-row [] next row rises there = absurd (omega (arith, there.1))
tuple_of-row (r ∷ rs) next row rises (zero, within, is) =
    ap (λ b. cond b (Some r.tuple) (tuple_at row.age rs)) (eq-eqb r.age row.age (ap (λ (s : Row). s.age) is))
    ∙ ap (λ (s : Row). Some s.tuple) is
tuple_of-row (r ∷ rs) next row rises (suc k, within, is) =
    let there : Contains rs row = (k, omega (arith, within), is) in
    let younger : r.age < row.age = All-contains (λ (s : Row). r.age < s.age) rs row rises.1 there in
    ap (λ b. cond b (Some r.tuple) (tuple_at row.age rs)) (ne_eqb r.age row.age (λ same. omega (arith, same, younger)))
    ∙ tuple_of-row rs next row rises.2 there

contains-tuple : (rows : List Row) (row : Row) → Contains rows row → Contains (tuples_of rows) row.tuple
contains-tuple rows row there =
    let k : ℕ = there.0 in (
      k,
      omega (arith, there.1, length-map rows (λ (s : Row). s.tuple)),
      get_or-map (λ (s : Row). s.tuple) rows k row row.tuple there.1 ∙ ap (λ (s : Row). s.tuple) there.2,
    )

-- what is told of an age is the tuple of its row
pub row-told : (bag : Stock) (age : ℕ) (o : Option Tree) → o ≡ tuple_at age (begun bag) → AgesRiseBelow (begun bag) bag.next
    → (row : Row) → Contains (begun bag) row → row.age ≡ age → o ≡ Some row.tuple
row-told bag age o is rises row there same =
    is ∙ ap (λ a. tuple_at a (begun bag)) (sym same) ∙ tuple_of-row (begun bag) bag.next row rises there

abbrev no_tree : Option Tree
no_tree = None

pub not-told : (t : Tree) (o : Option Tree) → o ≡ None → o ≡ Some t → ⊥
not-told t o none some =
    let is : no_tree ≡ Some t = sym none ∙ some in
    absurd (cc)

-- none of the requests is free that the tuple of this age matched at the first mark
abbrev pub NoneFreed : Stock → List Request → ℕ → Type 0
NoneFreed bag requests age =
    (row : Row) → Contains (begun bag) row → row.age ≡ age
    → NoneOf (AsksFor (Some (tuples_of bag.now)) row.tuple) requests

-- the first so many of the ages are gone through: the request at `least` is free, unless that is `count`, and none before it was
-- matched by one of them
pub record IsSoFreed (bag : Stock) (requests : List Request) (ages : List ℕ) (i count least : ℕ) : Type 0 where
  pub inside : least ≤ count
  pub free : least < count → IsSuch (IsFree (tuples_of bag.now)) requests least
  pub none : (k age : ℕ) → k < i → slice_get ages k ≡ Some age → NoneFreed bag (take least requests) age

module _ (bag : Stock) (requests : List Request) (ages : List ℕ) (count least : ℕ) where
  -- one more of them
  pub freed-more : (i new age : ℕ) (far : IsSoFreed bag requests ages i count least) → slice_get ages i ≡ Some age
      → new ≤ least → (new < least → IsSuch (IsFree (tuples_of bag.now)) requests new)
      → NoneFreed bag (take new requests) age → IsSoFreed bag requests ages (i + 1) count new
  freed-more i new age far is_age less free none = record {
    inside = omega (arith, less, far.inside);
    free = λ before. ⊎_elim (λ (low : new < least). free low)
        (λ (same : least ≤ new).
        let is : least ≡ new = omega (arith, same, less) in
        subst (IsSuch (IsFree (tuples_of bag.now)) requests) is (far.free (omega (arith, is, before))))
        (cases_lt new least);
    none = λ k other before at. ⊎_elim
        (λ (low : k < i) row there of.
        NoneOf-fewer (AsksFor (Some (tuples_of bag.now)) row.tuple) requests new least less (far.none k other low at row there of))
        (λ (last : i ≤ k).
        let is : k ≡ i = omega (arith, last, before) in
        let same : age ≡ other =
        same_Some age other (sym is_age ∙ ap (slice_get ages) (sym is) ∙ at) in
        subst (NoneFreed bag (take new requests)) same none)
        (cases_lt k i);
  }

  module _ (i : ℕ) (past : length ages ≤ i) (gone : HasGone ages bag)
      (had : NoneOf (IsFree (tuples_of (begun bag))) (take count requests)) (far : IsSoFreed bag requests ages i count least) where
    -- what matches a request that is free, of the rows at the first mark
    none-begun : (r : Request) → Contains (take least requests) r → IsFree (tuples_of bag.now) r
        → All (λ (row : Row). IsMatch r.template row.tuple → ⊥) (begun bag)
    none-begun r stands free k d inside match =
        let row = get_or (begun bag) k d in
        let there : Contains (begun bag) row = Contains-get_or (begun bag) k d inside in
        elim (gone row there) [
          | inl still ↦ free.none row.tuple (contains-tuple bag.now row still) match
          | inr went ↦
              far.none went.0 row.age (omega (arith, went.1, past)) (slice_get-Contains ages row.age went) row there refl r stands
              (free, match)
        ]

    pub none-free : NoneOf (IsFree (tuples_of bag.now)) (take least requests)
    none-free r stands free =
        let P : Tree → Type 0 = IsMatch r.template in
        had r (Contains-take_longer requests least count r far.inside stands) (record {
          wants = free.wants;
          none = NoneOf-from_All P (tuples_of (begun bag))
              (All-map (λ t. P t → ⊥) (λ (row : Row). row.tuple) (begun bag) (none-begun r stands free));
        })

    pub freed-oldest : least < count → IsOldestSuch (IsFree (tuples_of bag.now)) requests least
    freed-oldest before = oldest (IsFree (tuples_of bag.now)) requests least (far.free before) none-free

    pub freed-none : count ≤ least → NoneOf (IsFree (tuples_of bag.now)) (take count requests)
    freed-none past =
        let is : least ≡ count = omega (arith, past, far.inside) in
        subst (λ n. NoneOf (IsFree (tuples_of bag.now)) (take n requests)) is none-free
