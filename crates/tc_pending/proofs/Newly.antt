-- The rows that are new are gone through one by one, oldest first.
use Rattle.std.proofs.Common.{◌≡◌, ◌<◌, ◌≤◌, ◌+◌, ℕ, List, [], Some, None, Option, length, take, get_or, slice_get, inl, refl, sym, subst, arith}
use Rattle.std.specs.List.{Contains}
use Rattle.std.specs.Option.{IfSome, IfNone}
use Rattle.std.proofs.lemmas.List.Elements.{All-contains, Contains-get_or}
use Rattle.tc_lists.specs.Firsts.{NoneOf, IsFirst}
use Rattle.tc_lists.proofs.Places.{Contains-take_longer, Contains-slice_get, slice_get-take}
use Rattle.tc_term.specs.Tree.{Tree}
use Rattle.tc_term.specs.Variables.{var_bound}
use Rattle.tc_bag.specs.declared.key.Key.TheVariants.{Any}
use Rattle.tc_bag.specs.Keys.{IsOfKey}
use Rattle.tc_bag.specs.Stock.{Row, AgesRiseBelow, IsCandidate, tuples_of}
use Rattle.tc_search.proofs.Passing.{IsPassed, IsKey, passed_more, passed_all, found_row}
use Rattle.tc_model.specs.State.{IsMatch, WantsTuple}
use Rattle.tc_model.specs.declared.calls.Request.{Request}
use Rattle.tc_pending.specs.Answers.{AsksFor, HasOldest, IsMet, IsOldestMet, IsOldestSuch, NoneOlder}

-- the request at this place wants a tuple, and the oldest that matches has this age
pub record IsMetAt (rows : List Row) (requests : List Request) (place age : ℕ) : Type 0 where
  pub request : Request
  pub stands : slice_get requests place ≡ Some request
  pub wants : WantsTuple request.wants
  pub oldest : HasOldest rows request.template age

-- of the requests before `most`, no one before `count` is met by a row below the age `from`, and the
-- one at `count` is met, where it isn't `most`
pub record IsSoFar (rows : List Row) (requests : List Request) (most : ℕ) (next : Option (ℕ × ℕ)) (count from : ℕ) : Type 0 where
  pub known : NoneOlder from rows (take count requests)
  pub inside : count ≤ length requests
  pub few : count ≤ most
  pub at : IfSome next (λ r. (r.0 ≡ count) × (count < most) × IsMetAt rows requests r.0 r.1)
  pub none : IfNone next (count ≡ most)

-- any tuple agrees with the key of a variable
any : (P : Tree → Type 0) (rows : List Row) → IsKey P (IsOfKey Any) rows
any P rows k d inside has = inl refl

module _ (rows : List Row) (requests : List Request) (count from : ℕ) (known : NoneOlder from rows (take count requests)) where
  -- what one of the requests wants is not among the older rows
  passed : (q : Request) → Contains (take count requests) q → WantsTuple q.wants → IsPassed (IsMatch q.template) from rows
  passed q stands wants k d inside older has = known q (get_or rows k d) stands wants (Contains-get_or rows k d inside) older has

  module _ (next : ℕ) (row : Row) (rises : AgesRiseBelow rows next) (first : IsFirst (IsCandidate Any from) rows row) where
    pub known-more : (fewer : ℕ) → fewer ≤ count → NoneOf (AsksFor None row.tuple) (take fewer requests)
        → NoneOlder (row.age + 1) rows (take fewer requests)
    known-more fewer less none q r stands wants there younger match =
        let P : Tree → Type 0 = IsMatch q.template in
        let more : IsPassed P (row.age + 1) rows =
        passed_more P (IsOfKey Any) from next rows row rises (any P rows)
        (passed q (Contains-take_longer requests fewer count q less stands) wants) first (λ has. none q stands (wants, has)) in
        All-contains (λ (s : Row). s.age < row.age + 1 → P s.tuple → ⊥) rows r more there younger match

    pub met-by : (place : ℕ) → place < count → IsOldestSuch (AsksFor None row.tuple) requests place
        → IsMetAt rows requests place row.age
    met-by place inside oldest =
        let q : Request = oldest.request in
        let P : Tree → Type 0 = IsMatch q.template in
        record {
          request = q;
          stands = oldest.stands;
          wants = oldest.has.0;
          oldest = record {
            tuple = row.tuple;
            found = found_row (var_bound q.template) [] q.template (IsOfKey Any) from next rows row rises (any P rows)
                (passed q (Contains-slice_get (take count requests) place q (slice_get-take requests count place q inside oldest.stands))
                oldest.has.0) first oldest.has.1;
          };
        }

  -- where no row is left, none of the requests is met
  pub none-met : NoneOf (IsCandidate Any from) rows → NoneOf (IsMet (tuples_of rows)) (take count requests)
  none-met none q stands met =
      let P : Tree → Type 0 = IsMatch q.template in
      passed_all P (IsOfKey Any) from rows (any P rows) (passed q stands met.wants) none met.some.tuple met.some.stands met.some.matches

module _ (rows : List Row) (requests : List Request) (most : ℕ) (next : Option (ℕ × ℕ)) (count from : ℕ)
    (far : IsSoFar rows requests most next count from) where
  module _ (top : ℕ) (row : Row) (rises : AgesRiseBelow rows top) (first : IsFirst (IsCandidate Any from) rows row) where
    pub far-found : (place : ℕ) → place < count → IsOldestSuch (AsksFor None row.tuple) requests place
        → IsSoFar rows requests most (Some (place, row.age)) place (row.age + 1)
    far-found place inside oldest = record {
      known = known-more rows requests count from far.known top row rises first place (omega (arith, inside)) oldest.none_before;
      inside = omega (arith, inside, far.inside);
      few = omega (arith, inside, far.few);
      at = (refl, omega (arith, inside, far.few), met-by rows requests count from far.known top row rises first place inside oldest);
      none = tt;
    }

    pub far-none : NoneOf (AsksFor None row.tuple) (take count requests)
        → IsSoFar rows requests most next count (row.age + 1)
    far-none none = record {
      known = known-more rows requests count from far.known top row rises first count (omega arith) none;
      inside = far.inside;
      few = far.few;
      at = far.at;
      none = far.none;
    }

  pub far-next : NoneOf (IsMet (tuples_of rows)) (take count requests) → IfSome next (λ r. IsOldestMet rows requests r.0 r.1)
  far-next none = next-of next far.at where
    next-of : (o : Option (ℕ × ℕ)) → IfSome o (λ r. (r.0 ≡ count) × (count < most) × IsMetAt rows requests r.0 r.1)
        → IfSome o (λ r. IsOldestMet rows requests r.0 r.1)
    next-of None at = tt
    next-of (Some r) at = record {
      request = at.2.request;
      stands = at.2.stands;
      wants = at.2.wants;
      oldest = at.2.oldest;
      none_before = subst (λ n. NoneOf (IsMet (tuples_of rows)) (take n requests)) (sym at.0) none;
    }

  pub far-inside : IfSome next (λ r. r.0 < most)
  far-inside = next-of next far.at where
    next-of : (o : Option (ℕ × ℕ)) → IfSome o (λ r. (r.0 ≡ count) × (count < most) × IsMetAt rows requests r.0 r.1)
        → IfSome o (λ r. r.0 < most)
    next-of None at = tt
    next-of (Some r) at = omega (arith, at.0, at.1)

  pub far-no : NoneOf (IsMet (tuples_of rows)) (take count requests) → IfNone next (NoneOf (IsMet (tuples_of rows)) (take most requests))
  far-no none = no-of next far.none where
    no-of : (o : Option (ℕ × ℕ)) → IfNone o (count ≡ most) → IfNone o (NoneOf (IsMet (tuples_of rows)) (take most requests))
    no-of None is = subst (λ n. NoneOf (IsMet (tuples_of rows)) (take n requests)) is none
    no-of (Some r) is = tt
