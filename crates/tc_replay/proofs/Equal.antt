-- The first tuple of a bag that is equal to one.
use Rattle.std.proofs.Common.{◌≡◌, ℕ, cond, true, false, Option, Some, None, inr, List, ◌∷◌, Contains, refl, sym, ap, subst, ◌∙◌}
use Rattle.std.proofs.lemmas.List.{map-append}
use Rattle.std.proofs.lemmas.List.Elements.{All-map}
use Rattle.tc_lists.specs.Firsts.{NoneOf, IsFirst}
use Rattle.tc_lists.proofs.Firsts.{NoneOf-from_All, IsFirst-contains}
use Rattle.tc_term.specs.Tree.{Tree, Variable, Atomic, Number, Compound, is_ground}
use Rattle.tc_bag.specs.declared.key.Key.{Key}
use Rattle.tc_bag.specs.Keys.{key_of, known_first, first_of, HasFirst, IsOfKey, IsLike}
use Rattle.tc_bag.specs.Stock.{Row, AgesRiseBelow, tuples_of}
use Rattle.tc_model.proofs.Removals.{without-first}
use Rattle.tc_model.specs.Tuples.{without_first}
use Rattle.tc_search.proofs.Passing.{IsAmong, IsKey, IsPassed, none_before, without_age-row}
use Rattle.tc_replay.specs.Meeting.{IsAgeOf}

-- a tuple is equal to this one
abbrev pub Equals : Tree → Tree → Type 0
Equals tuple u = u ≡ tuple

has_own_first : (t : Tree) → HasFirst (known_first t) t
has_own_first (Variable n) = tt
has_own_first (Atomic name) = tt
has_own_first (Number n) = tt
has_own_first (Compound name args) =
    elim (is_ground (first_of args)) as (λ b. HasFirst (cond b (Some (first_of args)) None) (Compound name args)) [
      | true ↦ refl
      | false ↦ tt
    ]

-- a tuple that is equal has the key and the first argument
pub equal_likes : (tuple : Tree) (key : Key) (first : Option Tree) (rows : List Row) → key ≡ key_of tuple → first ≡ known_first tuple
    → IsKey (Equals tuple) (IsLike key first) rows
equal_likes tuple key first rows keyed known k d inside same =
    subst (IsLike key first) (sym same)
    (subst (λ x. IsOfKey x tuple) (sym keyed) (inr refl), subst (λ f. HasFirst f tuple) (sym known) (has_own_first tuple))

-- the first candidate that is equal
pub equal_found : (tuple : Tree) (Q : Tree → Type 0) (from next : ℕ) (rows : List Row) (row : Row) → AgesRiseBelow rows next
    → IsKey (Equals tuple) Q rows → IsPassed (Equals tuple) from rows → IsFirst (IsAmong Q from) rows row → row.tuple ≡ tuple
    → IsAgeOf tuple rows row.age
equal_found tuple Q from next rows row rises keys passed first same =
    let P : Tree → Type 0 = Equals tuple in
    let here : IsFirst P (tuples_of rows) row.tuple = record {
      before = tuples_of first.before;
      behind = tuples_of first.behind;
      split = ap tuples_of first.split ∙ map-append (λ (r : Row). r.tuple) first.before (row ∷ first.behind);
      has = same;
      none = NoneOf-from_All P (tuples_of first.before)
          (All-map (λ t. P t → ⊥) (λ (r : Row). r.tuple) first.before (none_before P Q from rows row keys passed first));
    } in
    record {
      there = subst (Contains (tuples_of rows)) same (IsFirst-contains P (tuples_of rows) row.tuple here);
      left = without_age-row rows first.before first.behind row next rises first.split
          ∙ (sym (without-first P (tuples_of rows) row.tuple here) ∙ ap (λ u. without_first u (tuples_of rows)) same);
    }

-- where no tuple is equal, this one isn't there
pub equal_none : (tuple : Tree) (us : List Tree) → NoneOf (Equals tuple) us → Contains us tuple → ⊥
equal_none tuple us none there = none tuple there refl
