-- Which request is next, of those that a search has come past.
use Rattle.std.proofs.Common.{◌≡◌, ◌<◌, ◌≤◌, ◌+◌, ℕ, List, [], ◌∷◌, ◌++◌, Contains, length, get_or, take, sym, ap, subst, ◌∙◌, ⊎_elim, arith}
use Rattle.std.specs.List.{remove}
use Rattle.std.proofs.lemmas.Bool.{cases_lt}
use Rattle.std.proofs.lemmas.List.Edits.{length-remove, get_or-remove_below, get_or-remove_above}
use Rattle.std.proofs.lemmas.List.{take_more, take_all, length-take, get_or-take}
use Rattle.tc_lists.specs.Firsts.{NoneOf}
use Rattle.tc_lists.proofs.Firsts.{NoneOf-push}
use Rattle.tc_bag.specs.Stock.{Row, tuples_of}
use Rattle.tc_model.specs.State.{IsAnswerable}
use Rattle.tc_model.specs.declared.calls.Request.{Request}
use Rattle.tc_pending.specs.Answers.{IsKnown}
use Rattle.tc_pending.specs.declared.answering.Known.{Known}

-- where the next has not the property either, one more is past
pub none_further : (P : Request → Type 0) (requests : List Request) (place : ℕ) (r : Request) → place < length requests
    → r ≡ get_or requests place r → NoneOf P (take place requests) → (P r → ⊥) → NoneOf P (take (place + 1) requests)
none_further P requests place r inside at none never =
    let grown : take (place + 1) requests ≡ take place requests ++ r ∷ [] =
    take_more requests place r inside ∙ ap (λ q. take place requests ++ q ∷ []) (sym at) in
    subst (NoneOf P) (sym grown) (NoneOf-push P (take place requests) r none never)

pub none_at_all : (rows : List Row) (requests : List Request) (place : ℕ) → length requests ≤ place
    → NoneOf (IsAnswerable (tuples_of rows)) (take place requests)
    → NoneOf (IsAnswerable (tuples_of rows)) requests
none_at_all rows requests place past none =
    subst (NoneOf (IsAnswerable (tuples_of rows))) (take_all place requests past) none

-- what stands among the first once the element at a place is gone, stood among the first before
pub contains-removed : {X : Type 0} (xs : List X) (place m n : ℕ) (x : X) → place < length xs → n ≤ m → (place < m → n + 1 ≤ m)
    → Contains (take n (remove xs place)) x → Contains (take m xs) x
contains-removed xs place m n x inside less fewer stands =
    let k : ℕ = stands.0 in
    let count = length-remove xs place inside in
    let low : k < n = omega (arith, stands.1, length-take n (remove xs place)) in
    let there : k < length (remove xs place) = omega (arith, stands.1, length-take n (remove xs place)) in
    let is : get_or (remove xs place) k x ≡ x = sym (get_or-take n (remove xs place) k x low) ∙ stands.2 in
    ⊎_elim
    (λ (before : k < place). (
      k,
      omega (arith, low, less, there, count, length-take m xs),
      get_or-take m xs k x (omega (arith, low, less)) ∙ sym (get_or-remove_below xs place x k before inside) ∙ is,
    ))
    (λ (behind : place ≤ k).
    let step : n + 1 ≤ m = fewer (omega (arith, behind, low, less)) in (
      k + 1,
      omega (arith, low, step, there, count, length-take m xs),
      get_or-take m xs (k + 1) x (omega (arith, low, step)) ∙ sym (get_or-remove_above xs place x k behind inside) ∙ is,
    ))
    (cases_lt k place)

-- what is known stays, where a request goes, and rows
pub known-without : (known new : Known) (place : ℕ) (begun rows left : List Row) (requests : List Request)
    → new.age ≡ known.age → new.requests ≤ known.requests → (place < known.requests → new.requests + 1 ≤ known.requests)
    → ((row : Row) → Contains left row → Contains rows row) → place < length requests → IsKnown known begun rows requests
    → IsKnown new begun left (remove requests place)
known-without known new place begun rows left requests age less fewer stay inside is = record {
  older = λ q row stands wants there older.
      is.older q row (contains-removed requests place known.requests new.requests q inside less fewer stands) wants (stay row there)
      (omega (arith, older, age));
  had = λ q stands. is.had q (contains-removed requests place known.requests new.requests q inside less fewer stands);
}
