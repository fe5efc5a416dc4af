-- What holds of all passes of a new turnstile.
use Rattle.std.proofs.Common.{◌≡◌, ℕ, ◌<◌, ◌++◌, List, length, All, false, sym, subst, Option, Some, option_to_list, IfSome, get_or}
use Rattle.std.proofs.lemmas.List.Elements.{All-pop, All-same}
use Rattle.tc_turn.specs.Passes.{TurnstileState, PassState, IsPassOfTurnstile, new_passes}
use Rattle.tc_turn.proofs.PassLists.{new_passes-own}

module _ {E O : Type 0} (t : TurnstileState O) where
  -- the pass is the turnstile's, and holds no turn
  abbrev pub IsFree : PassState E O → Type 0
  IsFree p = IsPassOfTurnstile t p × (p.holds ≡ false)

  pub new_passes-popped : (origin : O) (turns n : ℕ) (all rest : List (PassState E O)) (last : Option (PassState E O)) → t.origin ≡ origin → all ≡ new_passes t.table origin turns 0 n → all ≡ rest ++ option_to_list last → All IsFree rest × IfSome last IsFree
  new_passes-popped origin turns n all rest last same made popped = All-pop IsFree all rest last popped (All-same IsFree all (new_passes t.table origin turns 0 n) made (new_passes-own t origin turns 0 n same))

  pub free_some : (last : Option (PassState E O)) (p : PassState E O) → last ≡ Some p → IfSome last IsFree → IsFree p
  free_some last p is free = subst (λ (o : Option (PassState E O)). IfSome o IsFree) is free

  pub free_at : (xs ys : List (PassState E O)) (i : ℕ) (p : PassState E O) → ys ≡ xs → All IsFree xs → i < length ys → p ≡ get_or ys i p → IsFree p
  free_at xs ys i p same free below is = subst IsFree (sym is) (All-same IsFree ys xs same free i p below)
