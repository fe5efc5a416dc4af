-- The words of a call.
use Rattle.std.proofs.Common.{◌≡◌, ◌<◌, ◌^◌, ◌∙◌, ℕ, List, [], ◌++◌, decimal, sym, ap, append-nil, arith}
use Rattle.std.proofs.lemmas.Fmt.{decimal_injective}
use Rattle.std.proofs.lemmas.List.{nil_from_length}
use Rattle.tc_lists.specs.Decimals.{IsLongestNumberAt, IsNumberAt}
use Rattle.tucson.specs.Commands.{IsNumber}

module _ (word : List ℕ) (least most : ℕ) where
  -- a number that is told stands there
  number_at : (n : ℕ) → IsNumber word least most n → IsNumberAt most word n []
  number_at n told = record { within = told.few; text = told.text ∙ sym (append-nil (decimal n)) }

  -- where no number stands at the front, none is told
  pub number_none : ((n : ℕ) (rest : List ℕ) → IsNumberAt most word n rest → ⊥) → (n : ℕ) → IsNumber word least most n → ⊥
  number_none none n told = none n [] (number_at n told)

  -- a number that is told is the longest that stands at the front, with nothing behind it
  pub number_whole : (n m : ℕ) (rest : List ℕ) → most < 2 ^ 64 → IsLongestNumberAt most word n rest → IsNumber word least most m
      → (rest ≡ []) × (n ≡ m)
  number_whole n m rest small longest told =
      let none : rest ≡ [] = nil_from_length rest (omega (arith, longest.longest m [] (number_at m told))) in
      let within = longest.stands.within in
      let few = told.few in (
        none,
        decimal_injective n m (omega (arith, within, small)) (omega (arith, few, small))
            (sym (append-nil (decimal n)) ∙ ap (λ r. decimal n ++ r) (sym none) ∙ sym longest.stands.text ∙ told.text),
      )
