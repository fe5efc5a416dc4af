use Rattle.std.proofs.Common.{◌≡◌, ℕ, zero, suc, ◌<◌, List, [], refl, sym, ◌∙◌, subst, arith, ◌↔◌}
use Rattle.tc_term.specs.Grammar.{Token, Meaning, Derives, IsTerm}
use Rattle.tc_read.specs.Machine.{Frame, Standing, Awaits, Holds, Ends, MachineStep, Refused, Goes_to, start, go_on}
use Rattle.tc_read.proofs.Steps.{Leads, Sound, IsPlaced, left_over, Moves, starts, goes}

-- The machine comes to an end, so tokens are one term at most.

module _ {A : Type 0} (m : Meaning A) where
  abbrev Unique : ℕ → Type 0
  Unique n = (s : List (Frame A)) (now : Standing A) (ts : List Token) (a b : A) → left_over m s now ts < n → Sound m s → IsPlaced m s now → Leads m a s now ts → Leads m b s now ts → a ≡ b

  onward : (n : ℕ) → Unique n → (s : List (Frame A)) (now : Standing A) (ts : List Token) (move : MachineStep A) (a b : A) → left_over m s now ts < suc n → Moves m s now ts move → Leads m a s now ts → Leads m b s now ts → a ≡ b
  onward n ih s now ts Refused a b le none l k = absurd (none a l)
  onward n ih s now ts (Goes_to s' new ts') a b le f l k = ih s' new ts' a b (omega (arith, f.shorter)) f.sound f.placed ((f.same a).0 l) ((f.same b).0 k)

  unique : (n : ℕ) → Unique n
  unique zero s now ts a b le h p l k = absurd (omega arith)
  unique (suc n) s Awaits ts a b le h p l k = onward n (unique n) s Awaits ts (start m s ts) a b le (starts m s h ts) l k
  unique (suc n) s (Holds x pa) ts a b le h p l k = onward n (unique n) s (Holds x pa) ts (go_on m s x pa ts) a b le (goes m s h x pa ts p) l k
  unique (suc n) s (Ends x) ts a b le h p l k = sym l ∙ k

  pub leads_of_term : (ts : List Token) (a : A) → IsTerm m ts a ↔ Leads m a [] Awaits ts
  leads_of_term ts a = (λ d. (a, [], d, (refl, refl)), λ w. ended w.2 w.3.0 w.3.1)
    where
      ended : {b : A} {rest : List Token} → Derives m 1000 ts b rest → b ≡ a → rest ≡ [] → Derives m 1000 ts a []
      ended {b = b} {rest = rest} d e f = subst (λ x. Derives m 1000 ts x []) e (subst (λ r. Derives m 1000 ts b r) f d)

  pub one_term : (ts : List Token) (a b : A) → IsTerm m ts a → IsTerm m ts b → a ≡ b
  one_term ts a b d e = unique (suc (left_over m [] Awaits ts)) [] Awaits ts a b (omega arith) tt tt ((leads_of_term ts a).0 d) ((leads_of_term ts b).0 e)
