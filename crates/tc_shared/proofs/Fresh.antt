-- The passes of a new centre.
use Rattle.std.proofs.Common.{◌≡◌, ℕ, zero, suc, ◌+◌, ◌<◌, ◌≤◌, List, [], All, length, refl, sym, ap, ◌∙◌, subst, arith}
use Rattle.std.proofs.lemmas.List.Elements.{All-nil, All-cons, All-same}
use Rattle.tc_model.specs.Calls.{id_of}
use Rattle.tc_model.specs.State.{Origin}
use Rattle.tc_model.specs.declared.entries.Entry.{Entry}
use Rattle.tc_turn.specs.Passes.{TurnstileState, PassState, new_pass, new_passes}
use Rattle.tc_shared.specs.Passes.{IsFreshPassOf, IsAtRest}

module _ (t : TurnstileState Origin) (rest : IsAtRest t.origin []) (turns : ℕ) where
  pub fresh-pass : (k : ℕ) → k < length t.origin.agents → IsFreshPassOf t (new_pass t.table t.origin turns k)
  fresh-pass k agent = record {
    own = record { own = (refl, refl); agent = agent; rest = rest; mine = refl };
    free = refl;
    none = refl;
  }

  pub fresh-passes : (n k : ℕ) → k + n ≤ length t.origin.agents
      → All (IsFreshPassOf t) (new_passes t.table t.origin turns k n)
  fresh-passes zero k few = All-nil (IsFreshPassOf t)
  fresh-passes (suc n) k few =
      All-cons (IsFreshPassOf t) (new_pass t.table t.origin turns k) (new_passes t.table t.origin turns (k + 1) n)
      (fresh-pass k (omega (arith, few))) (fresh-passes n (k + 1) (omega (arith, few)))

-- all passes of a new centre are fresh
pub all-fresh : (t : TurnstileState Origin) (origin : Origin) (history : List Entry) (turns : ℕ) (passes : List (PassState Entry Origin))
    → t.origin ≡ origin → history ≡ [] → IsAtRest origin history
    → passes ≡ new_passes t.table origin turns 0 (length origin.agents) → All (IsFreshPassOf t) passes
all-fresh t origin history turns passes same none rest made =
    let at : IsAtRest t.origin [] = subst (λ (h : List Entry). IsAtRest t.origin h) none (subst (λ (o : Origin). IsAtRest o history) (sym same) rest) in
    let here : passes ≡ new_passes t.table t.origin turns 0 (length t.origin.agents) =
    made ∙ ap (λ (o : Origin). new_passes t.table o turns 0 (length o.agents)) (sym same) in
    All-same (IsFreshPassOf t) passes (new_passes t.table t.origin turns 0 (length t.origin.agents)) here
    (fresh-passes t at turns (length t.origin.agents) 0 (omega arith))

-- any number is one for the first call of a fresh pass
pub fresh-next : (t : TurnstileState Origin) (p : PassState Entry Origin) → IsFreshPassOf t p → (number : ℕ)
    → All (λ e. (id_of e).number < number) p.mine
fresh-next t p fresh number =
    All-same (λ e. (id_of e).number < number) p.mine [] fresh.none (All-nil (λ e. (id_of e).number < number))
