-- A legal entry behind what is held leads to what is held then.
use Rattle.std.proofs.Common.{◌≡◌, ◌+◌, ◌*◌, ◌≤◌, ℕ, List, [], ◌∷◌, ◌++◌, length, sym, ap, subst, ◌∙◌, arith}
use Rattle.std.proofs.lemmas.List.Sums.{sum_by-append}
use Rattle.tc_bag.specs.Stock.{Row}
use Rattle.tc_model.specs.Choices.{TheFirst}
use Rattle.tc_model.specs.Entries.{weight_of, weight}
use Rattle.tc_model.specs.Reactions.{Rule}
use Rattle.tc_model.specs.Run.{IsLegal}
use Rattle.tc_model.specs.State.{State, Origin, opening, after_entry, after_history}
use Rattle.tc_model.specs.declared.calls.Request.{Request}
use Rattle.tc_model.specs.declared.entries.Entry.{Entry}
use Rattle.tc_model.specs.declared.limits.TheConstants.{MOST_WEIGHT}
use Rattle.tc_model.proofs.Runs.{EachEntry-push, after_history-push}
use Rattle.tc_centre.specs.Held.{held, IsHeld}

pub weight-push : (history : List Entry) (e : Entry) → weight (history ++ e ∷ []) ≡ weight history + weight_of e
weight-push history e =
    sum_by-append weight_of history (e ∷ []) ∙ ap (λ w. weight history + w) (omega arith)

pub held-push : (origin : Origin) (history : List Entry) (clauses kept : List Rule) (rows new : List Row) (n m : ℕ)
    (requests others : List Request) (e : Entry)
    → IsHeld origin history clauses rows n requests
    → IsLegal TheFirst origin history (held clauses rows requests) e
    → held kept new others ≡ after_entry e (held clauses rows requests)
    → weight history + weight_of e + length others * (origin.budget + 1) ≤ MOST_WEIGHT
    → m ≤ n + 65 * weight_of e
    → IsHeld origin (history ++ e ∷ []) kept new m others
held-push origin history clauses kept rows new n m requests others e h legal leads light next =
    let s : State = after_history (opening origin) history in
    let pushed = weight-push history e in
    record {
      origin_is = h.origin_is;
      run = EachEntry-push (IsLegal TheFirst origin) (opening origin) history e h.run
          (subst (λ t. IsLegal TheFirst origin history t e) h.state legal);
      state = leads ∙ ap (after_entry e) h.state ∙ sym (after_history-push (opening origin) history e);
      light = subst (λ w. w + length others * (origin.budget + 1) ≤ MOST_WEIGHT) (sym pushed) light;
      ages = omega (arith, h.ages, next, pushed);
    }
