-- What bounds the steps among the requests that are left.
use Rattle.std.proofs.Common.{◌≡◌, ◌<◌, ◌+◌, ℕ, List, ◌∷◌, length, get_or, drop, sym, subst, ◌∙◌}
use Rattle.std.proofs.lemmas.List.{at_drop_more}
use Rattle.std.proofs.lemmas.List.Sums.{sum_by-cons}
use Rattle.tc_term.specs.Tree.{Tree}
use Rattle.tc_steps.specs.Tops.{agreeing}
use Rattle.tc_model.specs.declared.calls.Request.{Request}
use Rattle.tc_pending.specs.Costs.{requests_steps}

-- those from a place on: the one there, and those behind it
pub requests_steps-drop : (tuples : List Tree) (requests : List Request) (place : ℕ) (r : Request) → place < length requests
    → r ≡ get_or requests place r
    → requests_steps tuples (drop place requests) ≡ agreeing r.template tuples + requests_steps tuples (drop (place + 1) requests)
requests_steps-drop tuples requests place r inside at =
    let behind = drop (place + 1) requests in
    subst (λ (q : Request). requests_steps tuples (drop place requests) ≡ requests_steps tuples (q ∷ behind)) (sym at)
    (at_drop_more (requests_steps tuples) requests place r inside)
    ∙ sum_by-cons (λ (q : Request). agreeing q.template tuples) r behind
