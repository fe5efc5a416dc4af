-- What bounds the steps of a search among the requests.
use Rattle.std.specs.Prelude.{ℕ, List, sum_by}
use Rattle.tc_term.specs.Tree.{Tree}
use Rattle.tc_model.specs.declared.calls.Request.{Request}
use Rattle.tc_steps.specs.Tops.{agreeing}

-- the most steps to look whether requests can be answered: for each, one for a tuple that agrees at
-- its top with the request's template
abbrev pub requests_steps : List Tree → List Request → ℕ
requests_steps tuples requests = sum_by (λ r. agreeing r.template tuples) requests
