use Rattle.std.proofs.Common.{ℕ, ap, ◌∙◌}
use Rattle.tc_turn.specs.Passes.{new_passes}
use Rattle.tc_shared.proofs.Fresh.{all-fresh}
use Rattle.tc_shared.proofs.centre.SharedCentre.made.Goals as goal

pub returns-clause-fresh : goal.returns-clause-fresh
returns-clause-fresh g =
    let made = g.in_ok-turnstile.ensures in
    let t = g.in_ok-turnstile.turnstile in
    let core = g.args.core in
    all-fresh t core.origin core.history g.args.turns g.in_ok-turnstile.passes.items made.turnstile.0 g.requires.empty g.vouch.ensures
    (made.passes ∙ ap (λ (n : ℕ). new_passes t.table core.origin g.args.turns 0 n) g.number_of_agents-agents.ensures)
