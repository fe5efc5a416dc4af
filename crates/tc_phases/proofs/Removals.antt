-- The tuples that are left where the first that matches is taken or stays.
use Rattle.std.proofs.Common.{◌≡◌, Some, ℕ, refl, sym, ap, ◌∙◌}
use Rattle.std.proofs.lemmas.Option.{same_Some}
use Rattle.tc_term.specs.Tree.{Tree}
use Rattle.tc_bag.specs.Stock.{Stock, tuples_of, tuple_at}
use Rattle.tc_model.specs.State.{IsMatch, after_taking}
use Rattle.tc_model.specs.declared.calls.Wants.{Wants}
use Rattle.tc_model.specs.declared.calls.Wants.TheVariants.{Take, Look, Absence}
use Rattle.tc_model.proofs.Removals.{without-first}
use Rattle.tc_phases.specs.Phases.{IsOldest}
use Rattle.tc_phases.specs.Running.{changed, taking}

-- what a phase begins with, where the tuple of this age was found
pub found-left : (wants : Wants) (age : ℕ) (stock : Stock) (u : Tree) → IsOldest stock.now age → tuple_at age stock.now ≡ Some u
    → tuples_of (changed (taking wants age) stock).now ≡ after_taking wants u (tuples_of stock.now)
found-left Take age stock u oldest there =
    oldest.found.left ∙ sym (without-first (IsMatch oldest.template) (tuples_of stock.now) oldest.tuple oldest.found.first)
    ∙ ap (λ t. after_taking Take t (tuples_of stock.now)) (same_Some oldest.tuple u (sym oldest.found.there ∙ there))
found-left Look age stock u oldest there = refl
found-left Absence age stock u oldest there = refl
