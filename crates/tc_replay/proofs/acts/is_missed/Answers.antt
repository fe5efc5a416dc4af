use Rattle.std.proofs.Common.{◌≡◌, ◌↔◌, Bool, IsTrue, Option, Some, None, IfSome, IfNone, sym, ◌∙◌}
use Rattle.std.specs.Option.{is_some}
use Rattle.std.proofs.lemmas.Bool.{true≢false}
use mathlib.Core.Bool.{not}
use Rattle.tc_lists.proofs.Firsts.{IsFirst-contains}
use Rattle.tc_bag.specs.Stock.{tuples_of}
use Rattle.tc_model.specs.State.{IsMatch, NoneMatches}
use Rattle.tc_replay.proofs.Told.{not_false, not_true}
use Rattle.tc_replay.proofs.acts.is_missed.Goals as goal

-- nothing is found exactly where it says so
none-found : {X : Type 0} (Q : Type 0) (R : X → Type 0) (found : Option X) (b : Bool) → ((x : X) → R x → Q → ⊥)
    → IfSome found R → IfNone found Q → is_some found ≡ not b → (IsTrue b ↔ Q)
none-found Q R None b apart some none is = (λ _. none, λ _. not_false b (sym is))
none-found Q R (Some x) b apart some none is =
    (λ yes. absurd (true≢false (sym yes ∙ not_true b (sym is))), λ q. absurd (apart x some q))

pub returns : goal.returns
returns g c =
    let ts = tuples_of c.args.bag.now.now in
    none-found (NoneMatches ts c.args.template.now) _ c.oldest_match_of.result c.is_none.result
    (λ m found none. none m.1.now (IsFirst-contains (IsMatch c.args.template.now) ts m.1.now found.first) found.first.has)
    c.oldest_match_of.ensures.found c.oldest_match_of.ensures.none c.is_none.ensures
