use Rattle.std.proofs.Common.{ap, ◌∙◌, rules}
use Rattle.std.proofs.lemmas.Map.Made.{map_same_pairs, lookup-map_values}
use Rattle.std.specs.Map.{lookup}
use Rattle.tc_policy.specs.Places.{lowered}
use Rattle.tc_policy.specs.Same.{same_grant}
use Rattle.tc_policy.proofs.places.lower.Goals as goal

pub returns : goal.returns
returns c other =
    let kept =
    map_same_pairs _ (lowered c.args.removed) _ (λ k v b w f t. search rules) c.args.places.now.entries
    c.retain.new.self.entries c.retain.ensures.filtered in
    ap (lookup (same_grant other)) kept
    ∙ lookup-map_values (lowered c.args.removed) (same_grant other) c.args.places.now.entries
