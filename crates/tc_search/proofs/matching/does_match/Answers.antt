use Rattle.std.proofs.Common.{◌≡◌, refl, arith}
use Rattle.std.specs.Prelude.{None}
use Rattle.std.proofs.lemmas.List.Elements.{All-replicate}
use Rattle.tc_term.specs.Limits.{most_variables}
use Rattle.tc_search.proofs.matching.does_match.Goals as goal

pub matches_in-requires-2-clause-places : goal.matches_in-requires-2-clause-places
matches_in-requires-2-clause-places c = omega (arith, c.vars.ensures.count, c.vars.ensures.bound, c.term-term.ensures.pattern.template.few)

pub matches_in-requires-2-clause-free : goal.matches_in-requires-2-clause-free
matches_in-requires-2-clause-free c = All-replicate (λ b. b ≡ None) most_variables None refl
