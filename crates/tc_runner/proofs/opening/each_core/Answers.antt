use Rattle.std.proofs.Common.{◌++◌, ◌∷◌, [], ◌∙◌, All, List, map, ap, sym, subst}
use Rattle.std.proofs.lemmas.List.{map-append}
use Rattle.std.proofs.lemmas.List.Elements.{All-tail}
use Rattle.tc_centre.specs.Centre.{Centre}
use Rattle.tc_config.specs.Configurations.{IsCentre}
use Rattle.tc_runner.specs.Plans.{fresh_core, names_of}
use Rattle.tc_runner.proofs.opening.each_core.Goals as goal

pub loop-centre-preserved : goal.loop-centre-preserved
loop-centre-preserved c =
    let fresh = fresh_core (names_of c.args.agents.now) in
    let yielded = c.loop-centre.yielded in
    record {
      cores = c.in_ok-push.ensures.items
          ∙ ap (λ (xs : List Centre). xs ++ c.in_ok-core.field-0 ∷ []) c.loop-centre.invariant.cores
          ∙ ap (λ (x : Centre). map fresh yielded ++ x ∷ []) c.in_ok-core.ensures
          ∙ sym (map-append fresh yielded (c.in-Some.centre ∷ []));
      left = All-tail IsCentre c.in-Some.centre c.next.new.self.rest.items
          (subst (All IsCentre) c.in-Some.ensures.steps.0 c.loop-centre.invariant.left);
    }
