-- What is left once the newest nodes and links are taken back.
use Rattle.std.specs.Prelude.{◌≡◌, length, take}
use Rattle.tc_unify.specs.declared.links.Links.{Links}
use Rattle.tc_unify.specs.declared.sizes.Sizes.{Sizes}

-- the trail and the terms' links are cut to these sizes
pub record IsCut (old new : Links) (to : Sizes) : Type 0 where
  pub trail : new.trail.items ≡ take to.trail old.trail.items
  pub terms : length new.terms.items ≡ length (take to.nodes old.terms.items)
  pub variables : length new.variables.items ≡ length old.variables.items
