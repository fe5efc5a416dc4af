-- What a core keeps, where what it holds is lent.
use Rattle.std.proofs.Common.{◌≡◌, ◌∙◌, ap, sym, subst}
use Rattle.std.specs.Box.{with_value}
use Rattle.tc_centre.specs.Centre.{Centre}
use Rattle.tc_centre.specs.Core.{centre_of, IsSound}
use Rattle.tc_centre.specs.declared.centre.Core.TheInside.{Inside}
use Rattle.tc_centre.specs.declared.holdings.Holdings.{Holdings}

-- a core that holds this in place of what it held
abbrev pub holding : Inside → Holdings → Inside
holding c h = record { held = with_value c.held h; places = c.places; numbers = c.numbers; weight = c.weight }

-- a core is sound that holds what it held
pub sound-same : (c : Inside) → IsSound c → IsSound (holding c c.held.value)
sound-same c sound = record {
  rest = sound.rest;
  weight = sound.weight;
  places = sound.places;
  lists = sound.lists;
  agents = sound.agents;
  numbers = sound.numbers;
  typed = sound.typed;
  bag_unmarked = sound.bag_unmarked;
  pending_unmarked = sound.pending_unmarked;
}

-- and so is one that holds what is lent of it
pub sound-lent : (c : Inside) (h : Holdings) → h ≡ c.held.value → IsSound c → IsSound (holding c h)
sound-lent c h is sound = subst (λ h. IsSound (holding c h)) (sym is) (sound-same c sound)

-- and it stands for the same centre
pub centre-lent : (c : Inside) (h : Holdings) (k : Centre) → h ≡ c.held.value → centre_of c ≡ k → centre_of (holding c h) ≡ k
centre-lent c h k is view = ap (λ h. centre_of (holding c h)) is ∙ view
