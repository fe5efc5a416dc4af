use Rattle.std.proofs.Common.{◌≡◌, ℕ, length, take, drop, All, vec_len}
use Rattle.tc_unify.specs.Tables.{link_of, rewound, HasNode}
use Rattle.tc_unify.proofs.links.Links.rewind.Given as goal

abbrev pub invariant-loop-self : goal.invariant-loop-self
invariant-loop-self l = record {
  places : All (HasNode l.self) (drop l.len l.self.trail.items);
  link : (k : ℕ) → rewound (link_of l.self) (drop l.len l.self.trail.items) k ≡ rewound (link_of l.fn.self) (drop l.len l.fn.self.trail.items) k;
  trail : take l.len l.self.trail.items ≡ take l.len l.fn.self.trail.items;
  terms : length l.self.terms.items ≡ length l.fn.self.terms.items;
  variables : length l.self.variables.items ≡ length l.fn.self.variables.items;
}

abbrev pub decreases-loop-self : goal.decreases-loop-self
decreases-loop-self l = vec_len l.self.trail
