-- Tables of links, and what they are once the newest links are taken back.
use Rattle.std.specs.Prelude.{◌≡◌, ℕ, ◌+◌, ◌-◌, ◌<◌, ◌≤◌, ◌⊎◌, List, [], ◌∷◌, ◌++◌}
use Rattle.std.specs.Prelude.{length, get_or, ◌==◌, if◌then◌else◌, nat_lt}
use Rattle.tc_unify.specs.declared.nodes.TheConstants.{FIRST_VARIABLE}
use Rattle.tc_unify.specs.declared.links.Links.{Links}

-- where a node links to: past the tables, to itself
unfoldable pub link_in : List ℕ → List ℕ → ℕ → ℕ
link_in terms variables k =
    if nat_lt k FIRST_VARIABLE then get_or terms k k else get_or variables (k - FIRST_VARIABLE) k

abbrev pub link_of : Links → ℕ → ℕ
link_of l = link_in l.terms.items l.variables.items

-- the tables have a place for the node
abbrev pub HasNode : Links → ℕ → Type 0
HasNode l k =
    (k < length l.terms.items) × (k < FIRST_VARIABLE)
    ⊎ ((FIRST_VARIABLE ≤ k) × (k < FIRST_VARIABLE + length l.variables.items))

-- how many links go to themselves, in a table that begins with the link of this node
abbrev pub own_links : ℕ → List ℕ → ℕ
own_links k [] = 0
own_links k (n ∷ links) = (if n == k then 1 else 0) + own_links (k + 1) links

-- how many nodes have no link
unfoldable pub unlinked_in : List ℕ → List ℕ → ℕ
unlinked_in terms variables = own_links 0 terms + own_links FIRST_VARIABLE variables

abbrev pub unlinked : Links → ℕ
unlinked l = unlinked_in l.terms.items l.variables.items

-- the links without those of some nodes
abbrev pub rewound : (ℕ → ℕ) → List ℕ → ℕ → ℕ
rewound link [] k = link k
rewound link (n ∷ nodes) k = if k == n then k else rewound link nodes k

-- new links of some nodes stand in the trail after the old ones, and without them the links are as
-- before
pub record Extends (old new : Links) : Type 0 where
  pub more : List ℕ
  pub trail : new.trail.items ≡ old.trail.items ++ more
  pub back : (k : ℕ) → rewound (link_of new) more k ≡ link_of old k
  pub terms : length new.terms.items ≡ length old.terms.items
  pub variables : length new.variables.items ≡ length old.variables.items
