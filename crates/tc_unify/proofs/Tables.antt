-- Tables of links: what they give, and what a write or a rewinding leaves.
use Rattle.std.proofs.Common.{◌≡◌, ◌≢◌, ℕ, zero, suc, ◌+◌, ◌-◌, ◌<◌, ◌≤◌, ◌⊎◌, inl, inr, List, [], ◌∷◌, ◌++◌, length, get_or, set, refl, sym, ap, ◌∙◌, subst, arith, Bool, true, false, cond, ◌==◌, true≢false, append_assoc, append-nil, take, drop, length-take, All}
use Rattle.std.proofs.Math.ListN.{get_or-eq_default}
use Rattle.std.proofs.lemmas.List.Elements.{All-head, All-tail}
use Rattle.std.proofs.lemmas.Bool.Decides.{Decides-ltb, Decides-eqb, nat_tests}
use Rattle.std.proofs.lemmas.Bool.{cases_lt, le-ltb}
use Rattle.std.proofs.lemmas.List.{get_or-set_same, get_or-set_other, get_or-take}
use Rattle.tc_lists.proofs.Parts.{drop-popped}
use Rattle.tc_unify.specs.declared.nodes.TheConstants.{FIRST_VARIABLE}
use Rattle.tc_unify.specs.declared.links.Links.{Links}
use Rattle.tc_unify.specs.Links.{linked, root, Falls}
use Rattle.tc_unify.specs.Tables.{link_in, link_of, own_links, unlinked_in, rewound, HasNode, Extends}
use Rattle.tc_unify.proofs.Steps.{linked_cases}
use Rattle.tc_unify.proofs.Roots.{root-link, root-keeps}

pub link_in-term : (terms variables : List ℕ) (k : ℕ) → k < FIRST_VARIABLE → link_in terms variables k ≡ get_or terms k k
unfolding link_in
link_in-term terms variables k h =
    ap (λ b. cond b (get_or terms k k) (get_or variables (k - FIRST_VARIABLE) k)) ((Decides-ltb k FIRST_VARIABLE).1 h)

pub link_in-variable : (terms variables : List ℕ) (k : ℕ) → FIRST_VARIABLE ≤ k → link_in terms variables k ≡ get_or variables (k - FIRST_VARIABLE) k
unfolding link_in
link_in-variable terms variables k h =
    ap (λ b. cond b (get_or terms k k) (get_or variables (k - FIRST_VARIABLE) k)) (le-ltb k FIRST_VARIABLE h)

linked-at : (link : ℕ → ℕ) (a b : ℕ) → linked link a b a ≡ b
linked-at link a b = elim (linked_cases link a b a) [ inl at ↦ at.1 | inr off ↦ absurd (off.0 refl) ]

linked-off : (link : ℕ → ℕ) (a b k : ℕ) → k ≢ a → linked link a b k ≡ link k
linked-off link a b k h = elim (linked_cases link a b k) [ inl at ↦ absurd (h at.0) | inr off ↦ off.1 ]

linked-by : (link : ℕ → ℕ) (a b k x : ℕ) → (k ≡ a → x ≡ b) → (k ≢ a → x ≡ link k) → x ≡ linked link a b k
linked-by link a b k x at off =
    elim (linked_cases link a b k) [ inl h ↦ at h.0 ∙ sym h.1 | inr h ↦ off h.0 ∙ sym h.1 ]

pub link_in-set_term : (terms variables : List ℕ) (a b k : ℕ) → a < length terms → a < FIRST_VARIABLE → link_in (set terms a b) variables k ≡ linked (link_in terms variables) a b k
link_in-set_term terms variables a b k h i = linked-by (link_in terms variables) a b k (link_in (set terms a b) variables k) at off
  where
    at : k ≡ a → link_in (set terms a b) variables k ≡ b
    at e =
        link_in-term (set terms a b) variables k (omega arith) ∙ ap (λ j. get_or (set terms a b) j k) e ∙ get_or-set_same terms a b k h

    off : k ≢ a → link_in (set terms a b) variables k ≡ link_in terms variables k
    off e =
        elim (cases_lt k FIRST_VARIABLE) [
          | inl below ↦ link_in-term (set terms a b) variables k below ∙ get_or-set_other terms a k b k e ∙ sym (link_in-term terms variables k below)
          | inr above ↦ link_in-variable (set terms a b) variables k above ∙ sym (link_in-variable terms variables k above)
        ]

pub link_in-set_variable : (terms variables : List ℕ) (a b k : ℕ) → a < FIRST_VARIABLE + length variables → FIRST_VARIABLE ≤ a → link_in terms (set variables (a - FIRST_VARIABLE) b) k ≡ linked (link_in terms variables) a b k
link_in-set_variable terms variables a b k h i = linked-by (link_in terms variables) a b k (link_in terms (set variables (a - FIRST_VARIABLE) b) k) at off
  where
    at : k ≡ a → link_in terms (set variables (a - FIRST_VARIABLE) b) k ≡ b
    at e =
        link_in-variable terms (set variables (a - FIRST_VARIABLE) b) k (omega arith)
        ∙ ap (λ j. get_or (set variables (a - FIRST_VARIABLE) b) (j - FIRST_VARIABLE) k) e
        ∙ get_or-set_same variables (a - FIRST_VARIABLE) b k (omega arith)

    off : k ≢ a → link_in terms (set variables (a - FIRST_VARIABLE) b) k ≡ link_in terms variables k
    off e =
        elim (cases_lt k FIRST_VARIABLE) [
          | inl below ↦ link_in-term terms (set variables (a - FIRST_VARIABLE) b) k below ∙ sym (link_in-term terms variables k below)
          | inr above ↦
              link_in-variable terms (set variables (a - FIRST_VARIABLE) b) k above
              ∙ get_or-set_other variables (a - FIRST_VARIABLE) (k - FIRST_VARIABLE) b k (λ f. e (omega arith))
              ∙ sym (link_in-variable terms variables k above)
        ]

-- cases on whether a node is the first that is rewound
rewound_cases : (link : ℕ → ℕ) (n : ℕ) (nodes : List ℕ) (k : ℕ) → ((k ≡ n) × (rewound link (n ∷ nodes) k ≡ k)) ⊎ ((k ≢ n) × (rewound link (n ∷ nodes) k ≡ rewound link nodes k))
rewound_cases link n nodes k = by_test (k == n) refl
  where
    by_test : (t : Bool) → (k == n) ≡ t → ((k ≡ n) × (rewound link (n ∷ nodes) k ≡ k)) ⊎ ((k ≢ n) × (rewound link (n ∷ nodes) k ≡ rewound link nodes k))
    by_test true e = inl ((Decides-eqb k n).0 e, ap (λ t. cond t k (rewound link nodes k)) e)
    by_test false e = inr ((λ same. true≢false (sym ((Decides-eqb k n).1 same) ∙ e)), ap (λ t. cond t k (rewound link nodes k)) e)

-- rewinding goes node by node
pub rewound-same : (link other : ℕ → ℕ) (nodes : List ℕ) (k : ℕ) → ((j : ℕ) → link j ≡ other j) → rewound link nodes k ≡ rewound other nodes k
rewound-same link other [] k e = e k
rewound-same link other (n ∷ nodes) k e = ap (λ j. cond (k == n) k j) (rewound-same link other nodes k e)

pub rewound-append : (link : ℕ → ℕ) (nodes more : List ℕ) (k : ℕ) → rewound link (nodes ++ more) k ≡ rewound (rewound link more) nodes k
rewound-append link [] more k = refl
rewound-append link (n ∷ nodes) more k = ap (λ j. cond (k == n) k j) (rewound-append link nodes more k)

-- a node that is not rewound keeps its link
pub rewound_known : (link : ℕ → ℕ) (nodes : List ℕ) (k : ℕ) → (rewound link nodes k ≡ k) ⊎ (rewound link nodes k ≡ link k)
rewound_known link [] k = inr refl
rewound_known link (n ∷ nodes) k =
    elim (rewound_cases link n nodes k) [
      | inl at ↦ inl at.1
      | inr off ↦ elim (rewound_known link nodes k) [ inl same ↦ inl (off.1 ∙ same) | inr kept ↦ inr (off.1 ∙ kept) ]
    ]

-- one more link of a node that had none is taken back too
pub rewound-linked : (link : ℕ → ℕ) (a b k : ℕ) → link a ≡ a → rewound (linked link a b) (a ∷ []) k ≡ link k
rewound-linked link a b k fixed =
    elim (rewound_cases (linked link a b) a [] k) [
      | inl at ↦ at.1 ∙ at.0 ∙ sym fixed ∙ ap link (sym at.0)
      | inr off ↦ off.1 ∙ linked-off link a b k off.0
    ]

-- to rewind a node is to link it to itself
pub rewound-reset : (link : ℕ → ℕ) (a k : ℕ) → rewound link (a ∷ []) k ≡ linked link a a k
rewound-reset link a k =
    linked-by link a a k (rewound link (a ∷ []) k)
    (λ e. elim (rewound_cases link a [] k) [ inl at ↦ at.1 ∙ at.0 | inr off ↦ absurd (off.0 e) ])
    (λ e. elim (rewound_cases link a [] k) [ inl at ↦ absurd (e at.0) | inr off ↦ off.1 ])

pub Extends-itself : (old : Links) → Extends old old
Extends-itself old = record { more = []; trail = sym (append-nil old.trail.items); back = λ k. refl; terms = refl; variables = refl }

pub Extends-join : (old mid new : Links) (a b : ℕ) → Extends old mid → link_of mid a ≡ a → ((k : ℕ) → link_of new k ≡ linked (link_of mid) a b k) → new.trail.items ≡ mid.trail.items ++ a ∷ [] → length new.terms.items ≡ length mid.terms.items → length new.variables.items ≡ length mid.variables.items → Extends old new
Extends-join old mid new a b x fixed link trail terms variables = record {
  more = x.more ++ a ∷ [];
  trail = trail ∙ ap (λ ns. ns ++ a ∷ []) x.trail ∙ append_assoc old.trail.items x.more (a ∷ []);
  back = λ k.
      rewound-append (link_of new) x.more (a ∷ []) k
      ∙ rewound-same (rewound (link_of new) (a ∷ [])) (link_of mid) x.more k
      (λ j. rewound-same (link_of new) (linked (link_of mid) a b) (a ∷ []) j link ∙ rewound-linked (link_of mid) a b j fixed)
      ∙ x.back k;
  terms = terms ∙ x.terms;
  variables = variables ∙ x.variables;
}

-- nothing new is linked
pub Extends-same : (old mid new : Links) → Extends old mid → ((k : ℕ) → link_of new k ≡ link_of mid k) → new.trail.items ≡ mid.trail.items → length new.terms.items ≡ length mid.terms.items → length new.variables.items ≡ length mid.variables.items → Extends old new
Extends-same old mid new x link trail terms variables = record {
  more = x.more;
  trail = trail ∙ x.trail;
  back = λ k. rewound-same (link_of new) (link_of mid) x.more k link ∙ x.back k;
  terms = terms ∙ x.terms;
  variables = variables ∙ x.variables;
}

-- nodes with one old root have one new root
pub Extends-root : (old new : Links) → Extends old new → Falls (link_of new) → (k : ℕ) → root (link_of new) (root (link_of old) k) ≡ root (link_of new) k
Extends-root old new x falls k =
    root-keeps (link_of old) (λ j. root (link_of new) j ≡ root (link_of new) k)
    (λ j e. step j (rewound_known (link_of new) x.more j) ∙ e) k refl
  where
    step : (j : ℕ) → ((rewound (link_of new) x.more j ≡ j) ⊎ (rewound (link_of new) x.more j ≡ link_of new j)) → root (link_of new) (link_of old j) ≡ root (link_of new) j
    step j (inl same) = ap (root (link_of new)) (sym (x.back j) ∙ same)
    step j (inr kept) = ap (root (link_of new)) (sym (x.back j) ∙ kept) ∙ root-link (link_of new) falls j

-- a node without an old link has no new one, or is among the new nodes of the trail
pub Extends-known : (old new : Links) (P : ℕ → Type 0) → (x : Extends old new) → All P x.more → (k : ℕ) → link_of old k ≡ k → (link_of new k ≡ k) ⊎ P k
Extends-known old new P x all k fixed = by_nodes x.more all (x.back k ∙ fixed)
  where
    by_nodes : (nodes : List ℕ) → All P nodes → rewound (link_of new) nodes k ≡ k → (link_of new k ≡ k) ⊎ P k
    by_nodes [] h e = inl e
    by_nodes (n ∷ nodes) h e =
        elim (rewound_cases (link_of new) n nodes k) [
          | inl at ↦ inr (subst P (sym at.0) (All-head P n nodes h))
          | inr off ↦ by_nodes nodes (All-tail P n nodes h) (sym off.1 ∙ e)
        ]

own_links-set : (k : ℕ) (links : List ℕ) (i b : ℕ) → i < length links → get_or links i (k + i) ≡ k + i → b ≢ k + i → own_links k (set links i b) + 1 ≡ own_links k links
own_links-set k [] i b h e f = absurd (omega arith)
own_links-set k (n ∷ links) zero b h e f = grind (arith, nat_tests)
own_links-set k (n ∷ links) (suc i) b h e f =
    let place : (k + 1) + i ≡ k + suc i = omega arith in
    let rest = own_links-set (k + 1) links i b (omega arith) (subst (λ j. get_or links i j ≡ j) (sym place) e) (λ g. f (g ∙ place)) in
    omega (arith, rest)

-- a node that is linked has had no link before
pub unlinked_in-set_term : (terms variables : List ℕ) (a b : ℕ) → a < length terms → a < FIRST_VARIABLE → link_in terms variables a ≡ a → b ≢ a → unlinked_in (set terms a b) variables + 1 ≡ unlinked_in terms variables
unfolding unlinked_in
unlinked_in-set_term terms variables a b h i e f =
    let zero_more : 0 + a ≡ a = omega arith in
    let less = own_links-set 0 terms a b h (subst (λ j. get_or terms a j ≡ j) (sym zero_more) (sym (link_in-term terms variables a i) ∙ e)) (λ g. f (g ∙ zero_more)) in
    omega (arith, less)

pub unlinked_in-set_variable : (terms variables : List ℕ) (a b : ℕ) → a < FIRST_VARIABLE + length variables → FIRST_VARIABLE ≤ a → link_in terms variables a ≡ a → b ≢ a → unlinked_in terms (set variables (a - FIRST_VARIABLE) b) + 1 ≡ unlinked_in terms variables
unfolding unlinked_in
unlinked_in-set_variable terms variables a b h i e f =
    let place : FIRST_VARIABLE + (a - FIRST_VARIABLE) ≡ a = omega arith in
    let less = own_links-set FIRST_VARIABLE variables (a - FIRST_VARIABLE) b (omega arith) (subst (λ j. get_or variables (a - FIRST_VARIABLE) j ≡ j) (sym place) (sym (link_in-variable terms variables a i) ∙ e)) (λ g. f (g ∙ place)) in
    omega (arith, less)

pub Extends-trans : (old mid new : Links) → Extends old mid → Extends mid new → Extends old new
Extends-trans old mid new x y = record {
  more = x.more ++ y.more;
  trail = y.trail ∙ ap (λ ns. ns ++ y.more) x.trail ∙ append_assoc old.trail.items x.more y.more;
  back = λ k.
      rewound-append (link_of new) x.more y.more k
      ∙ rewound-same (rewound (link_of new) y.more) (link_of mid) x.more k y.back
      ∙ x.back k;
  terms = y.terms ∙ x.terms;
  variables = y.variables ∙ x.variables;
}

-- one step of taking links back
pub rewound-popped : (link new : ℕ → ℕ) (trail rest : List ℕ) (x len : ℕ) → trail ≡ rest ++ x ∷ [] → len ≤ length rest → ((k : ℕ) → new k ≡ linked link x x k)
    → (k : ℕ) → rewound new (drop len rest) k ≡ rewound link (drop len trail) k
rewound-popped link new trail rest x len e h set k =
    rewound-same new (rewound link (x ∷ [])) (drop len rest) k (λ j. set j ∙ sym (rewound-reset link x j))
    ∙ sym (rewound-append link (drop len rest) (x ∷ []) k)
    ∙ ap (λ ns. rewound link ns k) (sym (drop-popped trail rest x len e h))

pub HasNode-same : (l m : Links) → length m.terms.items ≡ length l.terms.items → length m.variables.items ≡ length l.variables.items → (k : ℕ) → HasNode l k → HasNode m k
HasNode-same l m terms variables k (inl h) = inl (let below = h.0 in omega arith, h.1)
HasNode-same l m terms variables k (inr h) = inr (h.0, (let below = h.1 in omega arith))

-- a table that is cut links what it lost to itself
pub link_in-cut : (terms variables : List ℕ) (n : ℕ) (f : ℕ → ℕ) → ((k : ℕ) → link_in terms variables k ≡ f k) → ((k : ℕ) → n ≤ k → k < FIRST_VARIABLE → f k ≡ k) → (k : ℕ) → link_in (take n terms) variables k ≡ f k
link_in-cut terms variables n f e past k =
    elim (cases_lt k FIRST_VARIABLE) [
      | inl term ↦
          elim (cases_lt k n) [
            | inl below ↦ link_in-term (take n terms) variables k term ∙ get_or-take n terms k k below ∙ sym (link_in-term terms variables k term) ∙ e k
            | inr above ↦
                link_in-term (take n terms) variables k term ∙ get_or-eq_default (take n terms) k (omega (arith, length-take n terms)) ∙ sym (past k above term)
          ]
      | inr free ↦ link_in-variable (take n terms) variables k free ∙ sym (link_in-variable terms variables k free) ∙ e k
    ]

-- a table with more links of nodes to themselves changes no link
pub link_in-own : (terms longer variables : List ℕ) → ((k : ℕ) → get_or longer k (0 + k) ≡ get_or terms k (0 + k)) → (k : ℕ) → link_in longer variables k ≡ link_in terms variables k
link_in-own terms longer variables own k =
    elim (cases_lt k FIRST_VARIABLE) [
      | inl term ↦
          (let zero_more : 0 + k ≡ k = omega arith in
          link_in-term longer variables k term ∙ subst (λ d. get_or longer k d ≡ get_or terms k d) zero_more (own k) ∙ sym (link_in-term terms variables k term))
      | inr free ↦ link_in-variable longer variables k free ∙ sym (link_in-variable terms variables k free)
    ]

pub link_in-own_variables : (terms variables longer : List ℕ) → ((k : ℕ) → get_or longer k (FIRST_VARIABLE + k) ≡ get_or variables k (FIRST_VARIABLE + k)) → (k : ℕ) → link_in terms longer k ≡ link_in terms variables k
link_in-own_variables terms variables longer own k =
    elim (cases_lt k FIRST_VARIABLE) [
      | inl term ↦ link_in-term terms longer k term ∙ sym (link_in-term terms variables k term)
      | inr free ↦
          (let back : FIRST_VARIABLE + (k - FIRST_VARIABLE) ≡ k = omega arith in
          link_in-variable terms longer k free
          ∙ subst (λ d. get_or longer (k - FIRST_VARIABLE) d ≡ get_or variables (k - FIRST_VARIABLE) d) back (own (k - FIRST_VARIABLE))
          ∙ sym (link_in-variable terms variables k free))
    ]
