-- The steps of a walk keep what it knows, and a node that is entered below itself has no finite tree.
use Rattle.std.proofs.Common.{◌≡◌, ℕ, ◌+◌, ◌<◌, ◌≤◌, ◌⊎◌, inl, inr, List, [], ◌∷◌, ◌++◌, refl, sym, ap, ◌∙◌, subst, arith}
use Rattle.std.proofs.lemmas.List.Elements.{All-weaker, All-push}
use Rattle.tc_term.specs.Tree.{Tree, nodes}
use Rattle.tc_unify.specs.Nodes.{Shape, VariableNode, AtomNode, NumberNode, ApplyNode, tree_of_node, IsVariable, IsPlain, IsInOrder, InOrder, label}
use Rattle.tc_unify.specs.Links.{root, Respects, IsFinite, plain, made}
use Rattle.tc_unify.specs.declared.walk.Step.{Step}
use Rattle.tc_unify.specs.declared.walk.Step.TheVariants.{Enter, Leave}
use Rattle.tc_unify.specs.Walks.{NamesAll, Awaits, IsBelowAll, Descends, IsOpenIn}
use Rattle.tc_unify.proofs.Labels.{IsSpine-label, nodes-applied, nodes-positive, label-labels}
use Rattle.tc_unify.proofs.Roots.{root-tree}

NamesAll-weaker : (P Q : ℕ → Type 0) → ((k : ℕ) → P k → Q k) → (s : Shape) → NamesAll P s → NamesAll Q s
NamesAll-weaker P Q w (ApplyNode head argument) h = (w head h.0, w argument h.1)
NamesAll-weaker P Q w (VariableNode n) h = tt
NamesAll-weaker P Q w (AtomNode name) h = tt
NamesAll-weaker P Q w (NumberNode n) h = tt

pub Awaits-weaker : (shape : ℕ → Shape) (link : ℕ → ℕ) (for : List ℕ) (P Q : ℕ → Type 0) → ((k : ℕ) → P k → Q k) → (steps : List Step) → Awaits shape link for P steps → Awaits shape link for Q steps
Awaits-weaker shape link for P Q w [] h =
    All-weaker (λ j. IsVariable (shape j) → P j) (λ j. IsVariable (shape j) → Q j) (λ j p free. w j (p free)) for h
Awaits-weaker shape link for P Q w (Enter k ∷ steps) h =
    Awaits-weaker shape link for (λ j. P j ⊎ (j ≡ k)) (λ j. Q j ⊎ (j ≡ k)) (λ j. λ c. elim c [ inl p ↦ inl (w j p) | inr e ↦ inr e ]) steps h
Awaits-weaker shape link for P Q w (Leave r ∷ steps) h = (
  NamesAll-weaker P Q w (shape r) h.0,
  Awaits-weaker shape link for (λ j. P j ⊎ (root link j ≡ r)) (λ j. Q j ⊎ (root link j ≡ r)) (λ j. λ c. elim c [ inl p ↦ inl (w j p) | inr e ↦ inr e ]) steps h.1,
)

-- one node more is to be entered, for itself
pub Awaits-more : (shape : ℕ → Shape) (link : ℕ → ℕ) (for : List ℕ) (x : ℕ) (P : ℕ → Type 0) (steps : List Step) → Awaits shape link for P steps → Awaits shape link (for ++ x ∷ []) (λ j. P j ⊎ (j ≡ x)) steps
Awaits-more shape link for x P [] h =
    All-push (λ j. IsVariable (shape j) → P j ⊎ (j ≡ x)) for x
    (All-weaker (λ j. IsVariable (shape j) → P j) (λ j. IsVariable (shape j) → P j ⊎ (j ≡ x)) (λ j p free. inl (p free)) for h) (λ free. inr refl)
Awaits-more shape link for x P (Enter k ∷ steps) h =
    Awaits-weaker shape link (for ++ x ∷ []) (λ j. (P j ⊎ (j ≡ k)) ⊎ (j ≡ x)) (λ j. (P j ⊎ (j ≡ x)) ⊎ (j ≡ k))
    (λ j. λ c. elim c [ inl d ↦ elim d [ inl p ↦ inl (inl p) | inr e ↦ inr e ] | inr e ↦ inl (inr e) ]) steps
    (Awaits-more shape link for x (λ j. P j ⊎ (j ≡ k)) steps h)
Awaits-more shape link for x P (Leave r ∷ steps) h = (
  NamesAll-weaker P (λ j. P j ⊎ (j ≡ x)) (λ j p. inl p) (shape r) h.0,
  Awaits-weaker shape link (for ++ x ∷ []) (λ j. (P j ⊎ (root link j ≡ r)) ⊎ (j ≡ x)) (λ j. (P j ⊎ (j ≡ x)) ⊎ (root link j ≡ r))
      (λ j. λ c. elim c [ inl d ↦ elim d [ inl p ↦ inl (inl p) | inr e ↦ inr e ] | inr e ↦ inl (inr e) ]) steps
      (Awaits-more shape link for x (λ j. P j ⊎ (root link j ≡ r)) steps h.1),
)

-- the walk is also for a node that has the property, if it is a variable
pub Awaits-skipped : (shape : ℕ → Shape) (link : ℕ → ℕ) (for : List ℕ) (x : ℕ) (P : ℕ → Type 0) → (IsVariable (shape x) → P x) → (steps : List Step) → Awaits shape link for P steps → Awaits shape link (for ++ x ∷ []) P steps
Awaits-skipped shape link for x P has [] h = All-push (λ j. IsVariable (shape j) → P j) for x h has
Awaits-skipped shape link for x P has (Enter k ∷ steps) h = Awaits-skipped shape link for x (λ j. P j ⊎ (j ≡ k)) (λ free. inl (has free)) steps h
Awaits-skipped shape link for x P has (Leave r ∷ steps) h = (h.0, Awaits-skipped shape link for x (λ j. P j ⊎ (root link j ≡ r)) (λ free. inl (has free)) steps h.1)

-- nodes with one root are finite together
pub IsFinite-same : {shape : ℕ → Shape} {link : ℕ → ℕ} {j k : ℕ} → root link j ≡ root link k → IsFinite shape link j → IsFinite shape link k
IsFinite-same {shape} {link} {k = k} e (plain j h) = plain k (subst (λ r. IsPlain (shape r)) e h)
IsFinite-same {shape} {link} {k = k} e (made j head argument f a b) = made k head argument (sym (ap shape e) ∙ f) a b

module _ (shape : ℕ → Shape) (link : ℕ → ℕ) (for : List ℕ) where
  -- a node that is known to be finite is passed
  pub Awaits-passed : (k : ℕ) (steps : List Step) → Awaits shape link for (IsFinite shape link) (Enter k ∷ steps) → IsFinite shape link k → Awaits shape link for (IsFinite shape link) steps
  Awaits-passed k steps h finite =
      Awaits-weaker shape link for (λ j. IsFinite shape link j ⊎ (j ≡ k)) (IsFinite shape link)
      (λ j. λ c. elim c [ inl f ↦ f | inr e ↦ subst (IsFinite shape link) (sym e) finite ]) steps h

  -- a node is entered
  pub Awaits-entered : (k r head argument : ℕ) (steps : List Step) → root link k ≡ r → shape r ≡ ApplyNode head argument → Awaits shape link for (IsFinite shape link) (Enter k ∷ steps) → Awaits shape link for (IsFinite shape link) (Enter head ∷ Enter argument ∷ Leave r ∷ steps)
  Awaits-entered k r head argument steps e f h =
      let P : ℕ → Type 0 = λ j. (IsFinite shape link j ⊎ (j ≡ head)) ⊎ (j ≡ argument) in (
        subst (NamesAll P) (sym f) (inl (inr refl), inr refl),
        Awaits-weaker shape link for (λ j. IsFinite shape link j ⊎ (j ≡ k)) (λ j. P j ⊎ (root link j ≡ r))
            (λ j. λ c. elim c [ inl finite ↦ inl (inl (inl finite)) | inr same ↦ inr (ap (root link) same ∙ e) ]) steps h,
      )

  names_finite : (r : ℕ) (s : Shape) → shape r ≡ s → root link r ≡ r → NamesAll (IsFinite shape link) s → IsFinite shape link r
  names_finite r (VariableNode n) e f h = plain r (subst IsPlain (sym (ap shape f ∙ e)) tt)
  names_finite r (AtomNode name) e f h = plain r (subst IsPlain (sym (ap shape f ∙ e)) tt)
  names_finite r (NumberNode n) e f h = plain r (subst IsPlain (sym (ap shape f ∙ e)) tt)
  names_finite r (ApplyNode head argument) e f h = made r head argument (ap shape f ∙ e) h.0 h.1

  -- a node is left: it is finite
  pub Awaits-left : (r : ℕ) (steps : List Step) → root link r ≡ r → Awaits shape link for (IsFinite shape link) (Leave r ∷ steps) → IsFinite shape link r × Awaits shape link for (IsFinite shape link) steps
  Awaits-left r steps f h =
      let finite = names_finite r (shape r) refl f h.0 in (
        finite,
        Awaits-weaker shape link for (λ j. IsFinite shape link j ⊎ (root link j ≡ r)) (IsFinite shape link)
            (λ j. λ c. elim c [ inl g ↦ g | inr e ↦ IsFinite-same (f ∙ sym e) finite ]) steps h.1,
      )

IsBelowAll-less : (F : ℕ → Tree) (s t : Tree) → nodes s ≤ nodes t → (steps : List Step) → IsBelowAll F t steps → IsBelowAll F s steps
IsBelowAll-less F s t e [] h = tt
IsBelowAll-less F s t e (Enter k ∷ steps) h = IsBelowAll-less F s t e steps h
IsBelowAll-less F s t e (Leave r ∷ steps) h = (let below = h.0 in omega arith, IsBelowAll-less F s t e steps h.1)

below_open : (F : ℕ → Tree) (t : Tree) (steps : List Step) (k : ℕ) → IsBelowAll F t steps → IsOpenIn steps k → nodes t < nodes (F k)
below_open F t [] k h i = absurd i
below_open F t (Enter j ∷ steps) k h i = below_open F t steps k h i
below_open F t (Leave r ∷ steps) k h i =
    elim i [ inl e ↦ subst (λ j. nodes t < nodes (F j)) e h.0 | inr more ↦ below_open F t steps k h.1 more ]

module _ (shape : ℕ → Shape) (link : ℕ → ℕ) (order : InOrder shape) (v : ℕ → Tree) (respects : Respects (label shape v) link) where
  pub Descends-entered : (k r head argument : ℕ) (steps : List Step) → root link k ≡ r → shape r ≡ ApplyNode head argument → Descends (label shape v) (Enter k ∷ steps) → Descends (label shape v) (Enter head ∷ Enter argument ∷ Leave r ∷ steps)
  Descends-entered k r head argument steps e f h =
      let F = label shape v in
      let of_r : nodes (F k) ≡ nodes (F r) = ap nodes (root-tree link F respects k ∙ ap F e) in
      let o = subst (IsInOrder shape r) f (order r) in
      let size : nodes (F r) ≡ nodes (F head) + nodes (F argument) =
      ap nodes (label-labels shape v order r ∙ ap (tree_of_node v F) f) ∙ nodes-applied (F head) (F argument) (IsSpine-label shape v head o.0) in
      let some = nodes-positive (F head) in
      let more = nodes-positive (F argument) in (
        (omega arith, IsBelowAll-less F (F head) (F k) (omega arith) steps h.0),
        (
          (omega arith, IsBelowAll-less F (F argument) (F k) (omega arith) steps h.0),
          (IsBelowAll-less F (F r) (F k) (omega arith) steps h.0, h.1),
        ),
      )

  -- a node that is entered while it is open has no tree
  pub Descends-open : (k r : ℕ) (steps : List Step) → root link k ≡ r → Descends (label shape v) (Enter k ∷ steps) → IsOpenIn steps r → ⊥
  Descends-open k r steps e h i =
      let F = label shape v in
      let same : nodes (F k) ≡ nodes (F r) = ap nodes (root-tree link F respects k ∙ ap F e) in
      let less = below_open F (F k) steps r h.0 i in
      omega arith
