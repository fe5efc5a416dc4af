-- Terms with other trees in place of their variables.
use Rattle.std.proofs.Common.{◌≡◌, ◌<◌, ◌≤◌, ◌+◌, ◌&&◌, ℕ, IsTrue, refl, ap, ◌∙◌, arith}
use Rattle.std.proofs.lemmas.Bool.{and_parts}
use Rattle.tc_term.specs.Tree.{Tree, Variable, Atomic, Number, Compound, Trees, Last, More, is_ground, are_ground}
use Rattle.tc_term.specs.Variables.{instance, instances, var_bound, var_bound_of_all, all_renamed, raised}

-- only the trees of a term's own variables count
mutual
  pub instance-same : (f g : ℕ → Tree) (t : Tree) → ((n : ℕ) → n < var_bound t → f n ≡ g n) → instance f t ≡ instance g t
  instance-same f g (Variable n) same = same n (omega arith)
  instance-same f g (Atomic name) same = refl
  instance-same f g (Number n) same = refl
  instance-same f g (Compound name args) same = ap (Compound name) (instances-same f g args same)

  pub instances-same : (f g : ℕ → Tree) (ts : Trees) → ((n : ℕ) → n < var_bound_of_all ts → f n ≡ g n) → instances f ts ≡ instances g ts
  instances-same f g (Last t) same = ap Last (instance-same f g t same)
  instances-same f g (More t ts) same =
      let first = instance-same f g t (λ n below. same n (omega (arith, below))) in
      let rest = instances-same f g ts (λ n below. same n (omega (arith, below))) in
      cc

mutual
  pub instance-Variable : (t : Tree) → instance Variable t ≡ t
  instance-Variable (Variable n) = refl
  instance-Variable (Atomic name) = refl
  instance-Variable (Number n) = refl
  instance-Variable (Compound name args) = ap (Compound name) (instances-Variable args)

  pub instances-Variable : (ts : Trees) → instances Variable ts ≡ ts
  instances-Variable (Last t) = ap Last (instance-Variable t)
  instances-Variable (More t ts) =
      let first = instance-Variable t in
      let rest = instances-Variable ts in
      cc

mutual
  pub instance-instance : (f g : ℕ → Tree) (t : Tree) → instance f (instance g t) ≡ instance (λ n. instance f (g n)) t
  instance-instance f g (Variable n) = refl
  instance-instance f g (Atomic name) = refl
  instance-instance f g (Number n) = refl
  instance-instance f g (Compound name args) = ap (Compound name) (instances-instances f g args)

  pub instances-instances : (f g : ℕ → Tree) (ts : Trees) → instances f (instances g ts) ≡ instances (λ n. instance f (g n)) ts
  instances-instances f g (Last t) = ap Last (instance-instance f g t)
  instances-instances f g (More t ts) =
      let first = instance-instance f g t in
      let rest = instances-instances f g ts in
      cc

-- a ground term has no variable
mutual
  pub var_bound-ground : (t : Tree) → IsTrue (is_ground t) → var_bound t ≡ 0
  var_bound-ground (Variable n) ground = absurd (cc)
  var_bound-ground (Atomic name) ground = refl
  var_bound-ground (Number n) ground = refl
  var_bound-ground (Compound name args) ground = var_bound_of_all-ground args ground

  pub var_bound_of_all-ground : (ts : Trees) → IsTrue (are_ground ts) → var_bound_of_all ts ≡ 0
  var_bound_of_all-ground (Last t) ground = var_bound-ground t ground
  var_bound_of_all-ground (More t ts) ground =
      let each = and_parts (is_ground t) (are_ground ts) ground in
      omega (arith, var_bound-ground t each.0, var_bound_of_all-ground ts each.1)

pub instance-ground : (f : ℕ → Tree) (t : Tree) → IsTrue (is_ground t) → instance f t ≡ t
instance-ground f t ground =
    instance-same f Variable t (λ n below. absurd (omega (arith, below, var_bound-ground t ground))) ∙ instance-Variable t

-- with ground trees in place of its variables a term is ground
mutual
  pub is_ground-instance : (f : ℕ → Tree) (t : Tree) →
      ((n : ℕ) → n < var_bound t → IsTrue (is_ground (f n))) → IsTrue (is_ground (instance f t))
  is_ground-instance f (Variable n) each = each n (omega arith)
  is_ground-instance f (Atomic name) each = refl
  is_ground-instance f (Number n) each = refl
  is_ground-instance f (Compound name args) each = are_ground-instances f args each

  pub are_ground-instances : (f : ℕ → Tree) (ts : Trees) →
      ((n : ℕ) → n < var_bound_of_all ts → IsTrue (is_ground (f n))) → IsTrue (are_ground (instances f ts))
  are_ground-instances f (Last t) each = is_ground-instance f t each
  are_ground-instances f (More t ts) each =
      let first = is_ground-instance f t (λ n below. each n (omega (arith, below))) in
      let rest = are_ground-instances f ts (λ n below. each n (omega (arith, below))) in
      ap (λ b. b && are_ground (instances f ts)) first ∙ rest

-- variables that are raised
pub raised-zero : (t : Tree) → raised 0 t ≡ t
raised-zero t = instance-same (λ n. Variable (n + 0)) Variable t (λ n below. ap Variable (omega arith)) ∙ instance-Variable t

pub raised-ground : (k : ℕ) (t : Tree) → IsTrue (is_ground t) → raised k t ≡ t
raised-ground k t ground = instance-ground (λ n. Variable (n + k)) t ground

mutual
  pub var_bound-raised : (k : ℕ) (t : Tree) → var_bound (raised k t) ≤ var_bound t + k
  var_bound-raised k (Variable n) = omega arith
  var_bound-raised k (Atomic name) = omega arith
  var_bound-raised k (Number n) = omega arith
  var_bound-raised k (Compound name args) = var_bound_of_all-raised k args

  pub var_bound_of_all-raised : (k : ℕ) (ts : Trees) → var_bound_of_all (all_renamed (λ n. n + k) ts) ≤ var_bound_of_all ts + k
  var_bound_of_all-raised k (Last t) = var_bound-raised k t
  var_bound_of_all-raised k (More t ts) = omega (arith, var_bound-raised k t, var_bound_of_all-raised k ts)
