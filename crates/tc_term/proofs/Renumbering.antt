-- Terms whose variables are numbered by first appearance.
use Rattle.std.proofs.Common.{◌≡◌, ◌+◌, ℕ, List, [], length, get_or, map, refl, ap, sym, ◌∙◌, arith}
use Rattle.std.proofs.lemmas.List.FromFn.{length-range_with_len}
use Rattle.std.specs.List.{range_with_len}
use Rattle.tc_term.proofs.Places.{Stands, IsOnce, IsOnce-with_number, Stands-with_number, Stands-with_number_new, with_number-map, get_or-place_in, map-place_in}
use Rattle.tc_term.specs.Tree.{Tree, Variable, Atomic, Number, Compound, Trees, Last, More, nodes, nodes_of_all, depth, depth_of_all, name_bytes, name_bytes_of_all, HasIntegers, HaveIntegers, Fits}
use Rattle.tc_term.specs.Variables.{renamed, all_renamed, place_in, variables_after, variables_after_all, variables, renumbered, IsTemplate, IsPattern}

-- other variables leave the sizes
mutual
  pub nodes-renamed : (g : ℕ → ℕ) (t : Tree) → nodes (renamed g t) ≡ nodes t
  nodes-renamed g (Variable n) = refl
  nodes-renamed g (Atomic name) = refl
  nodes-renamed g (Number n) = refl
  nodes-renamed g (Compound name args) = ap (λ n. 1 + n) (nodes_of_all-renamed g args)

  pub nodes_of_all-renamed : (g : ℕ → ℕ) (ts : Trees) → nodes_of_all (all_renamed g ts) ≡ nodes_of_all ts
  nodes_of_all-renamed g (Last t) = nodes-renamed g t
  nodes_of_all-renamed g (More t ts) = omega (arith, nodes-renamed g t, nodes_of_all-renamed g ts)

mutual
  pub depth-renamed : (g : ℕ → ℕ) (t : Tree) → depth (renamed g t) ≡ depth t
  depth-renamed g (Variable n) = refl
  depth-renamed g (Atomic name) = refl
  depth-renamed g (Number n) = refl
  depth-renamed g (Compound name args) = ap (λ n. 1 + n) (depth_of_all-renamed g args)

  pub depth_of_all-renamed : (g : ℕ → ℕ) (ts : Trees) → depth_of_all (all_renamed g ts) ≡ depth_of_all ts
  depth_of_all-renamed g (Last t) = depth-renamed g t
  depth_of_all-renamed g (More t ts) = rw (depth-renamed g t, depth_of_all-renamed g ts) refl

mutual
  pub name_bytes-renamed : (g : ℕ → ℕ) (t : Tree) → name_bytes (renamed g t) ≡ name_bytes t
  name_bytes-renamed g (Variable n) = refl
  name_bytes-renamed g (Atomic name) = refl
  name_bytes-renamed g (Number n) = refl
  name_bytes-renamed g (Compound name args) = ap (λ n. length name + n) (name_bytes_of_all-renamed g args)

  pub name_bytes_of_all-renamed : (g : ℕ → ℕ) (ts : Trees) → name_bytes_of_all (all_renamed g ts) ≡ name_bytes_of_all ts
  name_bytes_of_all-renamed g (Last t) = name_bytes-renamed g t
  name_bytes_of_all-renamed g (More t ts) = omega (arith, name_bytes-renamed g t, name_bytes_of_all-renamed g ts)

mutual
  pub HasIntegers-renamed : (g : ℕ → ℕ) (t : Tree) → HasIntegers t → HasIntegers (renamed g t)
  HasIntegers-renamed g (Variable n) integers = tt
  HasIntegers-renamed g (Atomic name) integers = tt
  HasIntegers-renamed g (Number n) integers = integers
  HasIntegers-renamed g (Compound name args) integers = HaveIntegers-renamed g args integers

  pub HaveIntegers-renamed : (g : ℕ → ℕ) (ts : Trees) → HaveIntegers ts → HaveIntegers (all_renamed g ts)
  HaveIntegers-renamed g (Last t) integers = HasIntegers-renamed g t integers
  HaveIntegers-renamed g (More t ts) integers = (HasIntegers-renamed g t integers.0, HaveIntegers-renamed g ts integers.1)

pub Fits-renamed : (g : ℕ → ℕ) (t : Tree) → Fits t → Fits (renamed g t)
Fits-renamed g t fits = record {
  nodes = omega (arith, nodes-renamed g t, fits.nodes);
  depth = omega (arith, depth-renamed g t, fits.depth);
  name_bytes = omega (arith, name_bytes-renamed g t, fits.name_bytes);
  integers = HasIntegers-renamed g t fits.integers;
}

-- what was seen stands among the variables
mutual
  pub Stands-variables_after : (t : Tree) (seen : List ℕ) (m : ℕ) → Stands seen m → Stands (variables_after seen t) m
  Stands-variables_after (Variable n) seen m stands = Stands-with_number seen m n stands
  Stands-variables_after (Atomic name) seen m stands = stands
  Stands-variables_after (Number n) seen m stands = stands
  Stands-variables_after (Compound name args) seen m stands = Stands-variables_after_all args seen m stands

  pub Stands-variables_after_all : (ts : Trees) (seen : List ℕ) (m : ℕ) → Stands seen m → Stands (variables_after_all seen ts) m
  Stands-variables_after_all (Last t) seen m stands = Stands-variables_after t seen m stands
  Stands-variables_after_all (More t ts) seen m stands =
      Stands-variables_after_all ts (variables_after seen t) m (Stands-variables_after t seen m stands)

-- each variable is seen once
mutual
  pub IsOnce-variables_after : (t : Tree) (seen : List ℕ) → IsOnce seen → IsOnce (variables_after seen t)
  IsOnce-variables_after (Variable n) seen once = IsOnce-with_number seen n once
  IsOnce-variables_after (Atomic name) seen once = once
  IsOnce-variables_after (Number n) seen once = once
  IsOnce-variables_after (Compound name args) seen once = IsOnce-variables_after_all args seen once

  pub IsOnce-variables_after_all : (ts : Trees) (seen : List ℕ) → IsOnce seen → IsOnce (variables_after_all seen ts)
  IsOnce-variables_after_all (Last t) seen once = IsOnce-variables_after t seen once
  IsOnce-variables_after_all (More t ts) seen once =
      IsOnce-variables_after_all ts (variables_after seen t) (IsOnce-variables_after t seen once)

pub IsOnce-variables : (t : Tree) → IsOnce (variables t)
IsOnce-variables t = IsOnce-variables_after t [] (λ k d inside. absurd (omega (arith, inside)))

-- variables that get other numbers, which differ where they do, appear in the same order
mutual
  pub variables_after-renamed : (g : ℕ → ℕ) (vs : List ℕ) → ((m n : ℕ) → Stands vs m → Stands vs n → g m ≡ g n → m ≡ n) →
      (t : Tree) (seen : List ℕ) → ((m : ℕ) → Stands (variables_after seen t) m → Stands vs m) →
      variables_after (map g seen) (renamed g t) ≡ map g (variables_after seen t)
  variables_after-renamed g vs differ (Variable n) seen among =
      with_number-map g seen n (λ m stands.
      differ m n (among m (Stands-with_number seen m n stands)) (among n (Stands-with_number_new seen n)))
  variables_after-renamed g vs differ (Atomic name) seen among = refl
  variables_after-renamed g vs differ (Number n) seen among = refl
  variables_after-renamed g vs differ (Compound name args) seen among = variables_after_all-renamed g vs differ args seen among

  pub variables_after_all-renamed : (g : ℕ → ℕ) (vs : List ℕ) → ((m n : ℕ) → Stands vs m → Stands vs n → g m ≡ g n → m ≡ n) →
      (ts : Trees) (seen : List ℕ) → ((m : ℕ) → Stands (variables_after_all seen ts) m → Stands vs m) →
      variables_after_all (map g seen) (all_renamed g ts) ≡ map g (variables_after_all seen ts)
  variables_after_all-renamed g vs differ (Last t) seen among = variables_after-renamed g vs differ t seen among
  variables_after_all-renamed g vs differ (More t ts) seen among =
      let first = variables_after-renamed g vs differ t seen (λ m stands.
      among m (Stands-variables_after_all ts (variables_after seen t) m stands)) in
      ap (λ s. variables_after_all s (all_renamed g ts)) first ∙ variables_after_all-renamed g vs differ ts (variables_after seen t) among

-- numbered by first appearance, the variables are 0, 1, ..
pub variables-renumbered : (t : Tree) → variables (renumbered t) ≡ range_with_len 0 (length (variables t))
variables-renumbered t =
    let vs = variables t in
    let differ : (m n : ℕ) → Stands vs m → Stands vs n → place_in vs m ≡ place_in vs n → m ≡ n =
    λ m n stands stands' same. sym (get_or-place_in vs m 0 stands) ∙ ap (λ k. get_or vs k 0) same ∙ get_or-place_in vs n 0 stands' in
    variables_after-renamed (place_in vs) vs differ t [] (λ m stands. stands) ∙ map-place_in vs (IsOnce-variables t)

-- so a term that this leaves as it is was numbered so before
pub in_order-renumbered : (t : Tree) → renumbered t ≡ t → variables t ≡ range_with_len 0 (length (variables t))
in_order-renumbered t same = ap variables (sym same) ∙ variables-renumbered t

pub length-variables-renumbered : (t : Tree) → length (variables (renumbered t)) ≡ length (variables t)
length-variables-renumbered t = ap length (variables-renumbered t) ∙ length-range_with_len 0 (length (variables t))

-- a term within the limits of a template is one, numbered by first appearance
pub IsPattern-renumbered : (t : Tree) → IsTemplate t → IsPattern (renumbered t)
IsPattern-renumbered t template = record {
  template = record {
    fits = Fits-renamed (place_in (variables t)) t template.fits;
    few = omega (arith, length-variables-renumbered t, template.few);
  };
  numbered = variables-renumbered t ∙ ap (range_with_len 0) (sym (length-variables-renumbered t));
}
