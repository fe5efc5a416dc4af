-- The numbers of variables: their places in a set that keeps its order.
use Rattle.std.proofs.Common.{◌≡◌, ◌+◌, ◌⊎◌, ℕ, true, false, nat_eq, inl, inr, cond, ◌||◌, if◌then◌else◌, List, [], ◌∷◌, ◌++◌, length, refl, ap, sym, ◌∙◌, arith}
use Rattle.std.specs.List.{list_any, position_or_len}
use Rattle.std.proofs.lemmas.Bool.Decides.{eqb_tells}
use Rattle.std.proofs.lemmas.List.Recursion.{is_position_or_len}
use Rattle.indexmap.specs.IndexSet.{insert_key}
use Rattle.tc_term.proofs.Places.{Stands, place_in_cases, place_in-append_left, place_in-append_right, place_in-one, with_number_cases}
use Rattle.tc_term.proofs.Renumbering.{Stands-variables_after}
use Rattle.tc_term.specs.Tree.{Tree, Variable, Atomic, Number, Compound, Trees, Last, More}
use Rattle.tc_term.specs.Variables.{place_in, with_number, variables_after, variables_after_all}

-- whether a number is found, and whether it stands in the list
pub list_any_cases : (ns : List ℕ) (n : ℕ) →
    ((list_any (nat_eq n) ns ≡ true) × Stands ns n) ⊎ ((list_any (nat_eq n) ns ≡ false) × (place_in ns n ≡ length ns))
list_any_cases [] n = inr (refl, refl)
list_any_cases (m ∷ ns) n =
    elim (eqb_tells n m) [
      | inl same ↦ inl (
        ap (λ b. b || list_any (nat_eq n) ns) same.0,
        elim (place_in_cases m ns n) [
          | inl here ↦ omega (arith, here.1)
          | inr behind ↦ absurd (behind.0 (sym same.1))
        ],
      )
      | inr other ↦ elim (place_in_cases m ns n) [
        | inl here ↦ absurd (other.1 (sym here.0))
        | inr behind ↦ elim (list_any_cases ns n) [
          | inl old ↦ inl (ap (λ b. b || list_any (nat_eq n) ns) other.0 ∙ old.0, omega (arith, behind.1, old.1))
          | inr new ↦ inr (ap (λ b. b || list_any (nat_eq n) ns) other.0 ∙ new.0, omega (arith, behind.1, new.1))
        ]
      ]
    ]

pub place_in-index : (ns : List ℕ) (n : ℕ) → place_in ns n ≡ position_or_len (nat_eq n) ns
place_in-index ns n = is_position_or_len (λ l. place_in l n) (nat_eq n) refl step ns
  where
    step : (m : ℕ) (ms : List ℕ) → place_in (m ∷ ms) n ≡ cond (nat_eq n m) 0 (1 + place_in ms n)
    step m ms =
        elim (eqb_tells n m) [
          | inl same ↦ elim (place_in_cases m ms n) [
            | inl here ↦ here.1 ∙ ap (λ b. cond b 0 (1 + place_in ms n)) (sym same.0)
            | inr behind ↦ absurd (behind.0 (sym same.1))
          ]
          | inr other ↦ elim (place_in_cases m ms n) [
            | inl here ↦ absurd (other.1 (sym here.0))
            | inr behind ↦ behind.1 ∙ omega arith ∙ ap (λ b. cond b 0 (1 + place_in ms n)) (sym other.0)
          ]
        ]

pub insert_key-with_number : (ns : List ℕ) (n : ℕ) → insert_key nat_eq ns n ≡ with_number ns n
insert_key-with_number ns n =
    elim (list_any_cases ns n) [
      | inl old ↦ elim (with_number_cases ns n) [
        | inl known ↦ ap (λ b. if b then ns else ns ++ n ∷ []) old.0 ∙ sym known.1
        | inr unknown ↦ absurd (omega (arith, old.1, unknown.0))
      ]
      | inr new ↦ elim (with_number_cases ns n) [
        | inl known ↦ absurd (omega (arith, new.1, known.0))
        | inr unknown ↦ ap (λ b. if b then ns else ns ++ n ∷ []) new.0 ∙ sym unknown.1
      ]
    ]

-- a number has its place as soon as it is seen
pub place_in-with_number_new : (ns : List ℕ) (n : ℕ) → place_in (with_number ns n) n ≡ place_in ns n
place_in-with_number_new ns n =
    elim (with_number_cases ns n) [
      | inl old ↦ ap (λ l. place_in l n) old.1
      | inr new ↦ omega (arith, ap (λ l. place_in l n) new.1, place_in-append_right ns (n ∷ []) n new.0, place_in-one n, new.0)
    ]

-- and keeps it
pub place_in-with_number : (ns : List ℕ) (m n : ℕ) → Stands ns m → place_in (with_number ns n) m ≡ place_in ns m
place_in-with_number ns m n stands =
    elim (with_number_cases ns n) [
      | inl old ↦ ap (λ l. place_in l m) old.1
      | inr new ↦ ap (λ l. place_in l m) new.1 ∙ place_in-append_left ns (n ∷ []) m stands
    ]

mutual
  pub place_in-variables_after : (t : Tree) (seen : List ℕ) (m : ℕ) → Stands seen m →
      place_in (variables_after seen t) m ≡ place_in seen m
  place_in-variables_after (Variable n) seen m stands = place_in-with_number seen m n stands
  place_in-variables_after (Atomic name) seen m stands = refl
  place_in-variables_after (Number n) seen m stands = refl
  place_in-variables_after (Compound name args) seen m stands = place_in-variables_after_all args seen m stands

  pub place_in-variables_after_all : (ts : Trees) (seen : List ℕ) (m : ℕ) → Stands seen m →
      place_in (variables_after_all seen ts) m ≡ place_in seen m
  place_in-variables_after_all (Last t) seen m stands = place_in-variables_after t seen m stands
  place_in-variables_after_all (More t ts) seen m stands =
      place_in-variables_after_all ts (variables_after seen t) m (Stands-variables_after t seen m stands)
      ∙ place_in-variables_after t seen m stands
