-- Where numbers stand in lists of numbers.
use Rattle.std.proofs.Common.{◌≡◌, ◌≢◌, ◌<◌, ◌≤◌, ◌+◌, ◌⊎◌, inl, inr, if◌then◌else◌, ℕ, zero, suc, List, [], ◌∷◌, ◌++◌, length, get_or, map, refl, ap, sym, ◌∙◌, subst, length-append, arith}
use Rattle.std.proofs.lemmas.Bool.Decides.{eqb_tells}
use Rattle.std.proofs.lemmas.Bool.{cases_lt}
use Rattle.std.proofs.lemmas.List.{map-append, length-map, get_or_append_left, get_or_push}
use Rattle.std.proofs.lemmas.List.FromFn.{get_or-range_with_len, length-range_with_len}
use Rattle.std.specs.List.{range_with_len}
use Rattle.tc_lists.proofs.Ranges.{map_is_range}
use Rattle.tc_term.specs.Variables.{place_in, with_number}

-- the number stands in the list
abbrev pub Stands : List ℕ → ℕ → Type 0
Stands ms n = place_in ms n < length ms

pub place_in_cases : (m : ℕ) (ms : List ℕ) (n : ℕ) →
    ((m ≡ n) × (place_in (m ∷ ms) n ≡ 0)) ⊎ ((m ≢ n) × (place_in (m ∷ ms) n ≡ place_in ms n + 1))
place_in_cases m ms n =
    elim (eqb_tells m n) [
      | inl same ↦ inl (same.1, ap (λ b. if b then 0 else place_in ms n + 1) same.0)
      | inr other ↦ inr (other.1, ap (λ b. if b then 0 else place_in ms n + 1) other.0)
    ]

pub place_in_within : (ms : List ℕ) (n : ℕ) → place_in ms n ≤ length ms
place_in_within [] n = omega arith
place_in_within (m ∷ ms) n =
    elim (place_in_cases m ms n) [ inl here ↦ omega (arith, here.1) | inr behind ↦ omega (arith, behind.1, place_in_within ms n) ]

pub get_or-place_in : (ms : List ℕ) (n d : ℕ) → Stands ms n → get_or ms (place_in ms n) d ≡ n
get_or-place_in [] n d stands = absurd (omega (arith, stands))
get_or-place_in (m ∷ ms) n d stands =
    elim (place_in_cases m ms n) [
      | inl here ↦ ap (λ k. get_or (m ∷ ms) k d) here.1 ∙ here.0
      | inr behind ↦
          let at : place_in (m ∷ ms) n ≡ suc (place_in ms n) = omega (arith, behind.1) in
          ap (λ k. get_or (m ∷ ms) k d) at ∙ get_or-place_in ms n d (omega (arith, stands, at))
    ]

pub place_in-append_left : (ms ns : List ℕ) (n : ℕ) → Stands ms n → place_in (ms ++ ns) n ≡ place_in ms n
place_in-append_left [] ns n stands = absurd (omega (arith, stands))
place_in-append_left (m ∷ ms) ns n stands =
    elim (place_in_cases m ms n) [
      | inl here ↦ elim (place_in_cases m (ms ++ ns) n) [ inl same ↦ same.1 ∙ sym here.1 | inr other ↦ absurd (other.0 here.0) ]
      | inr behind ↦ elim (place_in_cases m (ms ++ ns) n) [
        | inl same ↦ absurd (behind.0 same.0)
        | inr other ↦ omega (arith, other.1, behind.1, place_in-append_left ms ns n (omega (arith, stands, behind.1)))
      ]
    ]

pub place_in-append_right : (ms ns : List ℕ) (n : ℕ) → place_in ms n ≡ length ms → place_in (ms ++ ns) n ≡ length ms + place_in ns n
place_in-append_right [] ns n absent = omega arith
place_in-append_right (m ∷ ms) ns n absent =
    elim (place_in_cases m ms n) [
      | inl here ↦ absurd (omega (arith, absent, here.1))
      | inr behind ↦ elim (place_in_cases m (ms ++ ns) n) [
        | inl same ↦ absurd (behind.0 same.0)
        | inr other ↦ omega (arith, other.1, behind.1, absent, place_in-append_right ms ns n (omega (arith, absent, behind.1)))
      ]
    ]

-- one number alone
pub place_in-one : (n : ℕ) → place_in (n ∷ []) n ≡ 0
place_in-one n = elim (place_in_cases n [] n) [ inl here ↦ here.1 | inr behind ↦ absurd (behind.0 refl) ]

pub with_number_cases : (seen : List ℕ) (n : ℕ) →
    (Stands seen n × (with_number seen n ≡ seen)) ⊎ ((place_in seen n ≡ length seen) × (with_number seen n ≡ seen ++ n ∷ []))
with_number_cases seen n =
    elim (eqb_tells (place_in seen n) (length seen)) [
      | inl absent ↦ inr (absent.1, ap (λ b. if b then seen ++ n ∷ [] else seen) absent.0)
      | inr stands ↦ inl (omega (arith, stands.1, place_in_within seen n), ap (λ b. if b then seen ++ n ∷ [] else seen) stands.0)
    ]

-- what stands in a list stands in it with one more number too
pub Stands-with_number : (seen : List ℕ) (m n : ℕ) → Stands seen m → Stands (with_number seen n) m
Stands-with_number seen m n stands =
    elim (with_number_cases seen n) [
      | inl old ↦ rw old.1 stands
      | inr new ↦ rw new.1 (omega (arith, stands, place_in-append_left seen (n ∷ []) m stands, length-append seen (n ∷ [])))
    ]

pub Stands-with_number_new : (seen : List ℕ) (n : ℕ) → Stands (with_number seen n) n
Stands-with_number_new seen n =
    elim (with_number_cases seen n) [
      | inl old ↦ rw old.1 old.0
      | inr new ↦ rw new.1 (omega (arith, place_in-append_right seen (n ∷ []) n new.0, place_in-one n, length-append seen (n ∷ [])))
    ]

pub Stands-behind : (m : ℕ) (ms : List ℕ) (n : ℕ) → Stands ms n → Stands (m ∷ ms) n
Stands-behind m ms n stands =
    elim (place_in_cases m ms n) [ inl here ↦ omega (arith, here.1) | inr behind ↦ omega (arith, behind.1, stands) ]

-- what is at a place of a list stands in it
pub Stands-at : (ms : List ℕ) (k d : ℕ) → k < length ms → Stands ms (get_or ms k d)
Stands-at [] k d inside = absurd (omega (arith, inside))
Stands-at (m ∷ ms) zero d inside =
    elim (place_in_cases m ms m) [ inl here ↦ omega (arith, here.1) | inr behind ↦ absurd (behind.0 refl) ]
Stands-at (m ∷ ms) (suc k) d inside = Stands-behind m ms (get_or ms k d) (Stands-at ms k d (omega (arith, inside)))

-- numbers that are given other names, which differ where the numbers do
pub place_in-map : (g : ℕ → ℕ) (ms : List ℕ) (n : ℕ) →
    ((m : ℕ) → Stands ms m → g m ≡ g n → m ≡ n) → place_in (map g ms) (g n) ≡ place_in ms n
place_in-map g [] n differ = refl
place_in-map g (m ∷ ms) n differ =
    let head : Stands (m ∷ ms) m = Stands-at (m ∷ ms) 0 m (omega arith) in
    elim (place_in_cases m ms n) [
      | inl here ↦ elim (place_in_cases (g m) (map g ms) (g n)) [
        | inl same ↦ same.1 ∙ sym here.1
        | inr other ↦ absurd (other.0 (ap g here.0))
      ]
      | inr behind ↦ elim (place_in_cases (g m) (map g ms) (g n)) [
        | inl same ↦ absurd (behind.0 (differ m head same.0))
        | inr other ↦
            let rest = place_in-map g ms n (λ k stands. differ k (Stands-behind m ms k stands)) in
            other.1 ∙ ap (λ p. p + 1) rest ∙ sym behind.1
      ]
    ]

pub with_number-map : (g : ℕ → ℕ) (seen : List ℕ) (n : ℕ) → ((m : ℕ) → Stands seen m → g m ≡ g n → m ≡ n) →
    with_number (map g seen) (g n) ≡ map g (with_number seen n)
with_number-map g seen n differ =
    let place = place_in-map g seen n differ in
    elim (with_number_cases seen n) [
      | inl old ↦ elim (with_number_cases (map g seen) (g n)) [
        | inl known ↦ known.1 ∙ ap (map g) (sym old.1)
        | inr unknown ↦ absurd (omega (arith, place, unknown.0, old.0, length-map seen g))
      ]
      | inr new ↦ elim (with_number_cases (map g seen) (g n)) [
        | inl known ↦ absurd (omega (arith, place, known.0, new.0, length-map seen g))
        | inr unknown ↦ unknown.1 ∙ sym (map-append g seen (n ∷ [])) ∙ ap (map g) (sym new.1)
      ]
    ]

-- every number stands in the list once
abbrev pub IsOnce : List ℕ → Type 0
IsOnce ms = (k d : ℕ) → k < length ms → place_in ms (get_or ms k d) ≡ k

pub IsOnce-with_number : (seen : List ℕ) (n : ℕ) → IsOnce seen → IsOnce (with_number seen n)
IsOnce-with_number seen n once =
    elim (with_number_cases seen n) [
      | inl old ↦ subst IsOnce (sym old.1) once
      | inr new ↦ subst IsOnce (sym new.1) (λ k d inside.
          elim (cases_lt k (length seen)) [
            | inl before ↦
                let at : get_or (seen ++ n ∷ []) k d ≡ get_or seen k d = get_or_append_left seen (n ∷ []) d k before in
                let there = once k d before in
                rw at (place_in-append_left seen (n ∷ []) (get_or seen k d) (omega (arith, there, before)) ∙ there)
            | inr behind ↦
                let last : length seen ≡ k = omega (arith, behind, inside, length-append seen (n ∷ [])) in
                rw (get_or_push seen n d k last) (omega (arith, place_in-append_right seen (n ∷ []) n new.0, place_in-one n, last))
          ])
    ]

-- the places of all numbers of a list
pub map-place_in : (ms : List ℕ) → IsOnce ms → map (place_in ms) ms ≡ range_with_len 0 (length ms)
map-place_in ms once = map_is_range (place_in ms) 0 ms (λ k d inside. once k d inside ∙ omega arith)

-- what stands in a list with one more number stood in it before, or is that number
pub Stands-with_number_back : (seen : List ℕ) (m n : ℕ) → Stands (with_number seen n) m → Stands seen m ⊎ (m ≡ n)
Stands-with_number_back seen m n stands =
    elim (with_number_cases seen n) [
      | inl old ↦ inl (subst (λ ms. Stands ms m) old.1 stands)
      | inr new ↦
          let stands_longer : Stands (seen ++ n ∷ []) m = subst (λ ms. Stands ms m) new.1 stands in
          elim (cases_lt (place_in seen m) (length seen)) [
            | inl before ↦ inl before
            | inr behind ↦
                let absent : place_in seen m ≡ length seen = omega (arith, behind, place_in_within seen m) in
                let place = place_in-append_right seen (n ∷ []) m absent in
                elim (place_in_cases n [] m) [
                  | inl same ↦ inr (sym same.0)
                  | inr other ↦ absurd (omega (arith, place, other.1, stands_longer, length-append seen (n ∷ [])))
                ]
          ]
    ]

-- the numbers 0, 1, .. stand at their own places
pub place_in-range : (len n : ℕ) → Stands (range_with_len 0 len) n → (place_in (range_with_len 0 len) n ≡ n) × (n < len)
place_in-range len n stands =
    let inside : place_in (range_with_len 0 len) n < len = omega (arith, stands, length-range_with_len 0 len) in
    let at : n ≡ place_in (range_with_len 0 len) n =
    sym (get_or-place_in (range_with_len 0 len) n 0 stands)
    ∙ get_or-range_with_len 0 len (place_in (range_with_len 0 len) n) 0 inside ∙ omega arith in
    (sym at, omega (arith, at, inside))

pub Stands-range : (len n : ℕ) → n < len → Stands (range_with_len 0 len) n
Stands-range len n inside =
    let at : get_or (range_with_len 0 len) n 0 ≡ n = get_or-range_with_len 0 len n 0 inside ∙ omega arith in
    subst (Stands (range_with_len 0 len)) at (Stands-at (range_with_len 0 len) n 0 (omega (arith, inside, length-range_with_len 0 len)))
