use Rattle.std.proofs.Common.{◌≡◌, ℕ, ◌≤◌, ◌⊎◌, inr, Bool, true, false, nat_lt, length, Option, Some, None, refl, sym, ◌∙◌, ap, subst, arith, MatchOption}
use Rattle.std.specs.List.{range_with_len}
use Rattle.std.proofs.lemmas.List.FromFn.{length-range_with_len}
use Rattle.tc_term.specs.Tree.{Tree, Fits, HasIntegers, nodes, depth, name_bytes}
use Rattle.tc_term.specs.Variables.{variables, IsPattern}
use Rattle.tc_term.specs.Faults.{Reading, Found, TooMany, TooBig, WideInt, When, Judged}
use Rattle.tc_read.specs.Judging.{IsRead}
use Rattle.tc_read.specs.Kept.{Small, fits, kept_by, kept_of, small_if}
use Rattle.std.proofs.lemmas.Bool.{le-ltb}

record IsSmall (r : Reading) (t : Tree) : Type 0 where
  pub narrow : r.wide ≡ None
  pub same : r.term ≡ t

small_by : (r : Reading) (t : Tree) (o : Option ℕ) (b : Bool) → r.wide ≡ o → fits r.term ≡ b → kept_of r ≡ Small t → IsSmall r t
small_by r t (Some place) b e f k = let wide = ap (λ o. kept_by o r.term) e in cc
small_by r t None true e f k = let small : kept_of r ≡ Small r.term = ap (λ o. kept_by o r.term) e ∙ ap (λ b. small_if b r.term) f in record { narrow = e; same = cc }
small_by r t None false e f k = let large = ap (λ o. kept_by o r.term) e ∙ ap (λ b. small_if b r.term) f in cc

small : (r : Reading) (t : Tree) → kept_of r ≡ Small t → IsSmall r t
small r t k = small_by r t r.wide (fits r.term) refl refl k

pattern_read : (r : Reading) (n : ℕ) → Fits r.term → n ≤ 256 → variables r.term ≡ range_with_len 0 n → IsPattern r.term
pattern_read r n f h e =
    let len : length (variables r.term) ≡ n = ap length e ∙ length-range_with_len 0 n in
    record { template = record { fits = f; few = omega arith }; numbered = e ∙ ap (range_with_len 0) (sym len) }

pub judged_ok : (place behind n : ℕ) (r : Reading) (t p : Tree) → kept_of r ≡ Small t → Fits t → n ≤ 256 → p ≡ t → Judged place behind n r (Found p behind)
judged_ok place behind n r t p k f h e =
    let s = small r t k in
    let fits : Fits r.term = subst Fits (sym s.same) f in
    let same : p ≡ r.term = e ∙ sym s.same in
    let answer = Found p behind in
    subst (λ o. MatchOption o (When (nat_lt 256 n) (answer ≡ TooMany place) (((answer ≡ TooBig place) × (Fits r.term → ⊥)) ⊎ ((answer ≡ Found r.term behind) × Fits r.term))) (λ wide. answer ≡ WideInt wide)) (sym s.narrow)
    (subst (λ b. When b (answer ≡ TooMany place) (((answer ≡ TooBig place) × (Fits r.term → ⊥)) ⊎ ((answer ≡ Found r.term behind) × Fits r.term))) (sym (le-ltb 256 n h)) (inr (ap (λ t. Found t behind) same, fits)))

-- a term that was read, and fits, is a template with so many variables
pub pattern_kept : (n : ℕ) (t : Tree) → IsRead (Small t) n → nodes t ≤ 10000 → depth t ≤ 1000 → name_bytes t ≤ 65535 → n ≤ 256
    → IsPattern t × (n ≡ length (variables t))
pattern_kept n t read a b c h =
    let r = read.reading in
    let s = small r t read.kept in
    let fits : Fits t = record { nodes = a; depth = b; name_bytes = c; integers = subst HasIntegers s.same (read.integers s.narrow) } in
    let p = pattern_read r n (subst Fits (sym s.same) fits) h (read.numbered h) in (
      subst IsPattern s.same p,
      sym (ap (λ u. length (variables u)) (sym s.same) ∙ ap length (read.numbered h) ∙ length-range_with_len 0 n),
    )
