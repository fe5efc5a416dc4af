-- Masks by the words of blocks.
use Rattle.std.proofs.Common.{◌≡◌, ◌≢◌, ℕ, Option, bit_and, bit_or, ◌^◌, ◌+◌, ◌-◌, ◌*◌, ◌/◌, ◌%◌, ◌<◌, ◌≤◌, inl, inr, ◌∙◌, ap, sym, subst, refl, cond, true, false, Some, None, List, ◌∷◌, slice_get, arith, w16}
use Rattle.std.proofs.lemmas.Bool.{cases_lt, cases_eq}
use Rattle.std.proofs.lemmas.Bool.Decides.{nat_tests}
use Rattle.std.proofs.lemmas.Nat.{shr_le}
use Rattle.std.proofs.lemmas.Nat.Bits.{bit_at-zero}
use Rattle.std.specs.BTreeMap.{BTreeMap, get, is_at}
use Rattle.std.specs.BTreeMap.Range.{IsLeBy, IsRangeOf, IsEntryInRange}
use Rattle.std.specs.declared.ops.Bound.TheVariants.{Included, Unbounded}
use Rattle.std.specs.Int.{bit_at, trailing_zeros}
use Rattle.std.specs.Option.{IfSome, IfNone, IsSome, unwrap_or}
use Rattle.std.specs.Ordering.{nat_cmp}
use Rattle.tc_bag.specs.Words.{word, short_code}
use Rattle.tc_bag.proofs.Bits.{set_same, set_kept, clear_other, none_below, zeros_within, none_later, later_within, bit_at-shifted}

pub IfSome-weaker : (P Q : ℕ → Type 0) (o : Option ℕ) → ((x : ℕ) → P x → Q x) → IfSome o P → IfSome o Q
IfSome-weaker P Q None f h = tt
IfSome-weaker P Q (Some x) f h = f x h

pub IfNone-weaker : (P Q : Type 0) (o : Option ℕ) → (P → Q) → IfNone o P → IfNone o Q
IfNone-weaker P Q None f h = f h
IfNone-weaker P Q (Some x) f h = tt

-- a word is itself, and no other
pub is_it : (w : ℕ) → is_at (nat_cmp w) w ≡ true
is_it w = grind (arith, nat_tests)

pub is_another : (w v : ℕ) → v ≢ w → is_at (nat_cmp w) v ≡ false
is_another w v other = grind (arith, nat_tests)

up_to : (a b : ℕ) → a ≤ b → IsLeBy nat_cmp a b
up_to a b up = grind (arith, nat_tests)

up_to_back : (a b : ℕ) → IsLeBy nat_cmp a b → a ≤ b
up_to_back a b up = grind (arith, nat_tests)

-- a map in which one mask was written
module _ (map new : BTreeMap ℕ ℕ) (w m : ℕ)
    (writes : (q : ℕ) → get nat_cmp new q ≡ cond (is_at (nat_cmp w) q) (Some m) (get nat_cmp map q)) where
  pub written_same : unwrap_or (get nat_cmp new w) 0 ≡ m
  written_same = ap (λ o. unwrap_or o 0) (writes w ∙ ap (λ b. cond b (Some m) (get nat_cmp map w)) (is_it w))

  pub written_other : (v : ℕ) → v ≢ w → unwrap_or (get nat_cmp new v) 0 ≡ unwrap_or (get nat_cmp map v) 0
  written_other v other =
      ap (λ o. unwrap_or o 0) (writes v ∙ ap (λ b. cond b (Some m) (get nat_cmp map v)) (is_another w v other))

-- a bit is kept where it is kept in what was written
pub kept_bit : (old new : ℕ → ℕ) (w v i : ℕ) → ((u : ℕ) → u ≢ w → new u ≡ old u)
    → (v ≡ w → bit_at (old w) i ≡ 1 → bit_at (new w) i ≡ 1) → bit_at (old v) i ≡ 1 → bit_at (new v) i ≡ 1
kept_bit old new w v i others own has = elim (cases_eq v w) [
  | inl same ↦ ap (λ u. bit_at (new u) i) same ∙ own same (subst (λ u. bit_at (old u) i ≡ 1) same has)
  | inr other ↦ ap (λ m. bit_at m i) (others v other) ∙ has
]

-- ages of one word and one bit are one
same_age : (s t a b : ℕ) → s * 4294967296 + a / 16 ≡ t * 4294967296 + b / 16 → a / 16 < 4294967296 → b / 16 < 4294967296
    → a % 16 ≡ b % 16 → a ≡ b
same_age s t a b same low near bit =
    let own : a / 16 ≡ b / 16 = omega (arith, same, low, near) in
    omega (arith, own, bit)

-- the bit of an age is set or cleared in its block's mask
module _ (map new : BTreeMap ℕ ℕ) (code age w mask bit : ℕ) (at : w ≡ word code (age / 16)) (is : bit ≡ 2 ^ (age % 16))
    (value : Some mask ≡ get nat_cmp map w) where
  own_mask : (i : ℕ) → bit_at (unwrap_or (get nat_cmp map w) 0) i ≡ 1 → bit_at mask i ≡ 1
  own_mask i has = ap (λ o. bit_at (unwrap_or o 0) i) value ∙ has

  module _ (writes : (q : ℕ) → get nat_cmp new q ≡ cond (is_at (nat_cmp w) q) (Some (bit_or mask bit)) (get nat_cmp map q)) where
    now_set : unwrap_or (get nat_cmp new w) 0 ≡ bit_or mask (2 ^ (age % 16))
    now_set = written_same map new w (bit_or mask bit) writes ∙ ap (bit_or mask) is

    -- the age has its bit
    pub entered : bit_at (unwrap_or (get nat_cmp new (word code (age / 16))) 0) (age % 16) ≡ 1
    entered = ap (λ v. bit_at (unwrap_or (get nat_cmp new v) 0) (age % 16)) (sym at)
        ∙ ap (λ m. bit_at m (age % 16)) now_set ∙ set_same mask (age % 16)

    -- and others keep theirs
    pub set_keeps : (v i : ℕ) → bit_at (unwrap_or (get nat_cmp map v) 0) i ≡ 1 → bit_at (unwrap_or (get nat_cmp new v) 0) i ≡ 1
    set_keeps v i has = kept_bit (λ u. unwrap_or (get nat_cmp map u) 0) (λ u. unwrap_or (get nat_cmp new u) 0) w v i
        (written_other map new w (bit_or mask bit) writes)
        (λ same own. ap (λ m. bit_at m i) now_set ∙ set_kept mask (age % 16) i (own_mask i own)) has

  -- where it is cleared other ages keep theirs
  pub clear_keeps : ((q : ℕ) → get nat_cmp new q ≡ cond (is_at (nat_cmp w) q) (Some (bit_and mask (65535 - bit))) (get nat_cmp map q))
      → bit < 2 ^ 16 → age / 16 < 4294967296 → (d a : ℕ) → a ≢ age → a / 16 < 4294967296
      → bit_at (unwrap_or (get nat_cmp map (word d (a / 16))) 0) (a % 16) ≡ 1
      → bit_at (unwrap_or (get nat_cmp new (word d (a / 16))) 0) (a % 16) ≡ 1
  clear_keeps writes fits near d a other low has =
      kept_bit (λ u. unwrap_or (get nat_cmp map u) 0) (λ u. unwrap_or (get nat_cmp new u) 0) w (word d (a / 16)) (a % 16)
      (written_other map new w (bit_and mask (65535 - bit)) writes)
      (λ same own. ap (λ m. bit_at m (a % 16)) (written_same map new w (bit_and mask (65535 - bit)) writes
      ∙ ap (λ b. bit_and mask (65535 - b)) is)
      ∙ clear_other mask (age % 16) (a % 16) (subst (λ b. b < 2 ^ 16) is fits) (omega arith)
      (λ bit_same. other (same_age (short_code d) (short_code code) a age (same ∙ at) low near bit_same)) (own_mask (a % 16) own)) has

-- the first entry of a range
module _ (map : BTreeMap ℕ ℕ) (from : ℕ) (r rest : List (ℕ × ℕ)) (first : ℕ × ℕ) (split : r ≡ first ∷ rest)
    (range : IsRangeOf nat_cmp (Included from) Unbounded map r) where
  first_in : IsEntryInRange nat_cmp (Included from) Unbounded map first
  first_in = subst (λ s. IfSome (slice_get s 0) (IsEntryInRange nat_cmp (Included from) Unbounded map)) split range.1

  pub first_from : from ≤ first.0
  first_from = up_to_back from first.0 first_in.0.0

  pub first_there : unwrap_or (get nat_cmp map first.0) 0 ≡ first.1
  first_there = ap (λ o. unwrap_or o 0) first_in.1

  -- before it there is none
  pub none_before : (w : ℕ) → from ≤ w → w < first.0 → unwrap_or (get nat_cmp map w) 0 ≡ 0
  none_before w up below = by_case (get nat_cmp map w) refl
    where
      by_case : (o : Option ℕ) → get nat_cmp map w ≡ o → unwrap_or o 0 ≡ 0
      by_case None is = refl
      by_case (Some m) is =
          let some : IsSome (get nat_cmp map w) = subst IsSome (sym is) refl in
          let least : IsLeBy nat_cmp first.0 w = subst (λ s. IfSome (slice_get s 0) (λ e. IsLeBy nat_cmp e.0 w)) split
          (range.2 w (up_to from w up, tt) some) in
          absurd (omega (arith, below, up_to_back first.0 w least))

-- no age of a code has a bit behind a block and before the first bit of the next one
pub none_between : (masks : ℕ → ℕ) (short block found mask a : ℕ)
    → masks found ≡ mask → mask < 2 ^ 16 → found / 4294967296 ≡ short
    → ((w : ℕ) → short * 4294967296 + block + 1 ≤ w → w < found → masks w ≡ 0)
    → block < a / 16 → a < found % 4294967296 * 16 + trailing_zeros w16 mask
    → bit_at (masks (short * 4294967296 + a / 16)) (a % 16) ≡ 0
none_between masks short block found mask a at fits of before behind below =
    let few : trailing_zeros w16 mask ≤ 16 = zeros_within mask in
    elim (cases_lt (a / 16) (found % 4294967296)) [
      | inl earlier ↦ ap (λ m. bit_at m (a % 16))
          (before (short * 4294967296 + a / 16) (omega (arith, behind)) (omega (arith, of, earlier))) ∙ bit_at-zero (a % 16)
      | inr later ↦
          let own : a / 16 ≡ found % 4294967296 = omega (arith, later, below, few) in
          let same : short * 4294967296 + a / 16 ≡ found = omega (arith, own, of) in
          ap (λ w. bit_at (masks w) (a % 16)) same ∙ ap (λ m. bit_at m (a % 16)) at
          ∙ none_below mask (a % 16) fits (omega (arith, below, own))
    ]

-- nor in a block from an age on, where nothing is left of its mask
pub none_left : (masks : ℕ → ℕ) (mask from a : ℕ) → masks (from / 16) ≡ mask → mask / 2 ^ (from % 16) ≡ 0 → from ≤ a
    → a / 16 ≡ from / 16 → bit_at (masks (a / 16)) (a % 16) ≡ 0
none_left masks mask from a at none up own =
    ap (λ b. bit_at (masks b) (a % 16)) own ∙ ap (λ m. bit_at m (a % 16)) at
    ∙ none_later mask (from % 16) (a % 16) none (omega (arith, up, own))

-- nor from an age on and before the first bit of what is left
pub none_first : (masks : ℕ → ℕ) (mask from a : ℕ) → masks (from / 16) ≡ mask → mask < 2 ^ 16
    → mask / 2 ^ (from % 16) ≢ 0 → from ≤ a → a < from + trailing_zeros w16 (mask / 2 ^ (from % 16))
    → bit_at (masks (a / 16)) (a % 16) ≡ 0
none_first masks mask from a at fits some up below =
    let k : ℕ = from % 16 in
    let within : k + trailing_zeros w16 (mask / 2 ^ k) < 16 = later_within mask k fits some in
    let own : a / 16 ≡ from / 16 = omega (arith, within, up, below) in
    let place : a % 16 ≡ k + (a - from) = omega (arith, within, up, below) in
    let less : mask / 2 ^ k ≤ mask = shr_le mask k in
    ap (λ b. bit_at (masks b) (a % 16)) own ∙ ap (λ m. bit_at m (a % 16)) at ∙ ap (bit_at mask) place
    ∙ sym (bit_at-shifted mask k (a - from)) ∙ none_below (mask / 2 ^ k) (a - from) (omega (arith, less, fits)) (omega (arith, up, below))
