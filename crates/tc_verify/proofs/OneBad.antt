-- Which history is the first that is at fault.
use Rattle.std.proofs.Common.{◌≡◌, ◌<◌, ◌≤◌, ◌+◌, ℕ, List, Some, length, slice_get, sym, ap, subst, ◌∙◌, arith, ⊎_elim}
use Rattle.std.proofs.lemmas.Bool.{cases_lt}
use Rattle.std.proofs.lemmas.Option.{same_Some, slice_get_within}
use Rattle.tc_model.specs.declared.entries.Entry.{Entry}
use Rattle.tc_config.specs.Configurations.{Configuration}
use Rattle.tc_config.specs.Good.{origin_of}
use Rattle.tc_config.specs.declared.configs.CentreConf.{CentreConf}
use Rattle.tc_replay.specs.Bad.{IsBadAt, IsQuietRun}
use Rattle.tc_replay.proofs.Firsts.{bad-one, whole-none}
use Rattle.tc_rows.specs.Rows.{AreQuietRuns}
use Rattle.tc_verify.specs.Verdicts.{AreQuietBefore, IsFirstBad}

module _ (c : Configuration) (hs : List (List Entry)) where
  -- nothing before the first is at fault
  not_before : (p q n m : ℕ) → IsFirstBad c hs p n → IsFirstBad c hs q m → p < q → ⊥
  not_before p q n m b other before =
      whole-none (origin_of c b.centre) b.history n (other.before p b.centre b.history before b.known b.there) b.bad

  same_entry : (p q n m : ℕ) → p ≡ q → IsFirstBad c hs p n → IsFirstBad c hs q m → n ≡ m
  same_entry p q n m same b other =
      let centre : b.centre ≡ other.centre = same_Some b.centre other.centre (sym b.known ∙ (ap (λ k. slice_get c.centres k) same ∙ other.known)) in
      let history : b.history ≡ other.history = same_Some b.history other.history (sym b.there ∙ (ap (λ k. slice_get hs k) same ∙ other.there)) in
      bad-one (origin_of c other.centre) other.history n m
      (subst (λ h. IsBadAt (origin_of c other.centre) h n) history (subst (λ s. IsBadAt (origin_of c s) b.history n) centre b.bad)) other.bad

  pub first-one : (p q n m : ℕ) → IsFirstBad c hs p n → IsFirstBad c hs q m → (p ≡ q) × (n ≡ m)
  first-one p q n m b other =
      ⊎_elim (λ (before : p < q). absurd (not_before p q n m b other before))
      (λ (le : q ≤ p). ⊎_elim (λ (behind : q < p). absurd (not_before q p m n other b behind))
      (λ (ge : p ≤ q). let same : p ≡ q = omega (arith, le, ge) in (same, same_entry p q n m same b other)) (cases_lt q p))
      (cases_lt p q)

  -- none is at fault where each is good
  pub quiet-none : (p n : ℕ) → AreQuietRuns c hs → IsFirstBad c hs p n → ⊥
  quiet-none p n quiet b =
      whole-none (origin_of c b.centre) b.history n (quiet.each p b.centre b.history b.known b.there) b.bad

  pub quiet-start : AreQuietBefore c hs 0
  quiet-start k centre history less known there = absurd (omega (arith, less))

  -- one more is good
  pub quiet-more : (place : ℕ) (s : CentreConf) (h : List Entry) → slice_get c.centres place ≡ Some s → slice_get hs place ≡ Some h
      → IsQuietRun (origin_of c s) h → AreQuietBefore c hs place → AreQuietBefore c hs (place + 1)
  quiet-more place s h stands there good before k centre history less known is =
      ⊎_elim (λ (low : k < place). before k centre history low known is)
      (λ (high : place ≤ k).
      let same : place ≡ k = omega (arith, less, high) in
      let one : s ≡ centre = same_Some s centre (sym stands ∙ (ap (λ n. slice_get c.centres n) same ∙ known)) in
      let two : h ≡ history = same_Some h history (sym there ∙ (ap (λ n. slice_get hs n) same ∙ is)) in
      subst (λ x. IsQuietRun (origin_of c centre) x) two (subst (λ x. IsQuietRun (origin_of c x) h) one good))
      (cases_lt k place)

  pub quiet-all : (place : ℕ) → length hs ≡ length c.centres → length c.centres ≤ place → AreQuietBefore c hs place → AreQuietRuns c hs
  quiet-all place whole past before =
      record {
        whole = whole;
        each = λ k centre history known there. before k centre history (omega (arith, past, slice_get_within c.centres k centre known)) known there;
      }
