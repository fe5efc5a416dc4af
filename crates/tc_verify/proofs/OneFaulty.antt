-- Which rows are the first that are at fault.
use Rattle.std.proofs.Common.{◌≡◌, ◌<◌, ◌≤◌, ◌+◌, ◌⊎◌, ℕ, List, Some, length, slice_get, sym, ap, subst, ◌∙◌, arith, ⊎_elim, inl, inr}
use Rattle.std.proofs.lemmas.Bool.{cases_lt}
use Rattle.std.proofs.lemmas.Option.{same_Some, slice_get_within}
use Rattle.tc_model.specs.declared.entries.Entry.{Entry}
use Rattle.tc_config.specs.Configurations.{Configuration, centre_names}
use Rattle.tc_config.specs.declared.configs.AgentConf.{AgentConf}
use Rattle.tc_desk.specs.Agreeing.{HaveRows}
use Rattle.tc_histline.specs.declared.lines.TextRow.{TextRow}
use Rattle.tc_histline.specs.declared.versions.Version.{Version}
use Rattle.tc_histtext.specs.declared.read_texts.Text.{Text}
use Rattle.tc_rows.specs.Rows.{IsSoundRow, IsWrongEnd, logged}
use Rattle.tc_rows.specs.ServedRows.{IsServedRow}
use Rattle.tc_verify.specs.Verdicts.{AreAllSound, AreRowsOf, AreSoundBefore, IsFirstAgent, IsFirstAtFault}
use Rattle.tc_verify.specs.declared.verdicts.Question.{Question}
use Rattle.tc_verify.specs.declared.verdicts.Question.TheVariants.{Run, Service}

-- rows that may stand at their places, and what may be wrong behind the last
module _ (rows : List TextRow) (May : ℕ → TextRow → Type 0) (Wrong : Type 0) where
  -- the row of this number, counted from 1, may not stand there; behind the last row, something is wrong
  abbrev AtFault : ℕ → Type 0
  AtFault n =
      ((k : ℕ) × (row : TextRow) × (n ≡ k + 1) × (slice_get rows k ≡ Some row) × (May k row → ⊥))
      ⊎ ((n ≡ length rows + 1) × Wrong)

  -- each row before the one of this number may
  abbrev MayBefore : ℕ → Type 0
  MayBefore n = (k : ℕ) (row : TextRow) → k + 1 < n → slice_get rows k ≡ Some row → May k row

  none-at-fault : (n : ℕ) → ((k : ℕ) (row : TextRow) → slice_get rows k ≡ Some row → May k row) → (Wrong → ⊥) → AtFault n → ⊥
  none-at-fault n all right (inl (k, row, counted, stands, never)) = never (all k row stands)
  none-at-fault n all right (inr (counted, wrong)) = right wrong

  number-inside : (n : ℕ) → AtFault n → n ≤ length rows + 1
  number-inside n (inl (k, row, counted, stands, never)) = omega (arith, counted, slice_get_within rows k row stands)
  number-inside n (inr (counted, wrong)) = omega (arith, counted)

  -- nothing before the first is at fault
  not_before : (n m : ℕ) → AtFault m → MayBefore m → n < m → AtFault n → ⊥
  not_before n m at before less (inl (k, row, counted, stands, never)) = never (before k row (omega (arith, counted, less)) stands)
  not_before n m at before less (inr (counted, wrong)) = omega (arith, counted, less, number-inside m at)

  one-at-fault : (n m : ℕ) → AtFault n → MayBefore n → AtFault m → MayBefore m → n ≡ m
  one-at-fault n m x x-before y y-before =
      ⊎_elim (λ (less : n < m). absurd (not_before n m y y-before less x))
      (λ (le : m ≤ n). ⊎_elim (λ (more : m < n). absurd (not_before m n x x-before more y))
      (λ (ge : n ≤ m). omega (arith, le, ge)) (cases_lt m n))
      (cases_lt n m)

module _ (v : Version) (c : Configuration) (hs : List (List Entry)) (agent : ℕ) (a : AgentConf) (rows : List TextRow) where
  -- rows that are as asked have none at fault
  faulty-none : (question : Question) (n : ℕ) → AreRowsOf question v c hs agent a rows → IsFirstAtFault question v c hs agent a rows n → ⊥
  faulty-none Run n are first =
      none-at-fault rows (IsSoundRow v c hs agent a rows) (IsWrongEnd hs agent a rows) n are.rows_are are.end first.faulty
  faulty-none Service n are first =
      none-at-fault rows (IsServedRow v c hs agent a rows) (HaveRows (centre_names c) hs agent (logged rows) → ⊥) n are.rows_are
      (λ never. never are.calls) first.unserved

  faulty-one : (question : Question) (n m : ℕ) → IsFirstAtFault question v c hs agent a rows n
      → IsFirstAtFault question v c hs agent a rows m → n ≡ m
  faulty-one Run n m x y =
      one-at-fault rows (IsSoundRow v c hs agent a rows) (IsWrongEnd hs agent a rows) n m x.faulty x.before y.faulty y.before
  faulty-one Service n m x y =
      one-at-fault rows (IsServedRow v c hs agent a rows) (HaveRows (centre_names c) hs agent (logged rows) → ⊥) n m
      x.unserved x.before y.unserved y.before

module _ (question : Question) (c : Configuration) (t : Text) where
  agent_not_before : (p q n m : ℕ) → IsFirstAgent question c t p n → IsFirstAgent question c t q m → p < q → ⊥
  agent_not_before p q n m x y before =
      faulty-none t.version c t.histories p x.a x.rows question n (y.before p x.a x.rows before x.known x.there) x.first

  same_row : (p q n m : ℕ) → p ≡ q → IsFirstAgent question c t p n → IsFirstAgent question c t q m → n ≡ m
  same_row p q n m same x y =
      let agent : x.a ≡ y.a = same_Some x.a y.a (sym x.known ∙ (ap (λ k. slice_get c.agents k) same ∙ y.known)) in
      let rows : x.rows ≡ y.rows = same_Some x.rows y.rows (sym x.there ∙ (ap (λ k. slice_get t.logs k) same ∙ y.there)) in
      let first : IsFirstAtFault question t.version c t.histories q y.a y.rows n =
      subst (λ k. IsFirstAtFault question t.version c t.histories k y.a y.rows n) same
      (subst (λ r. IsFirstAtFault question t.version c t.histories p y.a r n) rows
      (subst (λ b. IsFirstAtFault question t.version c t.histories p b x.rows n) agent x.first)) in
      faulty-one t.version c t.histories q y.a y.rows question n m first y.first

  pub agent-one : (p q n m : ℕ) → IsFirstAgent question c t p n → IsFirstAgent question c t q m → (p ≡ q) × (n ≡ m)
  agent-one p q n m x y =
      ⊎_elim (λ (before : p < q). absurd (agent_not_before p q n m x y before))
      (λ (le : q ≤ p). ⊎_elim (λ (behind : q < p). absurd (agent_not_before q p m n y x behind))
      (λ (ge : p ≤ q). let same : p ≡ q = omega (arith, le, ge) in (same, same_row p q n m same x y)) (cases_lt q p))
      (cases_lt p q)

  pub agent-none : (p n : ℕ) → AreAllSound question c t → IsFirstAgent question c t p n → ⊥
  agent-none p n sound x =
      faulty-none t.version c t.histories p x.a x.rows question n (sound p x.a x.rows x.known x.there) x.first

  pub sound-start : AreSoundBefore question c t 0
  sound-start k a rows less known there = absurd (omega (arith, less))

  -- one more agent has rows as asked
  pub sound-more : (place : ℕ) (b : AgentConf) (r : List TextRow) → slice_get c.agents place ≡ Some b → slice_get t.logs place ≡ Some r
      → AreRowsOf question t.version c t.histories place b r → AreSoundBefore question c t place
      → AreSoundBefore question c t (place + 1)
  sound-more place b r stands there good before k a rows less known is =
      ⊎_elim (λ (low : k < place). before k a rows low known is)
      (λ (high : place ≤ k).
      let same : place ≡ k = omega (arith, less, high) in
      let one : b ≡ a = same_Some b a (sym stands ∙ (ap (λ n. slice_get c.agents n) same ∙ known)) in
      let two : r ≡ rows = same_Some r rows (sym there ∙ (ap (λ n. slice_get t.logs n) same ∙ is)) in
      subst (λ n. AreRowsOf question t.version c t.histories n a rows) same
      (subst (λ x. AreRowsOf question t.version c t.histories place a x) two
      (subst (λ x. AreRowsOf question t.version c t.histories place x r) one good)))
      (cases_lt k place)

  pub sound-all : (place : ℕ) → length t.logs ≤ place → AreSoundBefore question c t place → AreAllSound question c t
  sound-all place past before k a rows known there = before k a rows (omega (arith, past, slice_get_within t.logs k rows there)) known there
