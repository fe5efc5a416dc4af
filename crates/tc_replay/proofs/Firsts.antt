-- At most one entry is the first that isn't legal, and a whole history has none.
use Rattle.std.proofs.Common.{◌≡◌, ℕ, ◌<◌, ◌≤◌, List, length, take, Some, None, Option, refl, subst, ⊎_elim, arith}
use Rattle.std.specs.List.{slice_get}
use Rattle.std.specs.Option.{MatchOption}
use Rattle.std.proofs.Math.Seq.{take-take}
use Rattle.std.proofs.lemmas.Bool.{cases_lt}
use Rattle.std.proofs.lemmas.Option.{slice_get_within}
use Rattle.tc_lists.proofs.Places.{slice_get-take}
use Rattle.tc_model.specs.Choices.{AnyOne}
use Rattle.tc_model.specs.Run.{IsRun, IsLegal}
use Rattle.tc_model.specs.State.{Origin, IsQuiescent, opening, after_history}
use Rattle.tc_model.specs.declared.entries.Entry.{Entry}
use Rattle.tc_replay.specs.Bad.{IsBadAt, IsQuietRun}

module _ (origin : Origin) (h : List Entry) where
  -- a run that is longer has the entry of this place, which is legal there
  later_run : (p q : ℕ) → p < q → IsRun origin (take q h) → (e : Entry) → slice_get h p ≡ Some e
      → IsLegal AnyOne origin (take p h) (after_history (opening origin) (take p h)) e
  later_run p q before run e at =
      subst (λ (es : List Entry). IsLegal AnyOne origin es (after_history (opening origin) es) e) (take-take p q h (omega (arith, before)))
      (run p e (slice_get-take h q p e before at))

  -- nothing is bad at a place within a longer run
  not_before : (p q : ℕ) → p < q → IsRun origin (take q h) → (o : Option Entry) → slice_get h p ≡ o
      → MatchOption o ((p ≡ length h) × (IsQuiescent (after_history (opening origin) h) → ⊥))
      (λ e. IsLegal AnyOne origin (take p h) (after_history (opening origin) (take p h)) e → ⊥)
      → p < length h → ⊥
  not_before p q before run None at bad inside = omega (arith, bad.0, inside)
  not_before p q before run (Some e) at bad inside = bad (later_run p q before run e at)

  inside_or_end : (b : (n : ℕ) × IsBadAt origin h n) → b.1.place ≤ length h
  inside_or_end b = by (slice_get h b.1.place) refl b.1.bad
    where
      by : (o : Option Entry) → slice_get h b.1.place ≡ o
          → MatchOption o ((b.1.place ≡ length h) × (IsQuiescent (after_history (opening origin) h) → ⊥))
          (λ e. IsLegal AnyOne origin (take b.1.place h) (after_history (opening origin) (take b.1.place h)) e → ⊥)
          → b.1.place ≤ length h
      by None at bad = omega (arith, bad.0)
      by (Some e) at bad = omega (arith, slice_get_within h b.1.place e at)

  ordered : (n m : ℕ) (a : IsBadAt origin h n) (b : IsBadAt origin h m) → a.place < b.place → ⊥
  ordered n m a b before =
      not_before a.place b.place before b.run (slice_get h a.place) refl a.bad (omega (arith, before, inside_or_end (m, b)))

  pub bad-one : (n m : ℕ) → IsBadAt origin h n → IsBadAt origin h m → n ≡ m
  bad-one n m a b =
      ⊎_elim (λ (before : a.place < b.place). absurd (ordered n m a b before))
      (λ (le : b.place ≤ a.place). ⊎_elim (λ (behind : b.place < a.place). absurd (ordered m n b a behind))
      (λ (ge : a.place ≤ b.place). omega (arith, le, ge, a.counted, b.counted)) (cases_lt b.place a.place))
      (cases_lt a.place b.place)

  pub whole-none : (n : ℕ) → IsQuietRun origin h → IsBadAt origin h n → ⊥
  whole-none n whole a = by (slice_get h a.place) refl a.bad
    where
      by : (o : Option Entry) → slice_get h a.place ≡ o
          → MatchOption o ((a.place ≡ length h) × (IsQuiescent (after_history (opening origin) h) → ⊥))
          (λ e. IsLegal AnyOne origin (take a.place h) (after_history (opening origin) (take a.place h)) e → ⊥)
          → ⊥
      by None at bad = bad.1 whole.quiescent
      by (Some e) at bad = bad (whole.run a.place e at)
