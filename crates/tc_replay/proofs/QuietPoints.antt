-- Where a whole history is quiet, its entries tell.
use Rattle.std.proofs.Common.{◌≡◌, ℕ, List, length, take, Some, sym, subst, take_all, arith}
use Rattle.std.specs.List.{slice_get}
use Rattle.tc_model.specs.State.{Origin, IsQuiescent, opening, after_history}
use Rattle.tc_model.specs.declared.entries.Entry.{Entry}
use Rattle.tc_model.specs.declared.entries.Entry.TheVariants.{Called, Gave, Looked}
use Rattle.tc_replay.specs.Bad.{IsQuietRun, IsNoGave, IsGave}

module _ (origin : Origin) (h : List Entry) (whole : IsQuietRun origin h) where
  pub quiet_before : (n : ℕ) (e : Entry) → slice_get h n ≡ Some e → IsNoGave e → IsQuiescent (after_history (opening origin) (take n h))
  quiet_before n (Called id op result items) at other = (whole.run n (Called id op result items) at).0
  quiet_before n (Gave id result items) at answer = absurd answer
  quiet_before n (Looked id asked reply) at other = (whole.run n (Looked id asked reply) at).0

  pub unquiet_before : (n : ℕ) (e : Entry) → slice_get h n ≡ Some e → IsGave e → IsQuiescent (after_history (opening origin) (take n h)) → ⊥
  unquiet_before n (Called id op result items) at is quiet = is
  unquiet_before n (Gave id result items) at is quiet =
      let legal = whole.run n (Gave id result items) at in
      quiet legal.request legal.chosen.0 legal.chosen.1
  unquiet_before n (Looked id asked reply) at is quiet = is

  pub quiet_end : (n : ℕ) → n ≡ length h → IsQuiescent (after_history (opening origin) (take n h))
  quiet_end n is = subst (λ (es : List Entry). IsQuiescent (after_history (opening origin) es)) (sym (take_all n h (omega (arith, is)))) whole.quiescent
