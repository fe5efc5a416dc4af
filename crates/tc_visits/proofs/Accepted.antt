-- What one session more, or one idle kit more, changes.
use Rattle.std.proofs.Common.{◌≡◌, ◌∙◌, ℕ, true, false, Result, Ok, Err, IsErr, IsNone, is_ok, is_some, List, [], ◌∷◌, ◌++◌, length, take, map, Option, Some, None, ap, sym, subst, refl, append_assoc, append-nil}
use Rattle.std.proofs.Math.Seq.{take-append_seam}
use Rattle.std.proofs.lemmas.List.{map-append}
use Rattle.tc_io.specs.Faults.{CountRises, Counts}
use Rattle.tc_io.specs.Links.{Connection, opened_more}
use Rattle.tc_policy.specs.declared.grants.Grant.{Grant}
use Rattle.tc_site.specs.Sites.{KitState}
use Rattle.tc_visits.specs.Seats.{SeatState}
use Rattle.tc_visits.specs.Serving.{AreServed, kit_of, opened_all}
use Rattle.tc_visits.specs.Visits.{VisitState}

-- a list whose elements were lent, and are as they were
pub lent-back : {X : Type 0} (xs ys rest : List X) (n : ℕ) → ys ≡ xs → n ≡ length xs → take n (ys ++ rest) ≡ xs
lent-back xs ys rest n is long = ap (λ k. take k (ys ++ rest)) (long ∙ ap length (sym is)) ∙ take-append_seam ys rest ∙ is

-- where nothing was made, there was an error
pub err-none : {T E : Type 0} (r : Result T E) (o : Option T) → is_some o ≡ is_ok r → (IsErr r → IsNone o) × (IsNone o → IsErr r)
err-none (Ok x) o is = (λ e. cc, λ none. let never : true ≡ false = sym is ∙ none in cc)
err-none (Err e) o is = (λ _. is, λ _. refl)

-- the same failures are counted from an earlier moment on, at which the count was the same
pub counts-since : {P Q : Type 0} (f g h : ℕ) → g ≡ f → (P → Q) → (Q → P) → Counts P g h → Counts Q f h
counts-since f g h same to from counts = record {
  failed = λ failed. subst (λ n. CountRises n h) same (counts.failed (from failed));
  unfailed = λ well. counts.unfailed (λ failed. well (to failed)) ∙ same;
}

-- a connection more is opened
pub opened_all-more : (o : Option (List Connection)) (cs : List Connection) (c : Connection)
    → opened_more (opened_all o cs) c ≡ opened_all o (cs ++ c ∷ [])
opened_all-more None cs c = refl
opened_all-more (Some before) cs c = ap Some (append_assoc before cs (c ∷ []))

module _ {S K : Type 0} (kit : S → K) where
  -- a session more, where no kit is idle
  pub kits-session : (ss : List S) (idle done : List K) (s : S) (k : K) → idle ≡ [] → map kit ss ++ idle ≡ done → kit s ≡ k
      → map kit (ss ++ s ∷ []) ++ idle ≡ done ++ k ∷ []
  kits-session ss idle done s k none so_far is =
      ap (λ l. map kit (ss ++ s ∷ []) ++ l) none ∙ append-nil (map kit (ss ++ s ∷ []))
      ∙ map-append kit ss (s ∷ []) ∙ ap (λ x. map kit ss ++ x ∷ []) is
      ∙ ap (λ l. l ++ k ∷ []) (sym (append-nil (map kit ss)) ∙ ap (λ l. map kit ss ++ l) (sym none) ∙ so_far)

  -- a kit more is idle
  pub kits-idle : (ss : List S) (idle done : List K) (k : K) → map kit ss ++ idle ≡ done
      → map kit ss ++ (idle ++ k ∷ []) ≡ done ++ k ∷ []
  kits-idle ss idle done k so_far =
      sym (append_assoc (map kit ss) idle (k ∷ [])) ∙ ap (λ l. l ++ k ∷ []) so_far

-- the seats have become visits, and meanwhile the door is as it was
pub all-served : (kits idle : List (KitState (List Grant))) (seats after : List SeatState) (visits : List VisitState) (o p q : Option (List Connection)) (f g h : ℕ)
    → map (λ (s : SeatState). s.kit) seats ++ idle ≡ kits → p ≡ opened_all o (map (λ (s : SeatState). s.connection) seats)
    → (idle ≡ [] → g ≡ f) → ((idle ≡ [] → ⊥) → CountRises f g) → q ≡ p → h ≡ g → after ≡ seats
    → map kit_of visits ≡ map (λ (s : SeatState). s.kit) after → map (λ (v : VisitState). v.connection) visits ≡ map (λ (s : SeatState). s.connection) after
    → AreServed kits o q f h visits idle
all-served kits idle seats after visits o p q f g h kits_are opened all lacking same unfailed back served connections = record {
  kits_are = ap (λ ks. ks ++ idle) (served ∙ ap (map (λ (s : SeatState). s.kit)) back) ∙ kits_are;
  opened_are = same ∙ opened ∙ ap (opened_all o) (sym (connections ∙ ap (map (λ (s : SeatState). s.connection)) back));
  all = λ none. unfailed ∙ all none;
  lacking = λ some. subst (CountRises f) (sym unfailed) (lacking some);
}
