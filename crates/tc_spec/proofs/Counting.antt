-- How many clauses an event may trigger, of those whose numbers are tried.
use Rattle.std.proofs.Common.{◌≡◌, ◌≤◌, ◌<◌, ◌+◌, ◌-◌, ◌&&◌, ℕ, zero, suc, Bool, true, false, IsTrue, cond, List, [], ◌∷◌, length, take, get_or, refl, sym, ap, ap₂, subst, ◌∙◌, arith}
use Rattle.std.specs.List.{filter}
use Rattle.std.specs.Str.{bytes_eq}
use Rattle.std.proofs.Math.Seq.{take-length}
use Rattle.std.proofs.lemmas.List.Filters.{length-filter_more}
use Rattle.std.proofs.lemmas.Slice.Eq.{bytes_eq-Decides}
use Rattle.tc_term.specs.Tree.{Tree, Compound, Trees}
use Rattle.tc_term.specs.TreeView.{trees_of}
use Rattle.tc_term.specs.declared.terms.Term.{Term}
use Rattle.tc_steps.specs.Tops.{agree, as_many}
use Rattle.tc_model.specs.Events.{Occurrence, op_name}
use Rattle.tc_model.specs.Reactions.{Rule}
use Rattle.tc_spec.specs.Costs.{may_trigger, trigger_steps}
use Rattle.tc_spec.specs.Numbers.{AreNumbers}
use Rattle.tc_spec.proofs.Sifting.{number_inside}

both : (a b : Bool) → a ≡ true → b ≡ true → (a && b) ≡ true
both a b p q = ap₂ (λ x y. x && y) p q

-- compounds of one name and as many arguments agree at their tops
as_many_trees : (xs ys : List Term) → 0 < length xs → length xs ≡ length ys → as_many (trees_of xs) (trees_of ys) ≡ true
as_many_trees [] ys some same = absurd (omega (arith, some))
as_many_trees (t ∷ []) [] some same = absurd (omega (arith, same))
as_many_trees (t ∷ []) (u ∷ []) some same = refl
as_many_trees (t ∷ []) (u ∷ v ∷ us) some same = absurd (omega (arith, same))
as_many_trees (t ∷ s ∷ ts) [] some same = absurd (omega (arith, same))
as_many_trees (t ∷ s ∷ ts) (u ∷ []) some same = absurd (omega (arith, same))
as_many_trees (t ∷ s ∷ ts) (u ∷ v ∷ us) some same = as_many_trees (s ∷ ts) (v ∷ us) (omega arith) (omega (arith, same))

pub compounds_agree : (h t : Tree) (a b : List ℕ) (ss ts : Trees) (xs ys : List Term) → h ≡ Compound a ss → t ≡ Compound b ts
    → trees_of xs ≡ ss → trees_of ys ≡ ts → 0 < length xs → length xs ≡ length ys → a ≡ b → IsTrue (agree h t)
compounds_agree h t a b ss ts xs ys eh et xs_are ys_are some same names =
    ap₂ agree eh et
    ∙ both (bytes_eq a b) (as_many ss ts) ((bytes_eq-Decides a b).1 names)
    (sym (ap₂ as_many xs_are ys_are) ∙ as_many_trees xs ys some same)

-- a rule that is tried may be triggered
pub tried : (r : Rule) (e : Occurrence) (h t : Tree) (before after : ℕ) → r.op ≡ e.op → h ≡ r.head → t ≡ e.term
    → IsTrue (agree h t) → after ≤ before + 1 → after ≤ before + trigger_steps (r ∷ []) e
tried r e h t before after op eh et tops most =
    let may : may_trigger e r ≡ true =
    both (bytes_eq (op_name r.op) (op_name e.op)) (agree r.head e.term)
    ((bytes_eq-Decides (op_name r.op) (op_name e.op)).1 (ap op_name op))
    (sym (ap₂ agree eh et) ∙ tops) in
    subst (λ b. after ≤ before + length (cond b (r ∷ []) [])) (sym may) most

-- what passes a test, of a front and of a longer one
longer : {X : Type 0} (b : Bool) (x : X) (xs ys : List X) → length xs ≤ length ys
    → length (cond b (x ∷ xs) xs) ≤ length (cond b (x ∷ ys) ys)
longer true x xs ys le = omega (arith, le)
longer false x xs ys le = le

passing_front : {X : Type 0} (p : X → Bool) (xs : List X) (m n : ℕ) → m ≤ n
    → length (filter p (take m xs)) ≤ length (filter p (take n xs))
passing_front p xs zero n le = omega arith
passing_front p [] (suc m) n le = omega arith
passing_front p (x ∷ xs) (suc m) zero le = absurd (omega (arith, le))
passing_front p (x ∷ xs) (suc m) (suc n) le =
    longer (p x) x (filter p (take m xs)) (filter p (take n xs)) (passing_front p xs m n (omega (arith, le)))

one_passes : {X : Type 0} (b : Bool) (x : X) → length (cond b (x ∷ []) []) ≡ cond b 1 0
one_passes true x = refl
one_passes false x = refl

-- the first so many numbers have taken no more steps than the clauses up to the last of them may
pub record IsCounted (clauses : List Rule) (e : Occurrence) (numbers : List ℕ) (i start now : ℕ) : Type 0 where
  pub rises : start ≤ now
  pub most : (bound : ℕ) → ((k : ℕ) → k < i → get_or numbers k 0 ≤ bound)
      → now ≤ start + trigger_steps (take bound clauses) e

module _ (clauses : List Rule) (e : Occurrence) (numbers : List ℕ) where
  pub counted_none : (start : ℕ) → IsCounted clauses e numbers 0 start start
  counted_none start = record { rises = omega arith; most = λ bound all. omega arith }

  pub counted_more : (i start before after : ℕ) (r : Rule) → AreNumbers clauses numbers → i < length numbers
      → r ≡ get_or clauses (get_or numbers i 0 - 1) r → IsCounted clauses e numbers i start before
      → after ≤ before + trigger_steps (r ∷ []) e → before ≤ after → IsCounted clauses e numbers (i + 1) start after
  counted_more i start before after r are inside is h step rises = record {
    rises = let up = h.rises in omega (arith, up, rises);
    most = λ bound all.
        let n = get_or numbers i 0 in
        let within = number_inside clauses numbers i are inside in
        let some : 1 ≤ n = within.0 in
        let here : n ≤ bound = all i (omega arith) in
        let place : n - 1 + 1 ≡ n = omega (arith, some) in
        let before_it : before ≤ start + trigger_steps (take (n - 1) clauses) e =
        h.most (n - 1) (λ k lt. let less = are.rising k i 0 lt inside in omega (arith, less)) in
        let with_it : trigger_steps (take n clauses) e ≡ trigger_steps (take (n - 1) clauses) e + cond (may_trigger e r) 1 0 =
        ap (λ m. trigger_steps (take m clauses) e) (sym place)
        ∙ (length-filter_more (may_trigger e) clauses (n - 1) r within.1
        ∙ ap (λ q. trigger_steps (take (n - 1) clauses) e + cond (may_trigger e q) 1 0) (sym is)) in
        let one : trigger_steps (r ∷ []) e ≡ cond (may_trigger e r) 1 0 = one_passes (may_trigger e r) r in
        let all_of : trigger_steps (take n clauses) e ≤ trigger_steps (take bound clauses) e =
        passing_front (may_trigger e) clauses n bound here in
        omega (arith, before_it, with_it, one, all_of, step);
  }

  pub counted_all : (i start now : ℕ) → AreNumbers clauses numbers → i ≤ length numbers
      → IsCounted clauses e numbers i start now → now ≤ start + trigger_steps clauses e
  counted_all i start now are within h =
      subst (λ (cs : List Rule). now ≤ start + trigger_steps cs e) (take-length clauses)
      (h.most (length clauses) (λ k lt.
      let inside = number_inside clauses numbers k are (omega (arith, lt, within)) in
      omega (arith, inside.0, inside.1)))
