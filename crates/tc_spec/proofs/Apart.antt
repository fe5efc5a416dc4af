-- Terms that no valuation makes equal, and the codes of those that one does.
use Rattle.std.proofs.Common.{◌≡◌, ◌<◌, ◌↔◌, ◌+◌, ◌%◌, ◌==◌, ◌⊎◌, ℕ, ℤ, Bool, true, false, IsTrue, List, [], ◌∷◌, Option, Some, None, length, refl, inl, inr, sym, ap, ap₂, subst, ◌∙◌, eq-eqb, arith}
use Rattle.std.proofs.lemmas.List.Elements.{All-head}
use Rattle.std.specs.List.{fold}
use Rattle.std.specs.Option.{option_map}
use Rattle.tc_lists.specs.Codes.{mixed}
use Rattle.tc_term.specs.Equations.{Equation, at, under}
use Rattle.tc_term.specs.Tree.{Tree, Variable, Atomic, Number, Compound, Trees, Last, More}
use Rattle.tc_term.specs.TreeView.{trees_of}
use Rattle.tc_term.specs.Variables.{all_renamed, instances, raised}
use Rattle.tc_term.specs.declared.terms.Term.{Term}
use Rattle.tc_model.specs.Events.{Occurrence}
use Rattle.tc_model.specs.Reactions.{Rule}
use Rattle.tc_model.specs.Triggers.{IsTriggered}
use Rattle.tc_model.specs.declared.events.EventOp.{EventOp}
use Rattle.tc_spec.specs.Codes.{code_of, count_of, is_in, op_code, part_in, rule_part}

-- how many arguments there are
count-instances : (f : ℕ → Tree) (ts : Trees) → count_of (instances f ts) ≡ count_of ts
count-instances f (Last t) = refl
count-instances f (More t ts) = ap (λ n. n + 1) (count-instances f ts)

pub count-trees_of : (ts : List Term) → 0 < length ts → count_of (trees_of ts) ≡ length ts
count-trees_of [] some = absurd (omega (arith, some))
count-trees_of (t ∷ []) some = refl
count-trees_of (t ∷ u ∷ ts) some = omega (arith, count-trees_of (u ∷ ts) (omega arith))

-- a valuation that makes two terms equal
abbrev pub AreMadeEqual : Tree → Tree → Type 0
AreMadeEqual h t = (v : List Tree) × (k : ℕ) × (under v h ≡ under v (raised k t))

same_atoms : (a b : List ℕ) → AreMadeEqual (Atomic a) (Atomic b) → a ≡ b
same_atoms a b m = let e : Atomic a ≡ Atomic b = m.2 in cc

same_numbers : (a b : ℤ) → AreMadeEqual (Number a) (Number b) → a ≡ b
same_numbers a b m = let e : Number a ≡ Number b = m.2 in cc

same_names : (a b : List ℕ) (xs ys : Trees) → AreMadeEqual (Compound a xs) (Compound b ys) → a ≡ b
same_names a b xs ys m =
    let e : Compound a (instances (at m.0) xs) ≡ Compound b (instances (at m.0) (all_renamed (λ n. n + m.1) ys)) = m.2 in cc

same_counts : (a b : List ℕ) (xs ys : Trees) → AreMadeEqual (Compound a xs) (Compound b ys) → count_of xs ≡ count_of ys
same_counts a b xs ys m =
    let e : Compound a (instances (at m.0) xs) ≡ Compound b (instances (at m.0) (all_renamed (λ n. n + m.1) ys)) = m.2 in
    let args : instances (at m.0) xs ≡ instances (at m.0) (all_renamed (λ n. n + m.1) ys) = cc in
    sym (count-instances (at m.0) xs) ∙ ap count_of args ∙ count-instances (at m.0) (all_renamed (λ n. n + m.1) ys)
    ∙ count-instances (λ n. Variable (n + m.1)) ys

no_atom_number : (a : List ℕ) (b : ℤ) → AreMadeEqual (Atomic a) (Number b) → ⊥
no_atom_number a b m = let e : Atomic a ≡ Number b = m.2 in cc

no_number_atom : (a : ℤ) (b : List ℕ) → AreMadeEqual (Number a) (Atomic b) → ⊥
no_number_atom a b m = let e : Number a ≡ Atomic b = m.2 in cc

no_atom_compound : (a b : List ℕ) (ys : Trees) → AreMadeEqual (Atomic a) (Compound b ys) → ⊥
no_atom_compound a b ys m = let e : Atomic a ≡ Compound b (instances (at m.0) (all_renamed (λ n. n + m.1) ys)) = m.2 in cc

no_compound_atom : (a b : List ℕ) (xs : Trees) → AreMadeEqual (Compound a xs) (Atomic b) → ⊥
no_compound_atom a b xs m = let e : Compound a (instances (at m.0) xs) ≡ Atomic b = m.2 in cc

no_number_compound : (a : ℤ) (b : List ℕ) (ys : Trees) → AreMadeEqual (Number a) (Compound b ys) → ⊥
no_number_compound a b ys m = let e : Number a ≡ Compound b (instances (at m.0) (all_renamed (λ n. n + m.1) ys)) = m.2 in cc

no_compound_number : (a : List ℕ) (b : ℤ) (xs : Trees) → AreMadeEqual (Compound a xs) (Number b) → ⊥
no_compound_number a b xs m = let e : Compound a (instances (at m.0) xs) ≡ Number b = m.2 in cc

-- terms that are made equal have one code, or one is a variable
abbrev AreAlike : EventOp → Tree → Tree → Type 0
AreAlike o h t = (code_of o h ≡ None) ⊎ ((code_of o t ≡ None) ⊎ (code_of o h ≡ code_of o t))

alike : (o : EventOp) (h t : Tree) → AreMadeEqual h t → AreAlike o h t
alike o (Variable n) t m = inl refl
alike o (Atomic a) (Variable n) m = inr (inl refl)
alike o (Number a) (Variable n) m = inr (inl refl)
alike o (Compound a xs) (Variable n) m = inr (inl refl)
alike o (Atomic a) (Atomic b) m = inr (inr (ap (λ name. code_of o (Atomic name)) (same_atoms a b m)))
alike o (Number a) (Number b) m = inr (inr (ap (λ n. code_of o (Number n)) (same_numbers a b m)))
alike o (Compound a xs) (Compound b ys) m =
    inr (inr (ap₂ (λ name n. Some (fold mixed (mixed (op_code o) n) name)) (same_names a b xs ys m) (same_counts a b xs ys m)))
alike o (Atomic a) (Number b) m = absurd (no_atom_number a b m)
alike o (Atomic a) (Compound b ys) m = absurd (no_atom_compound a b ys m)
alike o (Number a) (Atomic b) m = absurd (no_number_atom a b m)
alike o (Number a) (Compound b ys) m = absurd (no_number_compound a b ys m)
alike o (Compound a xs) (Atomic b) m = absurd (no_compound_atom a b xs m)
alike o (Compound a xs) (Number b) m = absurd (no_compound_number a b xs m)

-- so a rule that an event triggers is in the event's part
in_part : (count part : ℕ) (o : EventOp) (h t : Tree) → AreAlike o h t → part_in count o t ≡ Some part
    → IsTrue (is_in (part_in count o h) part)
in_part count part o h t (inl none) there =
    subst (λ (c : Option ℕ). IsTrue (is_in (option_map (λ code. code % count) c) part)) (sym none) refl
in_part count part o h t (inr (inl none)) there =
    let never : None ≡ Some part = sym (ap (option_map (λ code. code % count)) none) ∙ there in
    absurd (cc)
in_part count part o h t (inr (inr same)) there =
    subst (λ (p : Option ℕ). IsTrue (is_in p part)) (sym (ap (option_map (λ code. code % count)) same ∙ there))
    (eq-eqb part part refl)

made_equal : (r : Rule) (e : Occurrence) → IsTriggered r e → AreMadeEqual r.head e.term
made_equal r e triggered =
    let v = triggered.solvable in (
      v.valuation,
      r.vars,
      All-head (λ (e : Equation). under v.valuation e.0 ≡ under v.valuation e.1) (r.head, raised r.vars e.term) [] v.solves.equal,
    )

pub part-triggered : (count part : ℕ) (r : Rule) (e : Occurrence) → IsTriggered r e → part_in count e.op e.term ≡ Some part
    → IsTrue (is_in (rule_part count r) part)
part-triggered count part r e triggered there =
    subst (λ (o : EventOp). IsTrue (is_in (part_in count o r.head) part)) (sym triggered.op)
    (in_part count part e.op r.head e.term (alike e.op r.head e.term (made_equal r e triggered)) there)

-- compounds with other numbers of arguments
pub counts_apart : (h t : Tree) (a b : List ℕ) (ss ts : Trees) (xs ys : List Term) → h ≡ Compound a ss → t ≡ Compound b ts
    → 0 < length xs → 0 < length ys → trees_of xs ≡ ss → trees_of ys ≡ ts → (length xs == length ys) ≡ false
    → (v : List Tree) (k : ℕ) → under v h ≡ under v (raised k t) → ⊥
counts_apart h t a b ss ts xs ys eh et some more xs_are ys_are fails v k equal =
    let made : AreMadeEqual (Compound a ss) (Compound b ts) =
    (v, k, sym (ap (under v) eh) ∙ equal ∙ ap (λ u. under v (raised k u)) et) in
    let same : length xs ≡ length ys =
    sym (count-trees_of xs some) ∙ ap count_of xs_are ∙ same_counts a b ss ts made ∙ sym (ap count_of ys_are) ∙ count-trees_of ys more in
    let never : false ≡ true = sym fails ∙ eq-eqb (length xs) (length ys) same in
    cc

-- an event triggers no rule of another operation, and none whose head no valuation makes its term
pub other_op : (r : Rule) (e : Occurrence) (o : EventOp) (b : Bool) → o ≡ e.op → b ≡ false → (IsTrue b ↔ (r.op ≡ o))
    → IsTriggered r e → ⊥
other_op r e o b same fails test triggered =
    let holds : b ≡ true = test.1 (triggered.op ∙ sym same) in
    let never : false ≡ true = sym fails ∙ holds in
    cc

pub never_met : (r : Rule) (e : Occurrence) (h t : Tree) → h ≡ r.head → t ≡ e.term
    → ((v : List Tree) (k : ℕ) → under v h ≡ under v (raised k t) → ⊥) → IsTriggered r e → ⊥
never_met r e h t eh et never triggered =
    let made = made_equal r e triggered in
    never made.0 made.1 (ap (under made.0) eh ∙ made.2 ∙ sym (ap (λ u. under made.0 (raised made.1 u)) et))
