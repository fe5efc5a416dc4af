use Rattle.std.proofs.Common.{◌≡◌, ℕ, ◌+◌, ◌≤◌, max, Bool, true, false, List, [], ◌∷◌, map, Option, Some, None, refl, sym, ◌∙◌, ap, subst, arith}
use Rattle.std.proofs.lemmas.Bool.Decides.{nat_tests}
use Rattle.tc_term.specs.Tree.{Tree, Compound, nodes, depth, name_bytes, nodes_of_all, depth_of_all, name_bytes_of_all}
use Rattle.tc_term.specs.Grammar.{Token, Meaning, nil, cell, negated, between, Derives, operand, prefix, infix_term, Operand, variable, integer, negative, atom, compound, no_items, items, group, Arguments, last_argument, more_arguments, Items, last_item, list_tail, more_items, IsTerm}
use Rattle.tc_term.specs.Faults.{Reading, reading, trees, terms, wide_of_all, or_else}
use Rattle.tc_read.specs.Kept.{all_nodes, all_depth, all_name_bytes, fits_by, fits, fits_all, small_if, Kept, Small, Large, kept_by, kept_of, Parts, Whole, Oversized, Wide_at, whole_if, joined, parts, finished, kept}

-- Terms in one meaning are terms in another, along a map that keeps the forms.

pub record Keeps {A B : Type 0} (m : Meaning A) (n : Meaning B) (h : A → B) : Type 0 where
  pub variable : (v : ℕ) → h (m.variable v) ≡ n.variable v
  pub number : (negative : Bool) (v place : ℕ) → h (m.number negative v place) ≡ n.number negative v place
  pub atom : (name : List ℕ) → h (m.atom name) ≡ n.atom name
  pub compound : (name : List ℕ) (a : A) (more : List A) → h (m.compound name a more) ≡ n.compound name (h a) (map h more)

module _ {A B : Type 0} (m : Meaning A) (n : Meaning B) (h : A → B) (keeps : Keeps m n h) where
  kept_nil : h (nil m) ≡ nil n
  kept_nil = keeps.atom _

  kept_cell : (a b : A) → h (cell m a b) ≡ cell n (h a) (h b)
  kept_cell a b = keeps.compound _ a (b ∷ [])

  kept_end : (a : A) → h (cell m a (nil m)) ≡ cell n (h a) (nil n)
  kept_end a = kept_cell a (nil m) ∙ ap (λ x. cell n (h a) x) kept_nil

  at_operand : {ts rest : List Token} {x y : B} → x ≡ y → Operand n ts x rest → Operand n ts y rest
  at_operand {ts = ts} {rest = rest} e o = subst (λ z. Operand n ts z rest) e o

  at_term : {p : ℕ} {ts rest : List Token} {x y : B} → x ≡ y → Derives n p ts x rest → Derives n p ts y rest
  at_term {p = p} {ts = ts} {rest = rest} e d = subst (λ z. Derives n p ts z rest) e d

  at_items : {ts rest : List Token} {x y : B} → x ≡ y → Items n ts x rest → Items n ts y rest
  at_items {ts = ts} {rest = rest} e d = subst (λ z. Items n ts z rest) e d

  mutual
    pub push : {p : ℕ} {ts rest : List Token} {a : A} → Derives m p ts a rest → Derives n p ts (h a) rest
    push (operand o) = operand (push_operand o)
    push (prefix {a = a} le c k d) = at_term (sym (keeps.compound _ a [])) (prefix le c k (push d))
    push (infix_term {a = a} {b = b} op is le l r) = at_term (sym (keeps.compound op.name a (b ∷ []))) (infix_term op is le (push l) (push r))

    push_operand : {ts rest : List Token} {a : A} → Operand m ts a rest → Operand n ts (h a) rest
    push_operand variable = at_operand (sym (keeps.variable _)) variable
    push_operand integer = at_operand (sym (keeps.number _ _ _)) integer
    push_operand negative = at_operand (sym (keeps.number _ _ _)) negative
    push_operand (atom c) = at_operand (sym (keeps.atom _)) (atom c)
    push_operand (compound {a = a} {more = more} is x) = at_operand (sym (keeps.compound _ a more)) (compound is (push_arguments x))
    push_operand no_items = at_operand (sym kept_nil) no_items
    push_operand (items x) = items (push_items x)
    push_operand (group d) = group (push d)

    push_arguments : {ts rest : List Token} {a : A} {more : List A} → Arguments m ts a more rest → Arguments n ts (h a) (map h more) rest
    push_arguments (last_argument d) = last_argument (push d)
    push_arguments (more_arguments d x) = more_arguments (push d) (push_arguments x)

    push_items : {ts rest : List Token} {a : A} → Items m ts a rest → Items n ts (h a) rest
    push_items (last_item {a = a} d) = at_items (sym (kept_end a)) (last_item (push d))
    push_items (list_tail {a = a} {b = b} d e) = at_items (sym (kept_cell a b)) (list_tail (push d) (push e))
    push_items (more_items {a = a} {b = b} d x) = at_items (sym (kept_cell a b)) (more_items (push d) (push_items x))

  mutual
    pub pull : {p : ℕ} {ts rest : List Token} {b : B} → Derives n p ts b rest → (a : A) × Derives m p ts a rest × (h a ≡ b)
    pull (operand o) = let x = pull_operand o in (x.0, operand x.1, x.2)
    pull (prefix le c k d) = let x = pull d in (negated m x.0, prefix le c k x.1, keeps.compound _ x.0 [] ∙ ap (λ y. negated n y) x.2)
    pull (infix_term op is le l r) =
        let x = pull l in
        let y = pull r in
        (between m op x.0 y.0, infix_term op is le x.1 y.1, let e = keeps.compound op.name x.0 (y.0 ∷ []) in let f = x.2 in let g = y.2 in cc)

    pull_operand : {ts rest : List Token} {b : B} → Operand n ts b rest → (a : A) × Operand m ts a rest × (h a ≡ b)
    pull_operand variable = (_, variable, keeps.variable _)
    pull_operand integer = (_, integer, keeps.number _ _ _)
    pull_operand negative = (_, negative, keeps.number _ _ _)
    pull_operand (atom c) = (_, atom c, keeps.atom _)
    pull_operand (compound {name = name} is x) = let y = pull_arguments x in (m.compound name y.0 y.1, compound is y.2, let e = keeps.compound name y.0 y.1 in let f = y.3 in let g = y.4 in cc)
    pull_operand no_items = (nil m, no_items, kept_nil)
    pull_operand (items x) = let y = pull_items x in (y.0, items y.1, y.2)
    pull_operand (group d) = let x = pull d in (x.0, group x.1, x.2)

    pull_arguments : {ts rest : List Token} {b : B} {more : List B} → Arguments n ts b more rest → (a : A) × (as' : List A) × Arguments m ts a as' rest × (h a ≡ b) × (map h as' ≡ more)
    pull_arguments (last_argument d) = let x = pull d in (x.0, [], last_argument x.1, x.2, refl)
    pull_arguments (more_arguments d x) = let y = pull d in let z = pull_arguments x in (y.0, z.0 ∷ z.1, more_arguments y.1 z.2, y.2, let e = z.3 in let f = z.4 in cc)

    pull_items : {ts rest : List Token} {b : B} → Items n ts b rest → (a : A) × Items m ts a rest × (h a ≡ b)
    pull_items (last_item d) = let x = pull d in (cell m x.0 (nil m), last_item x.1, kept_end x.0 ∙ ap (λ y. cell n y (nil n)) x.2)
    pull_items (list_tail d e) = let x = pull d in let y = pull e in (cell m x.0 y.0, list_tail x.1 y.1, let q = kept_cell x.0 y.0 in let f = x.2 in let g = y.2 in cc)
    pull_items (more_items d r) = let x = pull d in let y = pull_items r in (cell m x.0 y.0, more_items x.1 y.1, let q = kept_cell x.0 y.0 in let f = x.2 in let g = y.2 in cc)

-- What is kept while it fits is such a map.

within : (a b c d e f : ℕ) → d ≤ a → e ≤ b → f ≤ c → fits_by d e f ≡ false → fits_by a b c ≡ false
within a b c d e f h k l z = grind (arith, nat_tests)

pub nodes_of_trees : (t : Tree) (ts : List Tree) → nodes_of_all (trees t ts) ≡ all_nodes (t ∷ ts)
nodes_of_trees t [] = omega arith
nodes_of_trees t (u ∷ ts) = ap (λ n. nodes t + n) (nodes_of_trees u ts)

pub depth_of_trees : (t : Tree) (ts : List Tree) → depth_of_all (trees t ts) ≡ all_depth (t ∷ ts)
depth_of_trees t [] = omega arith
depth_of_trees t (u ∷ ts) = ap (max (depth t)) (depth_of_trees u ts)

pub name_bytes_of_trees : (t : Tree) (ts : List Tree) → name_bytes_of_all (trees t ts) ≡ all_name_bytes (t ∷ ts)
name_bytes_of_trees t [] = omega arith
name_bytes_of_trees t (u ∷ ts) = ap (λ n. name_bytes t + n) (name_bytes_of_trees u ts)

pub compound_too_big : (name : List ℕ) (t : Tree) (ts : List Tree) → fits_all (t ∷ ts) ≡ false → fits (Compound name (trees t ts)) ≡ false
compound_too_big name t ts e =
    within (nodes (Compound name (trees t ts))) (depth (Compound name (trees t ts))) (name_bytes (Compound name (trees t ts)))
    (all_nodes (t ∷ ts) + 1) (all_depth (t ∷ ts) + 1) (all_name_bytes (t ∷ ts))
    (omega (arith, nodes_of_trees t ts)) (omega (arith, depth_of_trees t ts)) (omega (arith, name_bytes_of_trees t ts)) e

first_too_big : (t : Tree) (ts : List Tree) → fits t ≡ false → fits_all (t ∷ ts) ≡ false
first_too_big t ts e = within (all_nodes (t ∷ ts) + 1) (all_depth (t ∷ ts) + 1) (all_name_bytes (t ∷ ts)) (nodes t) (depth t) (name_bytes t) (omega arith) (omega arith) (omega arith) e

pub others_too_big : (t : Tree) (ts : List Tree) → fits_all ts ≡ false → fits_all (t ∷ ts) ≡ false
others_too_big t ts e =
    within (all_nodes (t ∷ ts) + 1) (all_depth (t ∷ ts) + 1) (all_name_bytes (t ∷ ts)) (all_nodes ts + 1) (all_depth ts + 1) (all_name_bytes ts) (omega arith) (omega arith) (omega arith) e

-- what is kept of the arguments
data PartsAre (rs : List Reading) : Type 0 where
  are_wide : (place : ℕ) → wide_of_all rs ≡ Some place → parts (map kept_of rs) ≡ Wide_at place → PartsAre rs
  are_whole : wide_of_all rs ≡ None → parts (map kept_of rs) ≡ Whole (terms rs) → PartsAre rs
  are_oversized : wide_of_all rs ≡ None → parts (map kept_of rs) ≡ Oversized → fits_all (terms rs) ≡ false → PartsAre rs

parts_are : (rs : List Reading) → PartsAre rs
parts_are [] = are_whole refl refl
parts_are (r ∷ rs) = by_wide r.wide refl (parts_are rs)
  where
    at : (o : Option ℕ) → r.wide ≡ o → kept_of r ≡ kept_by o r.term
    at o e = ap (λ w. kept_by w r.term) e

    wide_at : (o : Option ℕ) → r.wide ≡ o → wide_of_all (r ∷ rs) ≡ or_else o (wide_of_all rs)
    wide_at o e = ap (λ w. or_else w (wide_of_all rs)) e

    step : (k : Kept) (ps : Parts) → kept_of r ≡ k → parts (map kept_of rs) ≡ ps → parts (map kept_of (r ∷ rs)) ≡ joined k ps
    step k ps e f = ap (λ x. joined x (parts (map kept_of rs))) e ∙ ap (joined k) f

    by_room : (b : Bool) → fits_all (terms (r ∷ rs)) ≡ b → r.wide ≡ None → fits r.term ≡ true → wide_of_all rs ≡ None → parts (map kept_of rs) ≡ Whole (terms rs) → PartsAre (r ∷ rs)
    by_room true budget e f g q = are_whole (wide_at None e ∙ g) (step (Small r.term) (Whole (terms rs)) (at None e ∙ ap (λ b. small_if b r.term) f) q ∙ ap (λ b. whole_if b (terms (r ∷ rs))) budget)
    by_room false budget e f g q = are_oversized (wide_at None e ∙ g) (step (Small r.term) (Whole (terms rs)) (at None e ∙ ap (λ b. small_if b r.term) f) q ∙ ap (λ b. whole_if b (terms (r ∷ rs))) budget) budget

    by_fits : (b : Bool) → fits r.term ≡ b → r.wide ≡ None → PartsAre rs → PartsAre (r ∷ rs)
    by_fits true f e (are_wide place g q) = are_wide place (wide_at None e ∙ g) (step (Small r.term) (Wide_at place) (at None e ∙ ap (λ b. small_if b r.term) f) q)
    by_fits true f e (are_whole g q) = by_room (fits_all (terms (r ∷ rs))) refl e f g q
    by_fits true f e (are_oversized g q big) = are_oversized (wide_at None e ∙ g) (step (Small r.term) Oversized (at None e ∙ ap (λ b. small_if b r.term) f) q) (others_too_big r.term (terms rs) big)
    by_fits false f e (are_wide place g q) = are_wide place (wide_at None e ∙ g) (step Large (Wide_at place) (at None e ∙ ap (λ b. small_if b r.term) f) q)
    by_fits false f e (are_whole g q) = are_oversized (wide_at None e ∙ g) (step Large (Whole (terms rs)) (at None e ∙ ap (λ b. small_if b r.term) f) q) (first_too_big r.term (terms rs) f)
    by_fits false f e (are_oversized g q big) = are_oversized (wide_at None e ∙ g) (step Large Oversized (at None e ∙ ap (λ b. small_if b r.term) f) q) (others_too_big r.term (terms rs) big)

    by_wide : (o : Option ℕ) → r.wide ≡ o → PartsAre rs → PartsAre (r ∷ rs)
    by_wide (Some place) e others = are_wide place (wide_at (Some place) e) (ap (λ x. joined x (parts (map kept_of rs))) (at (Some place) e))
    by_wide None e others = by_fits (fits r.term) refl e others

compound_kept : (name : List ℕ) (r : Reading) (more : List Reading) → PartsAre (r ∷ more) → kept_of (reading.compound name r more) ≡ finished name (parts (map kept_of (r ∷ more)))
compound_kept name r more (are_wide place e q) = ap (λ w. kept_by w (Compound name (trees r.term (terms more)))) e ∙ sym (ap (finished name) q)
compound_kept name r more (are_whole e q) = ap (λ w. kept_by w (Compound name (trees r.term (terms more)))) e ∙ sym (ap (finished name) q)
compound_kept name r more (are_oversized e q big) =
    ap (λ w. kept_by w (Compound name (trees r.term (terms more)))) e
    ∙ ap (λ b. small_if b (Compound name (trees r.term (terms more)))) (compound_too_big name r.term (terms more) big)
    ∙ sym (ap (finished name) q)

pub keeping : Keeps reading kept kept_of
keeping = record {
  variable = λ v. refl;
  number = λ negative v place. refl;
  atom = λ name. refl;
  compound = λ name r more. compound_kept name r more (parts_are (r ∷ more));
}

-- What the tokens mean where a term is kept while it fits, said of what they are read as.

-- the tokens are this and nothing else
pub read_of : (ts : List Token) (k : Kept) → IsTerm kept ts k → (r : Reading) × IsTerm reading ts r × (kept_of r ≡ k)
read_of ts k d = pull reading kept kept_of keeping d

pub none_read : (ts : List Token) → ((x : Kept) → IsTerm kept ts x → ⊥) → (r : Reading) → IsTerm reading ts r → ⊥
none_read ts none r d = none (kept_of r) (push reading kept kept_of keeping d)
