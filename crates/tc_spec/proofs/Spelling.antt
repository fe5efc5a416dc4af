-- A clause whose guard and body are nested to the right has the variables and the names of the clause
-- as it was.
use Rattle.std.proofs.Common.{◌≡◌, ◌≤◌, ◌++◌, ◌∷◌, [], ℕ, List, Bool, true, ◌&&◌, IsTrue, length, map, refl, ap, sym, subst, ◌∙◌, arith}
use Rattle.std.proofs.lemmas.List.{length-map}
use Rattle.std.specs.List.{range_with_len, list_all}
use Rattle.std.proofs.lemmas.Bool.{and_parts, and_from}
use Rattle.tc_term.specs.Bytes.{is_name_byte}
use Rattle.tc_term.specs.Limits.{most_brackets}
use Rattle.tc_term.specs.NameBytes.{has_read_names}
use Rattle.tc_term.specs.Readable.{IsReadable, opened}
use Rattle.tc_term.specs.Text.{Alone}
use Rattle.tc_term.specs.Tree.{Tree, Fits}
use Rattle.tc_term.specs.Variables.{variables, variables_after, IsPattern}
use Rattle.tc_model.specs.Events.{op_name}
use Rattle.tc_model.specs.Reactions.{Rule, IsRule, of_one, guard_term, goal_term, clause_of_form, clause_term}
use Rattle.tc_model.specs.declared.reactions.Form.{Form}
use Rattle.tc_model.specs.declared.reactions.Form.TheVariants.{Two, Three}
use Rattle.tc_model.specs.declared.reactions.GuardTest.{GuardTest}
use Rattle.tc_model.specs.declared.limits.TheConstants.{MOST_GOALS}
use Rattle.tc_spec.proofs.Commas.{by_leaves, leaves-some}
use Rattle.tc_spec.proofs.Nesting.{clause-nested, guard-nested}
use Rattle.tc_spec.proofs.Shapes.{few_tests}
use Rattle.tc_spec.specs.Written.{IsGuardOf, IsShaped, leaves, nested}

-- the variables that were seen before, and then those of terms
abbrev after_all : List ℕ → List Tree → List ℕ
after_all seen [] = seen
after_all seen (t ∷ ts) = after_all (variables_after seen t) ts

after_all-append : (seen : List ℕ) (xs ys : List Tree) → after_all seen (xs ++ ys) ≡ after_all (after_all seen xs) ys
after_all-append seen [] ys = refl
after_all-append seen (x ∷ xs) ys = after_all-append (variables_after seen x) xs ys

after_all-leaves : (t : Tree) (seen : List ℕ) → after_all seen (leaves t) ≡ variables_after seen t
after_all-leaves t =
    by_leaves (λ s xs. (seen : List ℕ) → after_all seen xs ≡ variables_after seen s) (λ s seen. refl)
    (λ name s u xs ys same hs hu seen.
    after_all-append seen xs ys ∙ ap (λ before. after_all before ys) (hs seen) ∙ hu (variables_after seen s))
    t

after_all-nested : (ts : List Tree) (seen : List ℕ) → variables_after seen (nested ts) ≡ after_all seen ts
after_all-nested [] seen = refl
after_all-nested (t ∷ []) seen = refl
after_all-nested (t ∷ u ∷ us) seen = after_all-nested (u ∷ us) (variables_after seen t)

variables-guard : (g : Tree) (ts : List GuardTest) (seen : List ℕ) → IsGuardOf g ts
    → variables_after seen (guard_term ts) ≡ variables_after seen g
variables-guard g [] seen is = ap (variables_after seen) (sym is)
variables-guard g (t ∷ ts) seen is =
    ap (variables_after seen) (guard-nested t ts ∙ ap nested (sym is.0))
    ∙ after_all-nested (leaves g) seen ∙ after_all-leaves g seen

variables-nested : (t : Tree) (f : Form) (h : Tree) (ts : List GuardTest) (b : Tree) → IsShaped t f h ts b
    → variables (clause_of_form f h (guard_term ts) (nested (leaves b))) ≡ variables t
variables-nested t Two h ts b x =
    after_all-nested (leaves b) (variables_after [] h) ∙ after_all-leaves b (variables_after [] h) ∙ ap variables (sym x.0)
variables-nested t Three h ts b x =
    let before = variables_after [] h in
    ap (λ seen. variables_after seen (nested (leaves b))) (variables-guard x.0 ts before x.2)
    ∙ after_all-nested (leaves b) (variables_after before x.0) ∙ after_all-leaves b (variables_after before x.0)
    ∙ ap variables (sym x.1)

-- whether each name in the terms may come from the reader
abbrev all_named : List Tree → Bool
all_named [] = true
all_named (t ∷ ts) = has_read_names t && all_named ts

all_named-append : (xs ys : List Tree) → all_named xs ≡ true → all_named ys ≡ true → all_named (xs ++ ys) ≡ true
all_named-append [] ys hx hy = hy
all_named-append (x ∷ xs) ys hx hy =
    let parts = and_parts (has_read_names x) (all_named xs) hx in
    and_from (has_read_names x) (all_named (xs ++ ys)) parts.0 (all_named-append xs ys parts.1 hy)

all_named-leaves : (t : Tree) → has_read_names t ≡ true → all_named (leaves t) ≡ true
all_named-leaves t =
    by_leaves (λ s xs. has_read_names s ≡ true → all_named xs ≡ true)
    (λ s h. and_from (has_read_names s) true h refl)
    (λ name s u xs ys same hs hu h.
    let parts = and_parts (list_all is_name_byte name) (has_read_names s && has_read_names u) h in
    let sides = and_parts (has_read_names s) (has_read_names u) parts.1 in
    all_named-append xs ys (hs sides.0) (hu sides.1))
    t

all_named-nested : (ts : List Tree) → all_named ts ≡ true → has_read_names (nested ts) ≡ true
all_named-nested [] h = refl
all_named-nested (t ∷ []) h = (and_parts (has_read_names t) true h).0
all_named-nested (t ∷ u ∷ us) h =
    let parts = and_parts (has_read_names t) (all_named (u ∷ us)) h in
    and_from (has_read_names t) (has_read_names (nested (u ∷ us))) parts.0 (all_named-nested (u ∷ us) parts.1)

names-body : (b : Tree) → has_read_names b ≡ true → has_read_names (nested (leaves b)) ≡ true
names-body b h = all_named-nested (leaves b) (all_named-leaves b h)

names-guard : (g : Tree) (ts : List GuardTest) → IsGuardOf g ts → has_read_names g ≡ true → has_read_names (guard_term ts) ≡ true
names-guard g [] is h = ap has_read_names (sym is) ∙ h
names-guard g (t ∷ ts) is h = ap has_read_names (guard-nested t ts ∙ ap nested (sym is.0)) ∙ names-body g h

names-nested : (t : Tree) (f : Form) (h : Tree) (ts : List GuardTest) (b : Tree) → IsShaped t f h ts b → has_read_names t ≡ true
    → has_read_names (clause_of_form f h (guard_term ts) (nested (leaves b))) ≡ true
names-nested t Two h ts b x named =
    let parts = and_parts (has_read_names h) (has_read_names b) (ap has_read_names (sym x.0) ∙ named) in
    and_from (has_read_names h) (has_read_names (nested (leaves b))) parts.0 (names-body b parts.1)
names-nested t Three h ts b x named =
    let parts =
    and_parts (has_read_names h) (has_read_names x.0 && has_read_names b) (ap has_read_names (sym x.1) ∙ named) in
    let behind = and_parts (has_read_names x.0) (has_read_names b) parts.1 in
    and_from (has_read_names h) (has_read_names (guard_term ts) && has_read_names (nested (leaves b))) parts.0
    (and_from (has_read_names (guard_term ts)) (has_read_names (nested (leaves b))) (names-guard x.0 ts x.2 behind.0)
    (names-body b behind.1))

-- nested to the right, it is a clause that can be read back where it is within the limits
readable : (t : Tree) (f : Form) (h : Tree) (ts : List GuardTest) (b whole : Tree) → IsPattern t → IsTrue (has_read_names t)
    → IsShaped t f h ts b → whole ≡ clause_of_form f h (guard_term ts) (nested (leaves b)) → Fits whole
    → opened Alone whole ≤ most_brackets → IsReadable whole
readable t f h ts b whole pattern names shaped is fits few =
    let same : variables whole ≡ variables t = ap variables is ∙ variables-nested t f h ts b shaped in
    record {
      pattern = record {
        template = record { fits = fits; few = omega (arith, ap length same, pattern.template.few) };
        numbered = same ∙ pattern.numbered ∙ ap (λ vs. range_with_len 0 (length vs)) (sym same);
      };
      few_open = few;
      names = ap has_read_names is ∙ names-nested t f h ts b shaped names;
    }

-- so it is a rule
pub is_rule : (t a b u : Tree) (r : Rule) → IsPattern t → IsTrue (has_read_names t)
    → IsShaped t r.form (of_one (op_name r.op) a) r.guard b → a ≡ r.head → map (goal_term r.form) r.goals ≡ leaves b
    → r.vars ≡ length (variables t) → length r.goals ≤ MOST_GOALS
    → u ≡ clause_of_form r.form (of_one (op_name r.op) a) (guard_term r.guard) (nested (leaves b)) → Fits u
    → opened Alone u ≤ most_brackets → IsRule r
is_rule t a b u r pattern names shaped head goals vars most eu fits few =
    let h = of_one (op_name r.op) a in
    let same : u ≡ clause_term r = eu ∙ clause-nested r a (leaves b) head (sym goals) in
    let read : IsReadable u = readable t r.form h r.guard b u pattern names shaped eu fits few in
    record {
      some = omega (arith, leaves-some b, ap length goals, length-map r.goals (goal_term r.form));
      most = most;
      guard = few_tests t r.form h r.guard b shaped;
      clause = subst IsReadable same read;
      vars = vars ∙ ap length (sym (variables-nested t r.form h r.guard b shaped) ∙ ap variables (sym eu ∙ same));
    }
