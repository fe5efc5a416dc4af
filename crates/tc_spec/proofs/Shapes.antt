-- A term is shaped as a clause in one way at most.
use Rattle.std.proofs.Common.{◌≡◌, ◌≤◌, ℕ, List, [], ◌∷◌, true, false, if◌then◌else◌, length, map, refl, ap, sym, subst, ◌∙◌, codes, arith}
use Rattle.std.specs.Str.{bytes_eq}
use Rattle.tc_term.specs.Tree.{Tree, Atomic}
use Rattle.tc_model.specs.Reactions.{IsGuard, of_two, of_three, test_term, guard_term, clause_of_form}
use Rattle.tc_model.specs.declared.reactions.Form.{Form}
use Rattle.tc_model.specs.declared.reactions.Form.TheVariants.{Two, Three}
use Rattle.tc_model.specs.declared.reactions.GuardTest.{GuardTest}
use Rattle.tc_model.specs.declared.reactions.GuardTest.TheVariants.{Request, Response, Success, Failure}
use Rattle.tc_spec.specs.Written.{IsGuardOf, IsShaped, leaves}

-- the test of a name, and of the term that it is written as
abbrev test_of : List ℕ → GuardTest
test_of name =
    if bytes_eq name (codes "request") then Request
    else (if bytes_eq name (codes "response") then Response
    else (if bytes_eq name (codes "success") then Success else Failure))

abbrev name_in : Tree → List ℕ
name_in (Atomic name) = name
name_in _ = []

test_of-term : (t : GuardTest) → test_of (name_in (test_term t)) ≡ t
test_of-term Request = refl
test_of-term Response = refl
test_of-term Success = refl
test_of-term Failure = refl

-- tests that are written the same are the same
tests_of-terms : (ts : List GuardTest) → map (λ t. test_of (name_in t)) (map test_term ts) ≡ ts
tests_of-terms [] = refl
tests_of-terms (t ∷ ts) =
    ap (λ u. u ∷ map (λ t. test_of (name_in t)) (map test_term ts)) (test_of-term t) ∙ ap (λ us. t ∷ us) (tests_of-terms ts)

test_terms-injective : (ts us : List GuardTest) → map test_term ts ≡ map test_term us → ts ≡ us
test_terms-injective ts us same = sym (tests_of-terms ts) ∙ ap (map (λ t. test_of (name_in t))) same ∙ tests_of-terms us

-- `true` is no test
first_of : (s t : Tree) (ss ts : List Tree) → s ∷ ss ≡ t ∷ ts → s ≡ t
first_of s t ss ts same = cc

not_true : (t : GuardTest) → bytes_eq (name_in (test_term t)) (codes "true") ≡ false
not_true Request = refl
not_true Response = refl
not_true Success = refl
not_true Failure = refl

pub no_test : (g : Tree) (t : GuardTest) (ts : List GuardTest) → g ≡ Atomic (codes "true") → leaves g ≡ map test_term (t ∷ ts) → ⊥
no_test g t ts is leaf =
    let same : Atomic (codes "true") ≡ test_term t =
    first_of (Atomic (codes "true")) (test_term t) [] (map test_term ts) (sym (ap leaves is) ∙ leaf) in
    let never : true ≡ false = ap (λ u. bytes_eq (name_in u) (codes "true")) same ∙ not_true t in
    cc

-- a term is a guard of one list of tests at most
pub one_guard : (g : Tree) (ts us : List GuardTest) → IsGuardOf g ts → IsGuardOf g us → ts ≡ us
one_guard g [] [] x y = refl
one_guard g [] (u ∷ us) x y = absurd (no_test g u us x y.0)
one_guard g (t ∷ ts) [] x y = absurd (no_test g t ts y x.0)
one_guard g (t ∷ ts) (u ∷ us) x y = test_terms-injective (t ∷ ts) (u ∷ us) (sym x.0 ∙ y.0)

-- two ways in which a term is shaped are the same
pub record AreSame (f e : Form) (h k : Tree) (ts us : List GuardTest) (b d : Tree) : Type 0 where
  pub form : f ≡ e
  pub head : h ≡ k
  pub guard : ts ≡ us
  pub body : b ≡ d

two_head : (n : List ℕ) (h b k d : Tree) → of_two n h b ≡ of_two n k d → h ≡ k
two_head n h b k d same = cc

two_body : (n : List ℕ) (h b k d : Tree) → of_two n h b ≡ of_two n k d → b ≡ d
two_body n h b k d same = cc

three_head : (n : List ℕ) (h g b k e d : Tree) → of_three n h g b ≡ of_three n k e d → h ≡ k
three_head n h g b k e d same = cc

three_guard : (n : List ℕ) (h g b k e d : Tree) → of_three n h g b ≡ of_three n k e d → g ≡ e
three_guard n h g b k e d same = cc

three_body : (n : List ℕ) (h g b k e d : Tree) → of_three n h g b ≡ of_three n k e d → b ≡ d
three_body n h g b k e d same = cc

two_three : (n : List ℕ) (h b k g d : Tree) → of_two n h b ≡ of_three n k g d → ⊥
two_three n h b k g d same = cc

pub one_shape : (t : Tree) (f e : Form) (h k : Tree) (ts us : List GuardTest) (b d : Tree) → IsShaped t f h ts b
    → IsShaped t e k us d → AreSame f e h k ts us b d
one_shape t Two Two h k ts us b d x y = record {
  form = refl;
  head = two_head (codes "reaction") h b k d (sym x.0 ∙ y.0);
  guard = x.1 ∙ sym y.1;
  body = two_body (codes "reaction") h b k d (sym x.0 ∙ y.0);
}
one_shape t Two Three h k ts us b d x y = absurd (two_three (codes "reaction") h b k y.0 d (sym x.0 ∙ y.1))
one_shape t Three Two h k ts us b d x y = absurd (two_three (codes "reaction") k d h x.0 b (sym y.0 ∙ x.1))
one_shape t Three Three h k ts us b d x y =
    let same : of_three (codes "reaction") h x.0 b ≡ of_three (codes "reaction") k y.0 d = sym x.1 ∙ y.1 in
    let guards : x.0 ≡ y.0 = three_guard (codes "reaction") h x.0 b k y.0 d same in
    record {
      form = refl;
      head = three_head (codes "reaction") h x.0 b k y.0 d same;
      guard = one_guard y.0 ts us (subst (λ g. IsGuardOf g ts) guards x.2) y.2;
      body = three_body (codes "reaction") h x.0 b k y.0 d same;
    }

pub same_parts : (f e : Form) (h k g i b d : Tree) → f ≡ e → h ≡ k → g ≡ i → b ≡ d → clause_of_form f h g b ≡ clause_of_form e k i d
same_parts f e h k g i b d form head guard body =
    ap (λ o. clause_of_form o h g b) form ∙ ap (λ o. clause_of_form e o g b) head
    ∙ ap (λ o. clause_of_form e k o b) guard ∙ ap (clause_of_form e k i) body

-- it has few enough tests, or none
pub few_tests : (t : Tree) (f : Form) (h : Tree) (ts : List GuardTest) (b : Tree) → IsShaped t f h ts b → IsGuard f ts
few_tests t Two h ts b x = x.1
few_tests t Three h [] b x = omega arith
few_tests t Three h (u ∷ us) b x = x.2.1

-- a guard of few enough tests is a guard of them
leaves-guard : (t : GuardTest) (ts : List GuardTest) → leaves (guard_term (t ∷ ts)) ≡ map test_term (t ∷ ts)
leaves-guard t [] = refl
leaves-guard t (u ∷ us) = ap (λ ts. test_term t ∷ ts) (leaves-guard u us)

guard_of-term : (ts : List GuardTest) → length ts ≤ 16 → IsGuardOf (guard_term ts) ts
guard_of-term [] few = refl
guard_of-term (t ∷ ts) few = (leaves-guard t ts, few)

pub shaped : (f : Form) (h : Tree) (ts : List GuardTest) (b : Tree) → IsGuard f ts → IsShaped (clause_of_form f h (guard_term ts) b) f h ts b
shaped Two h ts b none = (refl, none)
shaped Three h ts b few = (guard_term ts, refl, guard_of-term ts few)
