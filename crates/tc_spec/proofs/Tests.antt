-- Guards: their leaves as tests, and what their tests allow.
use Rattle.std.proofs.Common.{◌≡◌, ◌≤◌, ◌<◌, ◌↔◌, ℕ, List, [], ◌∷◌, ◌++◌, All, Bool, true, false, IsTrue, Result, Ok, Err, IfOk, length, map, get_or, refl, ap, sym, subst, ◌∙◌, codes, arith}
use Rattle.std.proofs.lemmas.List.{append_assoc, map-append}
use Rattle.std.proofs.lemmas.List.Elements.{All-nil, All-cons, All-head, All-push}
use Rattle.tc_lists.proofs.Elements.{All-append_left, All-append_right}
use Rattle.tc_term.specs.Tree.{Tree, Atomic}
use Rattle.tc_model.specs.Events.{Occurrence}
use Rattle.tc_model.specs.Reactions.{test_term}
use Rattle.tc_model.specs.Triggers.{Holds}
use Rattle.tc_model.specs.declared.events.EventOp.TheVariants as op
use Rattle.tc_model.specs.declared.events.Phase.{Phase}
use Rattle.tc_model.specs.declared.events.Sign.{Sign}
use Rattle.tc_model.specs.declared.limits.TheConstants.{MOST_TESTS}
use Rattle.tc_model.specs.declared.reactions.GuardTest.{GuardTest}
use Rattle.tc_model.specs.declared.reactions.GuardTest.TheVariants.{Request, Response, Success, Failure}
use Rattle.tc_spec.proofs.Commas.{leaves-other, leaves-pair, leaves-some}
use Rattle.tc_spec.specs.Guards.{Allows, Forbids, IsTestTerm}
use Rattle.tc_spec.specs.Written.{IsGuardOf, IsNoTwo, IsTwo, leaves}

-- the tests of both sides, one behind another
pub tests_pair : (old between new : List GuardTest) (t s u : Tree) → IsTwo (codes ",") t s u
    → map test_term between ≡ map test_term old ++ leaves s → map test_term new ≡ map test_term between ++ leaves u
    → map test_term new ≡ map test_term old ++ leaves t
tests_pair old between new t s u pair left right =
    right ∙ ap (λ ts. ts ++ leaves u) left ∙ append_assoc (map test_term old) (leaves s) (leaves u)
    ∙ ap (λ ts. map test_term old ++ ts) (sym (leaves-pair t s u pair))

-- one test more
pub tests_leaf : (old new : List GuardTest) (test : GuardTest) (t : Tree) → IsNoTwo (codes ",") t → test_term test ≡ t
    → new ≡ old ++ test ∷ [] → map test_term new ≡ map test_term old ++ leaves t
tests_leaf old new test t none same pushed =
    ap (map test_term) pushed ∙ map-append test_term old (test ∷ [])
    ∙ ap (λ (u : Tree). map test_term old ++ u ∷ []) same ∙ ap (λ ts. map test_term old ++ ts) (sym (leaves-other t none))

-- where a side has a leaf that is no test, so has the comma
pub other_left : (t s u : Tree) → IsTwo (codes ",") t s u → (All IsTestTerm (leaves s) → ⊥) → All IsTestTerm (leaves t) → ⊥
other_left t s u pair none all =
    none (All-append_left IsTestTerm (leaves s) (leaves u) (subst (All IsTestTerm) (leaves-pair t s u pair) all))

pub other_right : (t s u : Tree) → IsTwo (codes ",") t s u → (All IsTestTerm (leaves u) → ⊥) → All IsTestTerm (leaves t) → ⊥
other_right t s u pair none all =
    none (All-append_right IsTestTerm (leaves s) (leaves u) (subst (All IsTestTerm) (leaves-pair t s u pair) all))

pub other_right_by : {E : Type 0} (t s u : Tree) (x : Result Bool E) → IsTwo (codes ",") t s u
    → IfOk x (λ all. all ≡ false → All IsTestTerm (leaves u) → ⊥) → IfOk x (λ all. all ≡ false → All IsTestTerm (leaves t) → ⊥)
other_right_by t s u (Ok all) pair none = λ fails. other_right t s u pair (none fails)
other_right_by t s u (Err e) pair none = tt

pub other_leaf : (t : Tree) → IsNoTwo (codes ",") t → ((test : GuardTest) → test_term test ≡ t → ⊥) → All IsTestTerm (leaves t) → ⊥
other_leaf t none never all =
    let first = All-head IsTestTerm t [] (subst (All IsTestTerm) (leaves-other t none) all) in
    never first.0 first.1

-- a term that isn't `true` is a guard of the tests that its leaves are, if there are few enough
test_terms : (ts : List GuardTest) → All IsTestTerm (map test_term ts)
test_terms [] = All-nil IsTestTerm
test_terms (t ∷ ts) = All-cons IsTestTerm (test_term t) (map test_term ts) (t, refl) (test_terms ts)

pub guard_is : (g : Tree) (old tests : List GuardTest) → old ≡ [] → map test_term tests ≡ map test_term old ++ leaves g
    → length tests ≤ MOST_TESTS → IsGuardOf g tests
guard_is g old [] none pushed few =
    absurd (omega (arith, leaves-some g, ap length (pushed ∙ ap (λ (ts : List GuardTest). map test_term ts ++ leaves g) none)))
guard_is g old (t ∷ ts) none pushed few =
    (sym (pushed ∙ ap (λ (us : List GuardTest). map test_term us ++ leaves g) none), few)

pub untrue : (g : Tree) (b : Bool) → b ≡ false → (IsTrue b ↔ IsGuardOf g []) → IsGuardOf g [] → ⊥
untrue g b fails test is =
    let holds : b ≡ true = test.1 is in
    let never : false ≡ true = sym fails ∙ holds in
    cc

pub no_guard_other : (g : Tree) (ts : List GuardTest) → (IsGuardOf g [] → ⊥) → (All IsTestTerm (leaves g) → ⊥) → IsGuardOf g ts → ⊥
no_guard_other g [] none other is = none is
no_guard_other g (t ∷ ts) none other is = other (subst (All IsTestTerm) (sym is.0) (test_terms (t ∷ ts)))

-- a test holds of all events of one phase and sign, or of none
holds-same : (e d : Occurrence) (t : GuardTest) → e.phase ≡ d.phase → e.sign ≡ d.sign → Holds e t → Holds d t
holds-same e d Request phase sign h = sym phase ∙ h
holds-same e d Response phase sign h = sym phase ∙ h
holds-same e d Success phase sign h = sym sign ∙ h
holds-same e d Failure phase sign h = sym sign ∙ h

pub allows-held : (phase : Phase) (sign : Sign) (ts : List GuardTest) (e : Occurrence) → phase ≡ e.phase → sign ≡ e.sign
    → All (Holds e) ts → Allows phase sign ts
allows-held phase sign ts e ep es all d dp ds i t inside =
    holds-same e d (get_or ts i t) (sym ep ∙ sym dp) (sym es ∙ sym ds) (all i t inside)

pub held-allows : (phase : Phase) (sign : Sign) (ts : List GuardTest) (e : Occurrence) → phase ≡ e.phase → sign ≡ e.sign
    → Allows phase sign ts → All (Holds e) ts
held-allows phase sign ts e ep es allows = allows e (sym ep) (sym es)

pub not_held : (phase : Phase) (sign : Sign) (ts : List GuardTest) (e : Occurrence) → phase ≡ e.phase → sign ≡ e.sign
    → Forbids phase sign ts → All (Holds e) ts → ⊥
not_held phase sign ts e ep es forbids = forbids e (sym ep) (sym es)

-- what is forbidden isn't allowed
pub not_both : (phase : Phase) (sign : Sign) (ts : List GuardTest) → Forbids phase sign ts → Allows phase sign ts → ⊥
not_both phase sign ts forbids allows =
    let e : Occurrence = record { op = op.Out; term = Atomic []; phase = phase; sign = sign } in
    forbids e refl refl (allows e refl refl)

-- the tests so far, and one more
pub allows_none : (phase : Phase) (sign : Sign) (ts : List GuardTest) → ts ≡ [] → Allows phase sign ts
allows_none phase sign ts none e ep es = subst (All (Holds e)) (sym none) (All-nil (Holds e))

pub allows_more : (phase : Phase) (sign : Sign) (ts : List GuardTest) (t : GuardTest) (b : Bool) → Allows phase sign ts
    → b ≡ true → ((e : Occurrence) → e.phase ≡ phase → e.sign ≡ sign → IsTrue b ↔ Holds e t) → Allows phase sign (ts ++ t ∷ [])
allows_more phase sign ts t b allows holds test e ep es =
    All-push (Holds e) ts t (allows e ep es) ((test e ep es).0 holds)

pub forbids_by : (phase : Phase) (sign : Sign) (ts : List GuardTest) (i : ℕ) (t d : GuardTest) (b : Bool) → i < length ts
    → t ≡ get_or ts i d → b ≡ false → ((e : Occurrence) → e.phase ≡ phase → e.sign ≡ sign → IsTrue b ↔ Holds e t)
    → Forbids phase sign ts
forbids_by phase sign ts i t d b inside is fails test e ep es all =
    let holds : b ≡ true = (test e ep es).1 (subst (Holds e) (sym is) (all i d inside)) in
    let never : false ≡ true = sym fails ∙ holds in
    cc
