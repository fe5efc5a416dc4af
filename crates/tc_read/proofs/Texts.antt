-- The text of a term by its form.
use Rattle.std.proofs.Common.{◌≡◌, ◌∙◌, ℕ, ℤ, Bool, true, false, if◌then◌else◌, List, [], ◌∷◌, ◌++◌, codes, refl, sym, ap}
use Rattle.std.specs.Fmt.{decimal, signed_decimal}
use Rattle.tc_term.specs.Text.{Place, Alone, Behind, applied, before_element, empty_list, is_dot, is_nil, name_text, placed, text_in, texts_of}
use Rattle.tc_term.specs.Tree.{Tree, Variable, Atomic, Number, Compound, Trees, Last, More}
use Rattle.tc_read.specs.Front.{is_barred, is_cell}

pub text_in-Variable : (place : Place) (n : ℕ) → text_in place (Variable n) ≡ placed place (95 ∷ decimal n)
unfolding text_in
text_in-Variable place n = refl

pub text_in-Number : (place : Place) (z : ℤ) → text_in place (Number z) ≡ placed place (signed_decimal z)
unfolding text_in
text_in-Number place z = refl

pub text_in-nil : (place : Place) (name : List ℕ) → is_nil name ≡ true → text_in place (Atomic name) ≡ empty_list place
unfolding text_in
text_in-nil place name e = ap (λ b. if b then empty_list place else placed place (name_text name)) e

pub text_in-Atomic : (place : Place) (name : List ℕ) → is_nil name ≡ false → text_in place (Atomic name) ≡ placed place (name_text name)
unfolding text_in
text_in-Atomic place name e = ap (λ b. if b then empty_list place else placed place (name_text name)) e

pub text_in-cell : (place : Place) (name : List ℕ) (t u : Tree) → is_dot name ≡ true →
    text_in place (Compound name (More t (Last u))) ≡ before_element place ++ text_in Alone t ++ text_in Behind u
unfolding text_in
text_in-cell place name t u e =
    ap
    (λ b. if b then before_element place ++ text_in Alone t ++ text_in Behind u
    else placed place (applied name (text_in Alone t ++ codes "," ++ text_in Alone u)))
    e

pub text_in-Compound : (place : Place) (name : List ℕ) (args : Trees) → is_cell name args ≡ false →
    text_in place (Compound name args) ≡ placed place (applied name (texts_of args))
unfolding text_in texts_of
text_in-Compound place name (Last t) e = refl
text_in-Compound place name (More t (Last u)) e =
    ap
    (λ b. if b then before_element place ++ text_in Alone t ++ text_in Behind u
    else placed place (applied name (text_in Alone t ++ codes "," ++ text_in Alone u)))
    e
text_in-Compound place name (More t (More u ts)) e = refl

pub texts_of-Last : (t : Tree) → texts_of (Last t) ≡ text_in Alone t
unfolding texts_of
texts_of-Last t = refl

pub texts_of-More : (t : Tree) (ts : Trees) → texts_of (More t ts) ≡ text_in Alone t ++ codes "," ++ texts_of ts
unfolding texts_of
texts_of-More t ts = refl

-- a term that is no list stands behind a bar
pub text_in-barred : (t : Tree) → is_barred t ≡ true → text_in Behind t ≡ 124 ∷ text_in Alone t ++ 93 ∷ []
text_in-barred (Variable n) e = text_in-Variable Behind n ∙ ap (λ x. 124 ∷ x ++ 93 ∷ []) (sym (text_in-Variable Alone n))
text_in-barred (Atomic name) e = by (is_nil name) refl
  where
    by : (p : Bool) → is_nil name ≡ p → text_in Behind (Atomic name) ≡ 124 ∷ text_in Alone (Atomic name) ++ 93 ∷ []
    by true i = let no : false ≡ true = sym (ap (λ b. if b then false else true) i) ∙ e in absurd (cc)
    by false i = text_in-Atomic Behind name i ∙ ap (λ x. 124 ∷ x ++ 93 ∷ []) (sym (text_in-Atomic Alone name i))
text_in-barred (Number z) e = text_in-Number Behind z ∙ ap (λ x. 124 ∷ x ++ 93 ∷ []) (sym (text_in-Number Alone z))
text_in-barred (Compound name args) e = by (is_cell name args) refl
  where
    by : (p : Bool) → is_cell name args ≡ p → text_in Behind (Compound name args) ≡ 124 ∷ text_in Alone (Compound name args) ++ 93 ∷ []
    by true i = let no : false ≡ true = sym (ap (λ b. if b then false else true) i) ∙ e in absurd (cc)
    by false i = text_in-Compound Behind name args i ∙ ap (λ x. 124 ∷ x ++ 93 ∷ []) (sym (text_in-Compound Alone name args i))
