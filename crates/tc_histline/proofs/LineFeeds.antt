-- No line feed stands in names, terms and texts in quotes as they are written.
use Rattle.std.proofs.Common.{◌≡◌, ◌≢◌, ◌<◌, ◌≤◌, ◌-◌, ◌+◌, ◌^◌, ◌==◌, ◌&&◌, ℕ, ℤ, pos, negsuc, suc, Bool, true, false, not, List, [], ◌∷◌, ◌++◌, codes, get_or, FitsSigned, refl, sym, ap, subst, ◌∙◌, arith}
use Rattle.std.specs.Fmt.{decimal, signed_decimal}
use Rattle.std.specs.Int.{IsInRange}
use Rattle.std.specs.List.{flat_map, list_all}
use Rattle.std.proofs.lemmas.Bool.{and_parts, cond_both}
use Rattle.std.proofs.lemmas.Fmt.{decimal_is_IsNumeral}
use Rattle.std.proofs.lemmas.List.Elements.{All-append, All-cons}
use Rattle.std.proofs.lemmas.List.Sums.{AllPass-from_list_all}
use Rattle.std.proofs.lemmas.Option.{same_Some, slice_get-get_or}
use Rattle.std.proofs.lemmas.Str.Parse.{digit_at}
use Rattle.tc_lists.specs.Texts.{joined}
use mir.Syntax.{w64}
use Rattle.tc_term.specs.Bytes.{is_word, is_name_start}
use Rattle.tc_term.specs.Text.{Place, Alone, Behind, applied, atom_text, before_element, canonical, empty_list, is_dot, is_name, is_nil, name_text, placed, quoted, quoted_byte, text_in, texts_of}
use Rattle.tc_term.specs.Tree.{Tree, Variable, Atomic, Number, Compound, Trees, Last, More, HasIntegers, HaveIntegers, IsTuple}
use Rattle.tc_term.specs.Variables.{IsPattern, var_bound, var_bound_of_all}
use Rattle.tc_term.proofs.Numbered.{IsPattern-tuple, renumbered-pattern, var_bound-pattern}
use Rattle.tc_read.proofs.Texts.{text_in-Atomic, text_in-Compound, text_in-Number, text_in-Variable, text_in-cell, text_in-nil, texts_of-Last, texts_of-More}
use Rattle.tc_histline.specs.Lines.{HasNoFeed}

-- words and digits

abbrev no_feed : ℕ → Bool
no_feed b = not (b == 10)

-- a text that can be looked through
pub feedless : (bytes : List ℕ) → list_all no_feed bytes ≡ true → HasNoFeed bytes
feedless bytes all k d inside same =
    let no : false ≡ true = sym (ap no_feed same) ∙ AllPass-from_list_all no_feed bytes all k d inside in
    cc

pub feedless-append : (a b : List ℕ) → HasNoFeed a → HasNoFeed b → HasNoFeed (a ++ b)
feedless-append a b = All-append (λ c. c ≢ 10) a b

pub feedless-decimal : (n : ℕ) → n < 2 ^ 64 → HasNoFeed (decimal n)
feedless-decimal n small k d inside same =
    let of_n = decimal_is_IsNumeral n small in
    let digit : IsInRange 48 57 (get_or (decimal n) k 0) = digit_at (decimal n) k of_n.0.1 inside in
    let one : get_or (decimal n) k 0 ≡ get_or (decimal n) k d =
    same_Some (get_or (decimal n) k 0) (get_or (decimal n) k d) (sym (slice_get-get_or (decimal n) k 0 inside) ∙ slice_get-get_or (decimal n) k d inside) in
    omega (arith, digit, one, same)

feedless-signed : (z : ℤ) → FitsSigned w64 z → HasNoFeed (signed_decimal z)
feedless-signed (pos n) fits = feedless-decimal n (omega (arith, fits))
feedless-signed (negsuc n) fits = feedless-append (codes "-") (decimal (suc n)) (feedless (codes "-") refl) (feedless-decimal (suc n) (omega (arith, fits)))

-- texts in quotes

feedless-quoted_byte : (b : ℕ) → HasNoFeed (quoted_byte b)
feedless-quoted_byte b =
    cond_both (b == 39) (codes "\\'") _ HasNoFeed (λ e. feedless (codes "\\'") refl) (λ e.
    cond_both (b == 92) (codes "\\\\") _ HasNoFeed (λ e. feedless (codes "\\\\") refl) (λ e.
    cond_both (b == 10) (codes "\\n") _ HasNoFeed (λ e. feedless (codes "\\n") refl) (λ other.
    cond_both (b == 9) (codes "\\t") (b ∷ []) HasNoFeed (λ e. feedless (codes "\\t") refl) (λ e.
    feedless (b ∷ []) (ap (λ p. not p && true) other)))))

feedless-quoted_bytes : (bytes : List ℕ) → HasNoFeed (flat_map quoted_byte bytes)
feedless-quoted_bytes [] = feedless [] refl
feedless-quoted_bytes (b ∷ s) = feedless-append (quoted_byte b) (flat_map quoted_byte s) (feedless-quoted_byte b) (feedless-quoted_bytes s)

pub feedless-quoted : (bytes : List ℕ) → HasNoFeed (quoted bytes)
feedless-quoted bytes =
    feedless-append (codes "'" ++ flat_map quoted_byte bytes) (codes "'")
    (feedless-append (codes "'") (flat_map quoted_byte bytes) (feedless (codes "'") refl) (feedless-quoted_bytes bytes))
    (feedless (codes "'") refl)

-- names

feedless-words : (bytes : List ℕ) → list_all is_word bytes ≡ true → HasNoFeed bytes
feedless-words bytes all k d inside same =
    let no : false ≡ true = sym (ap is_word same) ∙ AllPass-from_list_all is_word bytes all k d inside in
    cc

start_no_feed : (b : ℕ) → is_name_start b ≡ true → b ≢ 10
start_no_feed b start same = let no : false ≡ true = sym (ap is_name_start same) ∙ start in cc

feedless-name : (name : List ℕ) → is_name name ≡ true → HasNoFeed name
feedless-name [] is = feedless [] refl
feedless-name (b ∷ s) is =
    let parts = and_parts (is_name_start b) (list_all is_word s) is in
    All-cons (λ c. c ≢ 10) b s (start_no_feed b parts.0) (feedless-words s parts.1)

feedless-name_text : (name : List ℕ) → HasNoFeed (name_text name)
feedless-name_text name = cond_both (is_name name) name (quoted name) HasNoFeed (feedless-name name) (λ e. feedless-quoted name)

pub feedless-atom : (name : List ℕ) → HasNoFeed (atom_text name)
feedless-atom name = cond_both (is_nil name) (codes "[]") (name_text name) HasNoFeed (λ e. feedless (codes "[]") refl) (λ e. feedless-name_text name)

-- terms

feedless-placed : (place : Place) (text : List ℕ) → HasNoFeed text → HasNoFeed (placed place text)
feedless-placed Alone text is = is
feedless-placed Behind text is =
    feedless-append (codes "|" ++ text) (codes "]") (feedless-append (codes "|") text (feedless (codes "|") refl) is) (feedless (codes "]") refl)

feedless-empty : (place : Place) → HasNoFeed (empty_list place)
feedless-empty Alone = feedless (codes "[]") refl
feedless-empty Behind = feedless (codes "]") refl

feedless-before : (place : Place) → HasNoFeed (before_element place)
feedless-before Alone = feedless (codes "[") refl
feedless-before Behind = feedless (codes ",") refl

feedless-applied : (name arguments : List ℕ) → HasNoFeed arguments → HasNoFeed (applied name arguments)
feedless-applied name arguments is =
    feedless-append ((name_text name ++ codes "(") ++ arguments) (codes ")")
    (feedless-append (name_text name ++ codes "(") arguments (feedless-append (name_text name) (codes "(") (feedless-name_text name) (feedless (codes "(") refl)) is)
    (feedless (codes ")") refl)

-- a compound of two arguments, of which these are the texts in their places
feedless-pair : (place : Place) (name : List ℕ) (t u : Tree) → HasNoFeed (text_in Alone t) → HasNoFeed (text_in Behind u) → HasNoFeed (texts_of (More t (Last u)))
    → HasNoFeed (text_in place (Compound name (More t (Last u))))
feedless-pair place name t u first second both = by (is_dot name) refl
  where
    by : (p : Bool) → is_dot name ≡ p → HasNoFeed (text_in place (Compound name (More t (Last u))))
    by true e = subst HasNoFeed (sym (text_in-cell place name t u e))
        (feedless-append (before_element place ++ text_in Alone t) (text_in Behind u)
        (feedless-append (before_element place) (text_in Alone t) (feedless-before place) first) second)
    by false e = subst HasNoFeed (sym (text_in-Compound place name (More t (Last u)) e))
        (feedless-placed place (applied name (texts_of (More t (Last u)))) (feedless-applied name (texts_of (More t (Last u))) both))

atomic : (place : Place) (name : List ℕ) → HasNoFeed (text_in place (Atomic name))
atomic place name = by (is_nil name) refl
  where
    by : (p : Bool) → is_nil name ≡ p → HasNoFeed (text_in place (Atomic name))
    by true e = subst HasNoFeed (sym (text_in-nil place name e)) (feedless-empty place)
    by false e = subst HasNoFeed (sym (text_in-Atomic place name e)) (feedless-placed place (name_text name) (feedless-name_text name))

mutual
  feedless-text : (place : Place) (t : Tree) → var_bound t ≤ 256 → HasIntegers t → HasNoFeed (text_in place t)
  feedless-text place (Variable n) few is =
      subst HasNoFeed (sym (text_in-Variable place n))
      (feedless-placed place (95 ∷ decimal n) (feedless-append (codes "_") (decimal n) (feedless (codes "_") refl) (feedless-decimal n (omega (arith, few)))))
  feedless-text place (Atomic name) few is = atomic place name
  feedless-text place (Number z) few is =
      subst HasNoFeed (sym (text_in-Number place z)) (feedless-placed place (signed_decimal z) (feedless-signed z is))
  feedless-text place (Compound name (Last t)) few is =
      subst HasNoFeed (sym (text_in-Compound place name (Last t) refl))
      (feedless-placed place (applied name (texts_of (Last t))) (feedless-applied name (texts_of (Last t)) (feedless-texts (Last t) few is)))
  feedless-text place (Compound name (More t (Last u))) few is =
      feedless-pair place name t u (feedless-text Alone t (omega (arith, few)) is.0) (feedless-text Behind u (omega (arith, few)) is.1)
      (feedless-texts (More t (Last u)) few is)
  feedless-text place (Compound name (More t (More u us))) few is =
      subst HasNoFeed (sym (text_in-Compound place name (More t (More u us)) refl))
      (feedless-placed place (applied name (texts_of (More t (More u us)))) (feedless-applied name (texts_of (More t (More u us))) (feedless-texts (More t (More u us)) few is)))

  feedless-texts : (ts : Trees) → var_bound_of_all ts ≤ 256 → HaveIntegers ts → HasNoFeed (texts_of ts)
  feedless-texts (Last t) few is = subst HasNoFeed (sym (texts_of-Last t)) (feedless-text Alone t few is)
  feedless-texts (More t ts) few is =
      subst HasNoFeed (sym (texts_of-More t ts))
      (feedless-append (text_in Alone t ++ codes ",") (texts_of ts)
      (feedless-append (text_in Alone t) (codes ",") (feedless-text Alone t (omega (arith, few)) is.0) (feedless (codes ",") refl))
      (feedless-texts ts (omega (arith, few)) is.1))

pub feedless-pattern : (t : Tree) → IsPattern t → HasNoFeed (canonical t)
feedless-pattern t is =
    subst (λ u. HasNoFeed (text_in Alone u)) (sym (renumbered-pattern t is))
    (feedless-text Alone t (omega (arith, var_bound-pattern t is, is.template.few)) is.template.fits.integers)

pub feedless-tuple : (t : Tree) → IsTuple t → HasNoFeed (canonical t)
feedless-tuple t is = feedless-pattern t (IsPattern-tuple t is)

-- parts, one behind another

abbrev pub HaveNoFeed : List (List ℕ) → Type 0
HaveNoFeed [] = Unit {0}
HaveNoFeed (p ∷ ps) = HasNoFeed p × HaveNoFeed ps

pub feedless-joined : (ps : List (List ℕ)) → HaveNoFeed ps → HasNoFeed (joined ps)
feedless-joined [] all = feedless [] refl
feedless-joined (p ∷ ps) all = feedless-append p (joined ps) all.0 (feedless-joined ps all.1)
