-- What stands behind a text: where it stands, what is taken there, and as a slice tells it.
use Rattle.std.proofs.Common.{◌≡◌, ◌≢◌, ℕ, ◌+◌, Bool, true, false, eqb, nat_eq, cond, List, [], ◌∷◌, ◌++◌, length, take, drop, Bor, Option, Some, None, option_map, sym, ap, ap₂, ◌∙◌, refl, ⊎_elim, eq-eqb, ne_eqb}
use Rattle.std.specs.Option.{MatchOption}
use Rattle.std.specs.Cmp.Lexicographic.{pointwise}
use Rattle.std.proofs.lemmas.Bool.Decides.{eqb_tells}
use Rattle.tc_lists.specs.Texts.{after}

-- behind the text stands the rest
pub after-append : (text rest : List ℕ) → after text (text ++ rest) ≡ Some rest
after-append [] rest = refl
after-append (t ∷ ts) rest = rw (eq-eqb t t refl) (after-append ts rest)

-- the bytes are the text and what stands behind it
pub after-takes : (text bytes rest : List ℕ) → after text bytes ≡ Some rest → bytes ≡ text ++ rest
after-takes [] bytes rest e = cc
after-takes (t ∷ ts) [] rest e = cc
after-takes (t ∷ ts) (b ∷ bs) rest e =
    ⊎_elim
    (λ (same : (eqb t b ≡ true) × (t ≡ b)). let more : after ts bs ≡ Some rest = rw same.0 at e in ap₂ (λ (c : ℕ) (cs : List ℕ). c ∷ cs) (sym same.1) (after-takes ts bs rest more))
    (λ (other : (eqb t b ≡ false) × (t ≢ b)). let none : None ≡ Some rest = rw other.0 at e in cc)
    (eqb_tells t b)

-- the bytes have this text as their front
abbrev is_front : List ℕ → List ℕ → Bool
is_front text bytes = pointwise nat_eq (take (length text) bytes) text

after-is_front : (text bytes : List ℕ) → after text bytes ≡ cond (is_front text bytes) (Some (drop (length text) bytes)) None
after-is_front [] bytes = refl
after-is_front (t ∷ ts) [] = refl
after-is_front (t ∷ ts) (b ∷ bs) =
    ⊎_elim
    (λ (same : (eqb t b ≡ true) × (t ≡ b)). rw (same.0, eq-eqb b t (sym same.1)) (after-is_front ts bs))
    (λ (other : (eqb t b ≡ false) × (t ≢ b)). rw (other.0, ne_eqb b t (λ e. other.1 (sym e))) refl)
    (eqb_tells t b)

-- the bytes of a lent text
abbrev pub lent : Bor (List ℕ) → List ℕ
lent text = text.now

pub strip_prefix-after : (r : Option (Bor (List ℕ))) (text bytes : List ℕ) → MatchOption r (is_front text bytes ≡ false) (λ x. (is_front text bytes ≡ true) × (x.now ≡ drop (length text) bytes) × (length x.now + length text ≡ length bytes)) → option_map lent r ≡ after text bytes
strip_prefix-after None text bytes cases = sym (after-is_front text bytes ∙ rw cases refl)
strip_prefix-after (Some x) text bytes cases = ap Some cases.1 ∙ sym (after-is_front text bytes ∙ rw cases.0 refl)
