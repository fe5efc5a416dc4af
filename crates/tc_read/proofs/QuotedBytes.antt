use Rattle.std.proofs.Common.{◌≡◌, ◌≢◌, ℕ, ◌-◌, ◌≤◌, ◌⊎◌, inl, inr, Bool, true, false, ◌==◌, if◌then◌else◌, List, [], ◌∷◌, ◌++◌, length, drop, Some, None, refl, sym, ◌∙◌, ap, subst, arith}
use Rattle.std.specs.Prelude.{is_some, codes}
use Rattle.std.specs.List.{flat_map}
use Rattle.std.proofs.lemmas.Grind.{flat_map-append}
use Rattle.std.proofs.lemmas.List.{append_assoc, append-nil, length-append, length-drop}
use Rattle.tc_term.specs.Tokens.{escape}
use Rattle.tc_term.specs.Text.{quoted, quoted_byte}
use Rattle.tc_read.specs.Views.{meant}
use Rattle.tc_read.specs.Written.{IsQuotedAt}
use Rattle.std.proofs.lemmas.Bool.{eqb-true, eqb-false, ne_eqb}
use Rattle.tc_lists.proofs.Parts.{cons_head, cons_tail}

-- How a byte is written between quotes.

-- behind a backslash, or as it is
pub data Form (b : ℕ) : Type 0 where
  escaped : (c : ℕ) → quoted_byte b ≡ 92 ∷ c ∷ [] → meant c ≡ b → is_some (escape c) ≡ true → Form b
  plain : quoted_byte b ≡ b ∷ [] → b ≢ 39 → b ≢ 92 → b ≢ 10 → b ≢ 9 → Form b

at_byte : (b n : ℕ) → b ≡ n → Form n → Form b
at_byte b n e f = subst Form (sym e) f

pub form : (b : ℕ) → Form b
form b = by (b == 39) (b == 92) (b == 10) (b == 9) refl refl refl refl
  where
    by : (p q r s : Bool) → (b == 39) ≡ p → (b == 92) ≡ q → (b == 10) ≡ r → (b == 9) ≡ s → Form b
    by true q r s i j k l = at_byte b 39 (eqb-true b 39 i) (escaped 39 refl refl refl)
    by false true r s i j k l = at_byte b 92 (eqb-true b 92 j) (escaped 92 refl refl refl)
    by false false true s i j k l = at_byte b 10 (eqb-true b 10 k) (escaped 110 refl refl refl)
    by false false false true i j k l = at_byte b 9 (eqb-true b 9 l) (escaped 116 refl refl refl)
    by false false false false i j k l = plain
        (ap (λ t. if t then codes "\\'" else (if b == 92 then codes "\\\\" else (if b == 10 then codes "\\n" else (if b == 9 then codes "\\t" else b ∷ [])))) i
        ∙ ap (λ t. if t then codes "\\\\" else (if b == 10 then codes "\\n" else (if b == 9 then codes "\\t" else b ∷ []))) j
        ∙ ap (λ t. if t then codes "\\n" else (if b == 9 then codes "\\t" else b ∷ [])) k
        ∙ ap (λ t. if t then codes "\\t" else b ∷ []) l)
        (eqb-false b 39 i) (eqb-false b 92 j) (eqb-false b 10 k) (eqb-false b 9 l)

-- the front of a written byte
front : (b : ℕ) (s r : List ℕ) → quoted_byte b ≡ s → quoted_byte b ++ r ≡ s ++ r
front b s r e = ap (λ x. x ++ r) e

pub no_quote : (b : ℕ) (r t : List ℕ) → 39 ∷ t ≡ quoted_byte b ++ r → ⊥
no_quote b r t e = by (form b)
  where
    by : Form b → ⊥
    by (escaped c q m k) = let x = cons_head (e ∙ front b (92 ∷ c ∷ []) r q) in omega arith
    by (plain q n w x y) = n (sym (cons_head (e ∙ front b (b ∷ []) r q)))

pub plain_byte : (b : ℕ) → b ≢ 39 → b ≢ 92 → b ≢ 10 → b ≢ 9 → quoted_byte b ≡ b ∷ []
plain_byte b i j k l =
    ap (λ t. if t then codes "\\'" else (if b == 92 then codes "\\\\" else (if b == 10 then codes "\\n" else (if b == 9 then codes "\\t" else b ∷ [])))) (ne_eqb b 39 i)
    ∙ ap (λ t. if t then codes "\\\\" else (if b == 10 then codes "\\n" else (if b == 9 then codes "\\t" else b ∷ []))) (ne_eqb b 92 j)
    ∙ ap (λ t. if t then codes "\\n" else (if b == 9 then codes "\\t" else b ∷ [])) (ne_eqb b 10 k)
    ∙ ap (λ t. if t then codes "\\t" else b ∷ []) (ne_eqb b 9 l)

pub escaped_byte : (c : ℕ) → is_some (escape c) ≡ true → quoted_byte (meant c) ≡ 92 ∷ c ∷ []
escaped_byte c e = by (c == 39) (c == 92) (c == 110) (c == 116) refl refl refl refl e
  where
    at : (n : ℕ) → c ≡ n → quoted_byte (meant n) ≡ 92 ∷ n ∷ [] → quoted_byte (meant c) ≡ 92 ∷ c ∷ []
    at n i h = subst (λ x. quoted_byte (meant x) ≡ 92 ∷ x ∷ []) (sym i) h

    by : (p q r s : Bool) → (c == 39) ≡ p → (c == 92) ≡ q → (c == 110) ≡ r → (c == 116) ≡ s
        → is_some {T = ℕ} (if p then Some 39 else (if q then Some 92 else (if r then Some 10 else (if s then Some 9 else None)))) ≡ true → quoted_byte (meant c) ≡ 92 ∷ c ∷ []
    by true q r s i j k l e = at 39 (eqb-true c 39 i) refl
    by false true r s i j k l e = at 92 (eqb-true c 92 j) refl
    by false false true s i j k l e = at 110 (eqb-true c 110 k) refl
    by false false false true i j k l e = at 116 (eqb-true c 116 l) refl
    by false false false false i j k l e = cc

-- behind a backslash stands a byte that may be escaped
pub backslash : (b c : ℕ) (r t : List ℕ) → 92 ∷ c ∷ t ≡ quoted_byte b ++ r → is_some (escape c) ≡ true
backslash b c r t e = by (form b)
  where
    by : Form b → is_some (escape c) ≡ true
    by (escaped d q m k) = let x : c ≡ d = cons_head (cons_tail (e ∙ front b (92 ∷ d ∷ []) r q)) in ap (λ y. is_some (escape y)) x ∙ k
    by (plain q n w x y) = absurd (w (sym (cons_head (e ∙ front b (b ∷ []) r q))))

pub backslash_end : (b : ℕ) (r : List ℕ) → 92 ∷ [] ≡ quoted_byte b ++ r → ⊥
backslash_end b r e = by (form b)
  where
    by : Form b → ⊥
    by (escaped d q m k) = let x = cons_tail (e ∙ front b (92 ∷ d ∷ []) r q) in cc
    by (plain q n w x y) = w (sym (cons_head (e ∙ front b (b ∷ []) r q)))

-- a line feed and a tab aren't written as they are
pub no_raw : (a b : ℕ) (r t : List ℕ) → (a ≡ 10) ⊎ (a ≡ 9) → a ∷ t ≡ quoted_byte b ++ r → ⊥
no_raw a b r t h e = by (form b) h
  where
    by : Form b → (a ≡ 10) ⊎ (a ≡ 9) → ⊥
    by (escaped d q m k) h = let x = cons_head (e ∙ front b (92 ∷ d ∷ []) r q) in omega arith
    by (plain q n w x y) (inl i) = x (sym (cons_head (e ∙ front b (b ∷ []) r q)) ∙ i)
    by (plain q n w x y) (inr i) = y (sym (cons_head (e ∙ front b (b ∷ []) r q)) ∙ i)

pub empty_byte : (b : ℕ) (r : List ℕ) → [] ≡ quoted_byte b ++ r → ⊥
empty_byte b r e = by (form b)
  where
    by : Form b → ⊥
    by (escaped d q m k) = let x = e ∙ front b (92 ∷ d ∷ []) r q in cc
    by (plain q n w x y) = let z = e ∙ front b (b ∷ []) r q in cc

-- no two bytes are written alike
pub written_same : (b d : ℕ) (r t : List ℕ) → quoted_byte b ++ r ≡ quoted_byte d ++ t → r ≡ t
written_same b d r t e = by (form b) (form d)
  where
    by : Form b → Form d → r ≡ t
    by (escaped c q m k) (escaped c' q' m' k') = cons_tail (cons_tail (sym (front b (92 ∷ c ∷ []) r q) ∙ e ∙ front d (92 ∷ c' ∷ []) t q'))
    by (escaped c q m k) (plain q' n w x y) = absurd (w (sym (cons_head (sym (front b (92 ∷ c ∷ []) r q) ∙ e ∙ front d (d ∷ []) t q'))))
    by (plain q n w x y) (escaped c' q' m' k') = absurd (w (cons_head (sym (front b (b ∷ []) r q) ∙ e ∙ front d (92 ∷ c' ∷ []) t q')))
    by (plain q n w x y) (plain q' n' w' x' y') = cons_tail (sym (front b (b ∷ []) r q) ∙ e ∙ front d (d ∷ []) t q')

-- What the loop keeps: the bytes so far are written before the rest, and any bytes that are written there go on with it.
pub record Unquotes (text rest bytes : List ℕ) : Type 0 where
  pub split : text ≡ flat_map quoted_byte bytes ++ rest
  pub only : (all r : List ℕ) → text ≡ flat_map quoted_byte all ++ 39 ∷ r → (more : List ℕ) × (rest ≡ flat_map quoted_byte more ++ 39 ∷ r)

pub unquotes_first : (text : List ℕ) → Unquotes text text []
unquotes_first text = record { split = refl; only = λ all r e. (all, e) }

pub unquotes_next : (text rest after bytes new : List ℕ) (b : ℕ) → new ≡ bytes ++ b ∷ [] → Unquotes text rest bytes → rest ≡ quoted_byte b ++ after → Unquotes text after new
unquotes_next text rest after bytes new b is u e = record {
  split = u.split ∙ ap (λ x. flat_map quoted_byte bytes ++ x) e ∙ sym (append_assoc (flat_map quoted_byte bytes) (quoted_byte b) after)
      ∙ ap (λ x. flat_map quoted_byte bytes ++ x ++ after) (sym (append-nil (quoted_byte b)))
      ∙ ap (λ x. x ++ after) (sym (flat_map-append quoted_byte bytes (b ∷ []))) ∙ ap (λ x. flat_map quoted_byte x ++ after) (sym is);
  only = λ all r h. let m = u.only all r h in by m.0 r m.1;
}
  where
    by : (more r : List ℕ) → rest ≡ flat_map quoted_byte more ++ 39 ∷ r → (more : List ℕ) × (after ≡ flat_map quoted_byte more ++ 39 ∷ r)
    by [] r h = absurd (no_quote b after r (sym h ∙ e))
    by (c ∷ more) r h = (more, written_same b c after (flat_map quoted_byte more ++ 39 ∷ r) (sym e ∙ h ∙ append_assoc (quoted_byte c) (flat_map quoted_byte more) (39 ∷ r)))

pub unquotes_none : (text rest bytes : List ℕ) → Unquotes text rest bytes → ((r : List ℕ) → rest ≡ 39 ∷ r → ⊥) × ((b : ℕ) (r : List ℕ) → rest ≡ quoted_byte b ++ r → ⊥) → (all r : List ℕ) → text ≡ flat_map quoted_byte all ++ 39 ∷ r → ⊥
unquotes_none text rest bytes u fault all r e = let m = u.only all r e in by m.0 m.1
  where
    by : (more : List ℕ) → rest ≡ flat_map quoted_byte more ++ 39 ∷ r → ⊥
    by [] h = fault.0 r h
    by (c ∷ more) h = fault.1 c (flat_map quoted_byte more ++ 39 ∷ r) (h ∙ append_assoc (quoted_byte c) (flat_map quoted_byte more) (39 ∷ r))

-- the text from a quote on
pub quoted_split : (bytes r : List ℕ) → quoted bytes ++ r ≡ 39 ∷ (flat_map quoted_byte bytes ++ 39 ∷ r)
quoted_split bytes r = ap (λ x. 39 ∷ x) (append_assoc (flat_map quoted_byte bytes) (39 ∷ []) r)

pub quoted_at : (text after bytes rest : List ℕ) (from behind : ℕ) → from ≤ length text → drop from text ≡ 39 ∷ after → Unquotes after (39 ∷ rest) bytes → behind ≡ length text - length rest → IsQuotedAt text from bytes behind
quoted_at text after bytes rest from behind h e u p =
    let stands : drop from text ≡ quoted bytes ++ rest = e ∙ ap (λ x. 39 ∷ x) u.split ∙ sym (quoted_split bytes rest) in
    record { rest = rest; stands = stands; place = omega (arith, ap length stands, length-append (quoted bytes) rest, length-drop from text) }

pub quote_first : (bytes r after : List ℕ) → 39 ∷ after ≡ quoted bytes ++ r → after ≡ flat_map quoted_byte bytes ++ 39 ∷ r
quote_first bytes r after e = cons_tail (e ∙ quoted_split bytes r)
