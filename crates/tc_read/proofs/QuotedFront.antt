-- Quoted bytes at the front: what is written there is found, and what is found is written so.
use Rattle.std.proofs.Common.{◌≡◌, ℕ, Bool, true, false, ◌==◌, ◌||◌, if◌then◌else◌, List, [], ◌∷◌, ◌++◌, Some, None, refl, sym, ◌∙◌, ap, append_assoc}
use Rattle.std.specs.Prelude.{is_some}
use Rattle.std.specs.declared.option.Option.{Option}
use Rattle.std.specs.List.{flat_map}
use Rattle.tc_term.specs.Text.{is_name, quoted, quoted_byte}
use Rattle.tc_term.specs.Tokens.{escape}
use Rattle.tc_read.proofs.QuotedBytes.{Form, escaped, plain, form, escaped_byte, plain_byte, quote_first, quoted_split}
use Rattle.tc_read.specs.Front.{escaped_at, quoted_at, unplain, with_byte}
use Rattle.tc_read.specs.Views.{meant}
use Rattle.std.proofs.lemmas.Bool.{eqb-true, eqb-false, ne_eqb}
use Rattle.std.proofs.lemmas.Option.{same_Some}

-- what is found behind a byte
with_byte-some : (b : ℕ) (r : Option (List ℕ × List ℕ)) (bytes rest : List ℕ) → with_byte b r ≡ Some (bytes, rest)
    → (more : List ℕ) × (r ≡ Some (more, rest)) × (b ∷ more ≡ bytes)
with_byte-some b None bytes rest e = absurd (cc)
with_byte-some b (Some (more, other)) bytes rest e =
    let same = same_Some (b ∷ more, other) (bytes, rest) e in
    (more, ap (λ x. Some (more, x)) (ap (λ p. p.1) same), ap (λ p. p.0) same)

-- what is found is written so
abbrev Takes : List ℕ → Option (List ℕ × List ℕ) → Type 0
Takes s found = (bytes rest : List ℕ) → found ≡ Some (bytes, rest) → s ≡ flat_map quoted_byte bytes ++ 39 ∷ rest

Takes-byte : (b : ℕ) (front s : List ℕ) (found : Option (List ℕ × List ℕ)) → quoted_byte b ≡ front → Takes s found → Takes (front ++ s) (with_byte b found)
Takes-byte b front s found form takes bytes rest e =
    let (more, there, same) = with_byte-some b found bytes rest e in
    ap (λ x. front ++ x) (takes more rest there) ∙ sym (append_assoc front (flat_map quoted_byte more) (39 ∷ rest))
    ∙ ap (λ x. x ++ flat_map quoted_byte more ++ 39 ∷ rest) (sym form) ∙ ap (λ x. flat_map quoted_byte x ++ 39 ∷ rest) same

Takes-none : (s : List ℕ) → Takes s None
Takes-none s bytes rest e = absurd (cc)

Takes-first : (b : ℕ) (s : List ℕ) → Takes s (quoted_at s) → Takes (92 ∷ s) (escaped_at s) → Takes (b ∷ s) (quoted_at (b ∷ s))
Takes-first b s more behind = by (b == 39) (b == 92) (b == 10) (b == 9) refl refl refl refl
  where
    first : Bool → Bool → Bool → Option (List ℕ × List ℕ)
    first t u v = if t then Some ([], s) else (if u then escaped_at s else (if v then None else with_byte b (quoted_at s)))

    by : (p q r u : Bool) → (b == 39) ≡ p → (b == 92) ≡ q → (b == 10) ≡ r → (b == 9) ≡ u → Takes (b ∷ s) (quoted_at (b ∷ s))
    by true q r u i j k l = λ bytes rest e.
        let same = same_Some ([], s) (bytes, rest) (sym (ap (λ t. first t (b == 92) (b == 10 || b == 9)) i) ∙ e) in
        ap (λ x. x ∷ s) (eqb-true b 39 i) ∙ ap (λ x. 39 ∷ x) (ap (λ p. p.1) same)
        ∙ ap (λ x. flat_map quoted_byte x ++ 39 ∷ rest) (ap (λ p. p.0) same)
    by false true r u i j k l = λ bytes rest e.
        ap (λ x. x ∷ s) (eqb-true b 92 j) ∙ behind bytes rest (sym (ap (λ t. first t (b == 92) (b == 10 || b == 9)) i ∙ ap (λ t. first false t (b == 10 || b == 9)) j) ∙ e)
    by false false true u i j k l = λ bytes rest e.
        Takes-none (b ∷ s) bytes rest
        (sym (ap (λ t. first t (b == 92) (b == 10 || b == 9)) i ∙ ap (λ t. first false t (b == 10 || b == 9)) j ∙ ap (λ t. first false false (t || b == 9)) k) ∙ e)
    by false false false true i j k l = λ bytes rest e.
        Takes-none (b ∷ s) bytes rest
        (sym (ap (λ t. first t (b == 92) (b == 10 || b == 9)) i ∙ ap (λ t. first false t (b == 10 || b == 9)) j ∙ ap (λ t. first false false (t || b == 9)) k
        ∙ ap (λ t. first false false (false || t)) l) ∙ e)
    by false false false false i j k l = λ bytes rest e.
        Takes-byte b (b ∷ []) s (quoted_at s) (plain_byte b (eqb-false b 39 i) (eqb-false b 92 j) (eqb-false b 10 k) (eqb-false b 9 l)) more bytes rest
        (sym (ap (λ t. first t (b == 92) (b == 10 || b == 9)) i ∙ ap (λ t. first false t (b == 10 || b == 9)) j ∙ ap (λ t. first false false (t || b == 9)) k
        ∙ ap (λ t. first false false (false || t)) l) ∙ e)

Takes-escaped : (b : ℕ) (s : List ℕ) → Takes s (quoted_at s) → Takes (92 ∷ b ∷ s) (escaped_at (b ∷ s))
Takes-escaped b s more = by (is_some (escape b)) refl
  where
    by : (t : Bool) → is_some (escape b) ≡ t → Takes (92 ∷ b ∷ s) (escaped_at (b ∷ s))
    by true i = λ bytes rest e.
        Takes-byte (meant b) (92 ∷ b ∷ []) s (quoted_at s) (escaped_byte b i) more bytes rest
        (sym (ap (λ t. if t then with_byte (meant b) (quoted_at s) else None) i) ∙ e)
    by false i = λ bytes rest e.
        Takes-none (92 ∷ b ∷ s) bytes rest (sym (ap (λ t. if t then with_byte (meant b) (quoted_at s) else None) i) ∙ e)

mutual
  pub quoted_at-takes : (s : List ℕ) → Takes s (quoted_at s)
  quoted_at-takes [] = Takes-none []
  quoted_at-takes (b ∷ s) = Takes-first b s (quoted_at-takes s) (escaped_at-takes s)

  escaped_at-takes : (s : List ℕ) → Takes (92 ∷ s) (escaped_at s)
  escaped_at-takes [] = Takes-none (92 ∷ [])
  escaped_at-takes (b ∷ s) = Takes-escaped b s (quoted_at-takes s)

-- a byte that is written at the front is found
quoted_at-byte : (b : ℕ) (s : List ℕ) → quoted_at (quoted_byte b ++ s) ≡ with_byte b (quoted_at s)
quoted_at-byte b s = by (form b)
  where
    by : Form b → quoted_at (quoted_byte b ++ s) ≡ with_byte b (quoted_at s)
    by (escaped c q m k) = ap (λ x. quoted_at (x ++ s)) q ∙ ap (λ t. if t then with_byte (meant c) (quoted_at s) else None) k ∙ ap (λ x. with_byte x (quoted_at s)) m
    by (plain q n w x y) = ap (λ x. quoted_at (x ++ s)) q
        ∙ ap (λ t. if t then Some ([], s) else (if b == 92 then escaped_at s else (if b == 10 || b == 9 then None else with_byte b (quoted_at s)))) (ne_eqb b 39 n)
        ∙ ap (λ t. if t then escaped_at s else (if b == 10 || b == 9 then None else with_byte b (quoted_at s))) (ne_eqb b 92 w)
        ∙ ap (λ t. if t || b == 9 then None else with_byte b (quoted_at s)) (ne_eqb b 10 x)
        ∙ ap (λ t. if false || t then None else with_byte b (quoted_at s)) (ne_eqb b 9 y)

-- what is written up to a closing quote is found
pub quoted_at-again : (bytes rest : List ℕ) → quoted_at (flat_map quoted_byte bytes ++ 39 ∷ rest) ≡ Some (bytes, rest)
quoted_at-again [] rest = refl
quoted_at-again (b ∷ bytes) rest =
    ap quoted_at (append_assoc (quoted_byte b) (flat_map quoted_byte bytes) (39 ∷ rest)) ∙ quoted_at-byte b (flat_map quoted_byte bytes ++ 39 ∷ rest)
    ∙ ap (with_byte b) (quoted_at-again bytes rest)

-- where a quoted text stands, or none does
pub quoted_at-there : (s bytes rest : List ℕ) → 39 ∷ s ≡ quoted bytes ++ rest → quoted_at s ≡ Some (bytes, rest)
quoted_at-there s bytes rest e = ap quoted_at (quote_first bytes rest s e) ∙ quoted_at-again bytes rest

pub quoted_at-none : (s : List ℕ) → ((bytes rest : List ℕ) → 39 ∷ s ≡ quoted bytes ++ rest → ⊥) → quoted_at s ≡ None
quoted_at-none s none = by (quoted_at s) refl
  where
    by : (found : Option (List ℕ × List ℕ)) → quoted_at s ≡ found → found ≡ None
    by None e = refl
    by (Some (bytes, rest)) e = absurd (none bytes rest (ap (λ x. 39 ∷ x) (quoted_at-takes s bytes rest e) ∙ sym (quoted_split bytes rest)))

-- the name that is found, unless it has the form of a name token
pub unplain-found : (bytes s name rest : List ℕ) → bytes ≡ 39 ∷ s → bytes ≡ quoted name ++ rest →
    (if is_name name then None else Some (name, rest)) ≡ unplain (quoted_at s)
unplain-found bytes s name rest e stands = ap unplain (sym (quoted_at-there s name rest (sym e ∙ stands)))
