-- Terms, names and quoted texts: what is read stands there, and what is written is read again.
use Rattle.std.proofs.Common.{◌≡◌, ℕ, ◌+◌, ◌==◌, Bool, true, false, if◌then◌else◌, List, [], ◌∷◌, ◌++◌, codes, length, drop, Some, None, refl, sym, ap, subst, ◌∙◌, arith, length-append, append_assoc}
use Rattle.std.specs.List.{flat_map}
use Rattle.std.proofs.lemmas.Bool.{eqb-true}
use Rattle.std.proofs.lemmas.Option.{none-some}
use Rattle.std.proofs.lemmas.Slice.Eq.{bytes_eq-Decides}
use Rattle.tc_lists.specs.AtFront.{Front, Takes, AlwaysTakes, behind, between, closed, closed_by, or_else, word_for}
use Rattle.tc_lists.specs.Texts.{after}
use Rattle.tc_lists.proofs.AtFront.{behind-takes, or_else-takes, word_for-takes}
use Rattle.tc_lists.proofs.Parts.{drop_behind}
use Rattle.tc_lists.proofs.Prefixes.{append-same}
use Rattle.tc_term.specs.Tree.{Tree, IsTuple, is_ground}
use Rattle.tc_term.specs.Text.{Alone, atom_text, canonical, is_name, is_nil, name_text, quoted, quoted_byte, text_in, text_of}
use Rattle.tc_term.specs.Variables.{IsPattern, renumbered}
use Rattle.tc_term.proofs.Numbered.{IsPattern-tuple, renumbered-pattern}
use Rattle.tc_read.proofs.Again.{NoWord, name_at-again, name_at-quoted}
use Rattle.tc_read.proofs.AtFront.{Stands, IsStanding, LeavesAtMost, canonical_at-stands, canonical_at-longest, front-longest, front-stands, printed-longest, IsLongestCanonicalAt-same}
use Rattle.tc_read.proofs.QuotedFront.{quoted_at-takes, quoted_at-there}
use Rattle.tc_read.proofs.Taken.{IsNameAt, name_at-took, plain_text, quoted_text}
use Rattle.tc_read.specs.Written.{IsQuotedAt}
use Rattle.tc_read.specs.Canonical.{EndsTerm, IsLongestCanonicalAt}
use Rattle.tc_read.specs.Front.{Read, canonical_at, name_at, quoted_at, without_room}
use Rattle.tc_histline.specs.Words.{template_at, if_ground, tuple_at, quote_at, unless_nil, atom_at}

-- templates

pub template_at-takes : AlwaysTakes IsPattern canonical template_at
template_at-takes bytes = by (canonical_at bytes) (canonical_at-stands bytes)
  where
    by : (found : Read Tree) → IsStanding bytes found → Takes IsPattern canonical bytes (without_room found)
    by None stands = tt
    by (Some (t, left, rest)) stands =
        (stands.pattern, stands.text ∙ ap (λ u. text_of u ++ rest) (sym (renumbered-pattern t stands.pattern)))

-- the longest template that stands there is the one that is read
pub longest-read : (bytes : List ℕ) (p : Tree) (rest : List ℕ) (place : ℕ) → IsLongestCanonicalAt bytes 0 p place
    → bytes ≡ canonical p ++ rest → place + length rest ≡ length bytes → template_at bytes ≡ Some (p, rest)
longest-read bytes p rest place longest text behind = by (canonical_at bytes) refl
  where
    stands : Stands bytes p rest
    stands = record {
      pattern = longest.stands.pattern;
      text = text ∙ ap (λ u. text_of u ++ rest) (renumbered-pattern p longest.stands.pattern);
    }

    by : (found : Read Tree) → canonical_at bytes ≡ found → without_room found ≡ Some (p, rest)
    by None e = absurd (subst (LeavesAtMost rest) e (canonical_at-longest p bytes rest stands))
    by (Some (t, left, more)) e =
        let found = front-longest bytes 0 t left more (omega arith) e (renumbered t) _ refl refl in
        let there = front-stands bytes 0 t left more (omega arith) e in
        let same = IsLongestCanonicalAt-same bytes 0 (renumbered t) p _ place found longest in
        let is : t ≡ p = sym (renumbered-pattern t there.pattern) ∙ same.0 in
        let long : length more ≡ length rest = omega (arith, same.1, behind, ap length there.text, length-append (text_in Alone t) more, found.stands.place) in
        let ends = append-same (text_in Alone t) (text_in Alone p) more rest (sym there.text ∙ stands.text) long in
        ap Some (ap (λ u. (u, more)) is ∙ ap (λ l. (p, l)) ends.1)

pub template_at-again : (p : Tree) (rest : List ℕ) → IsPattern p → EndsTerm rest → template_at (canonical p ++ rest) ≡ Some (p, rest)
template_at-again p rest pattern ends =
    longest-read (canonical p ++ rest) p rest (0 + length (canonical p)) (printed-longest [] rest p pattern ends) refl (omega (arith, length-append (canonical p) rest))

-- tuples

pub tuple_at-takes : AlwaysTakes IsTuple canonical tuple_at
tuple_at-takes bytes = by (template_at bytes) (template_at-takes bytes)
  where
    tested : (t : Tree) (rest : List ℕ) (b : Bool) → is_ground t ≡ b → IsPattern t × (bytes ≡ canonical t ++ rest)
        → Takes IsTuple canonical bytes (if b then Some (t, rest) else None)
    tested t rest true e takes = (record { ground = e; fits = takes.0.template.fits }, takes.1)
    tested t rest false e takes = tt

    by : (found : Front Tree) → Takes IsPattern canonical bytes found → Takes IsTuple canonical bytes (if_ground found)
    by None takes = tt
    by (Some (t, rest)) takes = tested t rest (is_ground t) refl takes

pub tuple_at-again : (t : Tree) (rest : List ℕ) → IsTuple t → EndsTerm rest → tuple_at (canonical t ++ rest) ≡ Some (t, rest)
tuple_at-again t rest tuple ends =
    ap if_ground (template_at-again t rest (IsPattern-tuple t tuple) ends) ∙ ap (λ b. if b then Some (t, rest) else None) tuple.ground

-- texts in quotes

pub quote_at-again : (text rest : List ℕ) → quote_at (quoted text ++ rest) ≡ Some (text, rest)
quote_at-again text rest = quoted_at-there _ text rest refl

-- what is written up to a closing quote stands there
quoted-takes : AlwaysTakes (λ text. Unit {0}) (λ text. flat_map quoted_byte text ++ codes "'") quoted_at
quoted-takes s = by (quoted_at s) (λ text rest e. quoted_at-takes s text rest e)
  where
    by : (found : Front (List ℕ)) → ((text rest : List ℕ) → found ≡ Some (text, rest) → s ≡ flat_map quoted_byte text ++ 39 ∷ rest)
        → Takes (λ text. Unit {0}) (λ text. flat_map quoted_byte text ++ codes "'") s found
    by None stands = tt
    by (Some (text, rest)) stands = (tt, stands text rest refl ∙ sym (append_assoc (flat_map quoted_byte text) (codes "'") rest))

pub quote_at-takes : AlwaysTakes (λ text. Unit {0}) quoted quote_at
quote_at-takes bytes = behind-takes (λ text. Unit {0}) (λ text. flat_map quoted_byte text ++ codes "'") (codes "'") bytes quoted_at quoted-takes

-- where the code finds none, or finds one up to a place

pub quote_at-none : (bytes : List ℕ) → ((text rest : List ℕ) → bytes ≡ quoted text ++ rest → ⊥) → quote_at bytes ≡ None
quote_at-none bytes none = by (quote_at bytes) (quote_at-takes bytes)
  where
    by : (found : Front (List ℕ)) → Takes (λ text. Unit {0}) quoted bytes found → found ≡ None
    by None takes = refl
    by (Some (text, rest)) takes = absurd (none text rest takes.1)

pub quote_at-found : (bytes text : List ℕ) (place : ℕ) → IsQuotedAt bytes 0 text place → quote_at bytes ≡ Some (text, drop place bytes)
quote_at-found bytes text place at =
    ap quote_at at.stands ∙ (quote_at-again text at.rest ∙ ap (λ r. Some (text, r)) (sym (drop_behind bytes (quoted text) at.rest place at.stands at.place)))

-- a tuple is a template without variables
pub if_ground-some : (t : Tree) (rest : List ℕ) → IsTuple t → if_ground (Some (t, rest)) ≡ Some (t, rest)
if_ground-some t rest tuple = ap (λ b. if b then Some (t, rest) else None) tuple.ground

-- names

-- a name is not begun by a bracket
no_bracket : (limit : ℕ) (bytes : List ℕ) (found : List ℕ × List ℕ) → name_at limit bytes ≡ Some found → after (codes "[]") bytes ≡ None
no_bracket limit [] found e = refl
no_bracket limit (b ∷ s) found e = by (91 == b) refl
  where
    by : (p : Bool) → (91 == b) ≡ p → after (codes "[]") (b ∷ s) ≡ None
    by true i = absurd (none-some found (ap (λ c. name_at limit (c ∷ s)) (eqb-true 91 b i) ∙ e))
    by false i = ap (λ p. if p then after (codes "]") s else None) i

name_at-whole : (name rest : List ℕ) → NoWord rest → name_at (length (name_text name ++ rest)) (name_text name ++ rest) ≡ Some (name, rest)
name_at-whole name rest apart = by (is_name name) refl
  where
    by : (p : Bool) → is_name name ≡ p → name_at (length (name_text name ++ rest)) (name_text name ++ rest) ≡ Some (name, rest)
    by true e = name_at-again (length (name_text name ++ rest)) name rest
        (omega (arith, length-append (name_text name) rest, ap length (plain_text name e))) apart
    by false e = ap (λ x. name_at (length (x ++ rest)) (x ++ rest)) (quoted_text name e) ∙ name_at-quoted (length (quoted name ++ rest)) name rest e

pub atom_at-again : (name rest : List ℕ) → NoWord rest → atom_at (atom_text name ++ rest) ≡ Some (name, rest)
atom_at-again name rest apart = by (is_nil name) refl
  where
    by : (p : Bool) → is_nil name ≡ p → atom_at ((if p then codes "[]" else name_text name) ++ rest) ≡ Some (name, rest)
    by true e = ap (λ n. Some (n, rest)) (sym ((bytes_eq-Decides name (codes "[]")).0 e))
    by false e =
        let whole = name_at-whole name rest apart in
        ap (λ o. or_else (closed (codes "[]") o) (unless_nil (name_at (length (name_text name ++ rest)) (name_text name ++ rest))))
        (no_bracket (length (name_text name ++ rest)) (name_text name ++ rest) (name, rest) whole)
        ∙ (ap unless_nil whole ∙ ap (λ p. if p then None else Some (name, rest)) e)

name_at-stands : (limit : ℕ) → AlwaysTakes (λ name. Unit {0}) name_text (name_at limit)
name_at-stands limit bytes = by (name_at limit bytes) (name_at-took limit bytes)
  where
    by : (found : Front (List ℕ)) → IsNameAt bytes found → Takes (λ name. Unit {0}) name_text bytes found
    by None took = tt
    by (Some (name, rest)) took = (tt, took)

unless_nil-takes : (bytes : List ℕ) (a : Front (List ℕ)) → Takes (λ name. Unit {0}) name_text bytes a → Takes (λ name. Unit {0}) atom_text bytes (unless_nil a)
unless_nil-takes bytes None takes = tt
unless_nil-takes bytes (Some (name, rest)) takes = by (is_nil name) refl
  where
    by : (p : Bool) → is_nil name ≡ p → Takes (λ name. Unit {0}) atom_text bytes (if p then None else Some (name, rest))
    by true e = tt
    by false e = (tt, takes.1 ∙ ap (λ p. (if p then codes "[]" else name_text name) ++ rest) (sym e))

pub atom_at-takes : AlwaysTakes (λ name. Unit {0}) atom_text atom_at
atom_at-takes bytes =
    or_else-takes (λ name. Unit {0}) atom_text bytes (word_for (codes "[]") (codes "[]") bytes) (unless_nil (name_at (length bytes) bytes))
    (word_for-takes (λ name. Unit {0}) atom_text (codes "[]") (codes "[]") bytes tt refl)
    (unless_nil-takes bytes (name_at (length bytes) bytes) (name_at-stands (length bytes) bytes))

-- something between two words: it isn't there, the second word isn't there, or all of it is
module _ {X : Type 0} (read : List ℕ → Front X) (first close bytes rest : List ℕ) (there : Some rest ≡ after first bytes) where
  pub between-missing : None ≡ read rest → None ≡ between first close read bytes
  between-missing none = ap (closed_by close) none ∙ ap (λ o. behind o (λ r. closed_by close (read r))) there

  pub between-unclosed : (x : X) (more : List ℕ) → Some (x, more) ≡ read rest → None ≡ after close more → None ≡ between first close read bytes
  between-unclosed x more found none =
      ap (closed x) none ∙ (ap (closed_by close) found ∙ ap (λ o. behind o (λ r. closed_by close (read r))) there)

  pub between-found : (x : X) (more left : List ℕ) → Some (x, more) ≡ read rest → Some left ≡ after close more → Some (x, left) ≡ between first close read bytes
  between-found x more left found ends =
      ap (closed x) ends ∙ (ap (closed_by close) found ∙ ap (λ o. behind o (λ r. closed_by close (read r))) there)
