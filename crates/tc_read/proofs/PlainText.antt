-- Canonical text with no quote in it: its names are plain, and it is no shorter than its term is large.
use Rattle.std.proofs.Common.{◌≡◌, ◌∙◌, ◌≤◌, ◌<◌, ◌+◌, ◌*◌, ◌^◌, ◌&&◌, ℕ, ℤ, pos, negsuc, Bool, true, false, max, if◌then◌else◌, List, [], ◌∷◌, ◌++◌, codes, length, refl, sym, ap, ap₂, subst, append_assoc, length-append, arith}
use Rattle.std.proofs.lemmas.Bool.{and_parts, cond_both}
use Rattle.std.proofs.lemmas.Bool.Decides.{nat_tests}
use Rattle.std.proofs.lemmas.Slice.Eq.{bytes_eq-Decides}
use Rattle.std.specs.Char.{is_ascii_lowercase}
use Rattle.std.specs.Fmt.{decimal, signed_decimal}
use Rattle.std.specs.List.{list_all}
use Rattle.tc_lists.proofs.Decimals.{decimal-not_nil}
use Rattle.tc_term.specs.Bytes.{is_word, is_name_byte}
use Rattle.tc_term.specs.NameBytes.{has_read_names, have_read_names}
use Rattle.tc_term.specs.Readable.{IsReadable, in_list, opened, opened_in_all}
use Rattle.tc_term.specs.Text.{Place, Alone, Behind, before_element, is_dot, is_name, is_nil, name_text, text_in, texts_of}
use Rattle.tc_term.specs.Tree.{Tree, Variable, Atomic, Number, Compound, Trees, Last, More, Fits, HasIntegers, HaveIntegers, depth, depth_of_all, nodes, nodes_of_all, name_bytes, name_bytes_of_all}
use Rattle.tc_term.specs.Variables.{IsPattern}
use Rattle.tc_read.proofs.Taken.{plain_text, quoted_text}
use Rattle.tc_read.proofs.Texts.{text_in-Variable, text_in-Number, text_in-nil, text_in-Atomic, text_in-cell, text_in-Compound, texts_of-Last, texts_of-More, text_in-barred}
use Rattle.tc_read.specs.Asked.{HasNoQuote, asked_of}
use Rattle.tc_read.specs.Front.{is_barred, is_cell}

pub no_quote-front : (s x y : List ℕ) → s ≡ x ++ y → HasNoQuote s → HasNoQuote x
no_quote-front s x y e none a b at = none a (b ++ y) (e ∙ ap (λ l. l ++ y) at ∙ append_assoc a (39 ∷ b) y)

pub no_quote-behind : (s x y : List ℕ) → s ≡ x ++ y → HasNoQuote s → HasNoQuote y
no_quote-behind s x y e none a b at = none (x ++ a) b (e ∙ ap (λ l. x ++ l) at ∙ sym (append_assoc x a (39 ∷ b)))

-- no more nodes are below one another, and no more brackets are open, than there are nodes
mutual
  depth-nodes : (t : Tree) → depth t ≤ nodes t
  depth-nodes (Variable n) = omega arith
  depth-nodes (Atomic name) = omega arith
  depth-nodes (Number z) = omega arith
  depth-nodes (Compound name args) = omega (arith, depth_of_all-nodes args)

  depth_of_all-nodes : (ts : Trees) → depth_of_all ts ≤ nodes_of_all ts
  depth_of_all-nodes (Last t) = depth-nodes t
  depth_of_all-nodes (More t ts) = omega (arith, depth-nodes t, depth_of_all-nodes ts)

in_list-more : (place : Place) (n : ℕ) → in_list place n ≤ n + 1
in_list-more Alone n = omega arith
in_list-more Behind n = omega arith

mutual
  opened-nodes : (place : Place) (t : Tree) → opened place t ≤ nodes t
  opened-nodes place (Variable n) = omega arith
  opened-nodes Alone (Atomic name) = cond_both (is_nil name) 1 0 (λ n. n ≤ 1) (λ nil. omega arith) (λ other. omega arith)
  opened-nodes Behind (Atomic name) = omega arith
  opened-nodes place (Number z) = omega arith
  opened-nodes place (Compound name (Last t)) = omega (arith, opened-nodes Alone t)
  opened-nodes place (Compound name (More t (Last u))) =
      let low = opened-nodes Alone t in
      let alone = opened-nodes Alone u in
      let behind = opened-nodes Behind u in
      cond_both (is_dot name) (in_list place (max (opened Alone t) (opened Behind u))) (max (opened Alone t) (opened Alone u) + 1) (λ n. n ≤ 1 + (nodes t + nodes u))
      (λ cell. omega (arith, low, behind, in_list-more place (max (opened Alone t) (opened Behind u)))) (λ other. omega (arith, low, alone))
  opened-nodes place (Compound name (More t (More u ts))) = omega (arith, opened-nodes Alone t, opened_in_all-nodes (More u ts))

  opened_in_all-nodes : (ts : Trees) → opened_in_all ts ≤ nodes_of_all ts
  opened_in_all-nodes (Last t) = opened-nodes Alone t
  opened_in_all-nodes (More t ts) = omega (arith, opened-nodes Alone t, opened_in_all-nodes ts)

-- so large is a term whose text this is, and so its names are
record Plain (text : List ℕ) (t : Tree) : Type 0 where
  pub nodes : nodes t ≤ length text
  pub name_bytes : name_bytes t ≤ 2 * length text
  pub names : has_read_names t ≡ true

record PlainAll (text : List ℕ) (ts : Trees) : Type 0 where
  pub nodes : nodes_of_all ts ≤ length text
  pub name_bytes : name_bytes_of_all ts ≤ 2 * length text
  pub names : have_read_names ts ≡ true

-- names

word_bytes : (s : List ℕ) → list_all is_word s ≡ true → list_all is_name_byte s ≡ true
word_bytes [] all = refl
word_bytes (b ∷ s) all =
    let both = and_parts (is_word b) (list_all is_word s) all in ap₂ (λ x y. x && y) (word b both.0) (word_bytes s both.1)
  where
    word : (b : ℕ) → is_word b ≡ true → is_name_byte b ≡ true
    word b h = grind (arith, nat_tests)

name_bytes_of : (name : List ℕ) → is_name name ≡ true → list_all is_name_byte name ≡ true
name_bytes_of [] e = absurd (cc)
name_bytes_of (b ∷ s) e =
    let both = and_parts (is_ascii_lowercase b) (list_all is_word s) e in ap₂ (λ x y. x && y) (lower b both.0) (word_bytes s both.1)
  where
    lower : (b : ℕ) → is_ascii_lowercase b ≡ true → is_name_byte b ≡ true
    lower b h = grind (arith, nat_tests)

-- a name whose text has no quote
record PlainName (text name : List ℕ) : Type 0 where
  some : 1 ≤ length text
  same : length name ≡ length text
  bytes : list_all is_name_byte name ≡ true

plain_name : (name : List ℕ) → HasNoQuote (name_text name) → PlainName (name_text name) name
plain_name name none = by (is_name name) refl
  where
    some : (name : List ℕ) → is_name name ≡ true → 1 ≤ length name
    some [] e = absurd (cc)
    some (b ∷ s) e = omega arith

    by : (p : Bool) → is_name name ≡ p → PlainName (name_text name) name
    by true e = subst (λ x. PlainName x name) (sym (plain_text name e)) (record { some = some name e; same = refl; bytes = name_bytes_of name e })
    by false e = absurd (none [] _ (quoted_text name e))

-- terms

barred-plain : (t : Tree) → is_barred t ≡ true → (HasNoQuote (text_in Alone t) → Plain (text_in Alone t) t) → (place : Place) → HasNoQuote (text_in place t) → Plain (text_in place t) t
barred-plain t bar alone Alone none = alone none
barred-plain t bar alone Behind none =
    let text = text_in Alone t in
    let split = text_in-barred t bar in
    let h = alone (no_quote-front (text ++ 93 ∷ []) text (93 ∷ []) refl (no_quote-behind (text_in Behind t) (124 ∷ []) (text ++ 93 ∷ []) split none)) in
    let long : length (text_in Behind t) ≡ length text + 2 = ap length split ∙ omega (arith, length-append text (93 ∷ [])) in
    record { nodes = omega (arith, h.nodes, long); name_bytes = omega (arith, h.name_bytes, long); names = h.names }

atom-plain : (name : List ℕ) (place : Place) → HasNoQuote (text_in place (Atomic name)) → Plain (text_in place (Atomic name)) (Atomic name)
atom-plain name place none = by (is_nil name) refl
  where
    nil : (place : Place) (name : List ℕ) → is_nil name ≡ true → name ≡ codes "[]" → Plain (text_in place (Atomic name)) (Atomic name)
    nil Alone name e is = subst (λ x. Plain x (Atomic name)) (sym (text_in-nil Alone name e))
        (record { nodes = omega arith; name_bytes = omega (arith, ap length is); names = ap (λ n. list_all is_name_byte n) is })
    nil Behind name e is = subst (λ x. Plain x (Atomic name)) (sym (text_in-nil Behind name e))
        (record { nodes = omega arith; name_bytes = omega (arith, ap length is); names = ap (λ n. list_all is_name_byte n) is })

    by : (p : Bool) → is_nil name ≡ p → Plain (text_in place (Atomic name)) (Atomic name)
    by true e = nil place name e ((bytes_eq-Decides name (codes "[]")).0 e)
    by false e = barred-plain (Atomic name) (ap (λ p. if p then false else true) e) (λ alone.
        let split = text_in-Atomic Alone name e in
        let h = plain_name name (subst HasNoQuote split alone) in
        subst (λ x. Plain x (Atomic name)) (sym split) (record { nodes = h.some; name_bytes = omega (arith, h.same); names = h.bytes })) place none

number-plain : (z : ℤ) → HasIntegers (Number z) → Plain (text_in Alone (Number z)) (Number z)
number-plain z fits = subst (λ x. Plain x (Number z)) (sym (text_in-Number Alone z)) (record { nodes = some z fits; name_bytes = omega arith; names = refl })
  where
    longer : (n : ℕ) → n < 2 ^ 64 → (l : List ℕ) → l ≡ decimal n ++ [] → 1 ≤ length l
    longer n small [] e = absurd (decimal-not_nil n [] small e)
    longer n small (b ∷ s) e = omega arith

    some : (z : ℤ) → HasIntegers (Number z) → 1 ≤ length (signed_decimal z)
    some (pos n) fits = let bound = fits.sfits in let more = longer n (omega arith) (decimal n ++ []) refl in omega (arith, more, length-append (decimal n) [])
    some (negsuc n) fits = omega arith

-- arguments in brackets behind a name
called-plain : (name : List ℕ) (args : Trees) → is_cell name args ≡ false → (HasNoQuote (texts_of args) → PlainAll (texts_of args) args) → (place : Place) →
    HasNoQuote (text_in place (Compound name args)) → Plain (text_in place (Compound name args)) (Compound name args)
called-plain name args other all place none = barred-plain (Compound name args) (ap (λ p. if p then false else true) other) by place none
  where
    by : HasNoQuote (text_in Alone (Compound name args)) → Plain (text_in Alone (Compound name args)) (Compound name args)
    by alone =
        let text = text_in Alone (Compound name args) in
        let split = text_in-Compound Alone name args other in
        let front = name_text name ++ codes "(" in
        let before = no_quote-front text (front ++ texts_of args) (codes ")") split alone in
        let h = plain_name name (no_quote-front front (name_text name) (codes "(") refl (no_quote-front (front ++ texts_of args) front (texts_of args) refl before)) in
        let inside = all (no_quote-behind (front ++ texts_of args) front (texts_of args) refl before) in
        let long : length text ≡ length (name_text name) + length (texts_of args) + 2 =
        ap length split ∙ omega (arith, length-append (front ++ texts_of args) (codes ")"), length-append front (texts_of args), length-append (name_text name) (codes "(")) in
        record {
          nodes = omega (arith, inside.nodes, long);
          name_bytes = omega (arith, inside.name_bytes, h.same, long);
          names = ap₂ (λ x y. x && y) h.bytes inside.names;
        }

-- a head and what stands behind it
cell-plain : (t u : Tree) → (HasNoQuote (text_in Alone t) → Plain (text_in Alone t) t) → (HasNoQuote (text_in Behind u) → Plain (text_in Behind u) u) → (place : Place) →
    HasNoQuote (text_in place (Compound (codes ".") (More t (Last u)))) → Plain (text_in place (Compound (codes ".") (More t (Last u)))) (Compound (codes ".") (More t (Last u)))
cell-plain t u one other place none =
    let text = text_in place (Compound (codes ".") (More t (Last u))) in
    let split = text_in-cell place (codes ".") t u refl in
    let front = before_element place ++ text_in Alone t in
    let h = one (no_quote-behind front (before_element place) (text_in Alone t) refl (no_quote-front text front (text_in Behind u) split none)) in
    let k = other (no_quote-behind text front (text_in Behind u) split none) in
    let long : length text ≡ 1 + length (text_in Alone t) + length (text_in Behind u) =
    ap length split ∙ omega (arith, length-append front (text_in Behind u), length-append (before_element place) (text_in Alone t), first place) in
    record {
      nodes = omega (arith, h.nodes, k.nodes, long);
      name_bytes = omega (arith, h.name_bytes, k.name_bytes, long);
      names = ap₂ (λ x y. x && y) h.names k.names;
    }
  where
    first : (place : Place) → length (before_element place) ≡ 1
    first Alone = refl
    first Behind = refl

-- a compound of two arguments: a list cell or another
pair-plain : (name : List ℕ) (t u : Tree) → (HasNoQuote (text_in Alone t) → Plain (text_in Alone t) t) → (HasNoQuote (text_in Behind u) → Plain (text_in Behind u) u) →
    (HasNoQuote (texts_of (More t (Last u))) → PlainAll (texts_of (More t (Last u))) (More t (Last u))) → (place : Place) →
    HasNoQuote (text_in place (Compound name (More t (Last u)))) → Plain (text_in place (Compound name (More t (Last u)))) (Compound name (More t (Last u)))
pair-plain name t u one other all place none = by (is_dot name) refl
  where
    by : (p : Bool) → is_dot name ≡ p → Plain (text_in place (Compound name (More t (Last u)))) (Compound name (More t (Last u)))
    by true e =
        let same = sym ((bytes_eq-Decides name (codes ".")).0 e) in
        subst (λ n. Plain (text_in place (Compound n (More t (Last u)))) (Compound n (More t (Last u)))) same
        (cell-plain t u one other place (subst (λ n. HasNoQuote (text_in place (Compound n (More t (Last u))))) (sym same) none))
    by false e = called-plain name (More t (Last u)) e all place none

mutual
  text-plain : (t : Tree) → HasIntegers t → (place : Place) → HasNoQuote (text_in place t) → Plain (text_in place t) t
  text-plain (Variable n) integers place none =
      barred-plain (Variable n) refl (λ alone. subst (λ x. Plain x (Variable n)) (sym (text_in-Variable Alone n)) (record { nodes = omega arith; name_bytes = omega arith; names = refl })) place none
  text-plain (Atomic name) integers place none = atom-plain name place none
  text-plain (Number z) integers place none = barred-plain (Number z) refl (λ alone. number-plain z integers) place none
  text-plain (Compound name (Last t)) integers place none = called-plain name (Last t) refl (λ all. texts-plain (Last t) integers all) place none
  text-plain (Compound name (More t (Last u))) integers place none =
      pair-plain name t u (λ alone. text-plain t integers.0 Alone alone) (λ behind. text-plain u integers.1 Behind behind) (λ all. texts-plain (More t (Last u)) integers all) place none
  text-plain (Compound name (More t (More u ts))) integers place none = called-plain name (More t (More u ts)) refl (λ all. texts-plain (More t (More u ts)) integers all) place none

  texts-plain : (ts : Trees) → HaveIntegers ts → HasNoQuote (texts_of ts) → PlainAll (texts_of ts) ts
  texts-plain (Last t) integers none =
      let split = texts_of-Last t in
      let h = text-plain t integers Alone (subst HasNoQuote split none) in
      let long = ap length split in
      record { nodes = omega (arith, h.nodes, long); name_bytes = omega (arith, h.name_bytes, long); names = h.names }
  texts-plain (More t ts) integers none =
      let split = texts_of-More t ts in
      let front = text_in Alone t ++ codes "," in
      let h = text-plain t integers.0 Alone (no_quote-front front (text_in Alone t) (codes ",") refl (no_quote-front (texts_of (More t ts)) front (texts_of ts) split none)) in
      let k = texts-plain ts integers.1 (no_quote-behind (texts_of (More t ts)) front (texts_of ts) split none) in
      let long : length (texts_of (More t ts)) ≡ length (text_in Alone t) + 1 + length (texts_of ts) =
      ap length split ∙ omega (arith, length-append front (texts_of ts), length-append (text_in Alone t) (codes ",")) in
      record {
        nodes = omega (arith, h.nodes, k.nodes, long);
        name_bytes = omega (arith, h.name_bytes, k.name_bytes, long);
        names = ap₂ (λ x y. x && y) h.names k.names;
      }

-- what a short text with no quote in it is

pub short-readable : (t : Tree) → IsPattern t → HasNoQuote (text_in Alone t) → length (text_in Alone t) ≤ 200 → IsReadable t
short-readable t pattern none short =
    let h = text-plain t pattern.template.fits.integers Alone none in
    record { pattern = pattern; few_open = omega (arith, h.nodes, opened-nodes Alone t, short); names = h.names }

pub short-fits : (name : List ℕ) (t : Tree) → IsPattern t → HasNoQuote (text_in Alone t) → length (text_in Alone t) ≤ 200 → length name ≤ 200 → Fits (asked_of name t)
short-fits name t pattern none short word =
    let h = text-plain t pattern.template.fits.integers Alone none in
    record {
      nodes = omega (arith, h.nodes, short);
      depth = omega (arith, h.nodes, depth-nodes t, short);
      name_bytes = omega (arith, h.name_bytes, short, word);
      integers = (tt, pattern.template.fits.integers);
    }
