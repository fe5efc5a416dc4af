-- What is read at the front stands there, and what is left of the room is what its nodes leave.
use Rattle.std.proofs.Common.{◌≡◌, ◌∙◌, ℕ, zero, suc, ℤ, true, false, ◌==◌, ◌&&◌, nat_lt, if◌then◌else◌, List, [], ◌∷◌, ◌++◌, codes, length, Some, None, refl, sym, ap, append_assoc, arith, min, take-append-drop, subst}
use Rattle.tc_term.specs.Bytes.{is_word, is_name_start}
use Rattle.tc_term.specs.Tree.{HasIntegers, HaveIntegers}
use Rattle.std.specs.declared.option.Option.{Option}
use Rattle.std.specs.List.{prefix_len}
use Rattle.tc_lists.proofs.Decimals.{IsNumberRead, IsIntegerRead, number_at-read, integer_at-read}
use Rattle.tc_lists.specs.Decimals.{integer_at, number_at}
use Rattle.tc_term.specs.Text.{Place, Alone, Behind, before_element, empty_list, is_name, is_nil, name_text, quoted, text_in, texts_of}
use Rattle.tc_term.specs.Tree.{Tree, Variable, Atomic, Number, Compound, Trees, Last}
use Rattle.tc_read.proofs.Words.{is_name-word_at}
use Rattle.tc_read.proofs.QuotedBytes.{quoted_split}
use Rattle.tc_read.proofs.QuotedFront.{quoted_at-takes}
use Rattle.tc_read.proofs.Texts.{text_in-Variable, text_in-Number, text_in-nil, text_in-Atomic, text_in-cell, text_in-Compound, texts_of-Last, texts_of-More, text_in-barred}
use Rattle.tc_read.specs.Budget.{numbered, paid, spent, spent_all, then_in, whole}
use Rattle.tc_read.specs.Front.{Read, argument, arguments, atom, barred, before, called, cell, cell_of, compound, element, head, is_barred, is_cell, leaf, list, name_at, named, named_or_number, nil, node, number, quoted_at, reads, tail, unplain, variable, word_at}
use Rattle.tc_read.specs.declared.budget.Budget.{Budget}
use Rattle.std.proofs.lemmas.Bool.{cond_both, eqb-true, and_parts}

pub record Took (d : ℕ) (place : Place) (budget : Budget) (bytes : List ℕ) (t : Tree) (left : Budget) (rest : List ℕ) : Type 0 where
  pub text : bytes ≡ text_in place t ++ rest
  pub spent : spent d budget t ≡ Some left
  pub integers : HasIntegers t

abbrev pub IsTook : ℕ → Place → Budget → List ℕ → Read Tree → Type 0
IsTook d place budget bytes None = Unit {0}
IsTook d place budget bytes (Some (t, left, rest)) = Took d place budget bytes t left rest

pub record TookAll (d : ℕ) (budget : Budget) (bytes : List ℕ) (ts : Trees) (left : Budget) (rest : List ℕ) : Type 0 where
  pub text : bytes ≡ texts_of ts ++ 41 ∷ rest
  pub spent : spent_all d budget ts ≡ Some left
  pub integers : HaveIntegers ts

abbrev pub IsTookAll : ℕ → Budget → List ℕ → Read Trees → Type 0
IsTookAll d budget bytes None = Unit {0}
IsTookAll d budget bytes (Some (ts, left, rest)) = TookAll d budget bytes ts left rest

leaf-took : (d : ℕ) (place : Place) (budget : Budget) (bytes : List ℕ) (o : Option Budget) (t : Tree) (rest : List ℕ) →
    bytes ≡ text_in place t ++ rest → spent d budget t ≡ o → HasIntegers t → IsTook d place budget bytes (leaf o t rest)
leaf-took d place budget bytes None t rest text same integers = tt
leaf-took d place budget bytes (Some left) t rest text same integers = record { text = text; spent = same; integers = integers }

variable-took : (d : ℕ) (budget : Budget) (s : List ℕ) (found : Option (ℕ × List ℕ)) → IsNumberRead 255 s found →
    IsTook (suc d) Alone budget (95 ∷ s) (variable budget found)
variable-took d budget s None read = tt
variable-took d budget s (Some (n, rest)) read =
    leaf-took (suc d) Alone budget (95 ∷ s) (then_in (numbered n budget) (paid 0)) (Variable n) rest
    (ap (λ x. 95 ∷ x) read.stands.text ∙ ap (λ x. x ++ rest) (sym (text_in-Variable Alone n))) refl tt

number-took : (d : ℕ) (budget : Budget) (bytes : List ℕ) (found : Option (ℤ × List ℕ)) → IsIntegerRead bytes found →
    IsTook (suc d) Alone budget bytes (number budget found)
number-took d budget bytes None read = tt
number-took d budget bytes (Some (z, rest)) read =
    leaf-took (suc d) Alone budget bytes (paid 0 budget) (Number z) rest
    (read.stands.text ∙ ap (λ x. x ++ rest) (sym (text_in-Number Alone z))) refl read.stands.fits

nil-took : (d : ℕ) (place : Place) (budget : Budget) (bytes rest : List ℕ) → bytes ≡ empty_list place ++ rest →
    IsTook (suc d) place budget bytes (nil budget rest)
nil-took d place budget bytes rest e =
    leaf-took (suc d) place budget bytes (paid 2 budget) (Atomic (codes "[]")) rest
    (e ∙ ap (λ x. x ++ rest) (sym (text_in-nil place (codes "[]") refl))) refl tt

atom-took : (d : ℕ) (budget : Budget) (bytes name rest : List ℕ) → bytes ≡ name_text name ++ rest →
    IsTook (suc d) Alone budget bytes (atom name budget rest)
atom-took d budget bytes name rest e =
    cond_both (is_nil name) None (leaf (paid (length name) budget) (Atomic name) rest) (IsTook (suc d) Alone budget bytes)
    (λ nil. tt)
    (λ some.
    leaf-took (suc d) Alone budget bytes (paid (length name) budget) (Atomic name) rest
    (e ∙ ap (λ x. x ++ rest) (sym (text_in-Atomic Alone name some))) refl tt)

-- the name at the front
abbrev pub IsNameAt : List ℕ → Option (List ℕ × List ℕ) → Type 0
IsNameAt bytes None = Unit {0}
IsNameAt bytes (Some (name, rest)) = bytes ≡ name_text name ++ rest

pub plain_text : (name : List ℕ) → is_name name ≡ true → name_text name ≡ name
plain_text name e = ap (λ b. if b then name else quoted name) e

pub quoted_text : (name : List ℕ) → is_name name ≡ false → name_text name ≡ quoted name
quoted_text name e = ap (λ b. if b then name else quoted name) e

unplain-took : (s : List ℕ) (found : Option (List ℕ × List ℕ)) → quoted_at s ≡ found → IsNameAt (39 ∷ s) (unplain found)
unplain-took s None e = tt
unplain-took s (Some (name, rest)) e =
    cond_both (is_name name) None (Some (name, rest)) (IsNameAt (39 ∷ s))
    (λ plain. tt)
    (λ other.
    ap (λ x. 39 ∷ x) (quoted_at-takes s name rest e) ∙ sym (quoted_split name rest) ∙ ap (λ x. x ++ rest) (sym (quoted_text name other)))

word-took : (limit b : ℕ) (s : List ℕ) → is_name_start b ≡ true → nat_lt 0 limit ≡ true → IsNameAt (b ∷ s) (Some (word_at limit (b ∷ s)))
word-took limit b s lower some =
    let word = word_at limit (b ∷ s) in
    sym (take-append-drop (min limit (prefix_len is_word (b ∷ s))) (b ∷ s))
    ∙ ap (λ x. x ++ word.1) (sym (plain_text word.0 (is_name-word_at limit b s lower some)))

pub name_at-took : (limit : ℕ) (bytes : List ℕ) → IsNameAt bytes (name_at limit bytes)
name_at-took limit [] = tt
name_at-took limit (b ∷ s) =
    cond_both (b == 39) (unplain (quoted_at s)) (if is_name_start b && nat_lt 0 limit then Some (word_at limit (b ∷ s)) else None) (IsNameAt (b ∷ s))
    (λ quote. at_quote (eqb-true b 39 quote))
    (λ other.
    cond_both (is_name_start b && nat_lt 0 limit) (Some (word_at limit (b ∷ s))) None (IsNameAt (b ∷ s))
    (λ both. let tests = and_parts (is_name_start b) (nat_lt 0 limit) both in word-took limit b s tests.0 tests.1)
    (λ none. tt))
  where
    at_quote : b ≡ 39 → IsNameAt (b ∷ s) (unplain (quoted_at s))
    at_quote e = subst (λ x. IsNameAt (x ∷ s) (unplain (quoted_at s))) (sym e) (unplain-took s (quoted_at s) refl)

-- what is read behind an argument
before-took : (d : ℕ) (budget : Budget) (bytes s : List ℕ) (t : Tree) (next : Budget) (found : Read Trees) →
    Took d Alone budget bytes t next (44 ∷ s) → IsTookAll d next s found → IsTookAll d budget bytes (before t found)
before-took d budget bytes s t next None first more = tt
before-took d budget bytes s t next (Some (ts, left, rest)) first more = record {
  text = first.text ∙ ap (λ x. text_in Alone t ++ 44 ∷ x) more.text
      ∙ sym (append_assoc (text_in Alone t) (codes ",") (texts_of ts ++ 41 ∷ rest))
      ∙ sym (append_assoc (text_in Alone t ++ codes ",") (texts_of ts) (41 ∷ rest))
      ∙ ap (λ x. x ++ 41 ∷ rest) (sym (texts_of-More t ts));
  spent = ap (λ o. then_in o (λ now. spent_all d now ts)) first.spent ∙ more.spent;
  integers = (first.integers, more.integers);
}

argument-took : (d : ℕ) (budget : Budget) (bytes : List ℕ) (more : Budget → List ℕ → Read Trees) →
    ((next : Budget) (s : List ℕ) → IsTookAll d next s (more next s)) →
    (found : Read Tree) → IsTook d Alone budget bytes found → IsTookAll d budget bytes (argument more found)
argument-took d budget bytes more sound None took = tt
argument-took d budget bytes more sound (Some (t, next, [])) took = tt
argument-took d budget bytes more sound (Some (t, next, b ∷ s)) took =
    cond_both (b == 41) (Some (Last t, next, s)) (if b == 44 then before t (more next s) else None) (IsTookAll d budget bytes)
    (λ last. record {
      text = took.text ∙ ap (λ c. text_in Alone t ++ c ∷ s) (eqb-true b 41 last) ∙ ap (λ x. x ++ 41 ∷ s) (sym (texts_of-Last t));
      spent = took.spent;
      integers = took.integers;
    })
    (λ other.
    cond_both (b == 44) (before t (more next s)) None (IsTookAll d budget bytes)
    (λ comma.
    before-took d budget bytes s t next (more next s)
    (record { text = took.text ∙ ap (λ c. text_in Alone t ++ c ∷ s) (eqb-true b 44 comma); spent = took.spent; integers = took.integers })
    (sound next s))
    (λ none. tt))

pub arguments-took : (d : ℕ) (read : Budget → List ℕ → Read Tree) → ((budget : Budget) (bytes : List ℕ) → IsTook d Alone budget bytes (read budget bytes)) →
    (n : ℕ) (budget : Budget) (bytes : List ℕ) → IsTookAll d budget bytes (arguments read n budget bytes)
arguments-took d read sound zero budget bytes = tt
arguments-took d read sound (suc n) budget bytes =
    argument-took d budget bytes (arguments read n) (λ next s. arguments-took d read sound n next s) (read budget bytes) (sound budget bytes)

-- a compound
compound-took : (d : ℕ) (budget : Budget) (bytes name s : List ℕ) (next : Budget) (found : Read Trees) → bytes ≡ name_text name ++ 40 ∷ s →
    paid (length name) budget ≡ Some next → IsTookAll d next s found → IsTook (suc d) Alone budget bytes (compound name found)
compound-took d budget bytes name s next None text enough took = tt
compound-took d budget bytes name s next (Some (args, left, rest)) text enough took =
    cond_both (is_cell name args) None (Some (Compound name args, left, rest)) (IsTook (suc d) Alone budget bytes)
    (λ cell. tt)
    (λ other. record {
      text = text ∙ ap (λ x. name_text name ++ 40 ∷ x) took.text
          ∙ sym (append_assoc (name_text name) (codes "(") (texts_of args ++ 41 ∷ rest))
          ∙ sym (append_assoc (name_text name ++ codes "(") (texts_of args) (41 ∷ rest))
          ∙ sym (append_assoc (name_text name ++ codes "(" ++ texts_of args) (codes ")") rest)
          ∙ ap (λ x. x ++ rest) (sym (text_in-Compound Alone name args other));
      spent = ap (λ o. then_in o (λ now. spent_all d now args)) enough ∙ took.spent;
      integers = took.integers;
    })

-- a term from terms one level less deep
module _ (d : ℕ) (sound : (place : Place) (budget : Budget) (bytes : List ℕ) → IsTook d place budget bytes (reads d place budget bytes)) where
  called-took : (budget : Budget) (bytes name s : List ℕ) → bytes ≡ name_text name ++ 40 ∷ s →
      IsTook (suc d) Alone budget bytes (called (reads d) name budget s)
  called-took budget bytes name s text = by (paid (length name) budget) refl
    where
      by : (o : Option Budget) → paid (length name) budget ≡ o →
          IsTook (suc d) Alone budget bytes (compound name (then_in o (λ now. arguments (reads d Alone) now.room.nodes now s)))
      by None e = tt
      by (Some next) e =
          compound-took d budget bytes name s next (arguments (reads d Alone) next.room.nodes next s) text e
          (arguments-took d (reads d Alone) (sound Alone) next.room.nodes next s)

  named-took : (budget : Budget) (bytes name rest : List ℕ) → bytes ≡ name_text name ++ rest →
      IsTook (suc d) Alone budget bytes (named (reads d) budget name rest)
  named-took budget bytes name [] text = atom-took d budget bytes name [] text
  named-took budget bytes name (b ∷ s) text =
      cond_both (b == 40) (called (reads d) name budget s) (atom name budget (b ∷ s)) (IsTook (suc d) Alone budget bytes)
      (λ open_bracket. called-took budget bytes name s (text ∙ ap (λ c. name_text name ++ c ∷ s) (eqb-true b 40 open_bracket)))
      (λ other. atom-took d budget bytes name (b ∷ s) text)

  cell_of-took : (place : Place) (budget : Budget) (bytes : List ℕ) (head_room : Budget) (from : List ℕ) (t : Tree) (next : Budget) (s : List ℕ) (found : Read Tree) →
      bytes ≡ before_element place ++ from → paid 1 budget ≡ Some head_room → Took d Alone head_room from t next s →
      IsTook d Behind next s found → IsTook (suc d) place budget bytes (cell_of t found)
  cell_of-took place budget bytes head_room from t next s None text enough first last = tt
  cell_of-took place budget bytes head_room from t next s (Some (u, left, rest)) text enough first last = record {
    text = text ∙ ap (λ x. before_element place ++ x) (first.text ∙ ap (λ x. text_in Alone t ++ x) last.text)
        ∙ sym (append_assoc (before_element place) (text_in Alone t) (text_in Behind u ++ rest))
        ∙ sym (append_assoc (before_element place ++ text_in Alone t) (text_in Behind u) rest)
        ∙ ap (λ x. x ++ rest) (sym (text_in-cell place (codes ".") t u refl));
    spent = ap (λ o. then_in o (λ now. then_in (spent d now t) (λ more. spent d more u))) enough
        ∙ ap (λ o. then_in o (λ more. spent d more u)) first.spent ∙ last.spent;
    integers = (first.integers, last.integers);
  }

  cell-took : (place : Place) (budget : Budget) (bytes : List ℕ) (head_room : Budget) (from : List ℕ) (found : Read Tree) →
      bytes ≡ before_element place ++ from → paid 1 budget ≡ Some head_room → IsTook d Alone head_room from found →
      IsTook (suc d) place budget bytes (cell (reads d Behind) found)
  cell-took place budget bytes head_room from None text enough first = tt
  cell-took place budget bytes head_room from (Some (t, next, s)) text enough first =
      cell_of-took place budget bytes head_room from t next s (reads d Behind next s) text enough first (sound Behind next s)

  element-took : (place : Place) (budget : Budget) (bytes from : List ℕ) → bytes ≡ before_element place ++ from →
      IsTook (suc d) place budget bytes (element (reads d) budget from)
  element-took place budget bytes from text = by (paid 1 budget) refl
    where
      by : (o : Option Budget) → paid 1 budget ≡ o →
          IsTook (suc d) place budget bytes (then_in o (λ now. cell (reads d Behind) (reads d Alone now from)))
      by None e = tt
      by (Some next) e = cell-took place budget bytes next from (reads d Alone next from) text e (sound Alone next from)

  list-took : (budget : Budget) (s : List ℕ) → IsTook (suc d) Alone budget (91 ∷ s) (list (reads d) budget s)
  list-took budget [] = tt
  list-took budget (b ∷ s) =
      cond_both (b == 93) (nil budget s) (element (reads d) budget (b ∷ s)) (IsTook (suc d) Alone budget (91 ∷ b ∷ s))
      (λ end. nil-took d Alone budget (91 ∷ b ∷ s) s (ap (λ c. 91 ∷ c ∷ s) (eqb-true b 93 end)))
      (λ other. element-took Alone budget (91 ∷ b ∷ s) (b ∷ s) refl)

  named_or_number-took : (budget : Budget) (bytes : List ℕ) (found : Option (List ℕ × List ℕ)) → IsNameAt bytes found →
      IsTook (suc d) Alone budget bytes (named_or_number (reads d) budget bytes found)
  named_or_number-took budget bytes None there = number-took d budget bytes (integer_at bytes) (integer_at-read bytes)
  named_or_number-took budget bytes (Some (name, rest)) there = named-took budget bytes name rest there

  node-took : (budget : Budget) (bytes : List ℕ) → IsTook (suc d) Alone budget bytes (node (reads d) budget bytes)
  node-took budget [] = tt
  node-took budget (b ∷ s) =
      cond_both (b == 95) (variable budget (number_at 255 s))
      (if b == 91 then list (reads d) budget s else named_or_number (reads d) budget (b ∷ s) (name_at budget.room.name_bytes (b ∷ s))) (IsTook (suc d) Alone budget (b ∷ s))
      (λ underscore.
      subst (λ c. IsTook (suc d) Alone budget (c ∷ s) (variable budget (number_at 255 s))) (sym (eqb-true b 95 underscore))
      (variable-took d budget s (number_at 255 s) (number_at-read 255 s (omega arith) (omega arith))))
      (λ other.
      cond_both (b == 91) (list (reads d) budget s) (named_or_number (reads d) budget (b ∷ s) (name_at budget.room.name_bytes (b ∷ s))) (IsTook (suc d) Alone budget (b ∷ s))
      (λ bracket. subst (λ c. IsTook (suc d) Alone budget (c ∷ s) (list (reads d) budget s)) (sym (eqb-true b 91 bracket)) (list-took budget s))
      (λ neither. named_or_number-took budget (b ∷ s) (name_at budget.room.name_bytes (b ∷ s)) (name_at-took budget.room.name_bytes (b ∷ s))))

  barred-took : (budget : Budget) (s : List ℕ) (found : Read Tree) → IsTook (suc d) Alone budget s found →
      IsTook (suc d) Behind budget (124 ∷ s) (barred found)
  barred-took budget s None took = tt
  barred-took budget s (Some (t, left, [])) took = tt
  barred-took budget s (Some (t, left, b ∷ rest)) took =
      cond_both (b == 93 && is_barred t) (Some (t, left, rest)) None (IsTook (suc d) Behind budget (124 ∷ s))
      (λ both. let tests = and_parts (b == 93) (is_barred t) both in record {
        text = ap (λ x. 124 ∷ x) (took.text ∙ ap (λ c. text_in Alone t ++ c ∷ rest) (eqb-true b 93 tests.0))
            ∙ ap (λ x. 124 ∷ x) (sym (append_assoc (text_in Alone t) (codes "]") rest)) ∙ ap (λ x. x ++ rest) (sym (text_in-barred t tests.1));
        spent = took.spent;
        integers = took.integers;
      })
      (λ other. tt)

  tail-took : (budget : Budget) (bytes : List ℕ) → IsTook (suc d) Behind budget bytes (tail (reads d) budget bytes)
  tail-took budget [] = tt
  tail-took budget (b ∷ s) =
      cond_both (b == 93) (nil budget s)
      (if b == 44 then element (reads d) budget s else (if b == 124 then barred (node (reads d) budget s) else None)) (IsTook (suc d) Behind budget (b ∷ s))
      (λ end. nil-took d Behind budget (b ∷ s) s (ap (λ c. c ∷ s) (eqb-true b 93 end)))
      (λ no_end.
      cond_both (b == 44) (element (reads d) budget s) (if b == 124 then barred (node (reads d) budget s) else None) (IsTook (suc d) Behind budget (b ∷ s))
      (λ comma. element-took Behind budget (b ∷ s) s (ap (λ c. c ∷ s) (eqb-true b 44 comma)))
      (λ no_comma.
      cond_both (b == 124) (barred (node (reads d) budget s)) None (IsTook (suc d) Behind budget (b ∷ s))
      (λ bar. subst (λ c. IsTook (suc d) Behind budget (c ∷ s) (barred (node (reads d) budget s))) (sym (eqb-true b 124 bar))
      (barred-took budget s (node (reads d) budget s) (node-took budget s)))
      (λ none. tt)))

-- what is read stands there
pub reads-took : (d : ℕ) (place : Place) (budget : Budget) (bytes : List ℕ) → IsTook d place budget bytes (reads d place budget bytes)
reads-took zero place budget bytes = tt
reads-took (suc d) Alone budget bytes = node-took d (reads-took d) budget bytes
reads-took (suc d) Behind budget bytes = tail-took d (reads-took d) budget bytes

-- so does the name alone
pub head-took : (bytes : List ℕ) (found : Option (List ℕ × List ℕ)) → IsNameAt bytes found → IsTook 1 Alone whole bytes (head found)
head-took bytes None there = tt
head-took bytes (Some (name, rest)) there = atom-took 0 whole bytes name rest there
