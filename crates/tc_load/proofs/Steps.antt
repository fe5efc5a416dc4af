-- Texts that grow by one step of a loop, or part by part.
use Rattle.std.proofs.Common.{◌≡◌, ◌∙◌, ℕ, suc, ◌+◌, ◌<◌, List, [], ◌∷◌, ◌++◌, length, take, drop, get_or, Option, Some, None, is_some, true, false, Result, OnOk, slice_get, subst, ap, sym, append-nil, append_assoc, drop-cons, arith}
use Rattle.std.proofs.lemmas.Grind.{flat_map-append}
use Rattle.std.proofs.lemmas.List.{take-append-drop, take_more, length-take-le}
use Rattle.std.proofs.lemmas.List.Elements.{filter_map-append}
use Rattle.std.specs.List.{cons_option, enumerate_from, filter_map, flat_map, range_with_len}
use Rattle.tc_lists.specs.Texts.{joined}
use Rattle.tc_lists.proofs.Ranges.{range_with_len_more}
use Rattle.tc_lists.proofs.Results.{IfOk-both}

-- what a number more gives stands behind what those before it give
pub flat_map-range : {A : Type 0} (f : ℕ → List A) (n : ℕ)
    → flat_map f (range_with_len 0 (n + 1)) ≡ flat_map f (range_with_len 0 n) ++ f n
flat_map-range f n =
    ap (flat_map f) (range_with_len_more n) ∙ flat_map-append f (range_with_len 0 n) (n ∷ [])
    ∙ ap (λ l. flat_map f (range_with_len 0 n) ++ l) (append-nil (f n))

-- with a number more written, so is what all numbers so far give
pub written-range : {A : Type 0} (f : ℕ → List A) (n : ℕ) (old now new : List A)
    → now ≡ old ++ flat_map f (range_with_len 0 n) → new ≡ now ++ f n
    → new ≡ old ++ flat_map f (range_with_len 0 (n + 1))
written-range f n old now new so_far more =
    more ∙ ap (λ l. l ++ f n) so_far ∙ append_assoc old (flat_map f (range_with_len 0 n)) (f n)
    ∙ ap (λ l. old ++ l) (sym (flat_map-range f n))

-- an item more has the number of those before it
pub enumerate_from-more : {X : Type 0} (n : ℕ) (xs : List X) (x : X)
    → enumerate_from n (xs ++ x ∷ []) ≡ enumerate_from n xs ++ (n + length xs, x) ∷ []
enumerate_from-more n [] x = ap (λ m. (m, x) ∷ []) (omega arith)
enumerate_from-more n (y ∷ ys) x =
    ap (λ l. (n, y) ∷ l)
    (enumerate_from-more (n + 1) ys x
    ∙ ap (λ m. enumerate_from (n + 1) ys ++ (m, x) ∷ []) (omega arith))

-- with an item more written, so is what all items so far give
pub written-items : {X A : Type 0} (f : ℕ × X → List A) (xs : List X) (i : ℕ) (d : X)
    (old now new : List A) → i < length xs
    → now ≡ old ++ flat_map f (enumerate_from 0 (take i xs)) → new ≡ now ++ f (i, get_or xs i d)
    → new ≡ old ++ flat_map f (enumerate_from 0 (take (i + 1) xs))
written-items f xs i d old now new inside so_far more =
    let front = take i xs in
    let x = get_or xs i d in
    let place : 0 + length front ≡ i = omega (arith, length-take-le i xs) in
    let grown : enumerate_from 0 (take (i + 1) xs) ≡ enumerate_from 0 front ++ (i, x) ∷ [] =
    ap (enumerate_from 0) (take_more xs i d inside) ∙ enumerate_from-more 0 front x
    ∙ ap (λ m. enumerate_from 0 front ++ (m, x) ∷ []) place in
    let text : flat_map f (enumerate_from 0 (take (i + 1) xs)) ≡ flat_map f (enumerate_from 0 front) ++ f (i, x) =
    ap (flat_map f) grown ∙ flat_map-append f (enumerate_from 0 front) ((i, x) ∷ [])
    ∙ ap (λ l. flat_map f (enumerate_from 0 front) ++ l) (append-nil (f (i, x))) in
    more ∙ ap (λ l. l ++ f (i, x)) so_far ∙ append_assoc old (flat_map f (enumerate_from 0 front)) (f (i, x))
    ∙ ap (λ l. old ++ l) (sym text)

-- parts that were written one behind another are joined
pub joined-three : (old a b c now then new : List ℕ) → now ≡ old ++ a → then ≡ now ++ b → new ≡ then ++ c
    → new ≡ old ++ joined (a ∷ b ∷ c ∷ [])
joined-three old a b c now then new first second third =
    third ∙ ap (λ l. l ++ c) (second ∙ ap (λ l. l ++ b) first)
    ∙ append_assoc (old ++ a) b c ∙ append_assoc old a (b ++ c)
    ∙ ap (λ l. old ++ (a ++ (b ++ l))) (sym (append-nil c))

pub joined-four : (old a b c d now then later new : List ℕ) → now ≡ old ++ a → then ≡ now ++ b
    → later ≡ then ++ c → new ≡ later ++ d → new ≡ old ++ joined (a ∷ b ∷ c ∷ d ∷ [])
joined-four old a b c d now then later new first second third fourth =
    fourth ∙ ap (λ l. l ++ d) (third ∙ ap (λ l. l ++ c) (second ∙ ap (λ l. l ++ b) first))
    ∙ append_assoc ((old ++ a) ++ b) c d ∙ append_assoc (old ++ a) b (c ++ d)
    ∙ append_assoc old a (b ++ (c ++ d)) ∙ ap (λ l. old ++ (a ++ (b ++ (c ++ l)))) (sym (append-nil d))

-- an item that gives nothing, behind such as give nothing
pub filter_map-none : {X Y : Type 0} (h : X → Option Y) (xs : List X) (i : ℕ) (d : X) (o : Option Y) → i < length xs
    → filter_map h (take i xs) ≡ [] → o ≡ h (get_or xs i d) → is_some o ≡ false → filter_map h (take (i + 1) xs) ≡ []
filter_map-none h xs i d (Some y) inside before given none = cc
filter_map-none h xs i d None inside before given none =
    let x = get_or xs i d in
    ap (filter_map h) (take_more xs i d inside) ∙ filter_map-append h (take i xs) (x ∷ [])
    ∙ ap (λ l. l ++ filter_map h (x ∷ [])) before ∙ ap (λ o. cons_option o []) (sym given)

-- the first that is given, behind items that give nothing
pub filter_map-first : {X Y : Type 0} (h : X → Option Y) (xs : List X) (i : ℕ) (d : X) (o : Option Y) → i < length xs
    → filter_map h (take i xs) ≡ [] → o ≡ h (get_or xs i d) → is_some o ≡ true → o ≡ slice_get (filter_map h xs) 0
filter_map-first h xs i d None inside before given some = cc
filter_map-first h xs i d (Some y) inside before given some =
    let x = get_or xs i d in
    let behind = drop (suc i) xs in
    let parts : xs ≡ take i xs ++ x ∷ behind =
    sym (take-append-drop i xs) ∙ ap (λ l. take i xs ++ l) (drop-cons xs i d inside) in
    let found : filter_map h xs ≡ y ∷ filter_map h behind =
    ap (filter_map h) parts ∙ filter_map-append h (take i xs) (x ∷ behind)
    ∙ ap (λ l. l ++ filter_map h (x ∷ behind)) before
    ∙ ap (λ o. cons_option o (filter_map h behind)) (sym given) in
    sym (ap (λ l. slice_get l 0) found)

-- what follows where both answers are right, and they are one
module _ {T E : Type 0} where
  pub OnOk-both : (r s : Result T E) (P Q R : Type 0) → r ≡ s → OnOk r P → OnOk s Q → (P → Q → R) → OnOk r R
  OnOk-both r s P Q R same first second follows =
      IfOk-both r (λ _. P) (λ _. Q) (λ _. R) (λ _ p q. follows p q) first
      (subst (λ (a : Result T E). OnOk a Q) (sym same) second)
