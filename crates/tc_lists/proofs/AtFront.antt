-- What functions that read at the front take, and what they read again.
use Rattle.std.proofs.Common.{◌≡◌, ◌^◌, ◌<◌, ◌≤◌, ℕ, List, ◌++◌, Option, Some, None, refl, sym, ap, ◌∙◌, append_assoc}
use Rattle.std.specs.Fmt.{decimal}
use Rattle.tc_lists.specs.AtFront.{Front, made, and_then, behind, closed, closed_by, or_else, word_for, between, Takes, AlwaysTakes}
use Rattle.tc_lists.specs.Decimals.{IsNumberAt, number_at}
use Rattle.tc_lists.specs.Texts.{after}
use Rattle.tc_lists.proofs.After.{after-append, after-takes}
use Rattle.tc_lists.proofs.Decimals.{number_at-takes}

-- what is read stands there

module _ {X : Type 0} (good : X → Type 0) (text : X → List ℕ) where
  pub made-takes : {Y : Type 0} (other : Y → Type 0) (as_text : Y → List ℕ) (make : Y → X) (bytes : List ℕ) (a : Front Y)
      → ((y : Y) → other y → good (make y)) → ((y : Y) → text (make y) ≡ as_text y)
      → Takes other as_text bytes a → Takes good text bytes (made make a)
  made-takes other as_text make bytes None goods texts takes = tt
  made-takes other as_text make bytes (Some (y, rest)) goods texts takes =
      (goods y takes.0, takes.1 ∙ ap (λ t. t ++ rest) (sym (texts y)))

  -- one thing and then another, which is told with a text that begins with that of the first
  pub and_then-takes : {Y : Type 0} (other : Y → Type 0) (as_text : Y → List ℕ) (tail : Y → X → List ℕ) (bytes : List ℕ)
      (a : Front Y) (next : Y → List ℕ → Front X) → Takes other as_text bytes a
      → ((y : Y) (rest : List ℕ) → other y → Takes (λ x. good x × (text x ≡ as_text y ++ tail y x)) (tail y) rest (next y rest))
      → Takes good text bytes (and_then a next)
  and_then-takes other as_text tail bytes None next takes then = tt
  and_then-takes other as_text tail bytes (Some (y, rest)) next takes then = by (next y rest) (then y rest takes.0)
    where
      by : (b : Front X) → Takes (λ x. good x × (text x ≡ as_text y ++ tail y x)) (tail y) rest b → Takes good text bytes b
      by None more = tt
      by (Some (x, left)) more = (
        more.0.0,
        takes.1 ∙ (ap (λ r. as_text y ++ r) more.1
            ∙ (sym (append_assoc (as_text y) (tail y x) left) ∙ ap (λ t. t ++ left) (sym more.0.1))),
      )

  pub or_else-takes : (bytes : List ℕ) (a b : Front X) → Takes good text bytes a → Takes good text bytes b
      → Takes good text bytes (or_else a b)
  or_else-takes bytes None b first other = other
  or_else-takes bytes (Some (x, rest)) b first other = first

  pub behind-takes : (word bytes : List ℕ) (read : List ℕ → Front X) → AlwaysTakes good text read
      → Takes good (λ x. word ++ text x) bytes (behind (after word bytes) read)
  behind-takes word bytes read takes = by (after word bytes) (λ rest e. after-takes word bytes rest e)
    where
      more : (rest : List ℕ) → bytes ≡ word ++ rest → (a : Front X) → Takes good text rest a → Takes good (λ x. word ++ text x) bytes a
      more rest stands None t = tt
      more rest stands (Some (x, left)) t = (t.0, stands ∙ (ap (λ r. word ++ r) t.1 ∙ sym (append_assoc word (text x) left)))

      by : (o : Option (List ℕ)) → ((rest : List ℕ) → o ≡ Some rest → bytes ≡ word ++ rest) → Takes good (λ x. word ++ text x) bytes (behind o read)
      by None stands = tt
      by (Some rest) stands = more rest (stands rest refl) (read rest) (takes rest)

  pub closed_by-takes : (word bytes : List ℕ) (a : Front X) → Takes good text bytes a
      → Takes good (λ x. text x ++ word) bytes (closed_by word a)
  closed_by-takes word bytes None takes = tt
  closed_by-takes word bytes (Some (x, rest)) takes = by (after word rest) (λ more e. after-takes word rest more e)
    where
      by : (o : Option (List ℕ)) → ((more : List ℕ) → o ≡ Some more → rest ≡ word ++ more) → Takes good (λ y. text y ++ word) bytes (closed x o)
      by None stands = tt
      by (Some more) stands = (takes.0, takes.1 ∙ (ap (λ r. text x ++ r) (stands more refl) ∙ sym (append_assoc (text x) word more)))

  pub word_for-takes : (x : X) (word bytes : List ℕ) → good x → text x ≡ word → Takes good text bytes (word_for x word bytes)
  word_for-takes x word bytes is same = by (after word bytes) (λ rest e. after-takes word bytes rest e)
    where
      by : (o : Option (List ℕ)) → ((rest : List ℕ) → o ≡ Some rest → bytes ≡ word ++ rest) → Takes good text bytes (closed x o)
      by None takes = tt
      by (Some rest) takes = (is, takes rest refl ∙ ap (λ w. w ++ rest) (sym same))

pub between-takes : {X : Type 0} (good : X → Type 0) (text : X → List ℕ) (first close : List ℕ) (read : List ℕ → Front X)
    → AlwaysTakes good text read → AlwaysTakes good (λ x. first ++ (text x ++ close)) (between first close read)
between-takes good text first close read takes bytes =
    behind-takes good (λ x. text x ++ close) first bytes (λ rest. closed_by close (read rest))
    (λ rest. closed_by-takes good text close rest (read rest) (takes rest))

-- a number within a limit
pub number-takes : (limit : ℕ) → 9 ≤ limit → limit < 2 ^ 64 → AlwaysTakes (λ n. n ≤ limit) decimal (number_at limit)
number-takes limit large small bytes = by (number_at limit bytes) (λ n rest e. number_at-takes limit bytes n rest large small e)
  where
    by : (o : Front ℕ) → ((n : ℕ) (rest : List ℕ) → o ≡ Some (n, rest) → IsNumberAt limit bytes n rest)
        → Takes (λ n. n ≤ limit) decimal bytes o
    by None stands = tt
    by (Some (n, rest)) stands = let at = stands n rest refl in (at.within, at.text)

-- what is spelt is read again

module _ {X : Type 0} where
  pub made-again : {Y : Type 0} (make : Y → X) (a : Front Y) (y : Y) (rest : List ℕ) → a ≡ Some (y, rest)
      → made make a ≡ Some (make y, rest)
  made-again make a y rest e = ap (made make) e

  pub and_then-again : {Y : Type 0} (a : Front Y) (next : Y → List ℕ → Front X) (y : Y) (rest : List ℕ) (found : Front X)
      → a ≡ Some (y, rest) → next y rest ≡ found → and_then a next ≡ found
  and_then-again a next y rest found e f = ap (λ o. and_then o next) e ∙ f

  pub or_else-first : (a b : Front X) (found : X × List ℕ) → a ≡ Some found → or_else a b ≡ Some found
  or_else-first a b found e = ap (λ o. or_else o b) e

  pub or_else-other : (a b found : Front X) → a ≡ None → b ≡ found → or_else a b ≡ found
  or_else-other a b found e f = ap (λ o. or_else o b) e ∙ f

  pub behind-again : (word text rest : List ℕ) (read : List ℕ → Front X) (x : X) → read (text ++ rest) ≡ Some (x, rest)
      → behind (after word ((word ++ text) ++ rest)) read ≡ Some (x, rest)
  behind-again word text rest read x again =
      ap (λ bytes. behind (after word bytes) read) (append_assoc word text rest)
      ∙ (ap (λ o. behind o read) (after-append word (text ++ rest)) ∙ again)

  pub closed_by-again : (word rest : List ℕ) (a : Front X) (x : X) → a ≡ Some (x, word ++ rest) → closed_by word a ≡ Some (x, rest)
  closed_by-again word rest a x e = ap (closed_by word) e ∙ ap (closed x) (after-append word rest)

  pub word_for-again : (x : X) (word rest : List ℕ) → word_for x word (word ++ rest) ≡ Some (x, rest)
  word_for-again x word rest = ap (closed x) (after-append word rest)

  pub between-again : (first close text rest : List ℕ) (read : List ℕ → Front X) (x : X)
      → read (text ++ (close ++ rest)) ≡ Some (x, close ++ rest)
      → between first close read ((first ++ (text ++ close)) ++ rest) ≡ Some (x, rest)
  between-again first close text rest read x again =
      behind-again first (text ++ close) rest (λ bytes. closed_by close (read bytes)) x
      (ap (λ bytes. closed_by close (read bytes)) (append_assoc text close rest)
      ∙ closed_by-again close rest (read (text ++ (close ++ rest))) x again)
