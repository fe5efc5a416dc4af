-- What is read by one thing after another: what each of them read.
use Rattle.std.proofs.Common.{◌≡◌, ℕ, List, ◌++◌, Option, Some, None, refl, ap, subst, ◌∙◌}
use Rattle.std.proofs.lemmas.Option.{none-some, some_pair_parts}
use Rattle.tc_lists.specs.AtFront.{Front, Takes, and_then, behind, closed, closed_by, made}
use Rattle.tc_lists.specs.Texts.{after}
use Rattle.tc_lists.proofs.After.{after-takes}

pub behind-some : {X : Type 0} (word bytes : List ℕ) (read : List ℕ → Front X) (x : X) (rest : List ℕ) → behind (after word bytes) read ≡ Some (x, rest)
    → (more : List ℕ) × (bytes ≡ word ++ more) × (read more ≡ Some (x, rest))
behind-some word bytes read x rest e = by (after word bytes) (λ more f. after-takes word bytes more f) e
  where
    by : (o : Option (List ℕ)) → ((more : List ℕ) → o ≡ Some more → bytes ≡ word ++ more) → behind o read ≡ Some (x, rest)
        → (more : List ℕ) × (bytes ≡ word ++ more) × (read more ≡ Some (x, rest))
    by None stands f = absurd (none-some (x, rest) f)
    by (Some more) stands f = (more, stands more refl, f)

pub and_then-some : {X Y : Type 0} (a : Front Y) (next : Y → List ℕ → Front X) (x : X) (rest : List ℕ) → and_then a next ≡ Some (x, rest)
    → (y : Y) × (more : List ℕ) × (a ≡ Some (y, more)) × (next y more ≡ Some (x, rest))
and_then-some None next x rest e = absurd (none-some (x, rest) e)
and_then-some (Some (y, more)) next x rest e = (y, more, refl, e)

pub closed-some : {X : Type 0} (word bytes : List ℕ) (make x : X) (rest : List ℕ) → closed make (after word bytes) ≡ Some (x, rest) → (make ≡ x) × (bytes ≡ word ++ rest)
closed-some word bytes make x rest e = by (after word bytes) (λ more f. after-takes word bytes more f) e
  where
    by : (o : Option (List ℕ)) → ((more : List ℕ) → o ≡ Some more → bytes ≡ word ++ more) → closed make o ≡ Some (x, rest) → (make ≡ x) × (bytes ≡ word ++ rest)
    by None stands f = absurd (none-some (x, rest) f)
    by (Some more) stands f = let both = some_pair_parts make x more rest f in (both.0, stands more refl ∙ ap (λ r. word ++ r) both.1)

pub takes-some : {X : Type 0} (good : X → Type 0) (text : X → List ℕ) (bytes : List ℕ) (a : Front X) (x : X) (rest : List ℕ) → Takes good text bytes a → a ≡ Some (x, rest)
    → good x × (bytes ≡ text x ++ rest)
takes-some good text bytes a x rest takes e = subst (Takes good text bytes) e takes

pub closed_by-some : {X : Type 0} (word : List ℕ) (a : Front X) (x : X) (rest : List ℕ) → closed_by word a ≡ Some (x, rest) → a ≡ Some (x, word ++ rest)
closed_by-some word None x rest e = absurd (none-some (x, rest) e)
closed_by-some word (Some (y, more)) x rest e =
    let both = closed-some word more y x rest e in
    ap (λ z. Some (z, more)) both.0 ∙ ap (λ r. Some (x, r)) both.1

pub made-some : {X Y : Type 0} (make : Y → X) (a : Front Y) (x : X) (rest : List ℕ) → made make a ≡ Some (x, rest)
    → (y : Y) × (a ≡ Some (y, rest)) × (make y ≡ x)
made-some make None x rest e = absurd (none-some (x, rest) e)
made-some make (Some (y, more)) x rest e =
    let both = some_pair_parts (make y) x more rest e in
    (y, ap (λ r. Some (y, r)) both.1, both.0)

-- what is read, and a word behind it
pub closed_by-stands : {X : Type 0} (good : X → Type 0) (text : X → List ℕ) (word bytes : List ℕ) (a : Front X) (x : X) (rest : List ℕ)
    → Takes good text bytes a → closed_by word a ≡ Some (x, rest) → good x × (bytes ≡ text x ++ (word ++ rest))
closed_by-stands good text word bytes a x rest takes e = takes-some good text bytes a x (word ++ rest) takes (closed_by-some word a x rest e)

-- what is read stands there, since whatever is read does
pub takes-from : {X : Type 0} (good : X → Type 0) (text : X → List ℕ) (bytes : List ℕ) (a : Front X)
    → ((x : X) (rest : List ℕ) → a ≡ Some (x, rest) → good x × (bytes ≡ text x ++ rest)) → Takes good text bytes a
takes-from good text bytes None some = tt
takes-from good text bytes (Some (x, rest)) some = some x rest refl
