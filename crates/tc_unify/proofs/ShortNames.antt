-- A short name and its number are found from each other.
use Rattle.std.proofs.Common.{◌≡◌, ℕ, zero, suc, ◌+◌, ◌-◌, ◌*◌, ◌<◌, ◌≤◌, ◌/◌, ◌%◌, List, [], ◌∷◌, ◌++◌, length, length-append, length-drop, drop, append_assoc, refl, sym, ap, ap₂, ◌∙◌, subst, arith, All}
use Rattle.std.proofs.lemmas.List.Elements.{All-head, All-tail, All-drop}
use Rattle.tc_unify.specs.declared.names.TheConstants.{SHORT, SHORT_NAMES}
use Rattle.tc_unify.specs.Names.{name_code, name_within, name_at, names_within}

name_within-code : (most : ℕ) (name : List ℕ) → length name ≤ most → All (λ b. b < 256) name → name_within most (name_code name) ≡ name
name_within-code zero [] h bytes = refl
name_within-code zero (byte ∷ name) h bytes = absurd (omega arith)
name_within-code (suc most) [] h bytes = refl
name_within-code (suc most) (byte ∷ name) h bytes =
    let small = All-head (λ b. b < 256) byte name bytes in
    let one_more : name_code name * 256 + byte + 1 ≡ suc (name_code name * 256 + byte) = omega arith in
    let digit : (name_code name * 256 + byte) % 256 ≡ byte = omega arith in
    let others : (name_code name * 256 + byte) / 256 ≡ name_code name = omega arith in
    ap (name_within (suc most)) one_more
    ∙ ap₂ (λ (x : ℕ) (xs : List ℕ). x ∷ xs) digit (ap (name_within most) others ∙ name_within-code most name (omega arith) (All-tail (λ b. b < 256) byte name bytes))

pub name_at-code : (name : List ℕ) → length name ≤ SHORT → All (λ b. b < 256) name → name_at (name_code name) ≡ name
name_at-code name h bytes = name_within-code SHORT name h bytes

code-name_within : (most n : ℕ) → n < names_within most → name_code (name_within most n) ≡ n
code-name_within zero n h = omega arith
code-name_within (suc most) zero h = refl
code-name_within (suc most) (suc n) h =
    let rest = code-name_within most (n / 256) (omega arith) in omega (arith, rest)

-- different numbers are those of different names
pub name_at-injective : (m n : ℕ) → m < SHORT_NAMES → n < SHORT_NAMES → name_at m ≡ name_at n → m ≡ n
name_at-injective m n h i e = sym (code-name_within SHORT m h) ∙ ap name_code e ∙ code-name_within SHORT n i

length-name_within : (most n : ℕ) → length (name_within most n) ≤ most
length-name_within zero n = omega arith
length-name_within (suc most) zero = omega arith
length-name_within (suc most) (suc n) = omega (arith, length-name_within most (n / 256))

pub length-name_at : (n : ℕ) → length (name_at n) ≤ SHORT
length-name_at n = length-name_within SHORT n

pub code-small : (most : ℕ) (name : List ℕ) → length name ≤ most → All (λ b. b < 256) name → name_code name < names_within most
code-small zero [] h bytes = omega arith
code-small zero (byte ∷ name) h bytes = absurd (omega arith)
code-small (suc most) [] h bytes = omega arith
code-small (suc most) (byte ∷ name) h bytes =
    let small = All-head (λ b. b < 256) byte name bytes in
    let rest = code-small most name (omega arith) (All-tail (λ b. b < 256) byte name bytes) in
    omega arith

-- the next byte of a name that is read off its number
pub record IsNextByte (most rest : ℕ) : Type 0 where
  pub some : 0 < most
  pub name : name_within most rest ≡ (rest - 1) % 256 ∷ name_within (most - 1) ((rest - 1) / 256)
  pub below : (rest - 1) / 256 < names_within (most - 1)

pub next_byte : (most rest : ℕ) → 0 < rest → rest < names_within most → IsNextByte most rest
next_byte zero rest h below = absurd (omega arith)
next_byte (suc most) zero h below = absurd (omega arith)
next_byte (suc most) (suc n) h below =
    let rest_is : n ≡ suc n - 1 = omega arith in
    let most_is : most ≡ suc most - 1 = omega arith in
    let less : n / 256 < names_within most = omega arith in
    record {
      some = omega arith;
      name = ap₂ (λ (x : ℕ) (xs : List ℕ). x ∷ xs) (ap (λ m. m % 256) rest_is) (ap₂ name_within most_is (ap (λ m. m / 256) rest_is));
      below = subst (λ m. m / 256 < names_within (suc most - 1)) rest_is (subst (λ k. n / 256 < names_within k) most_is less);
    }

-- there is room for one byte more
pub code_room : (name : List ℕ) (place : ℕ) → length name ≤ SHORT → 0 < place → place ≤ length name → All (λ b. b < 256) name → name_code (drop place name) < 282578800148737
code_room name place short some h bytes =
    code-small 6 (drop place name) (omega (arith, length-drop place name)) (All-drop (λ b. b < 256) place name bytes)

-- one byte more is read off
pub name_next : (code rest byte : ℕ) (bytes new : List ℕ) → name_at code ≡ bytes ++ name_within (SHORT - length bytes) rest
    → 0 < rest → rest < names_within (SHORT - length bytes) → byte ≡ (rest - 1) % 256 → new ≡ bytes ++ byte ∷ []
    → (name_at code ≡ new ++ name_within (SHORT - length new) ((rest - 1) / 256)) × ((rest - 1) / 256 < names_within (SHORT - length new))
name_next code rest byte bytes new so_far some below is pushed =
    let next = next_byte (SHORT - length bytes) rest some below in
    let longer : length new ≡ length bytes + 1 = ap length pushed ∙ length-append bytes (byte ∷ []) in
    let most : (SHORT - length bytes) - 1 ≡ SHORT - length new = omega arith in
    let others = (rest - 1) / 256 in (
      so_far
          ∙ ap (λ xs. bytes ++ xs) (next.name ∙ ap₂ (λ (x : ℕ) (xs : List ℕ). x ∷ xs) (sym is) (ap (λ m. name_within m others) most))
          ∙ sym (append_assoc bytes (byte ∷ []) (name_within (SHORT - length new) others))
          ∙ sym (ap (λ xs. xs ++ name_within (SHORT - length new) others) pushed),
      subst (λ m. others < names_within m) most next.below,
    )
