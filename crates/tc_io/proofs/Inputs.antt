-- What a source has left after several reads.
use Rattle.std.proofs.Common.{◌≡◌, ℕ, ◌+◌, ◌≤◌, List, [], ◌++◌, length, take, drop, Option, None, Some, sym, ap, ap₂, ◌∙◌, refl, append_assoc, append-nil, take-append-drop, length-append, arith}
use Rattle.std.proofs.Math.Seq.{drop-append_seam}
use Rattle.std.proofs.lemmas.Option.{same_Some}
use Rattle.tc_io.specs.Sources.{Reads, ReadsBytes, ReadsAll, ReadsPast, ReadsSome}

pub ReadsBytes-none : (old : Option (List ℕ)) → ReadsBytes old old []
ReadsBytes-none None = refl
ReadsBytes-none (Some left) = (left, refl, refl)

pub ReadsBytes-more : (old mid new : Option (List ℕ)) (n : ℕ) (bytes buffer : List ℕ) → ReadsBytes old mid bytes → Reads mid new n buffer → ReadsBytes old new (bytes ++ take n buffer)
ReadsBytes-more None None new n bytes buffer before more = more
ReadsBytes-more None (Some rest) new n bytes buffer before more = absurd (cc)
ReadsBytes-more (Some left) None new n bytes buffer before more = let impossible = before.2 in absurd (cc)
ReadsBytes-more (Some left) (Some rest) new n bytes buffer before more =
    let same : rest ≡ before.0 = same_Some rest before.0 before.2 in
    let split : rest ≡ take n buffer ++ drop n rest =
    sym (take-append-drop n rest) ∙ ap (λ (l : List ℕ). l ++ drop n rest) (sym more.0.given) in
    (drop n rest, before.1 ∙ ap (λ (l : List ℕ). bytes ++ l) (sym same ∙ split) ∙ sym (append_assoc bytes (take n buffer) (drop n rest)), more.1)

-- a read of nothing tells that all was read
pub ReadsBytes-all : (old mid new : Option (List ℕ)) (limit n : ℕ) (bytes buffer : List ℕ) → ReadsBytes old mid bytes → Reads mid new n buffer → n ≡ 0 → length bytes ≤ limit → ReadsAll old new limit bytes
ReadsBytes-all None None new limit n bytes buffer before more none within = (within, more)
ReadsBytes-all None (Some rest) new limit n bytes buffer before more none within = absurd (cc)
ReadsBytes-all (Some left) None new limit n bytes buffer before more none within = let impossible = before.2 in absurd (cc)
ReadsBytes-all (Some left) (Some rest) new limit n bytes buffer before more none within =
    let same : rest ≡ before.0 = same_Some rest before.0 before.2 in
    let end : rest ≡ [] = more.0.end.0 none in
    (within, before.1 ∙ ap (λ (l : List ℕ). bytes ++ l) (sym same ∙ end) ∙ append-nil bytes, more.1 ∙ ap₂ (λ (m : ℕ) (l : List ℕ). Some (drop m l)) none end)

-- as many bytes were read as there are
pub ReadsBytes-count : (old new : Option (List ℕ)) (most : ℕ) (bytes : List ℕ) → ReadsBytes old new bytes → length bytes ≤ most → ReadsSome old new most
ReadsBytes-count None new most bytes before within = before
ReadsBytes-count (Some left) new most bytes before within =
    let rest : drop (length bytes) left ≡ before.0 = ap (λ (l : List ℕ). drop (length bytes) l) before.1 ∙ drop-append_seam bytes before.0 in
    (length bytes, within, before.2 ∙ ap Some (sym rest))

pub ReadsBytes-past : (old new : Option (List ℕ)) (limit : ℕ) (bytes : List ℕ) → ReadsBytes old new bytes → length bytes ≡ limit + 1 → ReadsPast old new limit
ReadsBytes-past None new limit bytes before past = before
ReadsBytes-past (Some left) new limit bytes before past =
    let rest : drop (length bytes) left ≡ before.0 = ap (λ (l : List ℕ). drop (length bytes) l) before.1 ∙ drop-append_seam bytes before.0 in
    (omega (arith, length-append bytes before.0, ap length before.1), before.2 ∙ ap Some (sym rest) ∙ ap (λ (n : ℕ). Some (drop n left)) past)
