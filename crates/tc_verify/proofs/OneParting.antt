-- An input is parted in one way.
use Rattle.std.proofs.Common.{◌≡◌, ◌≢◌, ◌⊎◌, ℕ, List, [], ◌∷◌, ◌++◌, All, drop, length, refl, sym, ap, ap₂, subst, ◌∙◌, arith, append_assoc, length-append, inl, inr}
use Rattle.std.specs.List.{flat_map}
use Rattle.std.proofs.lemmas.List.Elements.{All-cons, All-head, All-nil, All-tail}
use Rattle.tc_lists.proofs.Elements.{All-append_left, All-append_right}
use Rattle.tc_histline.specs.Lines.{HasNoFeed}
use Rattle.tc_histtext.proofs.LineEnds.{ended-one}
use Rattle.tc_histtext.specs.ReadTexts.{ended}
use Rattle.tc_verify.specs.Inputs.{HasMark, IsParted, IsPlainLine, HasNoMark, mark}

-- no plain line stands at the front
abbrev Stops : List ℕ → Type 0
Stops bytes = (line rest : List ℕ) → IsPlainLine line → bytes ≡ ended line ++ rest → ⊥

-- bytes without LF have no line with its end at their front
no_end : (bytes line rest : List ℕ) → HasNoFeed bytes → bytes ≡ ended line ++ rest → ⊥
no_end bytes line rest clean is =
    All-head (λ b. b ≢ 10) 10 [] (All-append_right (λ b. b ≢ 10) line (10 ∷ []) (All-append_left (λ b. b ≢ 10) (ended line) rest (subst HasNoFeed is clean))) refl

feedless-stops : (bytes : List ℕ) → HasNoFeed bytes → Stops bytes
feedless-stops bytes clean line rest plain is = no_end bytes line rest clean is

mark-whole : HasNoFeed mark
mark-whole =
    All-cons (λ b. b ≢ 10) 37 (37 ∷ []) (λ e. omega (arith, e)) (All-cons (λ b. b ≢ 10) 37 [] (λ e. omega (arith, e)) (All-nil (λ b. b ≢ 10)))

mark-stops : (rest : List ℕ) → Stops (ended mark ++ rest)
mark-stops rest line more plain is = plain.other (sym (ended-one mark line rest more mark-whole plain.whole is).0)

-- plain lines up to where none stands are the same, and so is what stands behind
lines-one : (xs ys : List (List ℕ)) (r s : List ℕ) → All IsPlainLine xs → All IsPlainLine ys → Stops r → Stops s → flat_map ended xs ++ r ≡ flat_map ended ys ++ s → (xs ≡ ys) × (r ≡ s)
lines-one [] [] r s ours theirs stop stops same = (refl, same)
lines-one [] (y ∷ ys) r s ours theirs stop stops same =
    absurd (stop y (flat_map ended ys ++ s) (All-head IsPlainLine y ys theirs) (same ∙ append_assoc (ended y) (flat_map ended ys) s))
lines-one (x ∷ xs) [] r s ours theirs stop stops same =
    absurd (stops x (flat_map ended xs ++ r) (All-head IsPlainLine x xs ours) (sym same ∙ append_assoc (ended x) (flat_map ended xs) r))
lines-one (x ∷ xs) (y ∷ ys) r s ours theirs stop stops same =
    let both = ended-one x y (flat_map ended xs ++ r) (flat_map ended ys ++ s) (All-head IsPlainLine x xs ours).whole (All-head IsPlainLine y ys theirs).whole
    (sym (append_assoc (ended x) (flat_map ended xs) r) ∙ (same ∙ append_assoc (ended y) (flat_map ended ys) s)) in
    let on = lines-one xs ys r s (All-tail IsPlainLine x xs ours) (All-tail IsPlainLine y ys theirs) stop stops both.1 in
    (ap₂ (λ z zs. z ∷ zs) both.0 on.0, on.1)

-- two parts before a mark
pub marked-one : (input a b c d : List ℕ) → HasMark input a b → HasMark input c d → (a ≡ c) × (b ≡ d)
marked-one input a b c d m n = by m.stands n.stands
  where
    at : (r : List ℕ) → input ≡ a ++ r → input ≡ flat_map ended m.lines ++ r
    at r is = is ∙ ap (λ l. l ++ r) m.lines_are

    there : (s : List ℕ) → input ≡ c ++ s → input ≡ flat_map ended n.lines ++ s
    there s is = is ∙ ap (λ l. l ++ s) n.lines_are

    firsts : m.lines ≡ n.lines → a ≡ c
    firsts same = m.lines_are ∙ (ap (λ l. flat_map ended l) same ∙ sym n.lines_are)

    by : (input ≡ a ++ (ended mark ++ b)) ⊎ ((input ≡ a ++ mark) × (b ≡ [])) → (input ≡ c ++ (ended mark ++ d)) ⊎ ((input ≡ c ++ mark) × (d ≡ [])) → (a ≡ c) × (b ≡ d)
    by (inl x) (inl y) =
        let one = lines-one m.lines n.lines (ended mark ++ b) (ended mark ++ d) m.plain n.plain (mark-stops b) (mark-stops d) (sym (at (ended mark ++ b) x) ∙ there (ended mark ++ d) y) in
        (firsts one.0, ap (drop 3) one.1)
    by (inl x) (inr y) =
        let one = lines-one m.lines n.lines (ended mark ++ b) mark m.plain n.plain (mark-stops b) (feedless-stops mark mark-whole) (sym (at (ended mark ++ b) x) ∙ there mark y.0) in
        absurd (omega (arith, ap length one.1, length-append (ended mark) b))
    by (inr x) (inl y) =
        let one = lines-one m.lines n.lines mark (ended mark ++ d) m.plain n.plain (feedless-stops mark mark-whole) (mark-stops d) (sym (at mark x.0) ∙ there (ended mark ++ d) y) in
        absurd (omega (arith, ap length one.1, length-append (ended mark) d))
    by (inr x) (inr y) =
        let one = lines-one m.lines n.lines mark mark m.plain n.plain (feedless-stops mark mark-whole) (feedless-stops mark mark-whole) (sym (at mark x.0) ∙ there mark y.0) in
        (firsts one.0, x.1 ∙ sym y.1)

-- no input has a mark and none
pub marked-unmarked : (input a b c d : List ℕ) → HasMark input a b → HasNoMark input c d → ⊥
marked-unmarked input a b c d m u = by m.stands
  where
    by : (input ≡ a ++ (ended mark ++ b)) ⊎ ((input ≡ a ++ mark) × (b ≡ [])) → ⊥
    by (inl x) =
        let one = lines-one m.lines u.lines (ended mark ++ b) u.last m.plain u.plain (mark-stops b) (feedless-stops u.last u.end.whole) (sym (x ∙ ap (λ l. l ++ (ended mark ++ b)) m.lines_are) ∙ u.lines_are) in
        no_end u.last mark b u.end.whole (sym one.1)
    by (inr x) =
        let one = lines-one m.lines u.lines mark u.last m.plain u.plain (feedless-stops mark mark-whole) (feedless-stops u.last u.end.whole) (sym (x.0 ∙ ap (λ l. l ++ mark) m.lines_are) ∙ u.lines_are) in
        u.end.other (sym one.1)

-- an input is parted in one way
pub parted-one : (input a b c d : List ℕ) → IsParted input a b → IsParted input c d → (a ≡ c) × (b ≡ d)
parted-one input a b c d (inl m) (inl n) = marked-one input a b c d m n
parted-one input a b c d (inl m) (inr u) = absurd (marked-unmarked input a b c d m u)
parted-one input a b c d (inr u) (inl n) = absurd (marked-unmarked input c d a b n u)
parted-one input a b c d (inr u) (inr v) = (u.first_is ∙ sym v.first_is, u.second_is ∙ sym v.second_is)
