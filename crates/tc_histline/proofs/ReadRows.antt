-- Rows: what is read stands there, and what is written is read again.
use Rattle.std.proofs.Common.{◌≡◌, ◌≤◌, ◌-◌, ◌^◌, ℕ, List, [], ◌∷◌, ◌++◌, codes, Some, refl, sym, ap, ap₂, subst, ◌∙◌, arith, append_assoc}
use Rattle.std.specs.Fmt.{decimal}
use Rattle.tc_lists.specs.AtFront.{AlwaysTakes, IsReadAgain, closed_by}
use Rattle.tc_lists.specs.Decimals.{number_at, StartsWithNoDigit}
use Rattle.tc_lists.proofs.AtFront.{and_then-again, behind-again, behind-takes, closed_by-again, made-again, made-takes, number-takes, or_else-first, or_else-takes, word_for-takes}
use Rattle.tc_lists.proofs.Decimals.{number_at-again}
use Rattle.tc_term.specs.Text.{atom_text}
use Rattle.tc_model.specs.Typed.{Is32, Is64}
use Rattle.tc_model.specs.declared.faults.BadSpec.{BadSpec}
use Rattle.tc_model.specs.declared.faults.SpecCause.{SpecCause}
use Rattle.tc_model.specs.declared.faults.SpecCause.TheVariants.{Syntax, Size, Shape, Head, Goal, Count}
use Rattle.tc_desk.specs.declared.rows.LogResult.{LogResult}
use Rattle.tc_desk.specs.declared.rows.LogResult.TheVariants.{Replied, Pending, Refused, Polled}
use Rattle.tc_desk.specs.declared.rows.Refusal.{Refusal}
use Rattle.tc_desk.specs.declared.rows.Refusal.TheVariants as refusal
use Rattle.tc_histline.specs.Lines.{IsRefusalIn, IsResultIn}
use Rattle.tc_histline.specs.Outcomes.{IsReplyIn, IsToldIn, ended, ended_text, reply_at, told_at}
use Rattle.tc_histline.specs.Rows.{bad_at, bad_spec, cause_at, count_at, full_at, refusal_at, result_at, row_at, text_row}
use Rattle.tc_histline.specs.Text.{cause_text, full_text, refusal_text, reply_text, result_text, text_row_text, told_text}
use Rattle.tc_histline.specs.Words.{atom_at}
use Rattle.tc_histline.specs.declared.lines.TextRow.{TextRow}
use Rattle.tc_histline.specs.declared.versions.Version.{Version}
use Rattle.tc_histline.specs.declared.versions.Version.TheVariants.{One, Two}
use Rattle.tc_histline.proofs.Found.{and_then-some, behind-some, closed-some, closed_by-stands, made-some, takes-from, takes-some}
use Rattle.tc_histline.proofs.ReadOutcomes.{ended-takes, reply_at-again, reply_at-takes, told_at-again, told_at-takes}
use Rattle.tc_histline.proofs.ReadWords.{atom_at-again, atom_at-takes}
use Rattle.tc_histline.proofs.Repeated.{joined-before}

-- numbers of 64 bits

pub count_at-takes : AlwaysTakes (λ n. n ≤ 2 ^ 64 - 1) decimal count_at
count_at-takes = number-takes (2 ^ 64 - 1) (omega arith) (omega arith)

pub count_at-again : (n : ℕ) (rest : List ℕ) → Is64 n → StartsWithNoDigit rest → count_at (decimal n ++ rest) ≡ Some (n, rest)
count_at-again n rest small ends = number_at-again (2 ^ 64 - 1) n rest (omega arith) (omega arith) (omega (arith, small)) ends

-- causes

cause_at-takes : AlwaysTakes (λ cause. Unit {0}) cause_text cause_at
cause_at-takes bytes =
    or_else-takes G cause_text bytes _ _ (word_for-takes G cause_text Syntax (codes "syntax") bytes tt refl)
    (or_else-takes G cause_text bytes _ _ (word_for-takes G cause_text Size (codes "size") bytes tt refl)
    (or_else-takes G cause_text bytes _ _ (word_for-takes G cause_text Shape (codes "shape") bytes tt refl)
    (or_else-takes G cause_text bytes _ _ (word_for-takes G cause_text Head (codes "head") bytes tt refl)
    (or_else-takes G cause_text bytes _ _ (word_for-takes G cause_text Goal (codes "goal") bytes tt refl)
    (word_for-takes G cause_text Count (codes "count") bytes tt refl)))))
  where
    G : SpecCause → Type 0
    G cause = Unit {0}

cause_at-again : (cause : SpecCause) (rest : List ℕ) → cause_at (cause_text cause ++ rest) ≡ Some (cause, rest)
cause_at-again Syntax rest = refl
cause_at-again Size rest = refl
cause_at-again Shape rest = refl
cause_at-again Head rest = refl
cause_at-again Goal rest = refl
cause_at-again Count rest = refl

-- the first faulty clause

abbrev bad_parts : ℕ → SpecCause → List (List ℕ)
bad_parts clause cause = codes "bad spec " ∷ decimal clause ∷ codes " " ∷ cause_text cause ∷ []

bad_at-some : (v : Version) (bytes : List ℕ) (why : Refusal) (rest : List ℕ) → bad_at bytes ≡ Some (why, rest)
    → IsRefusalIn v why × (bytes ≡ refusal_text v why ++ rest)
bad_at-some v bytes why rest e =
    let word = behind-some (codes "bad spec ") bytes _ why rest e in
    let clause = and_then-some (closed_by (codes " ") (number_at (2 ^ 32 - 1) word.0)) _ why rest word.2 in
    let number = closed_by-stands (λ n. n ≤ 2 ^ 32 - 1) decimal (codes " ") word.0 (number_at (2 ^ 32 - 1) word.0) clause.0 clause.1
    (number-takes (2 ^ 32 - 1) (omega arith) (omega arith) word.0) clause.2 in
    let cause = made-some (bad_spec clause.0) (cause_at clause.1) why rest clause.3 in
    let words = takes-some (λ c. Unit {0}) cause_text clause.1 (cause_at clause.1) cause.0 rest (cause_at-takes clause.1) cause.1 in
    let small : Is32 clause.0 = omega (arith, number.0) in (
      subst (IsRefusalIn v) cause.2 small,
      word.1 ∙ (ap (λ b. codes "bad spec " ++ b) (number.1 ∙ ap (λ b. decimal clause.0 ++ (codes " " ++ b)) words.1)
          ∙ (sym (joined-before (bad_parts clause.0 cause.0) rest) ∙ ap (λ y. refusal_text v y ++ rest) cause.2)),
    )

bad_at-again : (v : Version) (bad : BadSpec) (rest : List ℕ) → Is32 bad.clause
    → bad_at (refusal_text v (refusal.BadSpec bad) ++ rest) ≡ Some (refusal.BadSpec bad, rest)
bad_at-again v bad rest small =
    ap bad_at (joined-before (bad_parts bad.clause bad.cause) rest)
    ∙ and_then-again _ _ bad.clause (cause_text bad.cause ++ rest) _
    (closed_by-again (codes " ") (cause_text bad.cause ++ rest) _ bad.clause
    (number_at-again (2 ^ 32 - 1) bad.clause (codes " " ++ (cause_text bad.cause ++ rest)) (omega arith) (omega arith) (omega (arith, small)) refl))
    (made-again (bad_spec bad.clause) _ bad.cause rest (cause_at-again bad.cause rest))

-- full centres

abbrev load_parts : ℕ → ℕ → List (List ℕ)
load_parts weight pending = codes "full " ∷ decimal weight ∷ codes " " ∷ decimal pending ∷ []

full_at-some : (v : Version) (bytes : List ℕ) (why : Refusal) (rest : List ℕ) → full_at v bytes ≡ Some (why, rest)
    → IsRefusalIn v why × (bytes ≡ refusal_text v why ++ rest)
full_at-some One bytes why rest e =
    let both = closed-some (codes "full") bytes (refusal.Full 0 0) why rest e in
    (subst (IsRefusalIn One) both.0 (refl, refl), both.1 ∙ ap (λ y. refusal_text One y ++ rest) both.0)
full_at-some Two bytes why rest e =
    let word = behind-some (codes "full ") bytes _ why rest e in
    let weight = and_then-some (closed_by (codes " ") (count_at word.0)) _ why rest word.2 in
    let number = closed_by-stands (λ n. n ≤ 2 ^ 64 - 1) decimal (codes " ") word.0 (count_at word.0) weight.0 weight.1 (count_at-takes word.0) weight.2 in
    let pending = made-some (refusal.Full weight.0) (count_at weight.1) why rest weight.3 in
    let other = takes-some (λ n. n ≤ 2 ^ 64 - 1) decimal weight.1 (count_at weight.1) pending.0 rest (count_at-takes weight.1) pending.1 in
    let small : Is64 weight.0 = omega (arith, number.0) in
    let less : Is64 pending.0 = omega (arith, other.0) in (
      subst (IsRefusalIn Two) pending.2 (small, less),
      word.1 ∙ (ap (λ b. codes "full " ++ b) (number.1 ∙ ap (λ b. decimal weight.0 ++ (codes " " ++ b)) other.1)
          ∙ (sym (joined-before (load_parts weight.0 pending.0) rest) ∙ ap (λ y. refusal_text Two y ++ rest) pending.2)),
    )

load_at-again : (weight pending : ℕ) (rest : List ℕ) → Is64 weight → Is64 pending
    → full_at Two (full_text Two weight pending ++ (codes "\n" ++ rest)) ≡ Some (refusal.Full weight pending, codes "\n" ++ rest)
load_at-again weight pending rest small less =
    ap (full_at Two) (joined-before (load_parts weight pending) (codes "\n" ++ rest))
    ∙ and_then-again _ _ weight (decimal pending ++ (codes "\n" ++ rest)) _
    (closed_by-again (codes " ") (decimal pending ++ (codes "\n" ++ rest)) _ weight
    (count_at-again weight (codes " " ++ (decimal pending ++ (codes "\n" ++ rest))) small refl))
    (made-again (refusal.Full weight) _ pending (codes "\n" ++ rest) (count_at-again pending (codes "\n" ++ rest) less refl))

-- refusals

refusal_at-takes : (v : Version) → AlwaysTakes (IsRefusalIn v) (refusal_text v) (refusal_at v)
refusal_at-takes v bytes =
    or_else-takes G T bytes _ _ (word_for-takes G T refusal.UnknownCentre (codes "unknown centre") bytes tt refl)
    (or_else-takes G T bytes _ _ (word_for-takes G T refusal.Waiting (codes "waiting") bytes tt refl)
    (or_else-takes G T bytes _ _ (word_for-takes G T refusal.Denied (codes "denied") bytes tt refl)
    (or_else-takes G T bytes _ _ (word_for-takes G T refusal.TooBig (codes "too big") bytes tt refl)
    (or_else-takes G T bytes _ _ (word_for-takes G T refusal.NotGround (codes "not ground") bytes tt refl)
    (or_else-takes G T bytes _ _ (word_for-takes G T refusal.TurnsSpent (codes "turns spent") bytes tt refl)
    (or_else-takes G T bytes _ _ (takes-from G T bytes (bad_at bytes) (bad_at-some v bytes))
    (takes-from G T bytes (full_at v bytes) (full_at-some v bytes))))))))
  where
    G : Refusal → Type 0
    G = IsRefusalIn v

    T : Refusal → List ℕ
    T = refusal_text v

-- results

result_at-takes : (v : Version) → AlwaysTakes (IsResultIn v) (result_text v) (result_at v)
result_at-takes v bytes =
    or_else-takes G T bytes _ _ (made-takes G T (IsReplyIn v) reply_text Replied bytes (reply_at v bytes) (λ r is. is) (λ r. refl) (reply_at-takes v bytes))
    (or_else-takes G T bytes _ _ (word_for-takes G T Pending (codes "pending") bytes tt refl)
    (or_else-takes G T bytes _ _ (made-takes G T (IsToldIn v) (λ told. codes "poll " ++ told_text told) Polled bytes _ (λ told is. is) (λ told. refl)
    (behind-takes (IsToldIn v) told_text (codes "poll ") bytes (told_at v) (told_at-takes v)))
    (made-takes G T (IsRefusalIn v) (refusal_text v) Refused bytes (refusal_at v bytes) (λ why is. is) (λ why. refl) (refusal_at-takes v bytes))))
  where
    G : LogResult → Type 0
    G = IsResultIn v

    T : LogResult → List ℕ
    T = result_text v

result_at-again : (v : Version) (r : LogResult) (rest : List ℕ) → IsResultIn v r
    → result_at v (result_text v r ++ (codes "\n" ++ rest)) ≡ Some (r, codes "\n" ++ rest)
result_at-again v (Replied r) rest is = or_else-first _ _ _ (made-again Replied _ r (codes "\n" ++ rest) (reply_at-again v r rest is))
result_at-again One Pending rest is = refl
result_at-again Two Pending rest is = refl
result_at-again One (Polled told) rest is =
    or_else-first _ _ _ (made-again Polled _ told (codes "\n" ++ rest)
    (behind-again (codes "poll ") (told_text told) (codes "\n" ++ rest) (told_at One) told (told_at-again One told rest is)))
result_at-again Two (Polled told) rest is =
    or_else-first _ _ _ (made-again Polled _ told (codes "\n" ++ rest)
    (behind-again (codes "poll ") (told_text told) (codes "\n" ++ rest) (told_at Two) told (told_at-again Two told rest is)))
result_at-again One (Refused refusal.UnknownCentre) rest is = refl
result_at-again Two (Refused refusal.UnknownCentre) rest is = refl
result_at-again One (Refused refusal.Waiting) rest is = refl
result_at-again Two (Refused refusal.Waiting) rest is = refl
result_at-again One (Refused refusal.Denied) rest is = refl
result_at-again Two (Refused refusal.Denied) rest is = refl
result_at-again One (Refused refusal.TooBig) rest is = refl
result_at-again Two (Refused refusal.TooBig) rest is = refl
result_at-again One (Refused refusal.NotGround) rest is = refl
result_at-again Two (Refused refusal.NotGround) rest is = refl
result_at-again One (Refused refusal.TurnsSpent) rest is = refl
result_at-again Two (Refused refusal.TurnsSpent) rest is = refl
result_at-again One (Refused (refusal.BadSpec bad)) rest is =
    made-again Refused _ (refusal.BadSpec bad) (codes "\n" ++ rest) (or_else-first _ _ _ (bad_at-again One bad (codes "\n" ++ rest) is))
result_at-again Two (Refused (refusal.BadSpec bad)) rest is =
    made-again Refused _ (refusal.BadSpec bad) (codes "\n" ++ rest) (or_else-first _ _ _ (bad_at-again Two bad (codes "\n" ++ rest) is))
result_at-again One (Refused (refusal.Full weight pending)) rest is =
    ap₂ (λ w p. Some (Refused (refusal.Full w p), codes "\n" ++ rest)) (sym is.0) (sym is.1)
result_at-again Two (Refused (refusal.Full weight pending)) rest is =
    made-again Refused _ (refusal.Full weight pending) (codes "\n" ++ rest) (load_at-again weight pending rest is.0 is.1)
result_at-again v (Refused refusal.NoMemory) rest is = absurd is

-- rows

-- the row's number and its result have texts in this version
abbrev pub IsRowIn : Version → TextRow → Type 0
IsRowIn v row = Is64 row.number × IsResultIn v row.result

abbrev row_parts : Version → ℕ → List ℕ → LogResult → List (List ℕ)
row_parts v number centre result =
    decimal number ∷ codes " " ∷ atom_text centre ∷ codes " " ∷ result_text v result ∷ codes "\n" ∷ []

row_at-some : (v : Version) (bytes : List ℕ) (row : TextRow) (rest : List ℕ) → row_at v bytes ≡ Some (row, rest)
    → IsRowIn v row × (bytes ≡ text_row_text v row ++ rest)
row_at-some v bytes row rest e =
    let a = and_then-some (closed_by (codes " ") (count_at bytes)) _ row rest e in
    let number = closed_by-stands (λ n. n ≤ 2 ^ 64 - 1) decimal (codes " ") bytes (count_at bytes) a.0 a.1 (count_at-takes bytes) a.2 in
    let b = and_then-some (closed_by (codes " ") (atom_at a.1)) _ row rest a.3 in
    let centre = closed_by-stands (λ n. Unit {0}) atom_text (codes " ") a.1 (atom_at a.1) b.0 b.1 (atom_at-takes a.1) b.2 in
    let c = made-some (text_row a.0 b.0) (ended (result_at v) b.1) row rest b.3 in
    let result = takes-some (IsResultIn v) (ended_text (result_text v)) b.1 (ended (result_at v) b.1) c.0 rest
    (ended-takes (IsResultIn v) (result_text v) (result_at v) (result_at-takes v) b.1) c.1 in
    let small : Is64 a.0 = omega (arith, number.0) in (
      subst (IsRowIn v) c.2 (small, result.0),
      number.1 ∙ (ap (λ x. decimal a.0 ++ (codes " " ++ x)) (centre.1 ∙ ap (λ x. atom_text b.0 ++ (codes " " ++ x)) (result.1 ∙ append_assoc (result_text v c.0) (codes "\n") rest))
          ∙ (sym (joined-before (row_parts v a.0 b.0 c.0) rest) ∙ ap (λ r. text_row_text v r ++ rest) c.2)),
    )

pub row_at-takes : (v : Version) → AlwaysTakes (IsRowIn v) (text_row_text v) (row_at v)
row_at-takes v bytes = takes-from (IsRowIn v) (text_row_text v) bytes (row_at v bytes) (row_at-some v bytes)

pub row_at-again : (v : Version) → IsReadAgain (IsRowIn v) (text_row_text v) (row_at v)
row_at-again v row rest is =
    let tail : List ℕ = result_text v row.result ++ (codes "\n" ++ rest) in
    ap (row_at v) (joined-before (row_parts v row.number row.centre row.result) rest)
    ∙ and_then-again _ _ row.number (atom_text row.centre ++ (codes " " ++ tail)) _
    (closed_by-again (codes " ") (atom_text row.centre ++ (codes " " ++ tail)) _ row.number
    (count_at-again row.number (codes " " ++ (atom_text row.centre ++ (codes " " ++ tail))) is.0 refl))
    (and_then-again _ _ row.centre tail _
    (closed_by-again (codes " ") tail _ row.centre (atom_at-again row.centre (codes " " ++ tail) refl))
    (made-again (text_row row.number row.centre) _ row.result rest
    (closed_by-again (codes "\n") rest _ row.result (result_at-again v row.result rest is.1))))
