-- Rows at the front of bytes.
use Rattle.std.specs.Prelude.{ℕ, ◌-◌, ◌^◌, List, codes}
use Rattle.tc_lists.specs.AtFront.{Front, and_then, behind, closed_by, made, or_else, word_for}
use Rattle.tc_lists.specs.Decimals.{number_at}
use Rattle.tc_lists.specs.Texts.{after}
use Rattle.tc_model.specs.declared.faults.BadSpec.{BadSpec}
use Rattle.tc_model.specs.declared.faults.SpecCause.{SpecCause}
use Rattle.tc_model.specs.declared.faults.SpecCause.TheVariants.{Syntax, Size, Shape, Head, Goal}
use Rattle.tc_model.specs.declared.faults.SpecCause.TheVariants.{Count}
use Rattle.tc_desk.specs.declared.rows.LogResult.{LogResult}
use Rattle.tc_desk.specs.declared.rows.LogResult.TheVariants.{Replied, Pending, Refused, Polled}
use Rattle.tc_desk.specs.declared.rows.Refusal.{Refusal}
use Rattle.tc_desk.specs.declared.rows.Refusal.TheVariants as refusal
use Rattle.tc_histline.specs.Outcomes.{ended, reply_at, told_at}
use Rattle.tc_histline.specs.Words.{atom_at}
use Rattle.tc_histline.specs.declared.lines.TextRow.{TextRow}
use Rattle.tc_histline.specs.declared.versions.Version.{Version}
use Rattle.tc_histline.specs.declared.versions.Version.TheVariants.{One, Two}

-- a number of 64 bits
abbrev pub count_at : List ℕ → Front ℕ
count_at bytes = number_at (2 ^ 64 - 1) bytes

-- what is wrong with a clause
abbrev pub cause_at : List ℕ → Front SpecCause
cause_at bytes =
    or_else (word_for Syntax (codes "syntax") bytes)
    (or_else (word_for Size (codes "size") bytes)
    (or_else (word_for Shape (codes "shape") bytes)
    (or_else (word_for Head (codes "head") bytes)
    (or_else (word_for Goal (codes "goal") bytes)
    (word_for Count (codes "count") bytes)))))

abbrev pub bad_spec : ℕ → SpecCause → Refusal
bad_spec clause cause = refusal.BadSpec (record { clause = clause; cause = cause })

-- the first faulty clause, and what is wrong with it
abbrev pub bad_at : List ℕ → Front Refusal
bad_at bytes =
    behind (after (codes "bad spec ") bytes) (λ rest.
    and_then (closed_by (codes " ") (number_at (2 ^ 32 - 1) rest)) (λ clause rest.
    made (bad_spec clause) (cause_at rest)))

-- that a centre was full; the first version doesn't tell its two numbers, which are read as 0
abbrev pub full_at : Version → List ℕ → Front Refusal
full_at One bytes = word_for (refusal.Full 0 0) (codes "full") bytes
full_at Two bytes =
    behind (after (codes "full ") bytes) (λ rest.
    and_then (closed_by (codes " ") (count_at rest)) (λ weight rest.
    made (refusal.Full weight) (count_at rest)))

-- why an ask was not served
abbrev pub refusal_at : Version → List ℕ → Front Refusal
refusal_at v bytes =
    or_else (word_for refusal.UnknownCentre (codes "unknown centre") bytes)
    (or_else (word_for refusal.Waiting (codes "waiting") bytes)
    (or_else (word_for refusal.Denied (codes "denied") bytes)
    (or_else (word_for refusal.TooBig (codes "too big") bytes)
    (or_else (word_for refusal.NotGround (codes "not ground") bytes)
    (or_else (word_for refusal.TurnsSpent (codes "turns spent") bytes)
    (or_else (bad_at bytes)
    (full_at v bytes)))))))

-- what became of an ask
abbrev pub result_at : Version → List ℕ → Front LogResult
result_at v bytes =
    or_else (made Replied (reply_at v bytes))
    (or_else (word_for Pending (codes "pending") bytes)
    (or_else (made Polled (behind (after (codes "poll ") bytes) (told_at v)))
    (made Refused (refusal_at v bytes))))

abbrev pub text_row : ℕ → List ℕ → LogResult → TextRow
text_row number centre result = record { number = number; centre = centre; result = result }

-- the line of a row
abbrev pub row_at : Version → List ℕ → Front TextRow
row_at v bytes =
    and_then (closed_by (codes " ") (count_at bytes)) (λ number rest.
    and_then (closed_by (codes " ") (atom_at rest)) (λ centre rest.
    made (text_row number centre) (ended (result_at v) rest)))
