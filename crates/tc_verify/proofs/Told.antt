-- What a text tells of the rows of logs, and how it prints them.
use Rattle.std.proofs.Common.{◌≡◌, ℕ, ◌||◌, List, [], ◌∷◌, ◌++◌, codes, map, refl, ap, ap₂}
use Rattle.std.specs.Fmt.{decimal}
use Rattle.std.specs.List.{flat_map}
use Rattle.tc_lists.specs.Texts.{joined}
use Rattle.tc_term.specs.Text.{atom_text}
use Rattle.tc_model.specs.declared.entries.Entry.{Entry}
use Rattle.tc_desk.specs.Logs.{any_pending, is_blocked, is_pending, is_served}
use Rattle.tc_desk.specs.declared.rows.LogRow.{LogRow}
use Rattle.tc_desk.specs.declared.rows.LogResult.{LogResult}
use Rattle.tc_desk.specs.declared.rows.LogResult.TheVariants.{Replied, Pending, Refused, Polled}
use Rattle.tc_desk.specs.declared.rows.Refusal.{Refusal}
use Rattle.tc_desk.specs.declared.rows.Refusal.TheVariants as refusal
use Rattle.tc_histline.specs.Text.{agent_heading, end_text, refusal_text, result_text, row_text, version_text}
use Rattle.tc_histline.specs.declared.versions.Version.{Version}
use Rattle.tc_histline.specs.declared.versions.Version.TheVariants.{One, Two}
use Rattle.tc_histtext.specs.ReadTexts.{as_logged, text_of}
use Rattle.tc_histtext.specs.Text.{histories_text, logs_text, run_text}
use Rattle.tc_rows.specs.Rows.{logged, told, told_refusal, told_row}
use Rattle.tc_verify.specs.RunTexts.{text_telling}
use Rattle.tc_verify.specs.Verdicts.{any_waits, some_pending}

-- a refusal prints the same
refusal_text-told : (v : Version) (why : Refusal) → refusal_text v (told_refusal v why) ≡ refusal_text v why
refusal_text-told One (refusal.Full weight pending) = refl
refusal_text-told One refusal.UnknownCentre = refl
refusal_text-told One refusal.Waiting = refl
refusal_text-told One refusal.Denied = refl
refusal_text-told One refusal.TooBig = refl
refusal_text-told One refusal.NotGround = refl
refusal_text-told One (refusal.BadSpec bad) = refl
refusal_text-told One refusal.TurnsSpent = refl
refusal_text-told One refusal.NoMemory = refl
refusal_text-told Two why = refl

module _ (v : Version) where
  -- an ask that waits is told as one, and so is one that was served
  pub is_pending-told : (r : LogResult) → is_pending (told v r) ≡ is_pending r
  is_pending-told (Replied reply) = refl
  is_pending-told Pending = refl
  is_pending-told (Refused why) = refl
  is_pending-told (Polled reply) = refl

  pub is_served-told : (r : LogResult) → is_served (told v r) ≡ is_served r
  is_served-told (Replied reply) = refl
  is_served-told Pending = refl
  is_served-told (Refused why) = refl
  is_served-told (Polled reply) = refl

  pub any_pending-told : (log : List LogRow) → any_pending (logged (map (told_row v) log)) ≡ any_pending log
  any_pending-told [] = refl
  any_pending-told (row ∷ log) = ap₂ (λ b c. b || c) (is_pending-told row.result) (any_pending-told log)

  some_pending-told : (log : List LogRow) → some_pending (map (told_row v) log) ≡ any_pending log
  some_pending-told [] = refl
  some_pending-told (row ∷ log) = ap₂ (λ b c. b || c) (is_pending-told row.result) (some_pending-told log)

  -- some agent waits by what is told just where one does
  pub any_waits-told : (logs : List (List LogRow)) → any_waits (map (map (told_row v)) logs) ≡ is_blocked logs
  any_waits-told [] = refl
  any_waits-told (log ∷ logs) = ap₂ (λ b c. b || c) (some_pending-told log) (any_waits-told logs)

  -- what is told prints as what it tells of
  result_text-told : (r : LogResult) → result_text v (told v r) ≡ result_text v r
  result_text-told (Replied reply) = refl
  result_text-told Pending = refl
  result_text-told (Refused why) = refusal_text-told v why
  result_text-told (Polled reply) = refl

  row_text-told : (row : LogRow) → row_text v (as_logged (told_row v row)) ≡ row_text v row
  row_text-told row =
      ap (λ (result : List ℕ). joined (decimal row.number ∷ codes " " ∷ atom_text row.centre ∷ codes " " ∷ result ∷ codes "\n" ∷ []))
      (result_text-told row.result)

  rows_text-told : (log : List LogRow) → flat_map (row_text v) (map as_logged (map (told_row v) log)) ≡ flat_map (row_text v) log
  rows_text-told [] = refl
  rows_text-told (row ∷ log) = ap₂ (λ x y. x ++ y) (row_text-told row) (rows_text-told log)

  logs_text-told : (agents : List (List ℕ)) (logs : List (List LogRow))
      → logs_text v agents (map (map as_logged) (map (map (told_row v)) logs)) ≡ logs_text v agents logs
  logs_text-told [] logs = refl
  logs_text-told (n ∷ ns) [] = refl
  logs_text-told (n ∷ ns) (log ∷ logs) =
      ap₂ (λ x y. (agent_heading n ++ x) ++ y) (rows_text-told log) (logs_text-told ns logs)

  -- the text that tells of histories and logs prints as theirs
  pub text_of-told : (centres agents : List (List ℕ)) (histories : List (List Entry)) (logs : List (List LogRow))
      → text_of centres agents (text_telling v histories logs) ≡ run_text v centres agents histories logs
  text_of-told centres agents histories logs =
      ap (λ ls. joined (version_text v ∷ histories_text agents centres histories ∷ ls ∷ end_text (is_blocked logs) ∷ []))
      (logs_text-told agents logs)
