-- Texts that grow by one part.
use Rattle.std.proofs.Common.{◌≡◌, ℕ, List, [], ◌∷◌, ◌++◌, length, sym, ap, ◌∙◌, append_assoc, append-nil, arith}
use Rattle.std.specs.List.{flat_map}
use Rattle.std.proofs.lemmas.List.Concat.{flat_map-append}
use Rattle.tc_model.specs.declared.entries.Entry.{Entry}
use Rattle.tc_histline.specs.Text.{entry_text, row_text, agent_heading, centre_heading}
use Rattle.tc_histtext.specs.Text.{histories_text, history_text, log_text, logs_text}
use Rattle.tc_histline.specs.declared.versions.Version.{Version}
use Rattle.tc_desk.specs.declared.rows.LogRow.{LogRow}

-- a heading, and then the texts of a list, one after another
abbrev headed : {X : Type 0} → List ℕ → (X → List ℕ) → List X → List ℕ
headed heading f xs = heading ++ flat_map f xs

headed-push : {X : Type 0} (heading : List ℕ) (f : X → List ℕ) (xs : List X) (x : X)
    → headed heading f (xs ++ x ∷ []) ≡ headed heading f xs ++ f x
headed-push heading f xs x =
    ap (λ (l : List ℕ). heading ++ l)
    (flat_map-append f xs (x ∷ []) ∙ ap (λ (l : List ℕ). flat_map f xs ++ l) (append-nil (f x)))
    ∙ sym (append_assoc heading (flat_map f xs) (f x))

pub history_text-push : (agents : List (List ℕ)) (name : List ℕ) (history : List Entry) (e : Entry)
    → history_text agents name (history ++ e ∷ []) ≡ history_text agents name history ++ entry_text agents e
history_text-push agents name history e = headed-push (centre_heading name) (entry_text agents) history e

pub log_text-push : (v : Version) (name : List ℕ) (log : List LogRow) (r : LogRow)
    → log_text v name (log ++ r ∷ []) ≡ log_text v name log ++ row_text v r
log_text-push v name log r = headed-push (agent_heading name) (row_text v) log r

pub histories_text-push : (agents names : List (List ℕ)) (histories : List (List Entry)) (name : List ℕ) (history : List Entry)
    → length names ≡ length histories
    → histories_text agents (names ++ name ∷ []) (histories ++ history ∷ [])
    ≡ histories_text agents names histories ++ history_text agents name history
histories_text-push agents [] [] name history wide = append-nil (history_text agents name history)
histories_text-push agents [] (h ∷ hs) name history wide = absurd (omega (arith, wide))
histories_text-push agents (n ∷ ns) [] name history wide = absurd (omega (arith, wide))
histories_text-push agents (n ∷ ns) (h ∷ hs) name history wide =
    ap (λ (l : List ℕ). history_text agents n h ++ l) (histories_text-push agents ns hs name history (omega (arith, wide)))
    ∙ sym (append_assoc (history_text agents n h) (histories_text agents ns hs) (history_text agents name history))

pub logs_text-push : (v : Version) (names : List (List ℕ)) (logs : List (List LogRow)) (name : List ℕ) (log : List LogRow)
    → length names ≡ length logs
    → logs_text v (names ++ name ∷ []) (logs ++ log ∷ []) ≡ logs_text v names logs ++ log_text v name log
logs_text-push v [] [] name log wide = append-nil (log_text v name log)
logs_text-push v [] (l ∷ ls) name log wide = absurd (omega (arith, wide))
logs_text-push v (n ∷ ns) [] name log wide = absurd (omega (arith, wide))
logs_text-push v (n ∷ ns) (l ∷ ls) name log wide =
    ap (λ (t : List ℕ). log_text v n l ++ t) (logs_text-push v ns ls name log (omega (arith, wide)))
    ∙ sym (append_assoc (log_text v n l) (logs_text v ns ls) (log_text v name log))
