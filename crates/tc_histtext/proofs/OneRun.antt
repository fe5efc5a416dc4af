-- The text of a run tells its version and its histories.
use Rattle.std.proofs.Common.{◌≡◌, ◌≢◌, ◌<◌, ℕ, Bool, true, false, List, [], ◌∷◌, ◌++◌, codes, length, drop, AllPairs, refl, ap, arith}
use Rattle.tc_model.specs.Calls.{id_of}
use Rattle.tc_model.specs.Entries.{IsAnswerOutcome, IsOutcomeWellFormed, IsWellFormed}
use Rattle.tc_model.specs.Typed.{IsTyped}
use Rattle.tc_model.specs.declared.entries.Entry.{Entry}
use Rattle.tc_model.specs.declared.entries.Entry.TheVariants.{Called, Gave, Looked}
use Rattle.tc_model.specs.declared.events.Phase.TheVariants.{Pre, Post}
use Rattle.tc_model.specs.declared.outcomes.Outcome.{Outcome}
use Rattle.tc_model.specs.declared.outcomes.Outcome.TheVariants as outcome
use Rattle.tc_desk.specs.Logs.{is_blocked}
use Rattle.tc_desk.specs.declared.rows.LogRow.{LogRow}
use Rattle.tc_histtext.specs.Lines.{HasForm, HasLines, HaveLines}
use Rattle.tc_histline.specs.Text.{end_text, version_text}
use Rattle.tc_histtext.specs.Text.{histories_text, logs_text, run_text}
use Rattle.tc_histline.specs.declared.versions.Version.{Version}
use Rattle.tc_histline.specs.declared.versions.Version.TheVariants.{One, Two}
use Rattle.tc_histline.proofs.OneLine.{apart}
use Rattle.tc_histtext.proofs.OneText.{StopsHistory, histories-one}

-- an outcome of an answer had its tuple chosen
answer-form : (o : Outcome) → IsAnswerOutcome o → IsOutcomeWellFormed o
answer-form outcome.Done is = tt
answer-form (outcome.Took t) is = tt
answer-form outcome.NoTuple is = tt
answer-form outcome.Absent is = tt
answer-form (outcome.Found t) is = tt
answer-form outcome.Pending is = tt
answer-form (outcome.Spec text) is = tt
answer-form (outcome.Over Pre t) is = absurd is
answer-form (outcome.Over Post t) is = tt

well_formed-form : (e : Entry) → IsWellFormed e → HasForm e
well_formed-form (Called id op result items) formed = formed
well_formed-form (Gave id result items) formed = (answer-form result formed.0, formed.1)
well_formed-form (Looked id asked told) formed = tt

pub has_lines : (agents : List (List ℕ)) (e : Entry) → IsTyped e → IsWellFormed e → (id_of e).agent < length agents → HasLines agents e
has_lines agents e typed formed agent = record { typed = typed; agent = agent; form = well_formed-form e formed }

version-one : (v w : Version) (rest more : List ℕ) → version_text v ++ rest ≡ version_text w ++ more → (v ≡ w) × (rest ≡ more)
version-one One One rest more same = (refl, ap (drop 9) same)
version-one Two Two rest more same = (refl, ap (drop 9) same)
version-one One Two rest more same = absurd (apart (codes "tucson 1") _ _ _ refl refl same)
version-one Two One rest more same = absurd (apart (codes "tucson 2") _ _ _ refl refl same)

-- no entry begins where the logs do, or the last line
end-stop : (blocked : Bool) (rest : List ℕ) → StopsHistory (end_text blocked ++ rest)
end-stop true rest = record { call = refl; give = refl; look = refl; item = λ e. omega (arith, e) }
end-stop false rest = record { call = refl; give = refl; look = refl; item = λ e. omega (arith, e) }

logs-stop : (v : Version) (names : List (List ℕ)) (logs : List (List LogRow)) (blocked : Bool) (rest : List ℕ)
    → StopsHistory (logs_text v names logs ++ (end_text blocked ++ rest))
logs-stop v [] logs blocked rest = end-stop blocked rest
logs-stop v (n ∷ ns) [] blocked rest = end-stop blocked rest
logs-stop v (n ∷ ns) (l ∷ ls) blocked rest = record { call = refl; give = refl; look = refl; item = λ e. omega (arith, e) }

pub run_text-one : (v w : Version) (centres agents : List (List ℕ)) (hs gs : List (List Entry)) (ls ms : List (List LogRow)) → AllPairs ◌≢◌ agents
    → HaveLines centres agents hs → HaveLines centres agents gs → run_text v centres agents hs ls ≡ run_text w centres agents gs ms → (v ≡ w) × (hs ≡ gs)
run_text-one v w centres agents hs gs ls ms differ ours theirs same =
    let rest : List ℕ = logs_text v agents ls ++ (end_text (is_blocked ls) ++ []) in
    let more : List ℕ = logs_text w agents ms ++ (end_text (is_blocked ms) ++ []) in
    let versions = version-one v w (histories_text agents centres hs ++ rest) (histories_text agents centres gs ++ more) same in (
      versions.0,
      histories-one agents differ centres hs gs rest more ours.whole theirs.whole ours.lines theirs.lines
          (logs-stop v agents ls (is_blocked ls) []) (logs-stop w agents ms (is_blocked ms) []) versions.1,
    )
