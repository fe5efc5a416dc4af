-- What a service writes is audited yes.
use Rattle.std.proofs.Common.{◌≡◌, ◌+◌, ℕ, Bool, Some, List, Contains, length, map, slice_get, subst, sym, ◌∙◌, arith}
use Rattle.std.proofs.lemmas.List.{length-map}
use Rattle.tc_lists.proofs.Places.{slice_get-Contains}
use Rattle.tc_lists.proofs.Sets.{slice_get-as_long, slice_get-map_from, slice_get_inside}
use Rattle.tc_model.specs.Calls.{call_of}
use Rattle.tc_model.specs.State.{Origin}
use Rattle.tc_model.specs.declared.entries.Entry.{Entry}
use Rattle.tc_model.proofs.Runs.{IsRun-first}
use Rattle.tc_desk.specs.Agreeing.{Agrees, AgreesRow, NamesCentre}
use Rattle.tc_desk.specs.declared.rows.LogResult.TheVariants.{Refused}
use Rattle.tc_desk.specs.declared.rows.LogRow.{LogRow}
use Rattle.tc_desk.specs.declared.rows.Refusal.TheVariants as refusal
use Rattle.tc_config.specs.Configurations.{Configuration, IsConfig, centre_names}
use Rattle.tc_config.specs.Good.{origin_of}
use Rattle.tc_config.specs.declared.configs.CentreConf.{CentreConf}
use Rattle.tc_histline.specs.declared.versions.Version.TheVariants.{Two}
use Rattle.tc_rows.specs.Rows.{AreQuietRuns, told_row}
use Rattle.tc_rows.specs.ServedRows.{AreServedRows}
use Rattle.tc_rows.proofs.Leaving.{left-served}
use Rattle.tc_verify.specs.RunTexts.{text_telling}
use Rattle.tc_verify.specs.Verdicts.{AreAllSound, IsAudit}
use Rattle.tc_verify.specs.declared.verdicts.Question.TheVariants.{Service}
use Rattle.tc_verify.specs.declared.verdicts.Verdict.TheVariants.{Yes}
use Rattle.tc_verify.proofs.RunTexts.{telling-text}
use Rattle.tc_verify.proofs.Told.{any_waits-told}
use Rattle.tc_visits.specs.Service.{DoorState, IsService, IsServiceBy}
use Rattle.tc_visits.specs.Sessions.{SessionState}
use Rattle.tucson.specs.Answer.{IsTextOf}
use Rattle.tucson.specs.Texts.{whole_text}
use Rattle.tucson.proofs.KnownRows.{settled-unanswered}
use Rattle.tucson.proofs.OneReading.{service-lines}
use Rattle.tucson.proofs.RunLines.{NoneWants, lines-stand}

-- a row that agrees tells of no want of memory
agreeing-wants : (origins : List Origin) (names : List (List ℕ)) (hs : List (List Entry)) (agent : ℕ) (log : List LogRow)
    → length origins ≡ length names → length hs ≡ length names → Agrees origins names hs agent log
    → (k : ℕ) (row : LogRow) → slice_get log k ≡ Some row → row.result ≡ Refused refusal.NoMemory → ⊥
agreeing-wants origins names hs agent log many whole agrees k row at wants =
    let known : Contains names row.centre = subst (NamesCentre names row.centre) wants (agrees.known k row at) in
    let named = slice_get-Contains names row.centre known in
    let origin = slice_get_inside origins known.0 (omega (arith, known.1, many)) in
    let history = slice_get_inside hs known.0 (omega (arith, known.1, whole)) in
    subst (AgreesRow origin.0 history.0 (call_of agent (k + 1)) log k row) wants
    (agrees.rows k known.0 row origin.0 history.0 at named origin.1 history.1)

module _ (c : Configuration) (sessions : List SessionState) (hs : List (List Entry)) (logs : List (List LogRow))
    (service : IsService c sessions hs logs) where
  named : length hs ≡ length (centre_names c)
  named = service.whole ∙ sym (length-map c.centres (λ (s : CentreConf). s.name))

  service-runs : AreQuietRuns c hs
  service-runs = record {
    whole = service.whole;
    each = λ place centre history known there.
        let rest = service.runs place centre history known there in
        record { run = IsRun-first (origin_of c centre) history rest.run; quiescent = rest.quiescent };
  }

  service-wants : NoneWants logs
  service-wants agent k log row at there =
      let a = slice_get-as_long logs c.agents agent log (sym service.each) at in
      let served = service.logs_are agent a.0 log a.1 at in
      agreeing-wants (map (origin_of c) c.centres) (centre_names c) hs agent log
      (length-map c.centres (origin_of c) ∙ sym (length-map c.centres (λ (s : CentreConf). s.name))) named served.agrees k row there

  service-rows : AreAllSound Service c (text_telling Two hs logs)
  service-rows agent a rows known at =
      let log = slice_get-map_from (map (told_row Two)) logs agent rows at in
      let served = service.logs_are agent a log.0 known log.1 in
      subst (AreServedRows Two c hs agent a) log.2
      (left-served Two c hs agent a log.0 served.agrees served.decided
      (settled-unanswered (centre_names c) hs agent sessions log.0 named service.were served.settled))

pub audited-yes : (door after : DoorState) (all enough : Bool) (c : Configuration) (waits : Bool) (text : List ℕ) → IsConfig c
    → IsTextOf (IsServiceBy door after all enough c) (whole_text c) waits text → IsAudit c text Yes
audited-yes door after all enough c waits text config a =
    let sessions = a.are.sessions in
    let service = a.are.service in
    let lines = lines-stand c a.histories a.logs config (service-lines c waits text door after all enough a)
    (service-wants c sessions a.histories a.logs service) a.typed_logs in (
      text_telling Two a.histories a.logs,
      record {
        text = record {
          text = telling-text Two c a.histories a.logs text service.whole service.each lines a.is;
          runs = service-runs c sessions a.histories a.logs service;
        };
        rows = service-rows c sessions a.histories a.logs service;
      },
      sym (any_waits-told Two a.logs),
    )
