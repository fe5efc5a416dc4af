-- A text of a run or of a service tells its histories.
use Rattle.std.proofs.Common.{◌≡◌, ◌∙◌, ℕ, Bool, List, All, Some, length, get_or, ⊎_elim, sym, arith}
use Rattle.std.specs.Prelude.{slice_get}
use Rattle.std.proofs.lemmas.List.{length-map}
use Rattle.std.proofs.lemmas.Option.{slice_get-get_or, slice_get_cases}
use Rattle.tc_config.specs.Configurations.{Configuration, IsConfig, agent_names, centre_names}
use Rattle.tc_config.specs.Good.{IsGood, origin_of}
use Rattle.tc_config.specs.declared.configs.CentreConf.{CentreConf}
use Rattle.tc_desk.specs.declared.rows.LogRow.{LogRow}
use Rattle.tc_histtext.specs.Lines.{HasLines, HaveLines}
use Rattle.tc_histline.specs.declared.versions.Version.TheVariants.{Two}
use Rattle.tc_histtext.proofs.Agents.{ours-run}
use Rattle.tc_histtext.proofs.OneRun.{has_lines, run_text-one}
use Rattle.tc_model.specs.Choices.{TheFirst}
use Rattle.tc_model.specs.Run.{IsFirstRun}
use Rattle.tc_model.specs.Typed.{IsTyped}
use Rattle.tc_model.specs.declared.entries.Entry.{Entry}
use Rattle.tc_model.proofs.Runs.{IsRun-first, IsRun-well_formed}
use Rattle.tc_visits.specs.Service.{DoorState, IsServiceBy}
use Rattle.tucson.specs.Answer.{IsTextOf}
use Rattle.tucson.specs.Texts.{whole_text}

-- the entries of a run of first choices have lines of their own, where they are typed
first-lines : (c : Configuration) (s : CentreConf) (history : List Entry) → IsFirstRun (origin_of c s) history
    → All IsTyped history → All (HasLines (agent_names c)) history
first-lines c s history first typed =
    let run = IsRun-first (origin_of c s) history first in
    let formed = IsRun-well_formed (origin_of c s) history run in
    let ours = ours-run (origin_of c s) history run in
    λ k e inside. has_lines (agent_names c) (get_or history k e) (typed k e inside) (formed k e inside) (ours k e inside)

-- and so have those of histories, one for each centre, that are such runs
have-lines : (c : Configuration) (hs : List (List Entry)) → length hs ≡ length c.centres
    → ((place : ℕ) (s : CentreConf) (history : List Entry) → slice_get c.centres place ≡ Some s
    → slice_get hs place ≡ Some history → IsFirstRun (origin_of c s) history)
    → All (All IsTyped) hs → HaveLines (centre_names c) (agent_names c) hs
have-lines c hs whole runs typed = record {
  whole = whole ∙ sym (length-map c.centres (λ (s : CentreConf). s.name));
  lines = λ k d inside.
      let history : List Entry = get_or hs k d in
      ⊎_elim
      (λ found. first-lines c found.0 history (runs k found.0 history found.2 (slice_get-get_or hs k d inside)) (typed k d inside))
      (λ past. absurd (omega (arith, past.0, inside, whole)))
      (slice_get_cases c.centres k).1;
}

one-list : (c : Configuration) → IsConfig c → (hs gs : List (List Entry)) (ls ms : List (List LogRow)) (text : List ℕ)
    → HaveLines (centre_names c) (agent_names c) hs → HaveLines (centre_names c) (agent_names c) gs
    → text ≡ whole_text c hs ls → text ≡ whole_text c gs ms → hs ≡ gs
one-list c config hs gs ls ms text ours theirs is same =
    (run_text-one Two Two (centre_names c) (agent_names c) hs gs ls ms config.agents_differ ours theirs (sym is ∙ same)).1

pub run-lines : (c : Configuration) (waits : Bool) (text : List ℕ) (a : IsTextOf (IsGood TheFirst c) (whole_text c) waits text)
    → HaveLines (centre_names c) (agent_names c) a.histories
run-lines c waits text a =
    let runs = a.are.going.runs in
    have-lines c a.histories runs.whole (λ place s history at there. (runs.each place s history at there).run) a.typed

pub one-run : (c : Configuration) (text : List ℕ) (waits others : Bool) → IsConfig c
    → (a : IsTextOf (IsGood TheFirst c) (whole_text c) waits text) → (b : IsTextOf (IsGood TheFirst c) (whole_text c) others text)
    → a.histories ≡ b.histories
one-run c text waits others config a b =
    one-list c config a.histories b.histories a.logs b.logs text (run-lines c waits text a) (run-lines c others text b) a.is b.is

pub service-lines : (c : Configuration) (waits : Bool) (text : List ℕ) (door after : DoorState) (all enough : Bool)
    (a : IsTextOf (IsServiceBy door after all enough c) (whole_text c) waits text)
    → HaveLines (centre_names c) (agent_names c) a.histories
service-lines c waits text door after all enough a =
    let service = a.are.service in
    have-lines c a.histories service.whole (λ place s history at there. (service.runs place s history at there).run) a.typed

pub one-service : (c : Configuration) (text : List ℕ) (waits others : Bool) → IsConfig c
    → (door after first last : DoorState) (all enough every ample : Bool)
    → (a : IsTextOf (IsServiceBy door after all enough c) (whole_text c) waits text)
    → (b : IsTextOf (IsServiceBy first last every ample c) (whole_text c) others text)
    → a.histories ≡ b.histories
one-service c text waits others config door after first last all enough every ample a b =
    one-list c config a.histories b.histories a.logs b.logs text
    (service-lines c waits text door after all enough a) (service-lines c others text first last every ample b) a.is b.is
