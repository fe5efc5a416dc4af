-- Texts that are verified yes are those of runs.
use Rattle.std.proofs.Common.{◌≡◌, ℕ, ◌+◌, List, All, Contains, Some, length, map, slice_get, refl, sym, subst, ap, ap₂, ◌∙◌, arith}
use Rattle.std.proofs.Common.{eq-eqb}
use Rattle.std.proofs.lemmas.List.{length-map}
use Rattle.std.proofs.lemmas.List.Elements.{All-contains_itself}
use Rattle.std.proofs.lemmas.Option.{same_Some}
use Rattle.tc_lists.proofs.Elements.{All-from_slice_get, All-slice_get}
use Rattle.tc_lists.proofs.Sets.{slice_get-as_long, slice_get-map_from, slice_get_inside}
use Rattle.tc_model.specs.Calls.{call_of, calls_of, is_call_of}
use Rattle.tc_model.specs.Choices.{AnyOne}
use Rattle.tc_model.specs.declared.entries.Entry.{Entry}
use Rattle.tc_model.specs.declared.entries.Entry.TheVariants.{Called, Gave, Looked}
use Rattle.tc_config.specs.Configurations.{Configuration, agent_names, centre_names}
use Rattle.tc_config.specs.Good.{AreHistories, Follows, IsEnded, IsGood, IsNoLook}
use Rattle.tc_config.specs.declared.configs.AgentConf.{AgentConf}
use Rattle.tc_config.specs.declared.configs.CentreConf.{CentreConf}
use Rattle.tc_desk.specs.declared.rows.LogRow.{LogRow}
use Rattle.tc_histline.specs.Lines.{HasLine}
use Rattle.tc_histline.specs.declared.lines.TextRow.{TextRow}
use Rattle.tc_histline.specs.declared.versions.Version.{Version}
use Rattle.tc_histtext.specs.ReadTexts.{IsText, lines_of, text_of}
use Rattle.tc_histtext.specs.Text.{run_text}
use Rattle.tc_histtext.specs.declared.read_texts.Text.{Text}
use Rattle.tc_rows.specs.Rows.{AreQuietRuns, AreSound, IsNoLookOf, told_row}
use Rattle.tc_rows.proofs.Calls.{All-filter_at}
use Rattle.tc_verify.specs.RunTexts.{IsTextOfRun, text_telling}
use Rattle.tc_verify.specs.Verdicts.{AreAllSound, EndsAsRows, IsVerdict, any_waits}
use Rattle.tc_verify.specs.declared.verdicts.Question.TheVariants.{Run}
use Rattle.tc_verify.specs.declared.verdicts.Verdict.TheVariants.{Yes}
use Rattle.tc_verify.proofs.Sounds.{are-sound}
use Rattle.tc_verify.proofs.Told.{any_waits-told, text_of-told}
use Rattle.tc_verify.proofs.Wholes.{entry-numbered, map-from, whole-ended, whole-follows, whole-log}

module _ (c : Configuration) (t : Text) (quiet : AreQuietRuns c t.histories) (sound : AreAllSound Run c t)
    (many : length t.logs ≡ length (agent_names c)) where
  each_agent : length c.agents ≡ length t.logs
  each_agent = sym (many ∙ length-map c.agents (λ (a : AgentConf). a.name))

  -- a look would be one of a row, which says that there is none
  no_look-there : (place : ℕ) (centre : CentreConf) (history : List Entry) → slice_get c.centres place ≡ Some centre
      → slice_get t.histories place ≡ Some history → (k : ℕ) (e : Entry) → slice_get history k ≡ Some e → IsNoLook e
  no_look-there place centre history known there k (Called id op result items) at = tt
  no_look-there place centre history known there k (Gave id result items) at = tt
  no_look-there place centre history known there k (Looked id asked reply) at =
      let look : Entry = Looked id asked reply in
      let legal = (quiet.each place centre history known there).run k look at in
      let agent = slice_get_inside c.agents id.agent (omega (arith, legal.1.agent, length-map c.agents (λ (a : AgentConf). a.name))) in
      let rows = slice_get-as_long c.agents t.logs id.agent agent.0 (sym each_agent) agent.1 in
      let are : AreSound t.version c t.histories id.agent agent.0 rows.0 = sound id.agent agent.0 rows.0 agent.1 rows.1 in
      let made = All-filter_at (is_call_of id.agent) (λ x. Contains (calls_of id.agent history) x) history k look
      (All-contains_itself (calls_of id.agent history)) at (eq-eqb id.agent id.agent refl) in
      let n = entry-numbered t.version c t.histories id.agent agent.0 rows.0 are place history there look made in
      let row = slice_get_inside rows.0 n.0 n.2 in
      All-slice_get (IsNoLookOf id.agent (n.0 + 1)) history k look ((are.rows_are n.0 row.0 row.1).looks place history there) at
      (ap (call_of id.agent) {y = n.0 + 1} n.1)

  are_histories : AreHistories AnyOne c t.histories
  are_histories = record {
    whole = quiet.whole;
    each = λ place centre history known there.
        let run = quiet.each place centre history known there in
        record {
          run = run.run;
          quiescent = run.quiescent;
          looks = All-from_slice_get IsNoLook history (no_look-there place centre history known there);
        };
  }

  -- a log of a run, for the agent at the place
  pub record IsLogOf (agent : ℕ) (log : List LogRow) : Type 0 where
    pub a : AgentConf
    pub known : slice_get c.agents agent ≡ Some a
    pub follows : Follows c t.histories agent a log
    pub ended : IsEnded t.histories agent a log

  whole-logs : (logs : List (List LogRow)) × (map (map (told_row t.version)) logs ≡ t.logs)
      × ((agent : ℕ) (log : List LogRow) → slice_get logs agent ≡ Some log → IsLogOf agent log)
  whole-logs =
      map-from (map (told_row t.version)) IsLogOf t.logs
      (λ agent rows at.
      let a = slice_get-as_long t.logs c.agents agent rows each_agent at in
      let are = sound agent a.0 rows a.1 at in
      let log = whole-log t.version c t.histories agent a.0 rows are in (
        log.0,
        log.1,
        record {
          a = a.0;
          known = a.1;
          follows = whole-follows t.version c t.histories agent a.0 rows are log.0 log.1 log.2;
          ended = whole-ended t.version c t.histories agent a.0 rows are log.0 log.1 log.2;
        },
      ))

  module _ (logs : List (List LogRow)) (tells : map (map (told_row t.version)) logs ≡ t.logs)
      (are : (agent : ℕ) (log : List LogRow) → slice_get logs agent ≡ Some log → IsLogOf agent log) where
    follows-there : (agent : ℕ) (a : AgentConf) (log : List LogRow) → slice_get c.agents agent ≡ Some a
        → slice_get logs agent ≡ Some log → Follows c t.histories agent a log
    follows-there agent a log known at =
        let is = are agent log at in
        subst (λ (x : AgentConf). Follows c t.histories agent x log) (same_Some is.a a (sym is.known ∙ known)) is.follows

    ended-there : (agent : ℕ) (a : AgentConf) (log : List LogRow) → slice_get c.agents agent ≡ Some a
        → slice_get logs agent ≡ Some log → IsEnded t.histories agent a log
    ended-there agent a log known at =
        let is = are agent log at in
        subst (λ (x : AgentConf). IsEnded t.histories agent x log) (same_Some is.a a (sym is.known ∙ known)) is.ended

    are_good : IsGood AnyOne c t.histories logs
    are_good = record {
      going = record {
        runs = are_histories;
        follow = record {
          whole = sym (length-map logs (map (told_row t.version))) ∙ (ap length tells ∙ sym each_agent);
          each = follows-there;
        };
      };
      ended = ended-there;
    }

    -- the text is what is told of them
    telling : EndsAsRows t → text_telling t.version t.histories logs ≡ t
    telling ends =
        ap₂ (λ (l : List (List TextRow)) b. record { version = t.version; histories = t.histories; logs = l; blocked = b }) tells
        (sym (any_waits-told t.version logs) ∙ (ap any_waits tells ∙ sym ends))

-- a text that is verified yes is that of a run
pub run-from_yes : (c : Configuration) (bytes : List ℕ) → IsVerdict c bytes Yes → IsTextOfRun c bytes
run-from_yes c bytes (t, sound, ends) =
    let text = sound.text.text in
    let quiet = sound.text.runs in
    let w = whole-logs c t quiet sound.rows text.logs in
    let same = telling c t quiet sound.rows text.logs w.0 w.1 w.2 ends in
    record {
      version = t.version;
      histories = t.histories;
      logs = w.0;
      good = are_good c t quiet sound.rows text.logs w.0 w.1 w.2;
      lines =
          subst (λ (u : Text). All (HasLine t.version (agent_names c)) (lines_of (centre_names c) (agent_names c) u))
          (sym same) text.lines;
      is =
          text.is
          ∙ (ap (text_of (centre_names c) (agent_names c)) (sym same)
          ∙ text_of-told t.version (centre_names c) (agent_names c) t.histories w.0);
    }

-- what a text tells of histories and logs, one for each centre and agent, is read of the bytes that it is
pub telling-text : (version : Version) (c : Configuration) (histories : List (List Entry)) (logs : List (List LogRow))
    (bytes : List ℕ) → length histories ≡ length c.centres → length logs ≡ length c.agents
    → All (HasLine version (agent_names c)) (lines_of (centre_names c) (agent_names c) (text_telling version histories logs))
    → bytes ≡ run_text version (centre_names c) (agent_names c) histories logs
    → IsText (centre_names c) (agent_names c) (text_telling version histories logs) bytes
telling-text version c histories logs bytes whole each lines is = record {
  histories = whole ∙ sym (length-map c.centres (λ (s : CentreConf). s.name));
  logs = length-map logs (map (told_row version)) ∙ (each ∙ sym (length-map c.agents (λ (a : AgentConf). a.name)));
  lines = lines;
  is = is ∙ sym (text_of-told version (centre_names c) (agent_names c) histories logs);
}

module _ (c : Configuration) (bytes : List ℕ) (of : IsTextOfRun c bytes) where
  abbrev there : Text
  there = text_telling of.version of.histories of.logs

  told-text : IsText (centre_names c) (agent_names c) there bytes
  told-text =
      telling-text of.version c of.histories of.logs bytes of.good.going.runs.whole of.good.going.follow.whole of.lines of.is

  told-runs : AreQuietRuns c of.histories
  told-runs = record {
    whole = of.good.going.runs.whole;
    each = λ place centre history known stands.
        let is = of.good.going.runs.each place centre history known stands in
        record { run = is.run; quiescent = is.quiescent };
  }

  no_looks : (place : ℕ) (history : List Entry) → slice_get of.histories place ≡ Some history → All IsNoLook history
  no_looks place history stands =
      let centre = slice_get-as_long of.histories c.centres place history (sym of.good.going.runs.whole) stands in
      (of.good.going.runs.each place centre.0 history centre.1 stands).looks

  told-sound : AreAllSound Run c there
  told-sound agent a rows known at =
      let log = slice_get-map_from (map (told_row of.version)) of.logs agent rows at in
      subst (AreSound of.version c of.histories agent a) log.2
      (are-sound of.version c of.histories agent a log.0 (of.good.going.follow.each agent a log.0 known log.1)
      (of.good.ended agent a log.0 known log.1) no_looks)

  -- that of a run is verified yes
  pub yes-from_run : IsVerdict c bytes Yes
  yes-from_run = (
    there,
    record { text = record { text = told-text; runs = told-runs }; rows = told-sound },
    sym (any_waits-told of.version of.logs),
  )
