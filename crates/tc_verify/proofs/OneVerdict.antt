-- The verdict on a text is one.
use Rattle.std.proofs.Common.{◌≡◌, ◌≢◌, ℕ, AllPairs, List, refl, sym, ap, ap₂, subst}
use Rattle.std.proofs.lemmas.Option.{slice_get_within}
use Rattle.tc_config.specs.Configurations.{Configuration, agent_names, centre_names}
use Rattle.tc_histtext.specs.ReadTexts.{IsFirstFault, IsText}
use Rattle.tc_histtext.specs.declared.read_texts.Text.{Text}
use Rattle.tc_histtext.proofs.LineLaws.{line_laws}
use Rattle.tc_histtext.proofs.OneAnswer.{fault-one, text-one}
use Rattle.tc_rows.specs.Rows.{AreQuietRuns}
use Rattle.tc_verify.specs.Texts.{IsOfKnown}
use Rattle.tc_verify.specs.Verdicts.{AreAllSound, EndsAsRows, IsFirstAgent, IsFirstBad, IsSoundText, IsTextOfRuns, IsVerdictOn}
use Rattle.tc_verify.specs.declared.verdicts.Question.{Question}
use Rattle.tc_verify.specs.declared.verdicts.Verdict.{Verdict}
use Rattle.tc_verify.specs.declared.verdicts.Verdict.TheVariants.{NoAgent, NoEnd, NoEntry, NoText, Yes}
use Rattle.tc_verify.proofs.OneBad.{first-one, quiet-none}
use Rattle.tc_verify.proofs.OneFaulty.{agent-none, agent-one}

module _ (question : Question) (c : Configuration) (bytes : List ℕ) where
  module _ (t : Text) (same : (u : Text) → IsText (centre_names c) (agent_names c) u bytes → t ≡ u)
      (refused : (k : ℕ) → IsFirstFault (centre_names c) (agent_names c) bytes k → ⊥) where
    -- what is said of a text of these bytes is said of this one
    here : (P : Text → Type 0) (u : Text) → IsText (centre_names c) (agent_names c) u bytes → P u → P t
    here P u is said = subst P (sym (same u is)) said

    runs-here : (u : Text) → IsTextOfRuns c bytes u → AreQuietRuns c t.histories
    runs-here u runs = here (λ (w : Text). AreQuietRuns c w.histories) u runs.text runs.runs

    bad-here : (place number : ℕ) (u : Text) → IsText (centre_names c) (agent_names c) u bytes → IsFirstBad c u.histories place number → IsFirstBad c t.histories place number
    bad-here place number u is bad = here (λ (w : Text). IsFirstBad c w.histories place number) u is bad

    pub verdict-entry : (place number : ℕ) → IsFirstBad c t.histories place number → (v : Verdict) → IsVerdictOn question c bytes v → NoEntry place number ≡ v
    verdict-entry place number bad Yes is = absurd (quiet-none c t.histories place number (runs-here is.0 is.1.text) bad)
    verdict-entry place number bad (NoText k) is = absurd (refused k is)
    verdict-entry place number bad (NoEntry other count) is =
        let one = first-one c t.histories place other number count bad (bad-here other count is.0 is.1 is.2) in
        ap₂ NoEntry one.0 one.1
    verdict-entry place number bad (NoAgent agent count) is = absurd (quiet-none c t.histories place number (runs-here is.0 is.1) bad)
    verdict-entry place number bad NoEnd is = absurd (quiet-none c t.histories place number (runs-here is.0 is.1.text) bad)

    module _ (quiet : AreQuietRuns c t.histories) where
      no_entry : (place number : ℕ) → IsVerdictOn question c bytes (NoEntry place number) → ⊥
      no_entry place number is = quiet-none c t.histories place number quiet (bad-here place number is.0 is.1 is.2)

      agent-here : (agent number : ℕ) → IsVerdictOn question c bytes (NoAgent agent number) → IsFirstAgent question c t agent number
      agent-here agent number is = here (λ w. IsFirstAgent question c w agent number) is.0 is.1.text is.2

      sound-here : (u : Text) → IsSoundText question c bytes u → AreAllSound question c t
      sound-here u sound = here (AreAllSound question c) u sound.text.text sound.rows

      pub verdict-agent : (agent number : ℕ) → IsFirstAgent question c t agent number → (v : Verdict) → IsVerdictOn question c bytes v → NoAgent agent number ≡ v
      verdict-agent agent number faulty Yes is = absurd (agent-none question c t agent number (sound-here is.0 is.1) faulty)
      verdict-agent agent number faulty (NoText k) is = absurd (refused k is)
      verdict-agent agent number faulty (NoEntry place count) is = absurd (no_entry place count is)
      verdict-agent agent number faulty (NoAgent other count) is =
          let one = agent-one question c t agent other number count faulty (agent-here other count is) in
          ap₂ NoAgent one.0 one.1
      verdict-agent agent number faulty NoEnd is = absurd (agent-none question c t agent number (sound-here is.0 is.1) faulty)

      module _ (sound : AreAllSound question c t) where
        no_agent : (agent number : ℕ) → IsVerdictOn question c bytes (NoAgent agent number) → ⊥
        no_agent agent number is = agent-none question c t agent number sound (agent-here agent number is)

        pub verdict-yes : EndsAsRows t → (v : Verdict) → IsVerdictOn question c bytes v → Yes ≡ v
        verdict-yes ends Yes is = refl
        verdict-yes ends (NoText k) is = absurd (refused k is)
        verdict-yes ends (NoEntry place number) is = absurd (no_entry place number is)
        verdict-yes ends (NoAgent agent number) is = absurd (no_agent agent number is)
        verdict-yes ends NoEnd is = absurd (here (λ w. EndsAsRows w → ⊥) is.0 is.1.text.text is.2 ends)

        pub verdict-end : (EndsAsRows t → ⊥) → (v : Verdict) → IsVerdictOn question c bytes v → NoEnd ≡ v
        verdict-end wrong Yes is = absurd (wrong (here EndsAsRows is.0 is.1.text.text is.2))
        verdict-end wrong (NoText k) is = absurd (refused k is)
        verdict-end wrong (NoEntry place number) is = absurd (no_entry place number is)
        verdict-end wrong (NoAgent agent number) is = absurd (no_agent agent number is)
        verdict-end wrong NoEnd is = refl

  module _ (k : ℕ) (none : (u : Text) → IsText (centre_names c) (agent_names c) u bytes → ⊥)
      (first : (m : ℕ) → IsFirstFault (centre_names c) (agent_names c) bytes m → k ≡ m) where
    pub verdict-line : (v : Verdict) → IsVerdictOn question c bytes v → NoText k ≡ v
    verdict-line Yes is = absurd (none is.0 is.1.text.text)
    verdict-line (NoText m) is = ap NoText (first m is)
    verdict-line (NoEntry place number) is = absurd (none is.0 is.1)
    verdict-line (NoAgent agent number) is = absurd (none is.0 is.1.text)
    verdict-line NoEnd is = absurd (none is.0 is.1.text.text)

  -- what a verdict tells is there
  pub verdict-known : (v : Verdict) → IsVerdictOn question c bytes v → IsOfKnown c v
  verdict-known Yes is = tt
  verdict-known (NoText k) is = tt
  verdict-known (NoEntry place number) is = slice_get_within c.centres place is.2.centre is.2.known
  verdict-known (NoAgent agent number) is = slice_get_within c.agents agent is.2.a is.2.known
  verdict-known NoEnd is = tt

  module _ (differ : AllPairs ◌≢◌ (agent_names c)) where
    text-same : (t : Text) → IsText (centre_names c) (agent_names c) t bytes → (u : Text) → IsText (centre_names c) (agent_names c) u bytes → t ≡ u
    text-same t is u also = text-one (centre_names c) (agent_names c) (line_laws (agent_names c) differ) t u bytes is also

    text-whole : (t : Text) → IsText (centre_names c) (agent_names c) t bytes → (k : ℕ) → IsFirstFault (centre_names c) (agent_names c) bytes k → ⊥
    text-whole t is k fault = fault.unfinished t is

    -- one verdict holds
    pub verdict-one : (v w : Verdict) → IsVerdictOn question c bytes v → IsVerdictOn question c bytes w → v ≡ w
    verdict-one Yes w is other =
        let text = is.1.text.text in
        verdict-yes is.0 (text-same is.0 text) (text-whole is.0 text) is.1.text.runs is.1.rows is.2 w other
    verdict-one (NoText k) w is other =
        verdict-line k is.unfinished (λ m also. fault-one (centre_names c) (agent_names c) bytes k m is also) w other
    verdict-one (NoEntry place number) w is other =
        verdict-entry is.0 (text-same is.0 is.1) (text-whole is.0 is.1) place number is.2 w other
    verdict-one (NoAgent agent number) w is other =
        let text = is.1.text in
        verdict-agent is.0 (text-same is.0 text) (text-whole is.0 text) is.1.runs agent number is.2 w other
    verdict-one NoEnd w is other =
        let text = is.1.text.text in
        verdict-end is.0 (text-same is.0 text) (text-whole is.0 text) is.1.text.runs is.1.rows is.2 w other
