-- A row where its centre is known, and the first row that a service can't have left.
use Rattle.std.proofs.Common.{◌≡◌, ℕ, ◌+◌, ◌<◌, List, Contains, Some, length, slice_get, take, inl, inr, refl, sym, subst, ap, ◌∙◌, arith}
use Rattle.std.proofs.lemmas.Option.{same_Some, slice_get_within}
use Rattle.tc_config.specs.Configurations.{Configuration, IsConfig, centre_names}
use Rattle.tc_config.specs.Good.{Permits, origin_of}
use Rattle.tc_config.specs.declared.configs.AgentConf.{AgentConf}
use Rattle.tc_config.specs.declared.configs.CentreConf.{CentreConf}
use Rattle.tc_desk.specs.Agreeing.{HaveRows}
use Rattle.tc_desk.specs.declared.rows.LogResult.TheVariants.{Refused}
use Rattle.tc_desk.specs.declared.rows.Refusal.TheVariants as refusal
use Rattle.tc_histline.specs.declared.lines.TextRow.{TextRow}
use Rattle.tc_histline.specs.declared.versions.Version.{Version}
use Rattle.tc_histtext.specs.ReadTexts.{as_logged}
use Rattle.tc_lists.proofs.Places.{Contains-slice_get}
use Rattle.tc_model.specs.Calls.{call_of}
use Rattle.tc_model.specs.declared.entries.Entry.{Entry}
use Rattle.tc_rows.specs.Rows.{logged}
use Rattle.tc_rows.specs.ServedRows.{AgreesTold, AreServedRows, IsFirstUnserved, IsServedRow}
use Rattle.tc_rows.proofs.Naming.{centre-named, named-known, named-unknown, one-centre}

module _ (version : Version) (c : Configuration) (histories : List (List Entry)) (agent : ℕ) (a : AgentConf) (rows : List TextRow) where
  -- what the row tells, by the history of the centre at a place
  abbrev pub ToldAt : ℕ → TextRow → ℕ → CentreConf → List Entry → Type 0
  ToldAt k row place s history =
      AgreesTold version (Permits c a.role place) (origin_of c s) history (call_of agent (k + 1)) (logged (take k rows))
      (as_logged row) row.result

  module _ (k : ℕ) (row : TextRow) (number : row.number ≡ k + 1) where
    -- where its centre is known, the row may stand if it wasn't refused since that is not, and agrees with the history
    pub row-there : IsConfig c → (place : ℕ) (s : CentreConf) (history : List Entry) → slice_get c.centres place ≡ Some s
        → s.name ≡ row.centre → slice_get histories place ≡ Some history
        → ((row.result ≡ Refused refusal.UnknownCentre → ⊥) → ToldAt k row place s history
        → IsServedRow version c histories agent a rows k row)
        × (IsServedRow version c histories agent a rows k row
        → (row.result ≡ Refused refusal.UnknownCentre → ⊥) × ToldAt k row place s history)
    row-there config place s history at named there =
        let has : Contains (centre_names c) row.centre =
        Contains-slice_get (centre_names c) place row.centre (centre-named c place s row.centre at named) in
        let known = named-known (centre_names c) row.centre has row.result in (
          λ other told. record {
            number = number;
            known = known.0 other;
            agrees = λ p t h atp is ath.
                let same : place ≡ p = one-centre c place p s t row.centre config at named atp is in
                let centre_is : s ≡ t = same_Some s t (sym at ∙ (ap (slice_get c.centres) same ∙ atp)) in
                let history_is : history ≡ h = same_Some history h (sym there ∙ (ap (slice_get histories) same ∙ ath)) in
                subst (λ x. ToldAt k row p t x) history_is
                (subst (λ x. ToldAt k row p x history) centre_is
                (subst (λ x. ToldAt k row x s history) same told));
          },
          λ is. (known.1 is.known, is.agrees place s history at named there),
        )

    -- where no centre has the name, it may stand just where it was refused for that
    pub row-nowhere : (Contains (centre_names c) row.centre → ⊥)
        → (row.result ≡ Refused refusal.UnknownCentre → IsServedRow version c histories agent a rows k row)
        × (IsServedRow version c histories agent a rows k row → row.result ≡ Refused refusal.UnknownCentre)
    row-nowhere never =
        let unknown = named-unknown (centre_names c) row.centre never row.result in (
          λ same. record {
            number = number;
            known = unknown.0 same;
            agrees = λ p t h atp is ath.
                absurd (never (Contains-slice_get (centre_names c) p row.centre (centre-named c p t row.centre atp is)));
          },
          λ is. unknown.1 is.known,
        )

  -- a row whose centre is known wasn't refused since it is not
  pub refused-known : (k : ℕ) (row : TextRow) → IsConfig c → (place : ℕ) (s : CentreConf) → slice_get c.centres place ≡ Some s
      → s.name ≡ row.centre → IsServedRow version c histories agent a rows k row
      → row.result ≡ Refused refusal.UnknownCentre → ⊥
  refused-known k row config place s at named is =
      (named-known (centre_names c) row.centre
      (Contains-slice_get (centre_names c) place row.centre (centre-named c place s row.centre at named)) row.result).1 is.known

  -- the first row that may not stand there
  pub unserved-row : (k : ℕ) (row : TextRow) (number : ℕ) → number ≡ k + 1 → slice_get rows k ≡ Some row
      → (IsServedRow version c histories agent a rows k row → ⊥)
      → ((j : ℕ) (r : TextRow) → j < k → slice_get rows j ≡ Some r → IsServedRow version c histories agent a rows j r)
      → IsFirstUnserved version c histories agent a rows number
  unserved-row k row number is at never before = record {
    unserved = inl (k, row, is, at, never);
    before = λ j r below here. before j r (omega (arith, below, is)) here;
  }

  -- behind rows that may, an entry that has none
  pub unserved-end : (HaveRows (centre_names c) histories agent (logged rows) → ⊥)
      → ((j : ℕ) (r : TextRow) → j < length rows → slice_get rows j ≡ Some r → IsServedRow version c histories agent a rows j r)
      → IsFirstUnserved version c histories agent a rows (length rows + 1)
  unserved-end never before = record {
    unserved = inr (refl, never);
    before = λ j r below here. before j r (omega (arith, below)) here;
  }

  -- and else all may
  pub all-served : HaveRows (centre_names c) histories agent (logged rows)
      → ((j : ℕ) (r : TextRow) → j < length rows → slice_get rows j ≡ Some r → IsServedRow version c histories agent a rows j r)
      → AreServedRows version c histories agent a rows
  all-served have before = record {
    rows_are = λ k row at. before k row (slice_get_within rows k row at) at;
    calls = have;
  }
