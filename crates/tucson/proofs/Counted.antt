-- What each centre of a configuration has counted, by the cores that are opened.
use Rattle.std.proofs.Common.{◌≡◌, ◌<◌, ◌≤◌, Bool, ℕ, ℤ, zero, suc, List, [], ◌∷◌, ◌++◌, Option, None, All, slice_get, length, map, drop, zip, refl, sym, ap, ap₂, subst, ◌∙◌, arith}
use Rattle.std.proofs.lemmas.List.{length-map}
use Rattle.tc_centre.specs.Centre.{Centre}
use Rattle.tc_config.specs.Configurations.{Configuration}
use Rattle.tc_config.specs.Good.{IsGood, origin_of}
use Rattle.tc_config.specs.declared.configs.AgentConf.{AgentConf}
use Rattle.tc_config.specs.declared.configs.CentreConf.{CentreConf}
use Rattle.tc_desk.specs.Logs.{is_blocked}
use Rattle.tc_desk.specs.Typed.{IsTypedRow}
use Rattle.tc_desk.specs.declared.rows.LogRow.{LogRow}
use Rattle.tc_load.specs.Counts.{counted_in}
use Rattle.tc_load.specs.Summaries.{summary}
use Rattle.tc_model.specs.Choices.{TheFirst}
use Rattle.tc_model.specs.State.{Origin}
use Rattle.tc_model.specs.Typed.{IsTyped}
use Rattle.tc_model.specs.declared.entries.Entry.{Entry}
use Rattle.tc_runner.specs.Cores.{AreCores, histories, histories_of}
use Rattle.tucson.specs.Answer.{IsTextOf}
use Rattle.tucson.specs.Texts.{core_at, core_count, counts_of, load_summary}

-- at a place of a list something stands
pub never_none : {X : Type 0} (xs : List X) (i : ℕ) → i < length xs → slice_get xs i ≡ None → ⊥
never_none [] i within none = omega (arith, within)
never_none (x ∷ xs) zero within none = cc
never_none (x ∷ xs) (suc i) within none = never_none xs i (omega (arith, within)) none

-- what centres have counted before a run
abbrev pub first_of : List CentreConf → List (Option ℤ)
first_of centres = map (λ (s : CentreConf). counted_in s.tuples) centres

-- what they have counted behind it, by the cores that are opened
abbrev pub last_of : List (Option ℤ) → List Centre → List (Option ℤ)
last_of first cores = map core_count cores ++ drop (length cores) first

abbrev count_at : Configuration → CentreConf × List Entry → Option ℤ
count_at c at = core_count (core_at c at)

abbrev begun : List Entry → Origin → Centre
begun history origin = record { origin = origin; history = history }

unopened : (c : Configuration) (ss : List CentreConf) → first_of ss ≡ map (count_at c) (zip ss (histories_of ss []))
unopened c [] = refl
unopened c (s ∷ ss) = ap (λ l. counted_in s.tuples ∷ l) (unopened c ss)

opened : (c : Configuration) (ss : List CentreConf) (xs : List Centre) → map (λ (x : Centre). x.origin) xs ≡ map (origin_of c) ss
    → last_of (first_of ss) xs ≡ map (count_at c) (zip ss (histories_of ss xs))
opened c [] [] same = refl
opened c [] (x ∷ xs) same = absurd (cc)
opened c (s ∷ ss) [] same = absurd (cc)
opened c (s ∷ ss) (x ∷ xs) same =
    let origin : x.origin ≡ origin_of c s = cc in
    let rest : map (λ (y : Centre). y.origin) xs ≡ map (origin_of c) ss = cc in
    ap₂ ◌∷◌ (ap (λ o. core_count (begun x.history o)) origin) (opened c ss xs rest)

by_agents : (c : Configuration) (agents : List AgentConf) (cores : List Centre)
    → (0 < length agents → map (λ (x : Centre). x.origin) cores ≡ map (origin_of c) c.centres) → (length agents ≡ 0 → cores ≡ [])
    → last_of (first_of c.centres) cores ≡ counts_of c (histories c cores)
by_agents c [] cores are none = rw (none refl) (unopened c c.centres)
by_agents c (a ∷ agents) cores are none = opened c c.centres cores (are (omega arith))

-- counts of cores, and of the centres that aren't opened, are what each centre has counted
counted : (c : Configuration) (cores : List Centre) → AreCores c cores → (length c.agents ≡ 0 → cores ≡ [])
    → last_of (first_of c.centres) cores ≡ counts_of c (histories c cores)
counted c cores are none = by_agents c c.agents cores are none

few_by : (c : Configuration) (agents : List AgentConf) (cores : List Centre)
    → (0 < length agents → map (λ (x : Centre). x.origin) cores ≡ map (origin_of c) c.centres) → (length agents ≡ 0 → cores ≡ [])
    → length cores ≤ length c.centres
few_by c [] cores are none = omega (arith, ap length (none refl))
few_by c (a ∷ agents) cores are none = omega (arith, simp length-map at (ap length (are (omega arith))))

-- there are no more cores than centres
few_cores : (c : Configuration) (cores : List Centre) → AreCores c cores → (length c.agents ≡ 0 → cores ≡ [])
    → length cores ≤ length c.centres
few_cores c cores are none = few_by c c.agents cores are none

module _ (c plan : Configuration) (cores : List Centre) (same : plan ≡ c) (are : AreCores plan cores)
    (none : length plan.agents ≡ 0 → cores ≡ []) where
  abbrev IsOf : Configuration → Type 0
  IsOf d = last_of (first_of d.centres) cores ≡ counts_of d (histories d cores)

  -- there are no more cores than counts before the run
  pub few_of : (now : List Centre) (first : List (Option ℤ)) → now ≡ cores → first ≡ first_of c.centres → length now ≤ length first
  few_of now first is are_first =
      let few = few_cores plan cores are none in
      omega (arith, few, ap length is, ap length are_first, length-map c.centres (λ (s : CentreConf). counted_in s.tuples), ap (λ (d : Configuration). length d.centres) same)

  -- the summary of counts so taken is one of a workload's run
  pub summed : (agents start : ℕ) (logs : List (List LogRow)) (counts : List (Option ℤ)) (blocked : Bool) (before text : List ℕ)
      → IsGood TheFirst plan (histories plan cores) logs → counts ≡ last_of (first_of c.centres) cores → blocked ≡ is_blocked logs
      → before ≡ [] → text ≡ before ++ summary agents start counts blocked → All (All IsTyped) (histories plan cores) → All (All IsTypedRow) logs
      → IsTextOf (IsGood TheFirst c) (load_summary agents start c) blocked text
  summed agents start logs counts blocked before text good counted_are waits nothing is typed typed_logs =
      let these : last_of (first_of c.centres) cores ≡ counts_of c (histories c cores) = subst IsOf same (counted plan cores are none) in
      record {
        histories = histories c cores;
        logs = logs;
        are = subst (λ (d : Configuration). IsGood TheFirst d (histories d cores) logs) same good;
        typed = subst (λ (d : Configuration). All (All IsTyped) (histories d cores)) same typed;
        typed_logs = typed_logs;
        end = sym waits;
        is = is ∙ ap (λ (b : List ℕ). b ++ summary agents start counts blocked) nothing ∙ ap₂ (summary agents start) (counted_are ∙ these) waits;
      }
