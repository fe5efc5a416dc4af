-- The cores of a configuration's centres, as one of them serves a call.
use Rattle.std.proofs.Common.{◌≡◌, ℕ, ◌+◌, ◌<◌, Bool, true, false, cond, eqb, List, [], ◌∷◌, ◌++◌, Some, All, length, map, refl, sym, ap, ◌∙◌, subst, arith, ⊎_elim}
use Rattle.std.proofs.Math.ListN.{set}
use Rattle.std.proofs.Math.Seq.{map-set_same}
use Rattle.std.specs.List.{slice_get}
use Rattle.std.proofs.lemmas.Bool.{cases_Bool, cases_eq, eqb-true, eq-eqb, ne_eqb}
use Rattle.std.proofs.lemmas.List.{append-nil, length-map, length-set, map-set}
use Rattle.std.proofs.lemmas.List.Elements.{All-append, All-cons, All-nil, filter-append}
use Rattle.std.proofs.lemmas.Option.{same_Some, get_or_from_slice_get}
use Rattle.tc_calls.proofs.Numbered.{gaves-unmade}
use Rattle.tc_centre.specs.Centre.{Centre}
use Rattle.tc_calls.specs.Places.{IsGave}
use Rattle.tc_config.specs.Configurations.{Configuration}
use Rattle.tc_config.specs.Good.{AreHistories, Follows, IsHistory, IsNoLook, IsRow, IsServedNumber, origin_of}
use Rattle.tc_config.specs.declared.configs.AgentConf.{AgentConf}
use Rattle.tc_config.specs.declared.configs.CentreConf.{CentreConf}
use Rattle.tc_desk.specs.Logs.{any_pending, is_served}
use Rattle.tc_desk.specs.declared.rows.LogRow.{LogRow}
use Rattle.tc_lists.proofs.Places.{slice_get_pushed}
use Rattle.tc_model.specs.Calls.{calls_of, id_of, is_call_of, call_of}
use Rattle.tc_model.specs.Choices.{TheFirst}
use Rattle.tc_model.specs.Run.{IsFirstRun}
use Rattle.tc_model.specs.State.{Origin, IsQuiescent, opening, after_history}
use Rattle.tc_model.specs.declared.entries.Entry.{Entry}
use Rattle.tc_model.specs.declared.entries.Entry.TheVariants.{Called, Gave, Looked}
use Rattle.tc_runner.specs.Cores.{AreCores, histories, histories_of}
use Rattle.tc_runner.specs.Results.{HasServed}
use Rattle.tc_runner.proofs.Follow.{Follows-push, calls-longer}
use Rattle.tc_runner.proofs.Later.{IsLater, IsLonger, IsLonger-same, IsRow-later}
use Rattle.tc_lists.proofs.Sets.{slice_get-set_same, slice_get-set_other, slice_get-map_at, slice_get-map_from}

-- where each centre is opened, the histories are those of the cores
histories_of-map : (ss : List CentreConf) (xs : List Centre) → length xs ≡ length ss → histories_of ss xs ≡ map (λ (x : Centre). x.history) xs
histories_of-map [] [] same = refl
histories_of-map [] (x ∷ xs) same = absurd (omega (arith, same))
histories_of-map (s ∷ ss) [] same = absurd (omega (arith, same))
histories_of-map (s ∷ ss) (x ∷ xs) same = ap (λ t. x.history ∷ t) (histories_of-map ss xs (omega (arith, same)))

-- an answer to a request is no look
no-look : (e : Entry) → IsGave e → IsNoLook e
no-look (Called id op result items) gave = absurd gave
no-look (Gave id result items) gave = tt
no-look (Looked id asked reply) gave = absurd gave

module _ (c : Configuration) (some : 0 < length c.agents) where
  pub cores-whole : (cores : List Centre) → AreCores c cores → length cores ≡ length c.centres
  cores-whole cores are =
      sym (length-map cores (λ (x : Centre). x.origin)) ∙ ap length (are some) ∙ length-map c.centres (origin_of c)

  pub histories-map : (cores : List Centre) → AreCores c cores → histories c cores ≡ map (λ (x : Centre). x.history) cores
  histories-map cores are = histories_of-map c.centres cores (cores-whole cores are)

  -- the core of a centre
  pub core-at : (cores : List Centre) → AreCores c cores → (place : ℕ) (s : CentreConf) → slice_get c.centres place ≡ Some s
      → (x : Centre) × (slice_get cores place ≡ Some x) × (x.origin ≡ origin_of c s)
  core-at cores are place s at =
      slice_get-map_from (λ (x : Centre). x.origin) cores place (origin_of c s)
      (ap (λ os. slice_get os place) (are some) ∙ slice_get-map_at (origin_of c) c.centres place s at)

  -- the history of a core
  pub history-at : (cores : List Centre) → AreCores c cores → (place : ℕ) (x : Centre) → slice_get cores place ≡ Some x
      → slice_get (histories c cores) place ≡ Some x.history
  history-at cores are place x at =
      ap (λ hs. slice_get hs place) (histories-map cores are) ∙ slice_get-map_at (λ (y : Centre). y.history) cores place x at

  -- a call is served at one core
  module _ (cores : List Centre) (are : AreCores c cores) (agent number place : ℕ) (before after : Centre)
      (stands : slice_get cores place ≡ Some before) (served : HasServed (call_of agent number) before after) where
    abbrev called : Entry
    called = Called (call_of agent number) served.op served.serves.result served.serves.items

    abbrev gaves : List Entry
    gaves = served.serves.gaves

    origin-kept : after.origin ≡ before.origin
    origin-kept = ap (λ (x : Centre). x.origin) served.serves.appended

    grown : after.history ≡ before.history ++ called ∷ gaves
    grown = ap (λ (x : Centre). x.history) served.serves.appended

    pub AreCores-set : AreCores c (set cores place after)
    AreCores-set agents =
        map-set_same (λ (x : Centre). x.origin) cores place after before
        (origin-kept ∙ ap (λ (x : Centre). x.origin) (sym (get_or_from_slice_get cores place before before stands)))
        ∙ are agents

    histories-set : histories c (set cores place after) ≡ set (histories c cores) place after.history
    histories-set =
        histories-map (set cores place after) AreCores-set ∙ map-set (λ (x : Centre). x.history) cores place after
        ∙ ap (λ hs. set hs place after.history) (sym (histories-map cores are))

    -- the history at the place, before and after
    was : slice_get (histories c cores) place ≡ Some before.history
    was = history-at cores are place before stands

    is : slice_get (histories c (set cores place after)) place ≡ Some after.history
    is = ap (λ hs. slice_get hs place) histories-set ∙ slice_get-set_same (histories c cores) place after.history before.history was

    -- that at another place is as before
    elsewhere : (other : ℕ) → (other ≡ place → ⊥) → slice_get (histories c (set cores place after)) other ≡ slice_get (histories c cores) other
    elsewhere other apart =
        ap (λ hs. slice_get hs other) histories-set ∙ slice_get-set_other (histories c cores) place other after.history apart

    served-looks : All IsNoLook before.history → All IsNoLook after.history
    served-looks none =
        subst (All IsNoLook) (sym grown)
        (All-append IsNoLook before.history (called ∷ gaves) none
        (All-cons IsNoLook called gaves tt (λ k d inside. no-look _ (served.serves.answers k d inside))))

    served-history : (s : CentreConf) → slice_get c.centres place ≡ Some s → IsHistory TheFirst (origin_of c s) before.history
        → IsHistory TheFirst (origin_of c s) after.history
    served-history s known before-is =
        let core = core-at cores are place s known in
        let from : after.origin ≡ origin_of c s =
        origin-kept ∙ ap (λ (x : Centre). x.origin) (same_Some before core.0 (sym stands ∙ core.1)) ∙ core.2 in
        record {
          run = subst (λ o. IsFirstRun o after.history) from served.serves.run;
          quiescent = subst (λ (o : Origin). IsQuiescent (after_history (opening o) after.history)) from served.serves.quiescent;
          looks = served-looks before-is.looks;
        }

    pub AreHistories-set : AreHistories TheFirst c (histories c cores) → AreHistories TheFirst c (histories c (set cores place after))
    AreHistories-set runs = record {
      whole = ap length histories-set ∙ length-set (histories c cores) place after.history ∙ runs.whole;
      each = λ other s history known at.
          ⊎_elim
          (λ (here : other ≡ place).
          let there : slice_get c.centres place ≡ Some s = ap (slice_get c.centres) (sym here) ∙ known in
          let same : after.history ≡ history =
          same_Some after.history history (sym is ∙ ap (slice_get (histories c (set cores place after))) (sym here) ∙ at) in
          subst (IsHistory TheFirst (origin_of c s)) same (served-history s there (runs.each place s before.history there was)))
          (λ (apart : other ≡ place → ⊥). runs.each other s history known (sym (elsewhere other apart) ∙ at))
          (cases_eq other place);
    }

    -- what the call adds of an agent's entries
    made : (b : ℕ) (mine : Bool) → eqb agent b ≡ mine → calls_of b (called ∷ gaves) ≡ cond mine (called ∷ []) []
    made b mine told =
        ap (λ m. cond m (called ∷ calls_of b gaves) (calls_of b gaves)) told
        ∙ ap (λ (gs : List Entry). cond mine (called ∷ gs) gs) (gaves-unmade b gaves served.serves.answers)

    calls-more : (b : ℕ) (mine : Bool) → eqb agent b ≡ mine → calls_of b after.history ≡ calls_of b before.history ++ cond mine (called ∷ []) []
    calls-more b mine told =
        ap (calls_of b) grown ∙ filter-append (is_call_of b) before.history (called ∷ gaves)
        ∙ ap (λ es. calls_of b before.history ++ es) (made b mine told)

    calls-own : calls_of agent after.history ≡ calls_of agent before.history ++ called ∷ []
    calls-own = calls-more agent true (eq-eqb agent agent refl)

    calls-other : (b : ℕ) → (agent ≡ b → ⊥) → calls_of b after.history ≡ calls_of b before.history
    calls-other b other = calls-more b false (ne_eqb agent b other) ∙ append-nil (calls_of b before.history)

    above-made : (b top : ℕ) → (agent ≡ b → top < number) → All (λ e. top < (id_of e).number) (calls_of b (called ∷ gaves))
    above-made b top above =
        let P : Entry → Type 0 = λ e. top < (id_of e).number in
        ⊎_elim
        (λ (own : eqb agent b ≡ true).
        subst (All P) (sym (made b true own)) (All-cons P called [] (above (eqb-true agent b own)) (All-nil P)))
        (λ (other : eqb agent b ≡ false). subst (All P) (sym (made b false other)) (All-nil P))
        (cases_Bool (eqb agent b))

    pub IsLater-set : (b top : ℕ) → (agent ≡ b → top < number) → IsLater b top (histories c cores) (histories c (set cores place after))
    IsLater-set b top above = record {
      whole = ap length histories-set ∙ length-set (histories c cores) place after.history;
      each = λ other old new before-at after-at.
          ⊎_elim
          (λ (here : other ≡ place).
          let old-is : before.history ≡ old = same_Some before.history old (sym was ∙ ap (slice_get (histories c cores)) (sym here) ∙ before-at) in
          let new-is : after.history ≡ new =
          same_Some after.history new (sym is ∙ ap (slice_get (histories c (set cores place after))) (sym here) ∙ after-at) in
          let longer : IsLonger b top before.history after.history = record { more = called ∷ gaves; grown = grown; above = above-made b top above } in
          subst (λ h. IsLonger b top h new) old-is (subst (IsLonger b top before.history) new-is longer))
          (λ (apart : other ≡ place → ⊥).
          subst (IsLonger b top old) (same_Some old new (sym before-at ∙ sym (elsewhere other apart) ∙ after-at)) (IsLonger-same b top old))
          (cases_eq other place);
    }

    -- the logs of others follow as before
    pub Follows-other : (b : ℕ) (a : AgentConf) (log : List LogRow) → (agent ≡ b → ⊥) → Follows c (histories c cores) b a log
        → Follows c (histories c (set cores place after)) b a log
    Follows-other b a log other follows = record {
      rows = λ k row at.
          IsRow-later c (histories c cores) (histories c (set cores place after)) b a log log k (k + 1) row (omega arith)
          (IsLater-set b (k + 1) (λ same. absurd (other same))) refl (follows.rows k row at);
      last = follows.last;
      calls = λ p history at.
          ⊎_elim
          (λ (here : p ≡ place).
          let same : after.history ≡ history =
          same_Some after.history history (sym is ∙ ap (slice_get (histories c (set cores place after))) (sym here) ∙ at) in
          let P : ℕ → List Entry → Type 0 = λ q es. All (λ e. IsServedNumber a log q (id_of e).number) es in
          subst (P p) (sym (calls-other b other) ∙ ap (calls_of b) same)
          (follows.calls p before.history (ap (slice_get (histories c cores)) here ∙ was)))
          (λ (apart : p ≡ place → ⊥). follows.calls p history (sym (elsewhere p apart) ∙ at))
          (cases_eq p place);
    }

    -- the log of the agent follows with the row of the call
    pub Follows-served : (a : AgentConf) (log : List LogRow) (row : LogRow) → Follows c (histories c cores) agent a log → any_pending log ≡ false
        → number ≡ length log + 1 → is_served row.result ≡ true
        → (new : IsRow c (histories c (set cores place after)) agent a (log ++ row ∷ []) (length log) row) → new.step.item.centre ≡ place
        → Follows c (histories c (set cores place after)) agent a (log ++ row ∷ [])
    Follows-served a log row follows settled next served-row new here =
        let mine : IsServedNumber a (log ++ row ∷ []) place number = record {
          k = length log;
          counted = next;
          row = row;
          stands = slice_get_pushed log row;
          served = served-row;
          step = new.step;
          item = new.asks.stands;
          there = here;
        } in
        Follows-push c agent a (histories c cores) (histories c (set cores place after)) log row follows settled
        (IsLater-set agent (length log) (λ same. omega (arith, next))) new
        (λ p history at.
        ⊎_elim
        (λ (at-place : p ≡ place).
        let P : Entry → Type 0 = λ e. IsServedNumber a (log ++ row ∷ []) p (id_of e).number in
        let same : after.history ≡ history =
        same_Some after.history history (sym is ∙ ap (slice_get (histories c (set cores place after))) (sym at-place) ∙ at) in
        subst (All P) (sym calls-own ∙ ap (calls_of agent) same)
        (All-append P (calls_of agent before.history) (called ∷ [])
        (calls-longer c agent a log (row ∷ []) p (calls_of agent before.history)
        (follows.calls p before.history (ap (slice_get (histories c cores)) at-place ∙ was)))
        (All-cons P called [] (subst (λ q. IsServedNumber a (log ++ row ∷ []) q number) (sym at-place) mine) (All-nil P))))
        (λ (apart : p ≡ place → ⊥).
        calls-longer c agent a log (row ∷ []) p (calls_of agent history)
        (follows.calls p history (sym (elsewhere p apart) ∙ at)))
        (cases_eq p place))
