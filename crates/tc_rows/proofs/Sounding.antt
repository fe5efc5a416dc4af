-- A row beside the item whose ask is known.
use Rattle.std.proofs.Common.{◌≡◌, ℕ, Bool, true, false, not, List, ◌⊎◌, Option, Some, None, inl, inr}
use Rattle.std.proofs.Common.{IfNone, IfSome, slice_get, refl, sym, subst, ◌∙◌, ⊎_elim}
use Rattle.std.specs.Option.{is_some}
use Rattle.std.proofs.lemmas.Bool.{cases_Bool, false≢true, true≢false}
use Rattle.std.proofs.lemmas.Option.{same_Some}
use Rattle.tc_lists.proofs.Places.{slice_get-Contains}
use Rattle.tc_lists.proofs.Sets.{slice_get-as_long}
use Rattle.tc_asks.specs.declared.next.Next.{Next}
use Rattle.tc_config.specs.Configurations.{Configuration}
use Rattle.tc_config.specs.Good.{Permits, origin_of}
use Rattle.tc_config.specs.declared.configs.AgentConf.{AgentConf}
use Rattle.tc_config.specs.declared.configs.CentreConf.{CentreConf}
use Rattle.tc_histline.specs.declared.lines.TextRow.{TextRow}
use Rattle.tc_histline.specs.declared.versions.Version.{Version}
use Rattle.tc_model.specs.Asks.{primitive_of}
use Rattle.tc_model.specs.Calls.{call_of, id_of, is_call_of}
use Rattle.tc_model.specs.State.{Origin}
use Rattle.tc_model.specs.declared.entries.Entry.{Entry}
use Rattle.tc_rows.specs.Index.{IsIndexOf, IsIndexed}
use Rattle.tc_rows.specs.Made.{HasNoEntry, IsEntryOf}
use Rattle.tc_rows.specs.Rows.{AreQuietRuns}
use Rattle.tc_rows.specs.Sound.{HasMade, IsToldThere}
use Rattle.tc_rows.specs.Told.{IsToldResult}
use Rattle.tc_rows.specs.declared.index.CentreIndex.{CentreIndex}
use Rattle.tc_rows.specs.declared.index.Index.{Index}
use Rattle.tc_rows.proofs.Calls.{All-filter_at}
use Rattle.tc_rows.proofs.Telling.{result-permits}

-- an entry of the number is one
pub entry-never : (agent number : ℕ) (history : List Entry) (e : Entry) → IsEntryOf agent number history e
    → HasNoEntry agent number history → ⊥
entry-never agent number history e is never =
    All-filter_at (is_call_of agent) (λ x. (id_of x).number ≡ number → ⊥) history is.stands.0 e never
    (slice_get-Contains history e is.stands) is.by is.number_is

-- what isn't found isn't there
pub clear-found : {X : Type 0} (o : Option X) (P : X → Type 0) (N : Type 0) (b : Bool) → is_some o ≡ not b → IfSome o P → IfNone o N
    → ((x : X) → P x → N → ⊥) → (b ≡ true → N) × (N → b ≡ true)
clear-found None P N true is some none never = (λ yes. none, λ clear. refl)
clear-found None P N false is some none never = absurd (false≢true is)
clear-found (Some x) P N true is some none never = absurd (true≢false is)
clear-found (Some x) P N false is some none never = (λ yes. absurd (false≢true yes), λ clear. absurd (never x some clear))

-- a history that may have the entry is the one at the centre where the ask was served
pub own-not : (served own : Bool) (place centre : ℕ) → (own ≡ true → (served ≡ true) × (place ≡ centre))
    → (served ≡ false) ⊎ (place ≡ centre → ⊥) → own ≡ false
own-not served own place centre is other =
    ⊎_elim
    (λ (yes : own ≡ true).
    ⊎_elim (λ (never : served ≡ false). absurd (true≢false (sym (is yes).0 ∙ never)))
    (λ (elsewhere : place ≡ centre → ⊥). absurd (elsewhere (is yes).1)) other)
    (λ (never : own ≡ false). never)
    (cases_Bool own)

pub own-other : (served own : Bool) (place centre : ℕ) → ((served ≡ true) × (place ≡ centre) → own ≡ true) → own ≡ false
    → (served ≡ false) ⊎ (place ≡ centre → ⊥)
own-other served own place centre is never =
    ⊎_elim
    (λ (yes : served ≡ true). inr (λ (same : place ≡ centre). true≢false (sym (is (yes, same)) ∙ never)))
    (λ (not_served : served ≡ false). inl not_served)
    (cases_Bool served)

-- an index has what agents made
pub index-made : (c : Configuration) (histories : List (List Entry)) (index : Index) → AreQuietRuns c histories
    → IsIndexOf c histories index → HasMade histories index
index-made c histories index quiet of = record {
  whole = of.whole ∙ sym quiet.whole;
  each = λ place history indexed ath atx.
      let s = slice_get-as_long index.centres.items c.centres place indexed (sym of.whole) atx in
      (of.each place s.0 history indexed s.1 ath atx).makers;
}

module _ (c : Configuration) (histories : List (List Entry)) (index : Index) (of : IsIndexOf c histories index) (place : ℕ)
    (history : List Entry) (x : CentreIndex) (ath : slice_get histories place ≡ Some history)
    (atx : slice_get index.centres.items place ≡ Some x) where
  -- the centre at the place
  pub centre-there : (s : CentreConf) × (slice_get c.centres place ≡ Some s)
  centre-there = slice_get-as_long index.centres.items c.centres place x (sym of.whole) atx

  pub indexed-there : IsIndexed (origin_of c centre-there.0) history x
  indexed-there = of.each place centre-there.0 history x centre-there.1 ath atx

module _ (version : Version) (c : Configuration) (histories : List (List Entry)) (agent : ℕ) (a : AgentConf) (next : Next)
    (row : TextRow) (s : CentreConf) (history : List Entry) (atc : slice_get c.centres next.centre ≡ Some s)
    (ath : slice_get histories next.centre ≡ Some history) where
  abbrev origin_there : Origin
  origin_there = origin_of c s

  -- what is told of the ask there
  pub told-there : (permitted y : Bool)
      → (permitted ≡ true → Permits c a.role next.centre (primitive_of next.ask))
      → (Permits c a.role next.centre (primitive_of next.ask) → permitted ≡ true)
      → (y ≡ true → IsToldResult version (permitted ≡ true) origin_there history (call_of agent row.number) next.ask row.result)
      × (IsToldResult version (permitted ≡ true) origin_there history (call_of agent row.number) next.ask row.result → y ≡ true)
      → (y ≡ true → IsToldThere version c histories agent a next row)
      × (IsToldThere version c histories agent a next row → y ≡ true)
  told-there permitted y may also is = (
    λ yes. record {
      centre = s;
      known = atc;
      history = history;
      there = ath;
      told = result-permits (permitted ≡ true) (Permits c a.role next.centre (primitive_of next.ask)) version origin_there history
          (call_of agent row.number) next.ask row.result may also (is.0 yes);
    },
    λ t.
        let centre_is : t.centre ≡ s = same_Some t.centre s (sym t.known ∙ atc) in
        let history_is : t.history ≡ history = same_Some t.history history (sym t.there ∙ ath) in
        is.1
        (result-permits (Permits c a.role next.centre (primitive_of next.ask)) (permitted ≡ true) version origin_there history
        (call_of agent row.number) next.ask row.result also may
        (subst
        (λ (h : List Entry). IsToldResult version (Permits c a.role next.centre (primitive_of next.ask)) origin_there h
        (call_of agent row.number) next.ask row.result) history_is
        (subst
        (λ (z : CentreConf). IsToldResult version (Permits c a.role next.centre (primitive_of next.ask)) (origin_of c z) t.history
        (call_of agent row.number) next.ask row.result) centre_is t.told))),
  )
