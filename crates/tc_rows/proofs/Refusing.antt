-- Which refusals a text may tell, by the history.
use Rattle.std.proofs.Common.{◌≡◌, ◌<◌, ℕ, true, false, List, length, take, drop, refl, sym, subst, ap, ◌∙◌, ◌++◌, arith}
use Rattle.std.proofs.lemmas.Bool.{false≢true}
use Rattle.std.proofs.lemmas.List.{take-append-drop}
use Rattle.std.proofs.lemmas.List.Elements.{All-append, All-weaker, filter-append}
use Rattle.std.specs.Prelude.{All}
use Rattle.tc_desk.specs.Agreeing.{AgreesRefused}
use Rattle.tc_desk.specs.Served.{WasFull}
use Rattle.tc_desk.specs.declared.rows.Refusal.{Refusal}
use Rattle.tc_desk.specs.declared.rows.Refusal.TheVariants as refusal
use Rattle.tc_histline.specs.declared.versions.Version.{Version}
use Rattle.tc_model.specs.Calls.{calls_of, id_of, is_call_of}
use Rattle.tc_model.specs.State.{Origin}
use Rattle.tc_model.specs.declared.calls.CallId.{CallId}
use Rattle.tc_model.specs.declared.entries.Entry.{Entry}
use Rattle.tc_rows.specs.Made.{HasNoEntry}
use Rattle.tc_rows.specs.Rows.{told_refusal}
use Rattle.tc_rows.specs.ServedRows.{IsToldRefusal}
use Rattle.tc_rows.specs.Told.{IsToldFull}
use Rattle.tc_rows.proofs.Telling.{says_full, told-full, told-other}

-- where a centre was full at the ask of a number, the agent has no entry of that
pub full-none : (origin : Origin) (history : List Entry) (id : CallId) (heavy waiting : ℕ)
    → WasFull origin history id heavy waiting → HasNoEntry id.agent id.number history
full-none origin history id heavy waiting full =
    let Other : Entry → Type 0 = λ e. (id_of e).number ≡ id.number → ⊥ in
    let front = calls_of id.agent (take full.n history) in
    let back = calls_of id.agent (drop full.n history) in
    let both : All Other (front ++ back) =
    All-append Other front back
    (All-weaker (λ e. (id_of e).number < id.number) Other (λ e less same. omega (arith, less, same)) front full.before)
    (All-weaker (λ e. id.number < (id_of e).number) Other (λ e more same. omega (arith, more, same)) back full.behind) in
    subst (λ es. All Other (calls_of id.agent es)) (take-append-drop full.n history)
    (subst (All Other) (sym (filter-append (is_call_of id.agent) (take full.n history) (drop full.n history))) both)

module _ (version : Version) (origin : Origin) (history : List Entry) (id : CallId) where
  -- of other refusals the history says nothing
  pub other-refused : (given why : Refusal) → given ≡ why → says_full why ≡ false → AgreesRefused origin history id why
      → (true ≡ true → IsToldRefusal version origin history id given)
      × (IsToldRefusal version origin history id given → true ≡ true)
  other-refused given why is other agrees = (
    λ yes. record {
      whole = why;
      tells = told-other version why other ∙ sym is;
      agrees = agrees;
    },
    λ told. refl,
  )

  -- want of memory is never told
  pub memory-refused : IsToldRefusal version origin history id refusal.NoMemory → ⊥
  memory-refused is =
      let other : says_full is.whole ≡ false = sym (told-full version is.whole) ∙ ap says_full is.tells in
      let same : is.whole ≡ refusal.NoMemory = sym (told-other version is.whole other) ∙ is.tells in
      subst (AgreesRefused origin history id) same is.agrees

  full-back : (whole why : Refusal) → says_full whole ≡ true → told_refusal version whole ≡ why
      → AgreesRefused origin history id whole → IsToldFull version origin history id why
  full-back (refusal.Full heavy waiting) why says tells agrees =
      record { heavy = heavy; waiting = waiting; tells = tells; full = agrees }
  full-back refusal.UnknownCentre why says tells agrees = absurd (false≢true says)
  full-back refusal.Waiting why says tells agrees = absurd (false≢true says)
  full-back refusal.Denied why says tells agrees = absurd (false≢true says)
  full-back refusal.TooBig why says tells agrees = absurd (false≢true says)
  full-back refusal.NotGround why says tells agrees = absurd (false≢true says)
  full-back (refusal.BadSpec bad) why says tells agrees = absurd (false≢true says)
  full-back refusal.TurnsSpent why says tells agrees = absurd (false≢true says)
  full-back refusal.NoMemory why says tells agrees = absurd (false≢true says)

  -- that a centre was full may be told just where it was
  pub full-refused : (why : Refusal) → says_full why ≡ true
      → (IsToldFull version origin history id why → IsToldRefusal version origin history id why)
      × (IsToldRefusal version origin history id why → IsToldFull version origin history id why)
  full-refused why says = (
    λ full. record {
      whole = refusal.Full full.heavy full.waiting;
      tells = full.tells;
      agrees = full.full;
    },
    λ is.
        full-back is.whole why (sym (told-full version is.whole) ∙ (ap says_full is.tells ∙ says)) is.tells is.agrees,
  )

  -- and then the agent has no entry of the number
  pub told-none : (why : Refusal) → IsToldFull version origin history id why → HasNoEntry id.agent id.number history
  told-none why full = full-none origin history id full.heavy full.waiting full.full
