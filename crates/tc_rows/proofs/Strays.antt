-- Entries that have no row.
use Rattle.std.proofs.Common.{◌≡◌, ℕ, zero, suc, ◌<◌, ◌≤◌, Bool, true, false, cond, List, [], ◌∷◌, Contains, ◌⊎◌, Option, Some, None, inl}
use Rattle.std.proofs.Common.{IfNone, IfSome, length, slice_get, refl, sym, subst, ap, ◌∙◌, ⊎_elim, arith}
use Rattle.std.specs.List.{filter}
use Rattle.std.specs.Option.{is_some}
use Rattle.std.proofs.lemmas.Bool.{cases_Bool, false≢true}
use Rattle.std.proofs.lemmas.List.{length-map}
use Rattle.std.proofs.lemmas.List.Elements.{All-contains, Contains-append_left, Contains-append_right}
use Rattle.std.proofs.lemmas.Option.{none-some, same_Some, slice_get_within}
use Rattle.tc_lists.proofs.Places.{Contains-slice_get}
use Rattle.tc_asks.specs.Nexts.{IsNextAsk}
use Rattle.tc_asks.specs.declared.next.Next.{Next}
use Rattle.tc_config.specs.declared.configs.AgentConf.{AgentConf}
use Rattle.tc_desk.specs.Asks.{steps_of}
use Rattle.tc_desk.specs.Logs.{any_pending}
use Rattle.tc_desk.specs.declared.rows.LogRow.{LogRow}
use Rattle.tc_histline.specs.declared.lines.TextRow.{TextRow}
use Rattle.tc_histtext.specs.ReadTexts.{as_logged}
use Rattle.tc_model.specs.Calls.{id_of, is_call_of}
use Rattle.tc_model.specs.declared.entries.Entry.{Entry}
use Rattle.tc_rows.specs.Made.{AreMade, IsMadeAt}
use Rattle.tc_rows.specs.Rows.{HasStrayEntry, IsWrongEnd, logged}
use Rattle.tc_rows.specs.Sound.{HasStray, HasStrayIn, HasStrayMade}
use Rattle.tc_rows.specs.declared.made.Made.{Made}
use Rattle.tc_rows.proofs.Calls.{All-filter_from}

-- what passes is kept
filter-has : {X : Type 0} (p : X → Bool) (xs : List X) (k : ℕ) (x : X) → slice_get xs k ≡ Some x → p x ≡ true → Contains (filter p xs) x
filter-has p [] k x at passes = absurd (none-some x at)
filter-has p (y ∷ ys) zero x at passes =
    let same : y ≡ x = same_Some y x at in
    let kept : p y ≡ true = ap p same ∙ passes in
    subst (λ zs. Contains zs x) (sym (ap (λ b. cond b (y ∷ filter p ys) (filter p ys)) kept))
    (subst (λ z. Contains (z ∷ filter p ys) x) (sym same)
    (Contains-append_left (x ∷ []) (filter p ys) x (Contains-slice_get (x ∷ []) 0 x refl)))
filter-has p (y ∷ ys) (suc k) x at passes =
    let rest : Contains (filter p ys) x = filter-has p ys k x at passes in
    ⊎_elim
    (λ (yes : p y ≡ true).
    subst (λ zs. Contains zs x) (sym (ap (λ b. cond b (y ∷ filter p ys) (filter p ys)) yes))
    (Contains-append_right (y ∷ []) (filter p ys) x rest))
    (λ (fails : p y ≡ false).
    subst (λ zs. Contains zs x) (sym (ap (λ b. cond b (y ∷ filter p ys) (filter p ys)) fails)) rest)
    (cases_Bool (p y))

-- and what is kept stood there
filter-from : {X : Type 0} (p : X → Bool) (xs : List X) (x : X) → Contains (filter p xs) x
    → (k : ℕ) × (slice_get xs k ≡ Some x) × (p x ≡ true)
filter-from p xs x has =
    All-contains (λ y. (k : ℕ) × (slice_get xs k ≡ Some y) × (p y ≡ true)) (filter p xs) x
    (All-filter_from p (λ y. (k : ℕ) × (slice_get xs k ≡ Some y) × (p y ≡ true)) xs (λ k y at passes. (k, at, passes))) has

-- stray entries of an agent
pub stray-in : (history : List Entry) (agent rows : ℕ) (made : List Made) → AreMade agent history made
    → (HasStrayMade made rows → HasStrayIn history agent rows) × (HasStrayIn history agent rows → HasStrayMade made rows)
stray-in history agent rows made are = (
  λ has.
      let at : IsMadeAt agent history has.one = All-contains (IsMadeAt agent history) made has.one are.each has.stands in
      record {
        entry = at.entry;
        made = filter-has (is_call_of agent) history has.one.place at.entry at.stands at.by;
        stray = subst (λ n. (n ≡ 0) ⊎ (rows < n)) (sym at.number) has.stray;
      },
  λ has.
      let at = filter-from (is_call_of agent) history has.entry has.made in
      record {
        one = record { number = (id_of has.entry).number; place = at.0 };
        stands = are.all at.0 has.entry at.1 at.2;
        stray = has.stray;
      },
)

-- what is wrong behind rows of which none is pending and each has an item: an item is left
pub wrong-end : (histories : List (List Entry)) (agent : ℕ) (a : AgentConf) (rows : List TextRow) (log : List LogRow) (next : Option Next)
    (y : Bool) → y ≡ is_some next → log ≡ logged rows → length log ≤ length (steps_of a.scripts) → any_pending log ≡ false
    → (HasStray histories agent (length log) → ⊥)
    → IfSome next (IsNextAsk a.scripts log) → IfNone next (length (steps_of a.scripts) ≤ length log)
    → (y ≡ true → IsWrongEnd histories agent a rows) × (IsWrongEnd histories agent a rows → y ≡ true)
wrong-end histories agent a rows log (Some next) y is same items settled clear some none =
    let many : length log ≡ length rows = ap length same ∙ length-map rows as_logged in (
      λ yes.
          inl (
            sym (ap any_pending same) ∙ settled,
            omega (arith, slice_get_within (steps_of a.scripts) (length log) some.step some.asks.stands, many),
          ),
      λ wrong. is,
    )
wrong-end histories agent a rows log None y is same items settled clear some none =
    let many : length log ≡ length rows = ap length same ∙ length-map rows as_logged in (
      λ yes. absurd (false≢true (sym is ∙ yes)),
      λ wrong.
          ⊎_elim
          (λ (left : (any_pending (logged rows) ≡ false) × (length rows < length (steps_of a.scripts))).
          absurd (omega (arith, left.1, none, many)))
          (λ (more : (length (steps_of a.scripts) < length rows) ⊎ HasStrayEntry histories agent rows).
          ⊎_elim (λ (many_rows : length (steps_of a.scripts) < length rows). absurd (omega (arith, many_rows, items, many)))
          (λ (stray : HasStrayEntry histories agent rows).
          absurd
          (clear (record {
            history = stray.history;
            stands = stray.stands;
            has = record {
              entry = stray.entry;
              made = stray.made;
              stray = subst (λ n. ((id_of stray.entry).number ≡ 0) ⊎ (n < (id_of stray.entry).number)) (sym many) stray.stray;
            };
          })))
          more)
          wrong,
    )
