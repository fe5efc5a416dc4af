-- A row is sound just where it is beside the item whose ask is known.
use Rattle.std.proofs.Common.{◌≡◌, ℕ, ◌+◌, ◌≤◌, Bool, true, false, eqb, List, [], ◌∷◌, All, Some, None, inl, inr}
use Rattle.std.proofs.Common.{length, map, slice_get, take, zero, suc, refl, sym, subst, ap, ◌∙◌, ⊎_elim, arith}
use Rattle.std.proofs.lemmas.Bool.{cases_Bool, eqb-true, eqb-false, false≢true}
use Rattle.std.proofs.lemmas.Bool.Decides.{Decides-eqb}
use Rattle.std.proofs.lemmas.Option.{same_Some, slice_get_within}
use Rattle.tc_lists.proofs.Elements.{All-from_slice_get}
use Rattle.tc_lists.proofs.Places.{Contains-slice_get}
use Rattle.tc_lists.proofs.Sets.{slice_get-as_long}
use Rattle.tc_asks.specs.Nexts.{IsNextAsk}
use Rattle.tc_asks.specs.declared.next.Next.{Next}
use Rattle.tc_config.specs.Configurations.{Configuration}
use Rattle.tc_config.specs.Good.{Permits, origin_of}
use Rattle.tc_config.specs.declared.configs.AgentConf.{AgentConf}
use Rattle.tc_config.specs.declared.configs.CentreConf.{CentreConf}
use Rattle.tc_desk.specs.Asks.{IsAsk, ScriptStep, steps_of}
use Rattle.tc_desk.specs.Logs.{is_served, results_of}
use Rattle.tc_desk.specs.Served.{HasCalled, IsResult}
use Rattle.tc_desk.specs.declared.rows.LogResult.{LogResult}
use Rattle.tc_desk.specs.declared.rows.LogResult.TheVariants.{Replied, Pending, Refused, Polled}
use Rattle.tc_desk.specs.declared.rows.LogRow.{LogRow}
use Rattle.tc_desk.proofs.Filling.{one_ask, one_step}
use Rattle.tc_histline.specs.declared.lines.TextRow.{TextRow}
use Rattle.tc_histline.specs.declared.versions.Version.{Version}
use Rattle.tc_histtext.specs.ReadTexts.{as_logged}
use Rattle.tc_model.specs.Asks.{primitive_of}
use Rattle.tc_model.specs.Calls.{call_of, id_of, is_call_of}
use Rattle.tc_model.specs.Replies.{reply_in}
use Rattle.tc_model.specs.State.{Origin}
use Rattle.tc_model.specs.declared.asks.Ask.{Ask}
use Rattle.tc_model.specs.declared.calls.CallId.{CallId}
use Rattle.tc_model.specs.declared.calls.Op.{Op}
use Rattle.tc_model.specs.declared.entries.Entry.{Entry}
use Rattle.tc_model.specs.declared.entries.Entry.TheVariants.{Called, Gave, Looked}
use Rattle.tc_rows.specs.Made.{AreMade, HasNoEntry, IsEntryOf, lists_of, made_by}
use Rattle.tc_rows.specs.Rows.{IsNoLookOf, IsSoundRow, logged, told}
use Rattle.tc_rows.specs.Sound.{HasMade, IsAlone, IsSoundAt}
use Rattle.tc_rows.specs.declared.index.Index.{Index}
use Rattle.tc_rows.specs.declared.made.Made.{Made}
use Rattle.tc_rows.proofs.Calls.{All-filter_at}
use Rattle.tc_rows.proofs.Found.{called-own, one-entry}

-- images of a front are the front of the images
pub map-take : {X Y : Type 0} (f : X → Y) (n : ℕ) (xs : List X) → map f (take n xs) ≡ take n (map f xs)
map-take f zero xs = refl
map-take f (suc n) [] = refl
map-take f (suc n) (x ∷ xs) = ap (λ ys. f x ∷ ys) (map-take f n xs)

-- where the agent has no entry of the number, it has no look
none-looks : (agent number : ℕ) (history : List Entry) → HasNoEntry agent number history → All (IsNoLookOf agent number) history
none-looks agent number history never = All-from_slice_get (IsNoLookOf agent number) history (λ k e at. here k e at)
  where
    here : (k : ℕ) (e : Entry) → slice_get history k ≡ Some e → IsNoLookOf agent number e
    here k (Called id op result items) at = tt
    here k (Gave id result items) at = tt
    here k (Looked id asked reply) at = λ same.
        All-filter_at (is_call_of agent) (λ x. (id_of x).number ≡ number → ⊥) history k (Looked id asked reply) never at
        ((Decides-eqb id.agent agent).1 (ap (λ (i : CallId). i.agent) same)) (ap (λ (i : CallId). i.number) same)

-- nor has it where its entry is a call
called-looks : (agent number : ℕ) (op : Op) (history : List Entry) (made : List Made) → AreMade agent history made
    → HasCalled (call_of agent number) op history → All (IsNoLookOf agent number) history
called-looks agent number op history made are has = All-from_slice_get (IsNoLookOf agent number) history (λ k e at. here k e at)
  where
    here : (k : ℕ) (e : Entry) → slice_get history k ≡ Some e → IsNoLookOf agent number e
    here k (Called id o result items) at = tt
    here k (Gave id result items) at = tt
    here k (Looked id asked reply) at = λ same.
        let look : IsEntryOf agent number history (Looked id asked reply) = record {
          stands = Contains-slice_get history k (Looked id asked reply) at;
          by = (Decides-eqb id.agent agent).1 (ap (λ (i : CallId). i.agent) same);
          number_is = ap (λ (i : CallId). i.number) same;
        } in
        let call : Looked id asked reply ≡ Called (call_of agent number) op has.result has.items =
        one-entry agent number history made are (Looked id asked reply) (Called (call_of agent number) op has.result has.items) look
        (called-own (call_of agent number) op history has) in
        cc

-- what was served was called
served-called : (P : Type 0) (version : Version) (origin : Origin) (history : List Entry) (id : CallId) (asked : Ask) (whole : LogResult)
    → IsResult P origin history id asked whole → is_served (told version whole) ≡ true → (op : Op) × HasCalled id op history
served-called P version origin history id asked (Replied reply) is served = (is.1.0.op, is.1.0.called)
served-called P version origin history id asked Pending is served = (is.1.op, is.1.called)
served-called P version origin history id asked (Refused why) is served = absurd (false≢true served)
served-called P version origin history id asked (Polled reply) is served = absurd (false≢true served)

module _ (version : Version) (c : Configuration) (histories : List (List Entry)) (agent : ℕ) (a : AgentConf) (rows : List TextRow)
    (log : List LogRow) (row : TextRow) (log_is : log ≡ logged (take (length log) rows)) where
  abbrev k : ℕ
  k = length log

  results : results_of log ≡ take k (results_of (logged rows))
  results =
      ap results_of log_is
      ∙ (ap results_of (map-take as_logged k rows) ∙ map-take (λ (r : LogRow). r.result) k (logged rows))

  -- a row without an item isn't sound
  pub no-item : length (steps_of a.scripts) ≤ k → IsSoundRow version c histories agent a rows k row → ⊥
  no-item none sound =
      omega (arith, none, slice_get_within (steps_of a.scripts) k sound.is.step sound.is.asks.stands)

  module _ (next : Next) (nx : IsNextAsk a.scripts log next) (is_last : Bool) where
    asks : IsAsk a.scripts k (take k (results_of (logged rows))) nx.step next.ask
    asks = subst (λ rs. IsAsk a.scripts k rs nx.step next.ask) results nx.asks

    pub to-row : (index : Index) → HasMade histories index → (is_last ≡ true → k + 1 ≡ length rows)
        → IsSoundAt version c histories agent a next k is_last row → IsSoundRow version c histories agent a rows k row
    to-row index made last s =
        let t = s.told in
        let centre : ℕ = nx.step.item.centre in
        let place : next.centre ≡ centre = nx.centre in
        let num : row.number ≡ k + 1 = s.placed.number in
        let id_is : call_of agent row.number ≡ call_of agent (k + 1) = ap (call_of agent) num in
        let P : Type 0 = Permits c a.role centre (primitive_of next.ask) in
        let result : IsResult P (origin_of c t.centre) t.history (call_of agent (k + 1)) next.ask t.told.whole =
        subst (λ i. IsResult P (origin_of c t.centre) t.history i next.ask t.told.whole) id_is
        (subst (λ p. IsResult (Permits c a.role p (primitive_of next.ask)) (origin_of c t.centre) t.history (call_of agent row.number) next.ask t.told.whole)
        place t.told.is) in
        let there : slice_get histories centre ≡ Some t.history = subst (λ p. slice_get histories p ≡ Some t.history) place t.there in
        let alone : IsAlone histories agent (k + 1) (is_served row.result) centre =
        subst (λ n. IsAlone histories agent n (is_served row.result) centre) num
        (subst (λ p. IsAlone histories agent row.number (is_served row.result) p) place s.placed.alone) in
        let looks : (p : ℕ) (h : List Entry) → slice_get histories p ≡ Some h → All (IsNoLookOf agent (k + 1)) h =
        λ p h at.
        ⊎_elim
        (λ (yes : is_served row.result ≡ true).
        ⊎_elim
        (λ (same : eqb p centre ≡ true).
        let here : p ≡ centre = eqb-true p centre same in
        let history_is : t.history ≡ h = same_Some t.history h (sym there ∙ (ap (slice_get histories) (sym here) ∙ at)) in
        let x = slice_get-as_long histories index.centres.items p h made.whole at in
        let called = served-called P version (origin_of c t.centre) t.history (call_of agent (k + 1)) next.ask t.told.whole result
        (ap is_served t.told.tells ∙ yes) in
        called-looks agent (k + 1) called.0 h (made_by (lists_of x.0.makers.items) agent) (made.each p h x.0 at x.1 agent)
        (subst (HasCalled (call_of agent (k + 1)) called.0) history_is called.1))
        (λ (other : eqb p centre ≡ false). none-looks agent (k + 1) h (alone p h at (inr (eqb-false p centre other))))
        (cases_Bool (eqb p centre)))
        (λ (never : is_served row.result ≡ false). none-looks agent (k + 1) h (alone p h at (inl never)))
        (cases_Bool (is_served row.result)) in
        record {
          whole = record { number = row.number; centre = row.centre; ask = Some next.ask; result = t.told.whole };
          tells = ap (λ r. record { number = row.number; centre = row.centre; result = r }) t.told.tells;
          is = record {
            number = num;
            step = nx.step;
            asked = next.ask;
            asks = asks;
            ask = refl;
            centre = t.centre;
            known = subst (λ p. slice_get c.centres p ≡ Some t.centre) place t.known;
            named = s.placed.named.named
                ∙ ap (λ (x : CentreConf). x.name)
                (same_Some s.placed.named.centre t.centre (sym s.placed.named.known ∙ t.known));
            history = t.history;
            there = there;
            result = result;
          };
          alone = alone;
          looks = looks;
          last = λ pending. last (s.placed.last pending);
          waits = λ pending. subst (λ i. reply_in t.history i ≡ None) id_is (t.told.waits pending);
        }

    pub from-row : (k + 1 ≡ length rows → is_last ≡ true) → IsSoundRow version c histories agent a rows k row
        → IsSoundAt version c histories agent a next k is_last row
    from-row last r =
        let is = r.is in
        let rs : List LogResult = take k (results_of (logged rows)) in
        let step_is : is.step ≡ nx.step = one_step a.scripts k rs is.step nx.step is.asked next.ask is.asks asks in
        let ask_is : is.asked ≡ next.ask = one_ask a.scripts k rs is.step nx.step is.asked next.ask is.asks asks in
        let place : is.step.item.centre ≡ next.centre = ap (λ (s : ScriptStep). s.item.centre) step_is ∙ sym nx.centre in
        let num : row.number ≡ k + 1 = sym (ap (λ (x : TextRow). x.number) r.tells) ∙ is.number in
        let id_is : call_of agent (k + 1) ≡ call_of agent row.number = ap (call_of agent) (sym num) in
        let result =
        subst
        (λ i. IsResult (Permits c a.role next.centre (primitive_of next.ask)) (origin_of c is.centre) is.history i next.ask r.whole.result) id_is
        (subst
        (λ p. IsResult (Permits c a.role p (primitive_of next.ask)) (origin_of c is.centre) is.history (call_of agent (k + 1)) next.ask r.whole.result)
        place
        (subst
        (λ (q : Ask). IsResult (Permits c a.role is.step.item.centre (primitive_of q)) (origin_of c is.centre) is.history (call_of agent (k + 1)) q
        r.whole.result) ask_is is.result)) in
        let known : slice_get c.centres next.centre ≡ Some is.centre = subst (λ p. slice_get c.centres p ≡ Some is.centre) place is.known in
        record {
          placed = record {
            number = num;
            named = record { centre = is.centre; known = known; named = sym (ap (λ (x : TextRow). x.centre) r.tells) ∙ is.named };
            last = λ pending. last (r.last pending);
            alone = subst (λ n. IsAlone histories agent n (is_served row.result) next.centre) (sym num)
                (subst (λ p. IsAlone histories agent (k + 1) (is_served row.result) p) place r.alone);
          };
          told = record {
            centre = is.centre;
            known = known;
            history = is.history;
            there = subst (λ p. slice_get histories p ≡ Some is.history) place is.there;
            told = record {
              whole = r.whole.result;
              tells = ap (λ (x : TextRow). x.result) r.tells;
              is = result;
              waits = λ pending. subst (λ i. reply_in is.history i ≡ None) id_is (r.waits pending);
            };
          };
        }
