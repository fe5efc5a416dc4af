-- The rule holds at the start, is kept where a seat is made, cut in two or taken in, and says at the end what the value is.
use Rattle.std.proofs.Common.{◌≡◌, ℕ, zero, suc, ◌+◌, ◌*◌, ◌<◌, ◌≤◌, ◌≢◌, List, [], ◌∷◌, ◌++◌, set, get_or, sym, refl, ap, ◌∙◌, subst, inl, inr, ⊎_elim, arith, true, false, Option, Some, None, unwrap_or, sum_by, All}
use mathlib.Core.Logic.{dite}
use mathlib.Core.Option.{some, none, some-injective, some-ne-none}
use native.Mathlib.Decide.{ℕ_discrete}
use lib.ListN.{get_elem?}
use Rattle.std.proofs.lemmas.Bool.{false≢true, true≢false}
use Rattle.std.proofs.lemmas.Option.{none-some, same_Some}
use Rattle.std.proofs.lemmas.List.Elements.{All-nil, All-cons}
use Rattle.std.proofs.lemmas.List.Sums.{sum_by-cons, sum_by_push}
use Rattle.atomic_table.specs.Table.{State, Me, Splits, Joins, Enters, opening, Final, Seen}
use Rattle.atomic_table.proofs.Lists.{set_else, at_snoc, at_longer}
use Rattle.tc_turn.specs.declared.view.View.{View}
use Rattle.tc_turn.specs.declared.view.PassRecord.{PassRecord}
use Rattle.tc_turn.specs.Owners.{entries_of}
use Rattle.tc_turn.specs.Views.{number_after, blank_view, maker_view, rest_view, pass_view, record_of, with_ended}
use Rattle.tc_turn.specs.Order.{one_if_same, one_if_below, one_if_in, one_if_record, ticket_count, number_count, turns_left, SomeOnTurn, IsStored, FitsRecord, Fits, IsOrderly}
use Rattle.tc_lists.proofs.Gets.{at_same, sum_by-set_at, le-sum_by, both-le-sum_by}
use Rattle.tc_turn.proofs.Lists.{set_at, each_set}
use Rattle.tc_turn.proofs.Sums.{one_if_below-more, one_if_below-le, one_if_below-outside, below_from_count, one_if_in-here}
use Rattle.tc_turn.proofs.Frames.{table, SomeOnTurn-set, SomeOnTurn-from_set, HasMaker-set}

module _ {E O : Type 0} where
  pub SomeOnTurn-push : (views : List (View E O)) (w : View E O) → SomeOnTurn views → SomeOnTurn (views ++ w ∷ [])
  SomeOnTurn-push views w out = (out.0, out.1, at_longer views (w ∷ []) out.0 out.1 out.2, out.3)

  pub SomeOnTurn-from_push : (views : List (View E O)) (w : View E O) → w.on_turn ≡ false → SomeOnTurn (views ++ w ∷ []) → SomeOnTurn views
  SomeOnTurn-from_push views w off out =
      ⊎_elim
      (λ (e : get_elem? views out.0 ≡ some out.1). (out.0, out.1, e, out.3))
      (λ (e : w ≡ out.1). absurd (true≢false (sym out.3 ∙ sym (ap (λ (u : View E O). u.on_turn) e) ∙ off)))
      (at_snoc views w out.1 out.0 out.2)

module _ {E O : Type 0} (owner : E → Option ℕ) (known : List E) (first : O) (turn next : ℕ) where
  -- the view that is nobody's fits
  pub Fits-blank : (id : ℕ) → Fits owner known first turn next id blank_view
  Fits-blank id = record { origin = λ x e. absurd (none-some x e); seen = (known, refl); floor = omega arith; mine = λ n e. absurd (none-some n e); on_turn = λ on. absurd (false≢true on); holder = λ t e. absurd (none-some t e); maker = λ n e. absurd (none-some n e); ended = All-nil _ }

  -- the maker and a new pass fit, once the next number is one more
  pub Fits-rest : (id : ℕ) (v : View E O) → v.next ≡ Some next → id ≡ 0 → Fits owner known first turn next id v → Fits owner known first turn (next + 1) id (rest_view v)
  Fits-rest id v e here f = record { origin = f.origin; seen = f.seen; floor = f.floor; mine = f.mine; on_turn = f.on_turn; holder = f.holder; maker = λ n h. (here, same_Some n (next + 1) (sym h ∙ ap number_after e)); ended = f.ended }

  pub Fits-pass : (id me : ℕ) (v : View E O) → v.next ≡ Some next → ((n : ℕ) → next ≤ n → entries_of owner n known ≡ []) → Fits owner known first turn next me v → Fits owner known first turn (next + 1) id (pass_view v)
  Fits-pass id me v e unowned f = record {
    origin = f.origin;
    seen = (known, refl);
    floor = omega arith;
    mine = λ n h. let same : next ≡ n = same_Some next n (sym e ∙ h) in unowned n (omega arith);
    on_turn = λ on. absurd (false≢true on);
    holder = λ t h. absurd (none-some t h);
    maker = λ n h. absurd (none-some n h);
    ended = All-nil _;
  }

  -- a view with no next number fits whatever the next number is
  pub Fits-not_maker : (next' id : ℕ) (v : View E O) → ((n : ℕ) → v.next ≡ Some n → ⊥) → Fits owner known first turn next id v → Fits owner known first turn next' id v
  Fits-not_maker next' id v never f = record { origin = f.origin; seen = f.seen; floor = f.floor; mine = f.mine; on_turn = f.on_turn; holder = f.holder; maker = λ n h. absurd (never n h); ended = f.ended }

  -- a view that takes in a pass that has ended fits
  pub Fits-with_ended : (id other : ℕ) (v w : View E O) → ((n : ℕ) × (w.number ≡ Some n)) → Fits owner known first turn next id v → Fits owner known first turn next other w → Fits owner known first turn next id (with_ended v w)
  Fits-with_ended id other v w number f g =
      let mine : entries_of owner (unwrap_or w.number 0) known ≡ w.mine = ap (λ (o : Option ℕ). entries_of owner (unwrap_or o 0) known) number.1 ∙ g.mine number.0 number.1 in
      record { origin = f.origin; seen = f.seen; floor = f.floor; mine = f.mine; on_turn = f.on_turn; holder = f.holder; maker = f.maker; ended = All-cons (FitsRecord owner known) (record_of w) v.ended (record { seen = g.seen; mine = mine }) f.ended }

module _ {C E O : Type 0} (history : C → List E) (origin : C → O) (owner : E → Option ℕ) (first : O) (passes share : ℕ) where
  abbrev Rule : State (Option C) (View E O) → Type 0
  Rule = IsOrderly history origin owner first passes share

  abbrev Seat : Type 0
  Seat = Me (Option C) (View E O)

  -- a new seat, which is nobody's
  pub gathers : (slots : ℕ) → Enters Rule slots 0 (λ n w. w ≡ blank_view)
  gathers slots = λ s o wide small.
      let w : View E O = blank_view in
      let each : (id : ℕ) (v : View E O) → get_elem? (s.views ++ w ∷ []) id ≡ some v → Fits owner o.known first (get_or s.words 1 0) o.next id v = λ id v e.
      ⊎_elim
      (λ (h : get_elem? s.views id ≡ some v). o.each id v h)
      (λ (h : w ≡ v). subst (Fits owner o.known first (get_or s.words 1 0) o.next id) h (Fits-blank owner o.known first (get_or s.words 1 0) o.next id))
      (at_snoc s.views w v id e) in
      let kept : Rule (table s.words s.homes (s.views ++ w ∷ [])) = record {
        known = o.known;
        next = o.next;
        wide = o.wide;
        passed = o.passed;
        tickets = λ x. omega (arith, o.tickets x, sum_by_push (ticket_count x) s.views w);
        place = ⊎_elim (λ out. inl (SomeOnTurn-push s.views w out)) (λ h. inr h) o.place;
        empty = λ out. o.empty (SomeOnTurn-from_push s.views w refl out);
        count = o.count;
        slot = o.slot;
        each = each;
        unowned = o.unowned;
        maker = (o.maker.0, at_longer s.views (w ∷ []) 0 o.maker.0 o.maker.1, o.maker.2);
        once = λ n. omega (arith, o.once n, sum_by_push (number_count n) s.views w);
        few = o.few;
        bounded = omega (arith, o.bounded, sum_by_push turns_left s.views w);
        fit = o.fit;
      } in
      (w, kept, refl)

  -- a new pass is made
  pub splits : (id : ℕ) (v : View E O) (n : ℕ) → v.next ≡ Some n → n < passes → v.share ≤ v.turns → Splits Rule id v (rest_view v) (pass_view v)
  splits id v n has more enough = λ s o at.
      let w = rest_view v in
      let p = pass_view v in
      let turn = get_or s.words 1 0 in
      let is = (o.each id v at).maker n has in
      let has' : v.next ≡ Some o.next = has ∙ ap (λ (y : ℕ). Some y) is.1 in
      let vs = set s.views id w in
      let others : (j : ℕ) (u : View E O) → j ≢ id → get_elem? s.views j ≡ some u → Fits owner o.known first turn (o.next + 1) j u = λ j u ne e.
      let g = o.each j u e in Fits-not_maker owner o.known first turn o.next (o.next + 1) j u (λ i h. ne ((g.maker i h).0 ∙ sym is.0)) g in
      let here : Fits owner o.known first turn (o.next + 1) id w = Fits-rest owner o.known first turn o.next id v has' is.0 (o.each id v at) in
      let made : (j : ℕ) → Fits owner o.known first turn (o.next + 1) j p = λ j. Fits-pass owner o.known first turn o.next j id v has' o.unowned (o.each id v at) in
      let each : (j : ℕ) (u : View E O) → get_elem? (vs ++ p ∷ []) j ≡ some u → Fits owner o.known first turn (o.next + 1) j u = λ j u e.
      ⊎_elim
      (λ (h : get_elem? vs j ≡ some u). each_set (Fits owner o.known first turn (o.next + 1)) s.views id w others here j u h)
      (λ (h : p ≡ u). subst (Fits owner o.known first turn (o.next + 1) j) h (made j))
      (at_snoc vs p u j e) in
      let first_place : get_elem? vs 0 ≡ some w = subst (λ (j : ℕ). get_elem? vs j ≡ some w) is.0 (set_at s.views id v w at) in
      let kept : Rule (table s.words s.homes (vs ++ p ∷ [])) = record {
        known = o.known;
        next = o.next + 1;
        wide = o.wide;
        passed = o.passed;
        tickets = λ x. omega (arith, o.tickets x, sum_by-set_at (ticket_count x) s.views id v w at, sum_by_push (ticket_count x) vs p);
        place = ⊎_elim (λ out. inl (SomeOnTurn-push vs p (SomeOnTurn-set s.views id v w at refl out))) (λ h. inr h) o.place;
        empty = λ out. o.empty (SomeOnTurn-from_set s.views id v w at refl (SomeOnTurn-from_push vs p refl out));
        count = o.count;
        slot = o.slot;
        each = each;
        unowned = λ i le. o.unowned i (omega (arith, le));
        maker = (w, at_longer vs (p ∷ []) 0 w first_place, ap number_after has');
        once = λ i. omega (arith, o.once i, sum_by-set_at (number_count i) s.views id v w at, sum_by_push (number_count i) vs p, one_if_below-more o.next i, ap (one_if_in i) has');
        few = omega (arith, more, is.1);
        bounded = omega (arith, enough, o.bounded, sum_by-set_at turns_left s.views id v w at, sum_by_push turns_left vs p);
        fit = o.fit;
      } in
      kept

  -- a pass that has ended is taken in
  pub joins : (id other : ℕ) (v w : View E O) → ((n : ℕ) × (w.number ≡ Some n)) → w.ticket ≡ None → w.on_turn ≡ false → w.next ≡ None → w.ended ≡ [] → Joins Rule id v other w (with_ended v w) blank_view
  joins id other v w number none' off no_next none_ended = λ s o at apart there.
      let both = with_ended v w in
      let turn = get_or s.words 1 0 in
      let vs = set s.views id both in
      let us = set vs other blank_view in
      let other_at : get_elem? s.views other ≡ some w = sym (set_else s.views id other both apart) ∙ there in
      let f = o.each id v at in
      let g = o.each other w other_at in
      let here : Fits owner o.known first turn o.next id both = Fits-with_ended owner o.known first turn o.next id other v w number f g in
      let once : (n : ℕ) → sum_by (number_count n) us ≡ one_if_below o.next n = λ n.
      let joined : sum_by (one_if_record n) both.ended ≡ one_if_same (unwrap_or w.number 0) n + sum_by (one_if_record n) v.ended = sum_by-cons (one_if_record n) (record_of w) v.ended in
      let number_is : one_if_same (unwrap_or w.number 0) n ≡ one_if_in n w.number = ap (λ (x : Option ℕ). one_if_same (unwrap_or x 0) n) number.1 ∙ sym (ap (one_if_in n) number.1) in
      let no_record : sum_by (one_if_record n) w.ended ≡ 0 = ap (sum_by (one_if_record n)) none_ended in
      omega (arith, o.once n, joined, number_is, no_record, sum_by-set_at (number_count n) s.views id v both at, sum_by-set_at (number_count n) vs other w blank_view there) in
      let kept : Rule (table s.words s.homes us) = record {
        known = o.known;
        next = o.next;
        wide = o.wide;
        passed = o.passed;
        tickets = λ x. omega (arith, o.tickets x, ap (one_if_in x) none', sum_by-set_at (ticket_count x) s.views id v both at, sum_by-set_at (ticket_count x) vs other w blank_view there);
        place = ⊎_elim (λ out. inl (SomeOnTurn-set vs other w blank_view there (sym off) (SomeOnTurn-set s.views id v both at refl out))) (λ h. inr h) o.place;
        empty = λ out. o.empty (SomeOnTurn-from_set s.views id v both at refl (SomeOnTurn-from_set vs other w blank_view there (sym off) out));
        count = o.count;
        slot = o.slot;
        each = each_set (Fits owner o.known first turn o.next) vs other blank_view (λ j u _ e. each_set (Fits owner o.known first turn o.next) s.views id both (λ i x _ h. o.each i x h) here j u e) (Fits-blank owner o.known first turn o.next other);
        unowned = o.unowned;
        maker = HasMaker-set vs other o.next w blank_view there (sym no_next) (HasMaker-set s.views id o.next v both at refl o.maker);
        once = once;
        few = o.few;
        bounded = omega (arith, o.bounded, sum_by-set_at turns_left s.views id v both at, sum_by-set_at turns_left vs other w blank_view there);
        fit = o.fit;
      } in
      kept

  -- the table at the start
  pub opens : (value : C) → history value ≡ [] → origin value ≡ first → passes * share < 18446744073709551616 → Rule (opening (0 ∷ 0 ∷ 0 ∷ []) (Some value ∷ []) (maker_view first passes share))
  opens value none' same limit = record {
    known = [];
    next = 0;
    wide = refl;
    passed = omega arith;
    tickets = λ x. omega arith;
    place = inr (value, refl);
    empty = λ out. off out.0 out.1 out.2 out.3;
    count = refl;
    slot = λ value' e. let one : value ≡ value' = same_value value value' e in (ap history (sym one) ∙ none', ap origin (sym one) ∙ same);
    each = each;
    unowned = λ n _. refl;
    maker = (maker_view first passes share, refl, refl);
    once = λ n. omega (arith, one_if_below-outside 0 n (omega arith));
    few = omega arith;
    bounded = omega arith;
    fit = limit;
  }
    where
      m : View E O
      m = maker_view first passes share

      same_value : (a b : C) → ◌≡◌ {A = mathlib.Core.Option.Option (mathlib.Core.Option.Option (Option C))} (some (some (Some a))) (some (some (Some b))) → a ≡ b
      same_value a b e = let inner : Some a ≡ Some b = some-injective (Some a) (Some b) (some-injective (some (Some a)) (some (Some b)) e) in cc

      off : (id : ℕ) (v : View E O) → get_elem? (m ∷ []) id ≡ some v → v.on_turn ≡ true → get_elem? (some (Some value) ∷ []) 0 ≡ some none
      off zero v e on = absurd (true≢false (sym on ∙ sym (ap (λ (u : View E O). u.on_turn) (some-injective m v e))))
      off (suc id) v e on = absurd (some-ne-none v (sym e))

      fits : Fits owner [] first 0 0 0 m
      fits = record { origin = λ x e. cc; seen = ([], refl); floor = omega arith; mine = λ n e. absurd (none-some n e); on_turn = λ on. absurd (false≢true on); holder = λ t e. absurd (none-some t e); maker = λ n e. (refl, same_Some n 0 (sym e)); ended = All-nil _ }

      each : (id : ℕ) (v : View E O) → get_elem? (m ∷ []) id ≡ some v → Fits owner [] first 0 0 id v
      each zero v e = subst (Fits owner [] first 0 0 0) (some-injective m v e) fits
      each (suc id) v e = absurd (some-ne-none v (sym e))

  -- what the value is, once each number has ended in one seat
  pub record Closes (ended : List (PassRecord E)) (value : C) : Type 0 where
    pub from : origin value ≡ first
    pub all : All (FitsRecord owner (history value)) ended
    pub unowned : (n : ℕ) → passes ≤ n → entries_of owner n (history value) ≡ []

  -- while each number has ended, no view is on turn
  pub none_on_turn : (s : State (Option C) (View E O)) → Rule s → (id : ℕ) (v : View E O) → get_elem? s.views id ≡ some v → ((n : ℕ) → n < passes → 0 < sum_by (one_if_record n) v.ended) → SomeOnTurn s.views → ⊥
  none_on_turn s o id v at whole out =
      let u = out.1 in
      let turn = ((o.each out.0 u out.2).on_turn out.3).0 in
      let number = (o.each out.0 u out.2).holder (get_or s.words 1 0) turn in
      let n = number.0 in
      let own : one_if_in n u.number ≡ 1 = one_if_in-here n u.number number.1 in
      let all : sum_by (number_count n) s.views ≡ one_if_below o.next n = o.once n in
      let most : one_if_below o.next n ≤ 1 = one_if_below-le o.next n in
      let least : number_count n u ≤ sum_by (number_count n) s.views = le-sum_by (number_count n) s.views out.0 u out.2 in
      let given : n < o.next = below_from_count o.next n (omega arith) in
      let few : o.next ≤ passes = o.few in
      let ended : 0 < sum_by (one_if_record n) v.ended = whole n (omega arith) in
      dite (ℕ_discrete out.0 id)
      (λ e. let here : get_elem? s.views id ≡ some u = subst (λ (j : ℕ). get_elem? s.views j ≡ some u) e out.2 in
      let same : v ≡ u = at_same s.views id v u at here in
      let ended' : sum_by (one_if_record n) v.ended ≡ sum_by (one_if_record n) u.ended = ap (λ (x : View E O). sum_by (one_if_record n) x.ended) same in
      omega arith)
      (λ ne. let both : number_count n v + number_count n u ≤ sum_by (number_count n) s.views = both-le-sum_by (number_count n) s.views id out.0 v u ne at out.2 in omega arith)

  -- at the end the slot has the value
  pub closes : (id : ℕ) (v : View E O) (ws : List ℕ) (xs : List (Option C)) → Final (Seen Rule id v) ws xs → ((n : ℕ) → n < passes → 0 < sum_by (one_if_record n) v.ended) → (value : C) × (get_elem? xs 0 ≡ some (Some value)) × Closes v.ended value
  closes id v ws xs f whole =
      let s = f.0 in
      let o = f.1.0 in
      let at = f.1.1 in
      ⊎_elim
      (λ (out : SomeOnTurn s.views). absurd (none_on_turn s o id v at whole out))
      (λ (h : IsStored s.homes).
      let is = o.slot h.0 h.1 in
      let few : o.next ≤ passes = o.few in
      let result : (value : C) × (get_elem? xs 0 ≡ some (Some value)) × Closes v.ended value = (
        h.0,
        f.4 0 (Some h.0) h.1,
        record {
          from = is.1;
          all = subst (λ (l : List E). All (FitsRecord owner l) v.ended) (sym is.0) (o.each id v at).ended;
          unowned = λ n le. ap (entries_of owner n) is.0 ∙ o.unowned n (omega arith);
        },
      ) in
      result)
      o.place

  -- what is taken out of the slot at the end is a value, of which this holds
  pub taken_value : (id : ℕ) (v : View E O) (ws : List ℕ) (xs : List (Option C)) → Final (Seen Rule id v) ws xs → ((n : ℕ) → n < passes → 0 < sum_by (one_if_record n) v.ended)
      → (held : Option C) → get_elem? xs 0 ≡ some held → (value : C) × (held ≡ Some value) × Closes v.ended value
  taken_value id v ws xs f whole held e = let c = closes id v ws xs f whole in (c.0, at_same xs 0 held (Some c.0) e c.1, c.2)

  pub taken_some : (id : ℕ) (v : View E O) (ws : List ℕ) (xs : List (Option C)) → Final (Seen Rule id v) ws xs → ((n : ℕ) → n < passes → 0 < sum_by (one_if_record n) v.ended)
      → (held : Option C) → get_elem? xs 0 ≡ some held → (value : C) → held ≡ Some value → Closes v.ended value
  taken_some id v ws xs f whole held e value is =
      let t = taken_value id v ws xs f whole held e in
      let both : Some t.0 ≡ Some value = sym t.1 ∙ is in
      let same : t.0 ≡ value = cc in
      subst (Closes v.ended) same t.2

  pub taken_none : (id : ℕ) (v : View E O) (ws : List ℕ) (xs : List (Option C)) → Final (Seen Rule id v) ws xs → ((n : ℕ) → n < passes → 0 < sum_by (one_if_record n) v.ended)
      → (held : Option C) → get_elem? xs 0 ≡ some held → held ≡ None → ⊥
  taken_none id v ws xs f whole held e is = let t = taken_value id v ws xs f whole held e in none-some t.0 (sym is ∙ t.1)
