-- A step that changes one view keeps the rule: what has to be shown of the view, of the words and of the slot.
use Rattle.std.proofs.Common.{◌≡◌, ℕ, ◌+◌, ◌≤◌, ◌≢◌, ◌⊎◌, List, [], length, set, get_or, sym, ap, ◌∙◌, subst, ⊎_elim, arith, Option, Some, sum_by}
use mathlib.Core.Logic.{dite}
use mathlib.Core.Option.{some, none}
use native.Mathlib.Decide.{ℕ_discrete}
use lib.ListN.{get_elem?}
use Rattle.atomic_table.specs.Table.{State}
use Rattle.atomic_table.proofs.Lists.{at_set, set_else}
use Rattle.tc_turn.specs.declared.view.View.{View}
use Rattle.tc_turn.specs.Owners.{entries_of}
use Rattle.tc_turn.specs.Order.{one_if_below, one_if_in, one_if_record, ticket_count, number_count, turns_left, SomeOnTurn, IsStored, Fits, IsOrderly}
use Rattle.tc_lists.proofs.Gets.{at_same, sum_by-set_at}
use Rattle.tc_turn.proofs.Lists.{set_at, each_set}

abbrev pub Homes : Type 0 → Type 0
Homes C = List (mathlib.Core.Option.Option (Option C))

abbrev pub table : {S V : Type 0} → List ℕ → List (mathlib.Core.Option.Option S) → List V → State S V
table ws hs vs = record { words = ws; homes = hs; views = vs }

module _ {E O : Type 0} where
  -- where a view changes that is on turn as before, a view is on turn as before
  pub SomeOnTurn-set : (views : List (View E O)) (id : ℕ) (v w : View E O) → get_elem? views id ≡ some v → w.on_turn ≡ v.on_turn → SomeOnTurn views → SomeOnTurn (set views id w)
  SomeOnTurn-set views id v w at same out =
      dite (ℕ_discrete out.0 id)
      (λ e. let here : get_elem? views id ≡ some out.1 = subst (λ (j : ℕ). get_elem? views j ≡ some out.1) e out.2 in (id, w, set_at views id v w at, same ∙ ap (λ (u : View E O). u.on_turn) (at_same views id v out.1 at here) ∙ out.3))
      (λ ne. (out.0, out.1, set_else views id out.0 w ne ∙ out.2, out.3))

  pub SomeOnTurn-from_set : (views : List (View E O)) (id : ℕ) (v w : View E O) → get_elem? views id ≡ some v → w.on_turn ≡ v.on_turn → SomeOnTurn (set views id w) → SomeOnTurn views
  SomeOnTurn-from_set views id v w at same out =
      ⊎_elim
      (λ (t : (out.0 ≡ id) × (w ≡ out.1)). (id, v, at, sym same ∙ ap (λ (u : View E O). u.on_turn) t.1 ∙ out.3))
      (λ (t : (out.0 ≢ id) × (get_elem? views out.0 ≡ some out.1)). (out.0, out.1, t.1, out.3))
      (at_set views id out.0 w out.1 out.2)

  abbrev pub HasMaker : ℕ → List (View E O) → Type 0
  HasMaker next views = (m : View E O) × (get_elem? views 0 ≡ some m) × (m.next ≡ Some next)

  pub HasMaker-set : (views : List (View E O)) (id next : ℕ) (v w : View E O) → get_elem? views id ≡ some v → w.next ≡ v.next → HasMaker next views → HasMaker next (set views id w)
  HasMaker-set views id next v w at same maker =
      dite (ℕ_discrete 0 id)
      (λ e. let here : get_elem? views id ≡ some maker.0 = subst (λ (j : ℕ). get_elem? views j ≡ some maker.0) e maker.1 in
      let there : get_elem? (set views id w) 0 ≡ some w = subst (λ (j : ℕ). get_elem? (set views id w) j ≡ some w) (sym e) (set_at views id v w at) in
      (w, there, same ∙ ap (λ (u : View E O). u.next) (at_same views id v maker.0 at here) ∙ maker.2))
      (λ ne. (maker.0, set_else views id 0 w ne ∙ maker.1, maker.2))

module _ {C E O : Type 0} (history : C → List E) (origin : C → O) (owner : E → Option ℕ) (first : O) (passes share : ℕ) where
  -- what a step changes that leaves the number, the ended passes and the next number of its view
  pub record Change (s : State (Option C) (View E O)) (o : IsOrderly history origin owner first passes share s) (id : ℕ) (v w : View E O) (ws : List ℕ) (hs : Homes C) (known : List E) : Type 0 where
    pub me : get_elem? s.views id ≡ some v
    pub wide : length ws ≡ 3
    pub passed : get_or ws 1 0 ≤ get_or ws 0 0
    pub tickets : (x : ℕ) → one_if_in x w.ticket + one_if_below (get_or s.words 0 0) x + one_if_below (get_or ws 1 0) x ≡ one_if_in x v.ticket + one_if_below (get_or ws 0 0) x + one_if_below (get_or s.words 1 0) x
    pub place : SomeOnTurn (set s.views id w) ⊎ IsStored hs
    pub empty : SomeOnTurn (set s.views id w) → get_elem? hs 0 ≡ some none
    pub count : get_or ws 2 0 ≡ length known
    pub slot : (value : C) → get_elem? hs 0 ≡ some (some (Some value)) → (history value ≡ known) × (origin value ≡ first)
    pub others : (j : ℕ) (u : View E O) → j ≢ id → get_elem? s.views j ≡ some u → Fits owner known first (get_or ws 1 0) o.next j u
    pub here : Fits owner known first (get_or ws 1 0) o.next id w
    pub unowned : (n : ℕ) → o.next ≤ n → entries_of owner n known ≡ []
    pub next_same : w.next ≡ v.next
    pub number_same : w.number ≡ v.number
    pub ended_same : w.ended ≡ v.ended
    pub bounded : get_or ws 0 0 + w.turns ≤ get_or s.words 0 0 + v.turns

  pub change_keeps : (s : State (Option C) (View E O)) (o : IsOrderly history origin owner first passes share s) (id : ℕ) (v w : View E O) (ws : List ℕ) (hs : Homes C) (known : List E)
      → Change s o id v w ws hs known → IsOrderly history origin owner first passes share (table ws hs (set s.views id w))
  change_keeps s o id v w ws hs known c = record {
    known = known;
    next = o.next;
    wide = c.wide;
    passed = c.passed;
    tickets = λ x. omega (arith, c.tickets x, o.tickets x, sum_by-set_at (ticket_count x) s.views id v w c.me);
    place = c.place;
    empty = c.empty;
    count = c.count;
    slot = c.slot;
    each = each_set (Fits owner known first (get_or ws 1 0) o.next) s.views id w c.others c.here;
    unowned = c.unowned;
    maker = HasMaker-set s.views id o.next v w c.me c.next_same o.maker;
    once = λ n. omega (arith, o.once n, sum_by-set_at (number_count n) s.views id v w c.me, ap (one_if_in n) c.number_same, ap (sum_by (one_if_record n)) c.ended_same);
    few = o.few;
    bounded = omega (arith, c.bounded, o.bounded, sum_by-set_at turns_left s.views id v w c.me);
    fit = o.fit;
  }
