-- Each step of a pass keeps the rule, from every state that meets it.
use Rattle.std.proofs.Common.{◌≡◌, ℕ, ◌+◌, ◌*◌, ◌%◌, ◌^◌, ◌<◌, ◌≤◌, ◌≢◌, List, [], ◌∷◌, ◌++◌, length, set, get_or, sym, refl, ap, ◌∙◌, subst, inl, inr, ⊎_elim, arith, true, false, Option, Some, None, sum_by, All, length-set, length-append, append-nil, mod-eq_of_lt, get_or-set_same}
use mathlib.Core.Logic.{dite}
use mathlib.Core.List.{IsPrefix}
use mathlib.Core.Option.{some, none, some-injective, some-ne-none}
use native.Mathlib.Decide.{ℕ_discrete}
use lib.ListN.{get_elem?}
use Rattle.std.proofs.lemmas.Bool.{false≢true, true≢false}
use Rattle.std.proofs.lemmas.List.{set-get_or, get_or-set_other}
use Rattle.std.proofs.lemmas.Option.{none-some, same_Some}
use Rattle.std.proofs.lemmas.List.Elements.{filter-append, All-nil, All-cons, All-head, All-tail}
use Rattle.std.proofs.lemmas.List.Sums.{sum_by-cons}
use Rattle.atomic_table.specs.Table.{State, Me, step, keeps, takes, gives, stepped, Allows}
use Rattle.atomic_table.proofs.Lists.{at_set, set_here, set_again}
use Rattle.tc_turn.specs.declared.view.View.{View}
use Rattle.tc_turn.specs.declared.view.PassRecord.{PassRecord}
use Rattle.tc_turn.specs.Owners.{entries_of, own_entries, OthersOwnNone}
use Rattle.tc_turn.specs.Views.{with_ticket, with_turn, with_entries, without_turn, with_floor}
use Rattle.tc_turn.specs.Order.{one_if_below, one_if_in, one_if_record, ticket_count, number_count, turns_left, SomeOnTurn, IsStored, FitsRecord, Fits, IsOrderly}
use Rattle.tc_turn.specs.Steps.{TakesTicket, TakesTurn, SeesTurn, Publishes, PassesTurn, ReadsCount}
use Rattle.tc_lists.proofs.Gets.{at_below, at_same, le-sum_by, both-le-sum_by}
use Rattle.tc_lists.proofs.Prefixes.{IsPrefix-whole, IsPrefix-longer, length-IsPrefix}
use Rattle.tc_turn.proofs.Lists.{set_at}
use Rattle.tc_turn.proofs.Sums.{one_if_same-same, one_if_below-more, one_if_below-le, below_from_count, one_if_in-here}
use Rattle.tc_turn.proofs.Frames.{Homes, table, SomeOnTurn-set, SomeOnTurn-from_set, Change, change_keeps}

module _ {E O : Type 0} (owner : E → Option ℕ) (known : List E) (first : O) where
  -- a view fits the word of turns that is the same number
  pub Fits-same_turn : (turn turn' next id : ℕ) (v : View E O) → turn' ≡ turn → Fits owner known first turn next id v → Fits owner known first turn' next id v
  Fits-same_turn turn turn' next id v e f = subst (λ (t : ℕ). Fits owner known first t next id v) (sym e) f

  -- a view that is not on turn fits any word of turns
  pub Fits-off_turn : (turn turn' next id : ℕ) (v : View E O) → (v.on_turn ≡ true → ⊥) → Fits owner known first turn next id v → Fits owner known first turn' next id v
  Fits-off_turn turn turn' next id v off f = record { origin = f.origin; seen = f.seen; floor = f.floor; mine = f.mine; on_turn = λ on. absurd (off on); holder = f.holder; maker = f.maker; ended = f.ended }

module _ {E : Type 0} (owner : E → Option ℕ) (known new : List E) (k : ℕ) where
  -- the entries of a number are the same where another number's were added
  pub entries_longer : (i : ℕ) → OthersOwnNone owner k new → i ≢ k → entries_of owner i (known ++ new) ≡ entries_of owner i known
  entries_longer i own ne = filter-append _ known new ∙ ap (λ (l : List E). entries_of owner i known ++ l) (own i ne) ∙ append-nil (entries_of owner i known)

  -- the record of a pass that has ended fits the longer list where another number's entries were added
  pub records_longer : OthersOwnNone owner k new → (ended : List (PassRecord E)) → sum_by (one_if_record k) ended ≡ 0 → All (FitsRecord owner known) ended → All (FitsRecord owner (known ++ new)) ended
  records_longer own [] none' all = All-nil _
  records_longer own (e ∷ es) none' all =
      let split : sum_by (one_if_record k) (e ∷ es) ≡ one_if_record k e + sum_by (one_if_record k) es = sum_by-cons (one_if_record k) e es in
      let f = All-head (FitsRecord owner known) e es all in
      let ne : e.number ≢ k = λ same. let one : one_if_record k e ≡ 1 = one_if_same-same e.number k same in omega (arith, split, none', one) in
      All-cons (FitsRecord owner (known ++ new)) e es
      (record { seen = IsPrefix-longer e.seen known new f.seen; mine = entries_longer e.number own ne ∙ f.mine })
      (records_longer own es (omega (arith, split, none')) (All-tail (FitsRecord owner known) e es all))

-- a slot that is held has one value
pub held_same : {C : Type 0} (a b : C) (xs ys : List (ℕ × Option C)) → (0, Some a) ∷ xs ≡ (0, Some b) ∷ ys → a ≡ b
held_same {C} a b xs ys e =
    let pairs : ◌≡◌ {A = ℕ × Option C} (0, Some a) (0, Some b) = cc in
    let values : Some a ≡ Some b = ap (λ (p : ℕ × Option C). p.1) pairs in
    cc

module _ {C E O : Type 0} (history : C → List E) (origin : C → O) (owner : E → Option ℕ) (first : O) (passes share : ℕ) where
  abbrev Rule : State (Option C) (View E O) → Type 0
  Rule = IsOrderly history origin owner first passes share

  abbrev Seat : Type 0
  Seat = Me (Option C) (View E O)

  -- no two seats have one ticket
  pub ticket_alone : (s : State (Option C) (View E O)) → Rule s → (i j t : ℕ) (v u : View E O) → get_elem? s.views i ≡ some v → get_elem? s.views j ≡ some u → v.ticket ≡ Some t → u.ticket ≡ Some t → j ≢ i → ⊥
  ticket_alone s o i j t v u at there mine theirs ne =
      omega (arith, both-le-sum_by (ticket_count t) s.views i j v u ne at there, o.tickets t, one_if_in-here t v.ticket mine, one_if_in-here t u.ticket theirs, one_if_below-le (get_or s.words 0 0) t)

  -- one seat at most is on turn
  pub turn_alone : (s : State (Option C) (View E O)) → Rule s → (i j : ℕ) (v u : View E O) → get_elem? s.views i ≡ some v → get_elem? s.views j ≡ some u → v.ticket ≡ Some (get_or s.words 1 0) → u.on_turn ≡ true → j ≢ i → ⊥
  turn_alone s o i j v u at there mine on ne = ticket_alone s o i j (get_or s.words 1 0) v u at there mine ((o.each j u there).on_turn on).0 ne

  -- a number that stands in one seat stands in no other
  pub count_elsewhere : (s : State (Option C) (View E O)) → Rule s → (i j n : ℕ) (v u : View E O) → get_elem? s.views i ≡ some v → get_elem? s.views j ≡ some u → 0 < number_count n v → j ≢ i → number_count n u ≡ 0
  count_elsewhere s o i j n v u at there mine ne =
      let both : number_count n v + number_count n u ≤ sum_by (number_count n) s.views = both-le-sum_by (number_count n) s.views i j v u ne at there in
      let most : one_if_below o.next n ≤ 1 = one_if_below-le o.next n in
      let all : sum_by (number_count n) s.views ≡ one_if_below o.next n = o.once n in
      omega arith

  -- a ticket is taken
  pub takes_ticket : (slots id : ℕ) (m : Seat) → ((k : ℕ) × (m.0.number ≡ Some k)) → m.0.ticket ≡ None → m.0.on_turn ≡ false → 0 < m.0.turns
      → Allows Rule slots id m 0 (λ n. (n + 1) % 2 ^ 64) (TakesTicket (step slots 0 1 0 none) m)
  takes_ticket slots id m number none' off some_left = λ s o wide at small.
      let v = m.0 in
      let t = get_or s.words 0 0 in
      let w = with_ticket v t in
      let ws = set s.words 0 (t + 1) in
      let words_wide : length s.words ≡ 3 = o.wide in
      let w0 : get_or ws 0 0 ≡ t + 1 = get_or-set_same s.words 0 (t + 1) 0 (omega arith) in
      let w1 : get_or ws 1 0 ≡ get_or s.words 1 0 = get_or-set_other s.words 0 1 (t + 1) 0 (λ e. absurd (omega arith)) in
      let w2 : get_or ws 2 0 ≡ get_or s.words 2 0 = get_or-set_other s.words 0 2 (t + 1) 0 (λ e. absurd (omega arith)) in
      let least : v.turns ≤ sum_by turns_left s.views = le-sum_by turns_left s.views id v at in
      let bound : t + sum_by turns_left s.views ≤ passes * share = o.bounded in
      let limit : passes * share < 18446744073709551616 = o.fit in
      let fits : t + 1 < 18446744073709551616 = omega (arith, least, bound, limit, some_left) in
      let f = o.each id v at in
      let here : Fits owner o.known first (get_or ws 1 0) o.next id w = record { origin = f.origin; seen = f.seen; floor = f.floor; mine = f.mine; on_turn = λ on. absurd (true≢false (sym on ∙ off)); holder = λ u e. number; maker = f.maker; ended = f.ended } in
      let change : Change history origin owner first passes share s o id v w ws s.homes o.known = record {
        me = at;
        wide = length-set s.words 0 (t + 1) ∙ o.wide;
        passed = omega (arith, w0, w1, o.passed);
        tickets = λ x. omega (arith, ap (λ n. one_if_below n x) w0, ap (λ n. one_if_below n x) w1, one_if_below-more t x, ap (one_if_in x) none');
        place = ⊎_elim (λ out. inl (SomeOnTurn-set s.views id v w at refl out)) (λ h. inr h) o.place;
        empty = λ out. o.empty (SomeOnTurn-from_set s.views id v w at refl out);
        count = w2 ∙ o.count;
        slot = o.slot;
        others = λ j u ne e. Fits-same_turn owner o.known first (get_or s.words 1 0) (get_or ws 1 0) o.next j u w1 (o.each j u e);
        here = here;
        unowned = o.unowned;
        next_same = refl;
        number_same = refl;
        ended_same = refl;
        bounded = omega (arith, w0, some_left);
      } in
      let kept = change_keeps history origin owner first passes share s o id v w ws s.homes o.known change in
      (w, keeps, tt, subst (λ (n : ℕ). Rule (stepped s 0 n id m.1 w keeps)) (sym (mod-eq_of_lt fits)) kept, refl)

  -- a word that is only read keeps the rule
  pub read_keeps : (s : State (Option C) (View E O)) → Rule s → (i id : ℕ) (m : Seat) → get_elem? s.views id ≡ some m.0 → Rule (stepped s i (get_or s.words i 0) id m.1 m.0 keeps)
  read_keeps s o i id m at =
      subst (λ (ws : List ℕ). Rule (table ws s.homes (set s.views id m.0))) (sym (set-get_or s.words i 0))
      (subst (λ (vs : List (View E O)). Rule (table s.words s.homes vs)) (sym (set_again s.views id m.0 at)) o)

  -- while it is the turn of a seat that is not yet on turn, the value is stored
  pub stored_at_turn : (s : State (Option C) (View E O)) → Rule s → (id : ℕ) (v : View E O) → get_elem? s.views id ≡ some v → v.ticket ≡ Some (get_or s.words 1 0) → v.on_turn ≡ false → IsStored s.homes
  stored_at_turn s o id v at mine off =
      ⊎_elim
      (λ out. dite (ℕ_discrete out.0 id)
      (λ e. let here : get_elem? s.views id ≡ some out.1 = subst (λ (j : ℕ). get_elem? s.views j ≡ some out.1) e out.2 in absurd (true≢false (sym out.3 ∙ sym (ap (λ (u : View E O). u.on_turn) (at_same s.views id v out.1 at here)) ∙ off)))
      (λ ne. absurd (turn_alone s o id out.0 v out.1 at out.2 mine out.3 ne)))
      (λ h. h)
      o.place

  -- the seat whose ticket it is goes on turn and takes the value out
  takes_turn : (id : ℕ) (m : Seat) (s : State (Option C) (View E O)) → Rule s → get_elem? s.views id ≡ some m.0 → m.0.ticket ≡ Some (get_or s.words 1 0) → m.0.on_turn ≡ false
      → (value : C) → get_elem? s.homes 0 ≡ some (some (Some value))
      → Rule (stepped s 1 (get_or s.words 1 0) id m.1 (with_turn m.0 (history value)) (takes 0 (Some value))) × TakesTurn history origin owner m (with_turn m.0 (history value), (0, Some value) ∷ m.1)
  takes_turn id m s o at mine off value there =
      let v = m.0 in
      let turn = get_or s.words 1 0 in
      let w = with_turn v (history value) in
      let ws = set s.words 1 turn in
      let hs : Homes C = set s.homes 0 none in
      let is = o.slot value there in
      let words_wide : length s.words ≡ 3 = o.wide in
      let w0 : get_or ws 0 0 ≡ get_or s.words 0 0 = get_or-set_other s.words 1 0 turn 0 (λ e. absurd (omega arith)) in
      let w1 : get_or ws 1 0 ≡ turn = get_or-set_same s.words 1 turn 0 (omega arith) in
      let w2 : get_or ws 2 0 ≡ get_or s.words 2 0 = get_or-set_other s.words 1 2 turn 0 (λ e. absurd (omega arith)) in
      let f = o.each id v at in
      let empty : get_elem? hs 0 ≡ some none = set_here s.homes 0 none (at_below s.homes 0 (some (Some value)) there) in
      let here : Fits owner o.known first turn o.next id w = record {
        origin = f.origin;
        seen = subst (λ (l : List E). IsPrefix l o.known) (sym is.0) (IsPrefix-whole o.known);
        floor = f.floor;
        mine = f.mine;
        on_turn = λ on. (mine, is.0);
        holder = f.holder;
        maker = f.maker;
        ended = f.ended;
      } in
      let change : Change history origin owner first passes share s o id v w ws hs o.known = record {
        me = at;
        wide = length-set s.words 1 turn ∙ o.wide;
        passed = omega (arith, w0, w1, o.passed);
        tickets = λ x. omega (arith, ap (λ n. one_if_below n x) w0, ap (λ n. one_if_below n x) w1);
        place = inl (id, w, set_at s.views id v w at, refl);
        empty = λ out. empty;
        count = w2 ∙ o.count;
        slot = λ value' e. absurd (some-ne-none (Some value') (sym (some-injective none (some (Some value')) (sym empty ∙ e))));
        others = λ j u ne e. Fits-same_turn owner o.known first turn (get_or ws 1 0) o.next j u w1 (o.each j u e);
        here = Fits-same_turn owner o.known first turn (get_or ws 1 0) o.next id w w1 here;
        unowned = o.unowned;
        next_same = refl;
        number_same = refl;
        ended_same = refl;
        bounded = omega (arith, w0);
      } in (
        change_keeps history origin owner first passes share s o id v w ws hs o.known change,
        (
          value,
          refl,
          subst (λ (l : List E). IsPrefix v.seen l) (sym is.0) f.seen,
          omega (arith, f.floor, ap length is.0),
          (λ x e. is.1 ∙ sym (f.origin x e)),
          (λ k e. ap (entries_of owner k) is.0 ∙ f.mine k e),
        ),
      )

  -- a seat sees whose turn it is
  pub sees_turn : (slots id : ℕ) (m : Seat) (ticket : ℕ) → m.0.ticket ≡ Some ticket → m.0.on_turn ≡ false → Allows Rule slots id m 1 (λ n. n) (SeesTurn history origin owner (step slots 1 0 0 none) m)
  sees_turn slots id m ticket has off = λ s o wide at small.
      let turn = get_or s.words 1 0 in
      dite (ℕ_discrete ticket turn)
      (λ e.
      let mine : m.0.ticket ≡ Some turn = has ∙ ap (λ (n : ℕ). Some n) e in
      let h = stored_at_turn s o id m.0 at mine off in
      let t = takes_turn id m s o at mine off h.0 h.1 in
      (with_turn m.0 (history h.0), takes 0 (Some h.0), h.1, t.0, ((λ _. t.1), (λ not_mine. absurd (not_mine mine)))))
      (λ ne. (m.0, keeps, tt, read_keeps s o 1 id m at, ((λ mine. absurd (ne (same_Some ticket turn (sym has ∙ mine)))), (λ _. refl))))

  -- the count of the known entries is read
  pub reads_count : (slots id : ℕ) (m : Seat) → Allows Rule slots id m 2 (λ n. n) (ReadsCount (step slots 2 0 0 none) m)
  reads_count slots id m = λ s o wide at small.
      let v = m.0 in
      let count = get_or s.words 2 0 in
      let w = with_floor v count in
      let ws = set s.words 2 count in
      let words_wide : length s.words ≡ 3 = o.wide in
      let w0 : get_or ws 0 0 ≡ get_or s.words 0 0 = get_or-set_other s.words 2 0 count 0 (λ e. absurd (omega arith)) in
      let w1 : get_or ws 1 0 ≡ get_or s.words 1 0 = get_or-set_other s.words 2 1 count 0 (λ e. absurd (omega arith)) in
      let w2 : get_or ws 2 0 ≡ count = get_or-set_same s.words 2 count 0 (omega arith) in
      let f = o.each id v at in
      let known_count : count ≡ length o.known = o.count in
      let here : Fits owner o.known first (get_or s.words 1 0) o.next id w = record { origin = f.origin; seen = f.seen; floor = omega (arith, known_count); mine = f.mine; on_turn = f.on_turn; holder = f.holder; maker = f.maker; ended = f.ended } in
      let change : Change history origin owner first passes share s o id v w ws s.homes o.known = record {
        me = at;
        wide = length-set s.words 2 count ∙ o.wide;
        passed = omega (arith, w0, w1, o.passed);
        tickets = λ x. omega (arith, ap (λ n. one_if_below n x) w0, ap (λ n. one_if_below n x) w1);
        place = ⊎_elim (λ out. inl (SomeOnTurn-set s.views id v w at refl out)) (λ h. inr h) o.place;
        empty = λ out. o.empty (SomeOnTurn-from_set s.views id v w at refl out);
        count = w2 ∙ o.count;
        slot = o.slot;
        others = λ j u ne e. Fits-same_turn owner o.known first (get_or s.words 1 0) (get_or ws 1 0) o.next j u w1 (o.each j u e);
        here = Fits-same_turn owner o.known first (get_or s.words 1 0) (get_or ws 1 0) o.next id w w1 here;
        unowned = o.unowned;
        next_same = refl;
        number_same = refl;
        ended_same = refl;
        bounded = omega (arith, w0);
      } in
      (w, keeps, tt, change_keeps history origin owner first passes share s o id v w ws s.homes o.known change, (refl, omega (arith, f.floor, known_count), omega (arith, length-IsPrefix v.seen o.known f.seen, known_count)))

  -- a ticket that some view has was taken
  pub ticket_taken : (s : State (Option C) (View E O)) → Rule s → (id t : ℕ) (v : View E O) → get_elem? s.views id ≡ some v → v.ticket ≡ Some t → t < get_or s.words 0 0
  ticket_taken s o id t v at mine =
      let least : ticket_count t v ≤ sum_by (ticket_count t) s.views = le-sum_by (ticket_count t) s.views id v at in
      below_from_count (get_or s.words 0 0) t (omega (arith, least, o.tickets t, one_if_in-here t v.ticket mine))

  passes_turn_with : (slots id : ℕ) (v : View E O) (value : C) (more : List (ℕ × Option C)) → v.on_turn ≡ true → history value ≡ v.seen → (x : O) → v.origin ≡ Some x → origin value ≡ x
      → Allows Rule slots id (v, (0, Some value) ∷ more) 1 (λ n. (n + 1) % 2 ^ 64) (PassesTurn (step slots 1 1 0 none) (v, (0, Some value) ∷ more))
  passes_turn_with slots id v value more on whole x from same = λ s o wide at small.
      let t = get_or s.words 1 0 in
      let w = without_turn v in
      let ws = set s.words 1 (t + 1) in
      let hs : Homes C = set s.homes 0 (some (Some value)) in
      let words_wide : length s.words ≡ 3 = o.wide in
      let w0 : get_or ws 0 0 ≡ get_or s.words 0 0 = get_or-set_other s.words 1 0 (t + 1) 0 (λ e. absurd (omega arith)) in
      let w1 : get_or ws 1 0 ≡ t + 1 = get_or-set_same s.words 1 (t + 1) 0 (omega arith) in
      let w2 : get_or ws 2 0 ≡ get_or s.words 2 0 = get_or-set_other s.words 1 2 (t + 1) 0 (λ e. absurd (omega arith)) in
      let f = o.each id v at in
      let turn = f.on_turn on in
      let taken : t < get_or s.words 0 0 = ticket_taken s o id t v at turn.0 in
      let bound : get_or s.words 0 0 + sum_by turns_left s.views ≤ passes * share = o.bounded in
      let limit : passes * share < 18446744073709551616 = o.fit in
      let fits : t + 1 < 18446744073709551616 = omega (arith, taken, bound, limit) in
      let out : SomeOnTurn s.views = (id, v, at, on) in
      let there : get_elem? hs 0 ≡ some (some (Some value)) = set_here s.homes 0 (some (Some value)) (at_below s.homes 0 none (o.empty out)) in
      let alone : (j : ℕ) (u : View E O) → j ≢ id → get_elem? s.views j ≡ some u → u.on_turn ≡ true → ⊥ = λ j u ne e on'. turn_alone s o id j v u at e turn.0 on' ne in
      let off : SomeOnTurn (set s.views id w) → ⊥ = λ out'.
      ⊎_elim
      (λ (p : (out'.0 ≡ id) × (w ≡ out'.1)). absurd (true≢false (sym out'.3 ∙ sym (ap (λ (u : View E O). u.on_turn) p.1))))
      (λ (p : (out'.0 ≢ id) × (get_elem? s.views out'.0 ≡ some out'.1)). alone out'.0 out'.1 p.0 p.1 out'.3)
      (at_set s.views id out'.0 w out'.1 out'.2) in
      let here : Fits owner o.known first (get_or ws 1 0) o.next id w = record { origin = f.origin; seen = f.seen; floor = f.floor; mine = f.mine; on_turn = λ on'. absurd (false≢true on'); holder = λ u e. absurd (none-some u e); maker = f.maker; ended = f.ended } in
      let change : Change history origin owner first passes share s o id v w ws hs o.known = record {
        me = at;
        wide = length-set s.words 1 (t + 1) ∙ o.wide;
        passed = omega (arith, w0, w1, taken);
        tickets = λ y. omega (arith, ap (λ n. one_if_below n y) w0, ap (λ n. one_if_below n y) w1, one_if_below-more t y, ap (one_if_in y) turn.0);
        place = inr (value, there);
        empty = λ out'. absurd (off out');
        count = w2 ∙ o.count;
        slot = λ value' e.
            let one : value ≡ value' = cc (some-injective (some (Some value)) (some (Some value')) (sym there ∙ e)) in
            (ap history (sym one) ∙ whole ∙ turn.1, ap origin (sym one) ∙ same ∙ f.origin x from);
        others = λ j u ne e. Fits-off_turn owner o.known first t (get_or ws 1 0) o.next j u (alone j u ne e) (o.each j u e);
        here = here;
        unowned = o.unowned;
        next_same = refl;
        number_same = refl;
        ended_same = refl;
        bounded = omega (arith, w0);
      } in
      let kept = change_keeps history origin owner first passes share s o id v w ws hs o.known change in
      (w, gives, tt, subst (λ (n : ℕ). Rule (stepped s 1 n id ((0, Some value) ∷ more) w gives)) (sym (mod-eq_of_lt fits)) kept, refl)

  -- the turn is passed on, and the value is stored
  pub passes_turn : (slots id : ℕ) (m : Seat) (value : C) (more : List (ℕ × Option C)) → m.1 ≡ (0, Some value) ∷ more → m.0.on_turn ≡ true → history value ≡ m.0.seen → (x : O) → m.0.origin ≡ Some x → origin value ≡ x
      → Allows Rule slots id m 1 (λ n. (n + 1) % 2 ^ 64) (PassesTurn (step slots 1 1 0 none) m)
  passes_turn slots id m value more holds on whole x from same =
      subst (λ (c : List (ℕ × Option C)). Allows Rule slots id (m.0, c) 1 (λ n. (n + 1) % 2 ^ 64) (PassesTurn (step slots 1 1 0 none) (m.0, c))) (sym holds) (passes_turn_with slots id m.0 value more on whole x from same)

  -- the history of the value that a seat holds is known, which goes on where its own knowledge ends
  publishes_with : (slots id : ℕ) (v : View E O) (value : C) (more : List (ℕ × Option C)) (k : ℕ) (new : List E) (count : ℕ) → v.number ≡ Some k → v.on_turn ≡ true
      → history value ≡ v.seen ++ new → OthersOwnNone owner k new → length new ≡ count → length (history value) < 18446744073709551616
      → Allows Rule slots id (v, (0, Some value) ∷ more) 2 (λ n. (n + count) % 2 ^ 64) (Publishes history owner (step slots 2 count 0 none) (v, (0, Some value) ∷ more))
  publishes_with slots id v value more k new count number on grown own counted short = λ s o wide at small.
      let n = get_or s.words 2 0 in
      let all : List E = history value in
      let w = with_entries v all (own_entries owner v.number all) in
      let ws = set s.words 2 (n + count) in
      let words_wide : length s.words ≡ 3 = o.wide in
      let w0 : get_or ws 0 0 ≡ get_or s.words 0 0 = get_or-set_other s.words 2 0 (n + count) 0 (λ e. absurd (omega arith)) in
      let w1 : get_or ws 1 0 ≡ get_or s.words 1 0 = get_or-set_other s.words 2 1 (n + count) 0 (λ e. absurd (omega arith)) in
      let w2 : get_or ws 2 0 ≡ n + count = get_or-set_same s.words 2 (n + count) 0 (omega arith) in
      let f = o.each id v at in
      let turn = f.on_turn on in
      let is : o.known ++ new ≡ all = ap (λ (l : List E). l ++ new) (sym turn.1) ∙ sym grown in
      let length_all : length all ≡ n + count = omega (arith, ap length is, length-append o.known new, o.count, counted) in
      let out : SomeOnTurn s.views = (id, v, at, on) in
      let given : 0 < number_count k v = omega (arith, one_if_in-here k v.number number) in
      let below : k < o.next = below_from_count o.next k (omega (arith, le-sum_by (number_count k) s.views id v at, o.once k, given)) in
      let others : (j : ℕ) (u : View E O) → j ≢ id → get_elem? s.views j ≡ some u → Fits owner all first (get_or ws 1 0) o.next j u = λ j u ne e.
      let g = o.each j u e in
      let apart : number_count k u ≡ 0 = count_elsewhere s o id j k v u at e given ne in
      subst (λ (l : List E). Fits owner l first (get_or ws 1 0) o.next j u) is record {
        origin = g.origin;
        seen = IsPrefix-longer u.seen o.known new g.seen;
        floor = omega (arith, g.floor, length-append o.known new);
        mine = λ i has. entries_longer owner o.known new k i own (λ same. let one : one_if_in k u.number ≡ 1 = one_if_in-here k u.number (has ∙ ap (λ (y : ℕ). Some y) same) in absurd (omega (arith, one, apart))) ∙ g.mine i has;
        on_turn = λ on'. absurd (turn_alone s o id j v u at e turn.0 on' ne);
        holder = g.holder;
        maker = g.maker;
        ended = records_longer owner o.known new k own u.ended (omega (arith, apart)) g.ended;
      } in
      let here : Fits owner all first (get_or ws 1 0) o.next id w = record {
        origin = f.origin;
        seen = IsPrefix-whole all;
        floor = omega (arith, f.floor, ap length is, length-append o.known new);
        mine = λ i has. ap (λ (x : Option ℕ). own_entries owner x all) (sym has);
        on_turn = λ _. (turn.0 ∙ ap (λ (y : ℕ). Some y) (sym w1), refl);
        holder = f.holder;
        maker = f.maker;
        ended = subst (λ (l : List E). All (FitsRecord owner l) v.ended) is (records_longer owner o.known new k own v.ended (omega (arith, one_if_in-here k v.number number, le-sum_by (number_count k) s.views id v at, o.once k, one_if_below-le o.next k)) f.ended);
      } in
      let change : Change history origin owner first passes share s o id v w ws s.homes all = record {
        me = at;
        wide = length-set s.words 2 (n + count) ∙ o.wide;
        passed = omega (arith, w0, w1, o.passed);
        tickets = λ x. omega (arith, ap (λ n. one_if_below n x) w0, ap (λ n. one_if_below n x) w1);
        place = inl (SomeOnTurn-set s.views id v w at refl out);
        empty = λ _. o.empty out;
        count = w2 ∙ sym length_all;
        slot = λ value' e. absurd (some-ne-none (Some value') (sym (some-injective none (some (Some value')) (sym (o.empty out) ∙ e))));
        others = others;
        here = here;
        unowned = λ i le. ap (entries_of owner i) (sym is) ∙ entries_longer owner o.known new k i own (λ same. absurd (omega (arith, below))) ∙ o.unowned i le;
        next_same = refl;
        number_same = refl;
        ended_same = refl;
        bounded = omega (arith, w0);
      } in
      let kept = change_keeps history origin owner first passes share s o id v w ws s.homes all change in
      let fits : n + count < 18446744073709551616 = omega (arith, length_all, short) in (
        w,
        keeps,
        tt,
        subst (λ (i : ℕ). Rule (stepped s 2 i id ((0, Some value) ∷ more) w keeps)) (sym (mod-eq_of_lt fits)) kept,
        λ value' e. let one : value ≡ value' = held_same value value' more more e in ap (λ (x : C). (with_entries v (history x) (own_entries owner v.number (history x)), (0, Some value) ∷ more)) one,
      )

  pub publishes : (slots id : ℕ) (m : Seat) (value : C) (more : List (ℕ × Option C)) (k : ℕ) (new : List E) (count : ℕ) → m.1 ≡ (0, Some value) ∷ more → m.0.number ≡ Some k → m.0.on_turn ≡ true
      → history value ≡ m.0.seen ++ new → OthersOwnNone owner k new → length new ≡ count → length (history value) < 18446744073709551616
      → Allows Rule slots id m 2 (λ n. (n + count) % 2 ^ 64) (Publishes history owner (step slots 2 count 0 none) m)
  publishes slots id m value more k new count holds number on grown own counted short =
      subst (λ (c : List (ℕ × Option C)). Allows Rule slots id (m.0, c) 2 (λ n. (n + count) % 2 ^ 64) (Publishes history owner (step slots 2 count 0 none) (m.0, c))) (sym holds) (publishes_with slots id m.0 value more k new count number on grown own counted short)
