-- A cascade that goes on by one item.
use Rattle.std.proofs.Common.{◌≡◌, ℕ, zero, suc, ◌+◌, ◌-◌, ◌≤◌, ◌<◌, List, [], ◌∷◌, ◌++◌, length, take, All, refl, sym, ap, subst, ◌∙◌, arith}
use Rattle.std.proofs.lemmas.List.Elements.{All-append, All-head, All-tail}
use Rattle.std.specs.List.{slice_get}
use Rattle.tc_model.specs.Choices.{Choice, TheFirst}
use Rattle.tc_model.specs.Events.{Occurrence, Setting}
use Rattle.tc_model.specs.Reactions.{Rule}
use Rattle.tc_model.specs.Triggers.{Member, IsClause, Triggers, raises}
use Rattle.tc_model.specs.Tuples.{after_item, after_items}
use Rattle.tc_model.specs.Bodies.{IsBody}
use Rattle.tc_model.specs.Items.{pick_of, clause_of}
use Rattle.tc_model.specs.Cascades.{Wave, IsTried, Cascades, IsWhole, without}
use Rattle.tc_model.specs.declared.items.Item.{Item}
use Rattle.tc_model.specs.declared.items.Item.TheVariants.{Fired, Failed}
use Rattle.tc_bag.specs.Stock.{Stock, tuples_of}
use Rattle.tc_body.specs.Left.{IsLeft}
use Rattle.tc_cascade.specs.Adding.{Adds, Stands}
use Rattle.tc_cascade.specs.Reached.{IsAt}
use Rattle.tc_lists.proofs.Parts.{cons_head, cons_tail, take-append_room}
use Rattle.tc_cascade.proofs.Counting.{at_tuples}
use Rattle.tc_cascade.proofs.Triggering.{triggered_stand}

left_after : (item : Item) (old new : Stock) → IsLeft item old new → tuples_of new.now ≡ after_item item (tuples_of old.now)
left_after (Fired pick clause effects) old new left = left
left_after (Failed pick clause goal effects) old new left = ap (λ (s : Stock). tuples_of s.now) left

-- a kept list with a first element is the front of one that has it too
front_split : {X : Type 0} (room : ℕ) (x : X) (kept all : List X) → 0 < room → x ∷ kept ≡ take room all
    → (rest : List X) × (all ≡ x ∷ rest) × (kept ≡ take (room - 1) rest)
front_split zero x kept all some e = absurd (omega (arith, some))
front_split (suc n) x kept [] some e = absurd (let l = ap length e in omega (arith, l))
front_split (suc n) x kept (y ∷ ys) some e =
    (ys, ap (λ z. z ∷ ys) (sym (cons_head e)), cons_tail e ∙ ap (λ k. take k ys) (omega arith))

-- what is kept of a list is empty only if all is
front_none : {X : Type 0} (room : ℕ) (kept all : List X) → 0 < room → kept ≡ take room all → kept ≡ [] → all ≡ []
front_none zero kept all some front none = absurd (omega (arith, some))
front_none (suc n) kept [] some front none = refl
front_none (suc n) kept (x ∷ xs) some front none =
    absurd (let l = ap length (sym front ∙ none) in omega (arith, l))

module _ (clauses : List Rule) (setting : Setting) where
  cascades_push : (c : Choice) (is : List Item) (i : Item) (w v n : Wave) → Cascades c clauses setting is w v
      → IsTried c clauses setting v i n → Cascades c clauses setting (is ++ i ∷ []) w n
  cascades_push c [] i w v n leads tried =
      subst (λ (q : Wave). (m : Wave) × IsTried c clauses setting q i m × (n ≡ m)) leads (n, tried, refl)
  cascades_push c (h ∷ is) i w v n leads tried =
      (leads.0, leads.1, cascades_push c is i leads.0 v n leads.2 tried)

  -- what the event triggers, before anything is tried
  pub at_first : (e : Occurrence) (stock : Stock) (items : List Item) (before kept : List Member) (budget room : ℕ)
      → room ≡ budget + 1 → items ≡ [] → before ≡ [] → Adds clauses (e ∷ []) (budget + 1) before kept
      → IsAt clauses setting e stock stock items kept room
  at_first e stock items before kept budget room er no_items none adds = record {
    wave = record { tuples = tuples_of stock.now; triggered = adds.more };
    begins = record {
      first = adds.more;
      triggers = adds.triggers;
      cascades = subst (λ is. Cascades TheFirst clauses setting is
          (record { tuples = tuples_of stock.now; triggered = adds.more })
          (record { tuples = tuples_of stock.now; triggered = adds.more })) (sym no_items) refl;
    };
    tuples = refl;
    stand = triggered_stand clauses (e ∷ []) adds.more adds.triggers;
    front = adds.added ∙ ap (λ ms. ms ++ take (budget + 1 - length before) adds.more) none
        ∙ ap (λ k. take k adds.more) (let l = ap length none in omega (arith, l, er));
  }

  -- the clause of the first that is left stands in the list
  pub at_stands : (e : Occurrence) (old now : Stock) (items : List Item) (kept rest : List Member) (m : Member) (room : ℕ)
      → 0 < room → IsAt clauses setting e old now items kept room → kept ≡ m ∷ rest → Stands clauses m.clause
  at_stands e old now items kept rest m room some at is =
      let split = front_split room m rest at.wave.triggered some (sym is ∙ at.front) in
      All-head (λ (n : Member). Stands clauses n.clause) m split.0
      (subst (All (λ (n : Member). Stands clauses n.clause)) split.1 at.stand)

  -- the first that is left is tried, and what it triggers stands behind the others
  pub at_next : (e : Occurrence) (old now new : Stock) (items more_items : List Item) (m : Member)
      (kept rest passed more : List Member) (room more_room : ℕ) (r : Rule) (item : Item) (events : List Occurrence)
      → room ≡ more_room + 1 → IsAt clauses setting e old now items kept room → kept ≡ m ∷ rest → passed ≡ rest
      → IsClause clauses m.clause r → IsBody TheFirst r m.event setting (tuples_of now.now) item
      → (pick_of item ≡ 1) × (clause_of item ≡ m.clause) → IsLeft item now new
      → events ≡ raises item → Adds clauses events more_room passed more → more_items ≡ items ++ item ∷ []
      → IsAt clauses setting e old new more_items more more_room
  at_next e old now new items more_items m kept rest passed more room more_room r item events er at is gone stands body
      names left raised adds pushed =
      let split = front_split room m rest at.wave.triggered (omega (arith, er)) (sym is ∙ at.front) in
      let here = split.1 in
      let triggers : Triggers clauses (raises item) adds.more =
      subst (λ es. Triggers clauses es adds.more) raised adds.triggers in
      let after : Wave = record {
        tuples = after_item item at.wave.tuples;
        triggered = split.0 ++ adds.more;
      } in
      record {
        wave = after;
        begins = record {
          first = at.begins.first;
          triggers = at.begins.triggers;
          cascades = subst (λ is. Cascades TheFirst clauses setting is (record { tuples = tuples_of old.now; triggered = at.begins.first }) after) (sym pushed)
              (cascades_push TheFirst items item (record { tuples = tuples_of old.now; triggered = at.begins.first })
              at.wave after at.begins.cascades (record {
                place = 0;
                pick = names.0;
                allowed = names.0;
                member = m;
                picked = ap (λ ws. slice_get ws 0) here;
                clause = names.1;
                rule = r;
                stands = stands;
                body = subst (λ ts. IsBody TheFirst r m.event setting ts item) (sym at.tuples) body;
                more = adds.more;
                triggers = triggers;
                tuples = refl;
                triggered = ap (λ (ws : List Member). without 0 ws ++ adds.more) (sym here);
              }));
        };
        tuples = ap (after_item item) at.tuples ∙ sym (left_after item now new left);
        stand = All-append (λ (n : Member). Stands clauses n.clause) split.0 adds.more
            (All-tail (λ (n : Member). Stands clauses n.clause) m split.0
            (subst (All (λ (n : Member). Stands clauses n.clause)) here at.stand))
            (triggered_stand clauses (raises item) adds.more triggers);
        front =
            let front : passed ≡ take more_room split.0 =
            gone ∙ (split.2 ∙ ap (λ k. take k split.0) (omega (arith, er))) in
            adds.added ∙ (ap (λ ms. ms ++ take (more_room - length ms) adds.more) front
            ∙ take-append_room more_room split.0 adds.more);
      }

  -- nothing is left: the cascade is whole, and the tuples are those after its items
  pub at_whole : (e : Occurrence) (old new : Stock) (items result : List Item) (kept : List Member) (room budget : ℕ)
      → IsAt clauses setting e old new items kept room → kept ≡ [] → 0 < room → length items ≤ budget → result ≡ items
      → IsWhole TheFirst clauses setting budget e (tuples_of old.now) result
      × (tuples_of new.now ≡ after_items result (tuples_of old.now))
  at_whole e old new items result kept room budget at none some within same =
      subst (λ is. IsWhole TheFirst clauses setting budget e (tuples_of old.now) is
      × (tuples_of new.now ≡ after_items is (tuples_of old.now))) (sym same) (
        record {
          end = at.wave;
          begins = at.begins;
          within = within;
          done = front_none room kept at.wave.triggered some at.front none;
        },
        at_tuples clauses setting e old new items kept room at,
      )
