-- Each cascade is whole within its budget, or over it.
use Rattle.std.proofs.Common.{◌≡◌, ◌≢◌, ◌≤◌, ◌+◌, ℕ, zero, suc, List, [], ◌∷◌, ◌++◌, All, length, refl, ap, subst, arith}
use Rattle.std.proofs.lemmas.List.Elements.{All-append, All-head, All-tail}
use Rattle.tc_term.specs.Tree.{Tree}
use Rattle.tc_model.specs.Choices.{TheFirst}
use Rattle.tc_model.specs.Events.{Occurrence, Setting}
use Rattle.tc_model.specs.Reactions.{Rule}
use Rattle.tc_model.specs.Triggers.{Member, IsTriggered, AreTriggered, Triggers, members, raises}
use Rattle.tc_model.specs.Tuples.{after_item}
use Rattle.tc_model.specs.Bodies.{IsBody}
use Rattle.tc_model.specs.Items.{pick_of, clause_of}
use Rattle.tc_model.specs.Cascades.{Wave, IsTried, Cascades, IsWhole, IsOver}
use Rattle.tc_model.specs.declared.items.Item.{Item}
use Rattle.tc_model.specs.declared.items.Item.TheVariants.{Fired, Failed}
use Rattle.tc_spec.specs.Numbers.{AreThose}
use Rattle.tc_spec.proofs.Sifting.{IsKept, HasClause, kept_none, kept_more, kept_less, all_numbers}
use Rattle.tc_body.proofs.Outcomes.{body_ends}
use Rattle.tc_cascade.specs.Adding.{Stands}
use Rattle.tc_cascade.proofs.Triggering.{triggered_stand}

module _ (clauses : List Rule) where
  -- of so many clauses, the numbers of those that have a property
  kept_so_far : (P : Rule → Type 0) (i : ℕ)
      → ((found : List ℕ) → IsKept (λ k. k + 1) (HasClause clauses P) i found → ⊥) → ⊥
  kept_so_far P zero none = none [] (kept_none (λ k. k + 1) (HasClause clauses P) [] refl)
  kept_so_far P (suc i) none =
      let next : i + 1 ≡ suc i = omega arith in
      kept_so_far P i (λ found kept.
      let never : HasClause clauses P (i + 1) → ⊥ =
      λ has. none (found ++ (i + 1) ∷ [])
      (subst (λ n. IsKept (λ k. k + 1) (HasClause clauses P) n (found ++ (i + 1) ∷ [])) next
      (kept_more (λ k. k + 1) (HasClause clauses P) i found kept (λ k less. omega (arith, less)) has)) in
      none found
      (subst (λ n. IsKept (λ k. k + 1) (HasClause clauses P) n found) next
      (kept_less (λ k. k + 1) (HasClause clauses P) i found kept never)))

  -- an event triggers some clauses, or none
  numbers_of : (e : Occurrence) → ((numbers : List ℕ) → AreTriggered clauses e numbers → ⊥) → ⊥
  numbers_of e none =
      kept_so_far (λ r. IsTriggered r e) (length clauses) (λ found kept.
      let those : AreThose (λ r. IsTriggered r e) clauses found = all_numbers (λ r. IsTriggered r e) clauses found kept in
      none found (record { rising = those.rising; exact = those.exact; only = those.only }))

  -- events trigger some members, or none
  members_of : (es : List Occurrence) → ((ms : List Member) → Triggers clauses es ms → ⊥) → ⊥
  members_of [] none = none [] refl
  members_of (e ∷ es) none =
      numbers_of e (λ numbers are.
      members_of es (λ more triggers. none (members e numbers ++ more) (numbers, more, are, triggers, refl)))

  -- the clauses of the members stand in the list
  abbrev AllStand : List Member → Type 0
  AllStand ms = All (λ (m : Member). Stands clauses m.clause) ms

  module _ (setting : Setting) where
    -- the first member is tried
    tried : (tuples : List Tree) (m : Member) (ms : List Member) → Stands clauses m.clause → AllStand ms
        → ((item : Item) (next : Wave)
        → IsTried TheFirst clauses setting (record { tuples = tuples; triggered = m ∷ ms }) item next
        → AllStand next.triggered → ⊥)
        → ⊥
    tried tuples m ms stands others none =
        body_ends stands.0 m.event setting tuples
        (λ effects fired. go (Fired 1 m.clause effects) refl refl fired)
        (λ goal effects failed. go (Failed 1 m.clause goal effects) refl refl failed)
      where
        go : (item : Item) → pick_of item ≡ 1 → clause_of item ≡ m.clause
            → IsBody TheFirst stands.0 m.event setting tuples item → ⊥
        go item pick clause body =
            members_of (raises item) (λ more triggers.
            none item (record { tuples = after_item item tuples; triggered = ms ++ more })
            (record {
              place = 0;
              pick = pick;
              allowed = pick;
              member = m;
              picked = refl;
              clause = clause;
              rule = stands.0;
              stands = stands.1;
              body = body;
              more = more;
              triggers = triggers;
              tuples = refl;
              triggered = refl;
            })
            (All-append (λ (m : Member). Stands clauses m.clause) ms more others
            (triggered_stand clauses (raises item) more triggers)))

    -- from here, no member is left within the budget, or some is once it is spent
    ends : (budget : ℕ) (tuples : List Tree) (triggered : List Member) → AllStand triggered
        → ((items : List Item) (end : Wave)
        → Cascades TheFirst clauses setting items (record { tuples = tuples; triggered = triggered }) end
        → length items ≤ budget → end.triggered ≡ [] → ⊥)
        → ((items : List Item) (end : Wave)
        → Cascades TheFirst clauses setting items (record { tuples = tuples; triggered = triggered }) end
        → length items ≡ budget → end.triggered ≢ [] → ⊥)
        → ⊥
    ends budget tuples [] stand whole over =
        whole [] (record { tuples = tuples; triggered = [] }) refl (omega arith) refl
    ends zero tuples (m ∷ ms) stand whole over =
        over [] (record { tuples = tuples; triggered = m ∷ ms }) refl refl
        (λ none. absurd (let l = ap length none in omega (arith, l)))
    ends (suc budget) tuples (m ∷ ms) stand whole over =
        tried tuples m ms (All-head (λ (m : Member). Stands clauses m.clause) m ms stand)
        (All-tail (λ (m : Member). Stands clauses m.clause) m ms stand)
        (λ item next step stands.
        ends budget next.tuples next.triggered stands
        (λ items end leads within done. whole (item ∷ items) end (next, step, leads) (omega (arith, within)) done)
        (λ items end leads spent left. over (item ∷ items) end (next, step, leads) (omega (arith, spent)) left))

-- an event's cascade is whole, or over
pub cascade_ends : (clauses : List Rule) (setting : Setting) (budget : ℕ) (e : Occurrence) (tuples : List Tree)
    → ((items : List Item) → IsWhole TheFirst clauses setting budget e tuples items → ⊥)
    → ((items : List Item) → IsOver TheFirst clauses setting budget e tuples items → ⊥)
    → ⊥
cascade_ends clauses setting budget e tuples whole over =
    members_of clauses (e ∷ []) (λ first triggers.
    ends clauses setting budget tuples first (triggered_stand clauses (e ∷ []) first triggers)
    (λ items end leads within done. whole items (record {
      end = end;
      begins = record { first = first; triggers = triggers; cascades = leads };
      within = within;
      done = done;
    }))
    (λ items end leads spent left. over items (record {
      end = end;
      begins = record { first = first; triggers = triggers; cascades = leads };
      spent = spent;
      left = left;
    })))
