-- What events trigger, one after another.
use Rattle.std.proofs.Common.{◌≡◌, ℕ, ◌-◌, List, [], ◌∷◌, ◌++◌, All, Contains, length, take, refl, sym, ap, subst, ◌∙◌, arith, length-append, append_assoc, append-nil}
use Rattle.std.proofs.Math.Seq.{take-nil}
use Rattle.std.proofs.lemmas.List.Elements.{All-nil, All-append, All-map, All-weaker, All-contains_itself}
use Rattle.tc_lists.proofs.Parts.{take-append_room}
use Rattle.tc_model.specs.Events.{Occurrence}
use Rattle.tc_model.specs.Reactions.{Rule}
use Rattle.tc_model.specs.Triggers.{Member, AreTriggered, Triggers, members}
use Rattle.tc_cascade.specs.Adding.{Adds, Stands}

module _ (clauses : List Rule) where
  -- the clauses of triggered members stand in the list
  members_stand : (e : Occurrence) (numbers : List ℕ) → AreTriggered clauses e numbers
      → All (λ (m : Member). Stands clauses m.clause) (members e numbers)
  members_stand e numbers are =
      All-map (λ (m : Member). Stands clauses m.clause) (λ (n : ℕ). record { clause = n; event = e }) numbers
      (All-weaker (Contains numbers) (Stands clauses) are.only numbers (All-contains_itself numbers))

  pub triggered_stand : (es : List Occurrence) (ms : List Member) → Triggers clauses es ms
      → All (λ (m : Member). Stands clauses m.clause) ms
  triggered_stand [] ms none =
      subst (All (λ (m : Member). Stands clauses m.clause)) (sym none) (All-nil (λ (m : Member). Stands clauses m.clause))
  triggered_stand (e ∷ es) ms t =
      subst (All (λ (m : Member). Stands clauses m.clause)) (sym t.4)
      (All-append (λ (m : Member). Stands clauses m.clause) (members e t.0) t.1 (members_stand e t.0 t.2) (triggered_stand es t.1 t.3))

  triggers_append : (es fs : List Occurrence) (ms ns : List Member) → Triggers clauses es ms → Triggers clauses fs ns
      → Triggers clauses (es ++ fs) (ms ++ ns)
  triggers_append [] fs ms ns none t = subst (λ (xs : List Member). Triggers clauses fs (xs ++ ns)) (sym none) t
  triggers_append (e ∷ es) fs ms ns t u =
      (t.0, t.1 ++ ns, t.2, triggers_append es fs t.1 ns t.3 u, ap (λ xs. xs ++ ns) t.4 ∙ append_assoc (members e t.0) t.1 ns)

  -- no event triggers nothing
  pub adds_none : (room : ℕ) (old now : List Member) → now ≡ old → Adds clauses [] room old now
  adds_none room old now same = record {
    more = [];
    triggers = refl;
    added = same ∙ sym (ap (λ ms. old ++ ms) (take-nil (room - length old)) ∙ append-nil old);
  }

  -- one event
  pub adds_one : (e : Occurrence) (room : ℕ) (numbers : List ℕ) (old now : List Member) → AreTriggered clauses e numbers
      → now ≡ old ++ take (room - length old) (members e numbers) → Adds clauses (e ∷ []) room old now
  adds_one e room numbers old now are added = record {
    more = members e numbers ++ [];
    triggers = (numbers, [], are, refl, refl);
    added = added ∙ ap (λ ms. old ++ take (room - length old) ms) (sym (append-nil (members e numbers)));
  }

  -- more events
  pub adds_more : (es fs : List Occurrence) (room : ℕ) (old now new : List Member)
      → Adds clauses es room old now → Adds clauses fs room now new → Adds clauses (es ++ fs) room old new
  adds_more es fs room old now new some more =
      let n = room - length old in
      let left : room - length now ≡ n - length (take n some.more) =
      let l = ap length some.added ∙ length-append old (take n some.more) in omega (arith, l) in
      record {
        more = some.more ++ more.more;
        triggers = triggers_append es fs some.more more.more some.triggers more.triggers;
        added = more.added ∙ (ap (λ ms. ms ++ take (room - length now) more.more) some.added
            ∙ (append_assoc old (take n some.more) (take (room - length now) more.more)
            ∙ ap (λ ms. old ++ ms) (ap (λ k. take n some.more ++ take k more.more) left ∙ take-append_room n some.more more.more)));
      }
