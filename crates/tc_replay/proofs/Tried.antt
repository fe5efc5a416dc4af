-- A triggered reaction that is tried as an item says.
use Rattle.std.proofs.Common.{◌≡◌, ◌≢◌, ℕ, ◌+◌, ◌≤◌, List, [], ◌∷◌, ◌++◌, length, slice_get, Some, refl, sym, ap, subst, ◌∙◌, arith, append_assoc, append-nil}
use Rattle.std.proofs.lemmas.Option.{same_Some, slice_get_within}
use Rattle.tc_model.specs.Choices.{AnyOne}
use Rattle.tc_model.specs.Events.{Occurrence, Setting}
use Rattle.tc_model.specs.Reactions.{Rule}
use Rattle.tc_model.specs.Triggers.{Member, members, AreTriggered, Triggers, IsClause, raises}
use Rattle.tc_model.specs.Tuples.{after_item}
use Rattle.tc_model.specs.Bodies.{IsBody}
use Rattle.tc_model.specs.Items.{pick_of, clause_of}
use Rattle.tc_model.specs.Cascades.{Wave, IsTried, without}
use Rattle.tc_model.specs.declared.items.Item.{Item}
use Rattle.tc_replay.specs.Replays.{Raises}

module _ (clauses : List Rule) where
  clause-same : (n : ℕ) (r s : Rule) → IsClause clauses n r → IsClause clauses n s → r ≡ s
  clause-same n r s a b =
      let place : a.place ≡ b.place = omega (arith, a.at, b.at) in
      same_Some r s (sym a.stands ∙ (ap (slice_get clauses) place ∙ b.stands))

  -- no event, one, and more behind others
  pub raises-none : (es : List Occurrence) (old new : List Member) → es ≡ [] → new ≡ old → Raises clauses es old new
  raises-none es old new none same = record {
    more = [];
    triggers = subst (λ fs. Triggers clauses fs []) (sym none) refl;
    added = same ∙ sym (append-nil old);
  }

  pub raises-one : (e : Occurrence) (numbers : List ℕ) (old new : List Member) → AreTriggered clauses e numbers
      → new ≡ old ++ members e numbers → Raises clauses (e ∷ []) old new
  raises-one e numbers old new are added = record {
    more = members e numbers ++ [];
    triggers = (numbers, [], are, refl, refl);
    added = added ∙ ap (λ ms. old ++ ms) (sym (append-nil (members e numbers)));
  }

  triggers-join : (es fs : List Occurrence) (ms ns : List Member) → Triggers clauses es ms → Triggers clauses fs ns
      → Triggers clauses (es ++ fs) (ms ++ ns)
  triggers-join [] fs ms ns a b = subst (λ (xs : List Member). Triggers clauses fs (xs ++ ns)) (sym a) b
  triggers-join (e ∷ es) fs ms ns a b =
      (a.0, a.1 ++ ns, a.2, triggers-join es fs a.1 ns a.3 b, ap (λ xs. xs ++ ns) a.4 ∙ append_assoc (members e a.0) a.1 ns)

  pub raises-more : (es fs : List Occurrence) (old mid new : List Member) → Raises clauses es old mid → Raises clauses fs mid new
      → Raises clauses (es ++ fs) old new
  raises-more es fs old mid new a b = record {
    more = a.more ++ b.more;
    triggers = triggers-join es fs a.more b.more a.triggers b.triggers;
    added = b.added ∙ (ap (λ ms. ms ++ b.more) a.added ∙ append_assoc old a.more b.more);
  }

  module _ (setting : Setting) (w : Wave) (item : Item) where
    abbrev Never : Type 0
    Never = (next : Wave) → IsTried AnyOne clauses setting w item next → ⊥

    -- nothing is picked, or from behind the last
    pub never-picked : pick_of item ≡ 0 → Never
    never-picked zero next t = omega (arith, t.pick, zero)

    module _ (place : ℕ) (pick : pick_of item ≡ place + 1) where
      pub never-there : length w.triggered ≤ place → Never
      never-there past next t =
          omega (arith, slice_get_within w.triggered t.place t.member t.picked, t.pick, pick, past)

      module _ (n : ℕ) (e : Occurrence) (picked : slice_get w.triggered place ≡ Some (record { clause = n; event = e })) where
        member : (next : Wave) (t : IsTried AnyOne clauses setting w item next) → t.member ≡ record { clause = n; event = e }
        member next t =
            let same : t.place ≡ place = omega (arith, t.pick, pick) in
            same_Some t.member (record { clause = n; event = e }) (sym t.picked ∙ (ap (slice_get w.triggered) same ∙ picked))

        pub never-clause : n ≢ clause_of item → Never
        never-clause other next t = other (sym (t.clause ∙ ap (λ (m : Member). m.clause) (member next t)))

        stands : (next : Wave) (t : IsTried AnyOne clauses setting w item next) → IsClause clauses n t.rule
        stands next t = subst (λ (m : Member). IsClause clauses m.clause t.rule) (member next t) t.stands

        pub never-stands : ((r : Rule) → IsClause clauses n r → ⊥) → Never
        never-stands none next t = none t.rule (stands next t)

        module _ (r : Rule) (is : IsClause clauses n r) where
          pub never-body : (IsBody AnyOne r e setting w.tuples item → ⊥) → Never
          never-body none next t =
              none (subst (λ s. IsBody AnyOne s e setting w.tuples item) (clause-same n t.rule r (stands next t) is)
              (subst (λ (m : Member). IsBody AnyOne t.rule m.event setting w.tuples item) (member next t) t.body))

          pub tried : n ≡ clause_of item → IsBody AnyOne r e setting w.tuples item → (next : Wave) → next.tuples ≡ after_item item w.tuples
              → Raises clauses (raises item) (without place w.triggered) next.triggered → IsTried AnyOne clauses setting w item next
          tried names body next tuples raised = record {
            place = place;
            pick = pick;
            allowed = omega (arith, pick);
            member = record { clause = n; event = e };
            picked = picked;
            clause = sym names;
            rule = r;
            stands = is;
            body = body;
            more = raised.more;
            triggers = raised.triggers;
            tuples = tuples;
            triggered = raised.added;
          }
