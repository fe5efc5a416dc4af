-- What items record fixes where a cascade leads.
use Rattle.std.proofs.Common.{◌≡◌, ℕ, zero, suc, ◌<◌, ◌≤◌, length, take, take_all, ◌⊎◌, inl, inr, List, [], ◌∷◌, ◌++◌, Contains, AllPairs, refl, sym, ap₂, subst, ◌∙◌, ⊎_elim, arith}
use Rattle.tc_lists.proofs.Pairs.{AllPairs-tail}
use Rattle.tc_term.specs.Tree.{Tree}
use Rattle.tc_model.specs.Choices.{Choice}
use Rattle.tc_model.specs.Events.{Occurrence, Setting}
use Rattle.tc_model.specs.Reactions.{Rule}
use Rattle.tc_model.specs.Triggers.{AreTriggered, Member, members, Triggers, raises}
use Rattle.tc_model.specs.Cascades.{Wave, without, IsTried, Cascades, Begins}
use Rattle.tc_model.specs.declared.items.Item.{Item}

first_or_later : (y n : ℕ) (ys : List ℕ) → Contains (y ∷ ys) n → (n ≡ y) ⊎ Contains ys n
first_or_later y n ys (zero, within, is) = inl (sym is)
first_or_later y n ys (suc i, within, is) = inr (i, omega (arith, within), is)

later : (x n : ℕ) (xs : List ℕ) → Contains xs n → Contains (x ∷ xs) n
later x n xs c = (suc c.0, omega (arith, c.1), c.2)

above : (x n : ℕ) (xs : List ℕ) → AllPairs ◌<◌ (x ∷ xs) → Contains xs n → x < n
above x n xs pairs c = subst (λ m. x < m) c.2 (pairs 0 (suc c.0) n (omega arith) (omega (arith, c.1)))

-- two rising lists of the same numbers are one
pub rising-same : (xs ys : List ℕ) → AllPairs ◌<◌ xs → AllPairs ◌<◌ ys → ((n : ℕ) → Contains xs n → Contains ys n) → ((n : ℕ) → Contains ys n → Contains xs n) → xs ≡ ys
rising-same [] [] p q to from = refl
rising-same [] (y ∷ ys) p q to from = absurd (omega (arith, (from y (0, omega arith, refl)).1))
rising-same (x ∷ xs) [] p q to from = absurd (omega (arith, (to x (0, omega arith, refl)).1))
rising-same (x ∷ xs) (y ∷ ys) p q to from = ap₂ (λ n ns. n ∷ ns) head (rising-same xs ys (AllPairs-tail ◌<◌ x xs p) (AllPairs-tail ◌<◌ y ys q) on back)
  where
    head : x ≡ y
    head = ⊎_elim (λ e. e)
        (λ (c : Contains ys x). ⊎_elim (λ (e : y ≡ x). sym e) (λ (d : Contains xs y). absurd (omega (arith, above y x ys q c, above x y xs p d))) (first_or_later x y xs (from y (0, omega arith, refl))))
        (first_or_later y x ys (to x (0, omega arith, refl)))

    on : (n : ℕ) → Contains xs n → Contains ys n
    on n c = ⊎_elim (λ (e : n ≡ y). absurd (omega (arith, above x n xs p c, e, head))) (λ d. d) (first_or_later y n ys (to n (later x n xs c)))

    back : (n : ℕ) → Contains ys n → Contains xs n
    back n c = ⊎_elim (λ (e : n ≡ x). absurd (omega (arith, above y n ys q c, e, head))) (λ d. d) (first_or_later x n xs (from n (later y n ys c)))

module _ (clauses : List Rule) where
  pub triggered-same : (e : Occurrence) (ns ms : List ℕ) → AreTriggered clauses e ns → AreTriggered clauses e ms → ns ≡ ms
  triggered-same e ns ms a b = rising-same ns ms a.rising b.rising (over ns ms a b) (over ms ns b a)
    where
      over : (xs ys : List ℕ) → AreTriggered clauses e xs → AreTriggered clauses e ys → (n : ℕ) → Contains xs n → Contains ys n
      over xs ys c d n there =
          let is = c.only n there in
          (d.exact n is.0 is.1).1 ((c.exact n is.0 is.1).0 there)

  pub triggers-same : (es : List Occurrence) (ms ns : List Member) → Triggers clauses es ms → Triggers clauses es ns → ms ≡ ns
  triggers-same [] ms ns a b = a ∙ sym b
  triggers-same (e ∷ es) ms ns a b =
      a.4 ∙ (ap₂ (λ k l. members e k ++ l) (triggered-same e a.0 b.0 a.2 b.2) (triggers-same es a.1 b.1 a.3 b.3) ∙ sym b.4)

  module _ (choice : Choice) (setting : Setting) where
    pub tried-same : (w : Wave) (item : Item) (x y : Wave) → IsTried choice clauses setting w item x → IsTried choice clauses setting w item y → x ≡ y
    tried-same w item x y a b =
        let place : a.place ≡ b.place = omega (arith, a.pick, b.pick) in
        let more = triggers-same (raises item) a.more b.more a.triggers b.triggers in
        ap₂ (λ ts ms. record { tuples = ts; triggered = ms }) (a.tuples ∙ sym b.tuples)
        (a.triggered ∙ (ap₂ (λ k l. without k w.triggered ++ l) place more ∙ sym b.triggered))

    pub cascades-same : (items : List Item) (w x y : Wave) → Cascades choice clauses setting items w x → Cascades choice clauses setting items w y → x ≡ y
    cascades-same [] w x y a b = a ∙ sym b
    cascades-same (i ∷ is) w x y a b =
        let same = tried-same w i a.0 b.0 a.1 b.1 in
        cascades-same is b.0 x y (subst (λ (q : Wave). Cascades choice clauses setting is q x) same a.2) b.2

    pub begins-same : (e : Occurrence) (tuples : List Tree) (items : List Item) (x y : Wave) → Begins choice clauses setting e tuples items x → Begins choice clauses setting e tuples items y → x ≡ y
    begins-same e tuples items x y a b =
        let same = triggers-same (e ∷ []) a.first b.first a.triggers b.triggers in
        cascades-same items (record { tuples = tuples; triggered = b.first }) x y
        (subst (λ ms. Cascades choice clauses setting items (record { tuples = tuples; triggered = ms }) x) same a.cascades) b.cascades

    -- items behind others
    cascades_join : (is js : List Item) (w mid end : Wave) → Cascades choice clauses setting is w mid → Cascades choice clauses setting js mid end
        → Cascades choice clauses setting (is ++ js) w end
    cascades_join [] js w mid end a b = subst (λ (q : Wave). Cascades choice clauses setting js q end) a b
    cascades_join (i ∷ is) js w mid end a b = (a.0, a.1, cascades_join is js a.0 mid end a.2 b)

    cascades_split : (is js : List Item) (w end : Wave) → Cascades choice clauses setting (is ++ js) w end
        → (mid : Wave) × Cascades choice clauses setting is w mid × Cascades choice clauses setting js mid end
    cascades_split [] js w end c = (w, refl, c)
    cascades_split (i ∷ is) js w end c =
        let s = cascades_split is js c.0 end c.2 in
        (s.0, (c.0, c.1, s.1), s.2)

    module _ (e : Occurrence) (tuples : List Tree) where
      -- no item yet
      pub begins-first : (is : List Item) (first : List Member) → is ≡ [] → Triggers clauses (e ∷ []) first
          → Begins choice clauses setting e tuples is (record { tuples = tuples; triggered = first })
      begins-first is first none triggers =
          subst (λ js. Begins choice clauses setting e tuples js (record { tuples = tuples; triggered = first })) (sym none)
          (record { first = first; triggers = triggers; cascades = refl })

      -- one more item
      pub begins-more : (is : List Item) (i : Item) (w next : Wave) → Begins choice clauses setting e tuples is w
          → IsTried choice clauses setting w i next → Begins choice clauses setting e tuples (is ++ i ∷ []) next
      begins-more is i w next b tried = record {
        first = b.first;
        triggers = b.triggers;
        cascades = cascades_join is (i ∷ []) (record { tuples = tuples; triggered = b.first }) w next b.cascades (next, tried, refl);
      }

      -- an item that can't be tried where the items before it lead
      pub begins-none : (is : List Item) (i : Item) (js : List Item) (w end : Wave) → Begins choice clauses setting e tuples is w
          → ((next : Wave) → IsTried choice clauses setting w i next → ⊥) → Begins choice clauses setting e tuples (is ++ i ∷ js) end → ⊥
      begins-none is i js w end b none all =
          let s = cascades_split is (i ∷ js) (record { tuples = tuples; triggered = all.first }) end all.cascades in
          let same = begins-same e tuples is s.0 w (record { first = all.first; triggers = all.triggers; cascades = s.1 }) b in
          none s.2.0 (subst (λ (q : Wave). IsTried choice clauses setting q i s.2.0) same s.2.1)

      -- all items
      pub begins-all : (is : List Item) (n : ℕ) (w : Wave) → length is ≤ n → Begins choice clauses setting e tuples (take n is) w
          → Begins choice clauses setting e tuples is w
      begins-all is n w all b = subst (λ js. Begins choice clauses setting e tuples js w) (take_all n is all) b
