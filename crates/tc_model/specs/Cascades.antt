-- What comes of all the reactions that an event triggers, one after another.
use Rattle.std.specs.Prelude.{◌≡◌, ◌≢◌, ◌≤◌, ◌+◌, ℕ, Some, List, []}
use Rattle.std.specs.Prelude.{◌∷◌, ◌++◌, length, slice_get, take, drop}
use Rattle.tc_term.specs.Tree.{Tree}
use Rattle.tc_model.specs.Choices.{Choice, IsPick}
use Rattle.tc_model.specs.Events.{Occurrence, Setting}
use Rattle.tc_model.specs.Reactions.{Rule}
use Rattle.tc_model.specs.Tuples.{after_item}
use Rattle.tc_model.specs.Bodies.{IsBody}
use Rattle.tc_model.specs.Triggers.{IsClause, Member, Triggers, raises}
use Rattle.tc_model.specs.Items.{pick_of, clause_of}
use Rattle.tc_model.specs.declared.items.Item.{Item}

-- how far a cascade has come: the tuples, and the triggered members that are still to be tried
pub record Wave : Type 0 where
  pub tuples : List Tree
  pub triggered : List Member

-- the list without what stands at a place
abbrev pub without : {X : Type 0} → ℕ → List X → List X
without place xs = take place xs ++ drop (place + 1) xs

module _ (choice : Choice) (clauses : List Rule) (setting : Setting) where
  -- a triggered member is picked and tried, as the item says; what it triggers stands behind the
  -- others
  pub record IsTried (w : Wave) (item : Item) (next : Wave) : Type 0 where
    pub place : ℕ
    pub pick : pick_of item ≡ place + 1
    pub allowed : IsPick choice (pick_of item)
    pub member : Member
    pub picked : slice_get w.triggered place ≡ Some member
    pub clause : clause_of item ≡ member.clause
    pub rule : Rule
    pub stands : IsClause clauses member.clause rule
    pub body : IsBody choice rule member.event setting w.tuples item
    pub more : List Member
    pub triggers : Triggers clauses (raises item) more
    pub tuples : next.tuples ≡ after_item item w.tuples
    pub triggered : next.triggered ≡ without place w.triggered ++ more

  -- the items, one after another, lead from here to there
  abbrev pub Cascades : List Item → Wave → Wave → Type 0
  Cascades [] w end = end ≡ w
  Cascades (i ∷ is) w end = (next : Wave) × IsTried w i next × Cascades is next end

  -- an event's cascade over these tuples has come so far, by these items
  pub record Begins (e : Occurrence) (tuples : List Tree) (items : List Item) (end : Wave)
      : Type 0 where
    pub first : List Member
    pub triggers : Triggers clauses (e ∷ []) first
    pub cascades : Cascades items (record { tuples = tuples; triggered = first }) end

  -- it ends within the budget: no member is left
  pub record IsWhole (budget : ℕ) (e : Occurrence) (tuples : List Tree) (items : List Item)
      : Type 0 where
    pub end : Wave
    pub begins : Begins e tuples items end
    pub within : length items ≤ budget
    pub done : end.triggered ≡ []

  -- it goes over the budget: that is spent, and some member is left
  pub record IsOver (budget : ℕ) (e : Occurrence) (tuples : List Tree) (items : List Item)
      : Type 0 where
    pub end : Wave
    pub begins : Begins e tuples items end
    pub spent : length items ≡ budget
    pub left : end.triggered ≢ []
