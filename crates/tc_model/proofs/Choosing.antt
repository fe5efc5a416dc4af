-- What is allowed where each choice is the first is allowed where any choice is.
use Rattle.std.proofs.Common.{ℕ, List, [], ◌∷◌, take, arith}
use Rattle.tc_lists.proofs.Firsts.{IsFirst-contains}
use Rattle.tc_term.specs.Tree.{Tree}
use Rattle.tc_model.specs.Choices.{AnyOne, TheFirst, IsChosen}
use Rattle.tc_model.specs.Events.{Occurrence, Setting}
use Rattle.tc_model.specs.Reactions.{Rule}
use Rattle.tc_model.specs.Goals.{Scene, Moment, Move, moved, Does, IsStep, Leads}
use Rattle.tc_model.specs.Bodies.{scene_of, beginning, IsBody}
use Rattle.tc_model.specs.Cascades.{Wave, IsTried, Cascades, Begins, IsWhole, IsOver}
use Rattle.tc_model.specs.State.{State, Origin, IsAnswerable}
use Rattle.tc_model.specs.Tables.{IsServed, IsGivenTuple, IsToldAbsence, IsGivenFor, IsChosenTuple}
use Rattle.tc_model.specs.Run.{IsLegal}
use Rattle.tc_model.specs.declared.calls.CallId.{CallId}
use Rattle.tc_model.specs.declared.calls.Op.{Op}
use Rattle.tc_model.specs.declared.calls.Op.TheVariants.{Out, In, Rd, Inp, Rdp, No, Nop, SetSpec, GetSpec}
use Rattle.tc_model.specs.declared.calls.Request.{Request}
use Rattle.tc_model.specs.declared.calls.Wants.{Wants}
use Rattle.tc_model.specs.declared.calls.Wants.TheVariants.{Take, Look, Absence}
use Rattle.tc_model.specs.declared.events.Phase.TheVariants.{Pre, Post}
use Rattle.tc_model.specs.declared.goals.Goal.{Goal}
use Rattle.tc_model.specs.declared.goals.Goal.TheVariants.{InR, RdR}
use Rattle.tc_model.specs.declared.items.Item.{Item}
use Rattle.tc_model.specs.declared.items.Item.TheVariants.{Fired, Failed}
use Rattle.tc_model.specs.declared.outcomes.Outcome.{Outcome}
use Rattle.tc_model.specs.declared.outcomes.Outcome.TheVariants.{Done, Took, NoTuple, Absent, Found, Pending, Spec, Over}
use Rattle.tc_model.specs.declared.entries.Entry.{Entry}
use Rattle.tc_model.specs.declared.entries.Entry.TheVariants.{Called, Gave, Looked}
use Rattle.std.proofs.Common.{Some, None}

any_chosen : {X : Type 0} (P : X → Type 0) (xs : List X) (x : X) → IsChosen TheFirst P xs x → IsChosen AnyOne P xs x
any_chosen P xs x first = (IsFirst-contains P xs x first, first.has)

any_does : (scene : Scene) (g : Goal) (m : Moment) (move : Move)
    → Does TheFirst scene g m move → Does AnyOne scene g m move
any_does scene (InR t) m move h = (h.0, any_chosen _ m.tuples h.0 h.1, h.2)
any_does scene (RdR t) m move h = (h.0, any_chosen _ m.tuples h.0 h.1, h.2)
any_does scene _ m move h = h

any_step : (scene : Scene) (g : Goal) (m : Moment) (move : Move)
    → IsStep TheFirst scene g m move → IsStep AnyOne scene g m move
any_step scene g m move h = record {
  before = h.before;
  does = any_does scene g m move h.does;
  behind = h.behind;
}

any_leads : (scene : Scene) (gs : List Goal) (m end : Moment)
    → Leads TheFirst scene gs m end → Leads AnyOne scene gs m end
any_leads scene [] m end h = h
any_leads scene (g ∷ gs) m end h = (h.0, any_step scene g m h.0 h.1, any_leads scene gs (moved h.0 m) end h.2)

module _ (setting : Setting) where
  any_body : (r : Rule) (e : Occurrence) (tuples : List Tree) (item : Item)
      → IsBody TheFirst r e setting tuples item → IsBody AnyOne r e setting tuples item
  any_body r e tuples (Fired pick clause effects) h = record {
    end = h.end;
    leads = any_leads (scene_of r e setting) r.goals (beginning r e tuples) h.end h.leads;
    recorded = h.recorded;
  }
  any_body r e tuples (Failed pick clause goal effects) h = record {
    place = h.place;
    at = h.at;
    goal = h.goal;
    stands = h.stands;
    end = h.end;
    leads = any_leads (scene_of r e setting) (take h.place r.goals) (beginning r e tuples) h.end h.leads;
    recorded = h.recorded;
    stuck = h.stuck;
  }

  module _ (clauses : List Rule) where
    any_tried : (w : Wave) (item : Item) (next : Wave)
        → IsTried TheFirst clauses setting w item next → IsTried AnyOne clauses setting w item next
    any_tried w item next h = record {
      place = h.place;
      pick = h.pick;
      allowed = omega (arith, h.pick);
      member = h.member;
      picked = h.picked;
      clause = h.clause;
      rule = h.rule;
      stands = h.stands;
      body = any_body h.rule h.member.event w.tuples item h.body;
      more = h.more;
      triggers = h.triggers;
      tuples = h.tuples;
      triggered = h.triggered;
    }

    any_cascades : (items : List Item) (w end : Wave)
        → Cascades TheFirst clauses setting items w end → Cascades AnyOne clauses setting items w end
    any_cascades [] w end h = h
    any_cascades (i ∷ items) w end h = (h.0, any_tried w i h.0 h.1, any_cascades items h.0 end h.2)

    any_begins : (e : Occurrence) (tuples : List Tree) (items : List Item) (end : Wave)
        → Begins TheFirst clauses setting e tuples items end → Begins AnyOne clauses setting e tuples items end
    any_begins e tuples items end h = record {
      first = h.first;
      triggers = h.triggers;
      cascades = any_cascades items (record { tuples = tuples; triggered = h.first }) end h.cascades;
    }

    any_whole : (budget : ℕ) (e : Occurrence) (tuples : List Tree) (items : List Item)
        → IsWhole TheFirst clauses setting budget e tuples items → IsWhole AnyOne clauses setting budget e tuples items
    any_whole budget e tuples items h = record {
      end = h.end;
      begins = any_begins e tuples items h.end h.begins;
      within = h.within;
      done = h.done;
    }

    any_over : (budget : ℕ) (e : Occurrence) (tuples : List Tree) (items : List Item)
        → IsOver TheFirst clauses setting budget e tuples items → IsOver AnyOne clauses setting budget e tuples items
    any_over budget e tuples items h = record {
      end = h.end;
      begins = any_begins e tuples items h.end h.begins;
      spent = h.spent;
      left = h.left;
    }

module _ (origin : Origin) (s : State) where
  any_found : (template tuple : Tree) → IsChosenTuple TheFirst origin s template tuple → IsChosenTuple AnyOne origin s template tuple
  any_found template tuple h = any_chosen _ s.tuples tuple h

  any_served : (id : CallId) (op : Op) (result : Outcome) (items : List Item)
      → IsServed TheFirst origin s id op result items → IsServed AnyOne origin s id op result items
  any_served id (Out t) Done items h = any_whole _ s.clauses origin.budget _ _ items h
  any_served id (Out t) (Over Post None) items h = any_over _ s.clauses origin.budget _ _ items h
  any_served id (Inp t) (Took u) items h = (any_found t u h.0, any_whole _ s.clauses origin.budget _ _ items h.1)
  any_served id (Inp t) (Over Post (Some u)) items h = (any_found t u h.0, any_over _ s.clauses origin.budget _ _ items h.1)
  any_served id (Rdp t) (Took u) items h = (any_found t u h.0, any_whole _ s.clauses origin.budget _ _ items h.1)
  any_served id (Rdp t) (Over Post (Some u)) items h = (any_found t u h.0, any_over _ s.clauses origin.budget _ _ items h.1)
  any_served id (Inp t) NoTuple items h = (h.0, any_whole _ s.clauses origin.budget _ _ items h.1)
  any_served id (Inp t) (Over Post None) items h = (h.0, any_over _ s.clauses origin.budget _ _ items h.1)
  any_served id (Rdp t) NoTuple items h = (h.0, any_whole _ s.clauses origin.budget _ _ items h.1)
  any_served id (Rdp t) (Over Post None) items h = (h.0, any_over _ s.clauses origin.budget _ _ items h.1)
  any_served id (Nop t) Absent items h = (h.0, any_whole _ s.clauses origin.budget _ _ items h.1)
  any_served id (Nop t) (Over Post None) items h = (h.0, any_over _ s.clauses origin.budget _ _ items h.1)
  any_served id (Nop t) (Found u) items h = (any_found t u h.0, any_whole _ s.clauses origin.budget _ _ items h.1)
  any_served id (Nop t) (Over Post (Some u)) items h = (any_found t u h.0, any_over _ s.clauses origin.budget _ _ items h.1)
  any_served id (In t) Pending items h = any_whole _ s.clauses origin.budget _ _ items h
  any_served id (In t) (Over Pre None) items h = any_over _ s.clauses origin.budget _ _ items h
  any_served id (Rd t) Pending items h = any_whole _ s.clauses origin.budget _ _ items h
  any_served id (Rd t) (Over Pre None) items h = any_over _ s.clauses origin.budget _ _ items h
  any_served id (No t) Pending items h = any_whole _ s.clauses origin.budget _ _ items h
  any_served id (No t) (Over Pre None) items h = any_over _ s.clauses origin.budget _ _ items h
  any_served id (SetSpec clauses) Done items h = h
  any_served id GetSpec (Spec text) items h = h
  any_served id _ _ items h = absurd h

  any_tuple : (r : Request) (result : Outcome) (items : List Item)
      → IsGivenTuple TheFirst origin s r result items → IsGivenTuple AnyOne origin s r result items
  any_tuple r (Took u) items h = (any_found r.template u h.0, any_whole _ s.clauses origin.budget _ _ items h.1)
  any_tuple r (Over Post (Some u)) items h = (any_found r.template u h.0, any_over _ s.clauses origin.budget _ _ items h.1)
  any_tuple r _ items h = absurd h

  any_absence : (r : Request) (result : Outcome) (items : List Item)
      → IsToldAbsence TheFirst origin s r result items → IsToldAbsence AnyOne origin s r result items
  any_absence r Absent items h = (h.0, any_whole _ s.clauses origin.budget _ _ items h.1)
  any_absence r (Over Post None) items h = (h.0, any_over _ s.clauses origin.budget _ _ items h.1)
  any_absence r _ items h = absurd h

  any_given : (wants : Wants) (r : Request) (result : Outcome) (items : List Item)
      → IsGivenFor TheFirst origin s wants r result items → IsGivenFor AnyOne origin s wants r result items
  any_given Take r result items h = any_tuple r result items h
  any_given Look r result items h = any_tuple r result items h
  any_given Absence r result items h = any_absence r result items h

  pub any_legal : (history : List Entry) (e : Entry)
      → IsLegal TheFirst origin history s e → IsLegal AnyOne origin history s e
  any_legal history (Called id op result items) h = (h.0, h.1, any_served id op result items h.2)
  any_legal history (Gave id result items) h = record {
    request = h.request;
    chosen = any_chosen (IsAnswerable s.tuples) s.pending h.request h.chosen;
    asked = h.asked;
    given = any_given h.request.wants h.request result items h.given;
  }
  any_legal history (Looked id asked reply) h = h
