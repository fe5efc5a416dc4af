-- Goals that were done one after another.
use Rattle.std.proofs.Common.{◌≡◌, ℕ, ◌+◌, ◌≤◌, ◌<◌, List, [], ◌∷◌, ◌++◌, take, length, get_or, Some, refl, sym, ap, subst, ◌∙◌, arith}
use Rattle.std.specs.List.{slice_get}
use Rattle.std.proofs.lemmas.List.{take_more}
use Rattle.tc_term.specs.Tree.{Tree}
use Rattle.tc_term.specs.Variables.{raised, var_bound}
use Rattle.tc_term.specs.Equations.{Equations, Solvable}
use Rattle.tc_bag.specs.Stock.{Stock, tuples_of}
use Rattle.tc_model.specs.Choices.{TheFirst}
use Rattle.tc_model.specs.Events.{Occurrence, Setting}
use Rattle.tc_model.specs.Reactions.{Rule}
use Rattle.tc_model.specs.Goals.{Scene, Moment, Leads}
use Rattle.tc_model.specs.Bodies.{scene_of, beginning, IsFailed}
use Rattle.tc_model.specs.declared.items.Effect.{Effect}
use Rattle.tc_model.specs.declared.goals.Goal.{Goal}
use Rattle.tc_goals.proofs.Leading.{leads_push}
use Rattle.tc_body.specs.Moments.{IsDone, moment_of}

leads_done : (scene : Scene) (gs : List Goal) (g : Goal) (m k n : Moment)
    → Leads TheFirst scene gs m k → IsDone scene g k n → Leads TheFirst scene (gs ++ g ∷ []) m n
leads_done scene gs g m k n leads done =
    subst (λ q. Leads TheFirst scene (gs ++ g ∷ []) m q) (sym done.leads)
    (leads_push TheFirst scene gs g m k done.move leads done.step)

first_goal : (gs : List Goal) → 1 ≤ length gs → (g : Goal) × (slice_get gs 0 ≡ Some g)
first_goal [] some = absurd (omega (arith, some))
first_goal (g ∷ gs) some = (g, refl)

module _ (r : Rule) (e : Occurrence) (setting : Setting) where
  pub begun_moment : (q : Equations) (n : ℕ) (b : Stock) (fs : List Effect) → fs ≡ []
      → q ≡ record { vars = n; pairs = (r.head, raised r.vars e.term) ∷ [] } → moment_of q b fs ≡ beginning r e (tuples_of b.now)
  begun_moment q n b fs ef eq =
      ap (λ (p : Equations). moment_of p b fs) eq
      ∙ ap (λ (gs : List Effect). record { pairs = (r.head, raised r.vars e.term) ∷ []; tuples = tuples_of b.now; effects = gs }) ef

  -- where head and event can't be equal, the first goal has no step
  pub failed_first : (old : List Tree) (fs : List Effect) → 1 ≤ length r.goals → fs ≡ []
      → (Solvable (r.vars + var_bound e.term) ((r.head, raised r.vars e.term) ∷ []) → ⊥) → IsFailed TheFirst r e setting old 1 fs
  failed_first old fs some ef never =
      let g = first_goal r.goals some in
      record {
        place = 0;
        at = refl;
        goal = g.0;
        stands = g.1;
        end = beginning r e old;
        leads = refl;
        recorded = sym ef;
        stuck = λ move step. never step.before;
      }

  pub more_done : (old : List Tree) (i : ℕ) (g : Goal) (m n : Moment) → i < length r.goals → g ≡ get_or r.goals i g
      → Leads TheFirst (scene_of r e setting) (take i r.goals) (beginning r e old) m → IsDone (scene_of r e setting) g m n
      → Leads TheFirst (scene_of r e setting) (take (i + 1) r.goals) (beginning r e old) n
  more_done old i g m n below at leads done =
      let next : take (i + 1) r.goals ≡ take i r.goals ++ g ∷ [] = take_more r.goals i g below ∙ ap (λ h. take i r.goals ++ h ∷ []) (sym at) in
      subst (λ gs. Leads TheFirst (scene_of r e setting) gs (beginning r e old) n) (sym next)
      (leads_done (scene_of r e setting) (take i r.goals) g (beginning r e old) m n leads done)
