-- No term is neither written as a rule nor has a cause, and no text is neither spelt nor faulty.
use Rattle.std.proofs.Common.{◌≡◌, ◌<◌, ◌≤◌, ℕ, List, [], ◌∷◌, ◌++◌, All, length, map, inl, inr, refl, sym, ap, ap₂, subst, ⊎_elim, arith}
use Rattle.std.proofs.lemmas.Bool.{cases_lt}
use Rattle.std.proofs.lemmas.List.{length-map}
use Rattle.std.proofs.lemmas.List.Elements.{All-head, All-tail}
use Rattle.tc_term.specs.Readable.{IsReadable}
use Rattle.tc_term.specs.Tree.{Tree}
use Rattle.tc_term.specs.Variables.{variables}
use Rattle.tc_read.specs.Clauses.{HasNoGap}
use Rattle.tc_read.proofs.NoGap.{some_end}
use Rattle.tc_model.specs.Events.{op_name}
use Rattle.tc_model.specs.Reactions.{Rule, clause_term, goal_term, of_one}
use Rattle.tc_model.specs.declared.events.EventOp.{EventOp}
use Rattle.tc_model.specs.declared.faults.BadSpec.{BadSpec}
use Rattle.tc_model.specs.declared.faults.SpecCause.{SpecCause}
use Rattle.tc_model.specs.declared.faults.SpecCause.TheVariants as cause
use Rattle.tc_model.specs.declared.goals.Goal.{Goal}
use Rattle.tc_model.specs.declared.reactions.Form.{Form}
use Rattle.tc_model.specs.declared.reactions.GuardTest.{GuardTest}
use Rattle.tc_model.specs.declared.limits.TheConstants.{MOST_CLAUSES, MOST_GOALS}
use Rattle.tc_spec.proofs.Commas.{leaves-some}
use Rattle.tc_spec.proofs.Shapes.{few_tests}
use Rattle.tc_spec.specs.Texts.{HasBadSpec, IsClauseRefused, IsSpelt, rules_language}
use Rattle.tc_spec.specs.Written.{IsCausedBy, IsGoalTerm, IsShaped, IsWrittenAs, SpellsRule, leaves}

-- the goals that terms of goals are written for
goals_of : (f : Form) (ts : List Tree) → All (IsGoalTerm f) ts → (gs : List Goal) × (ts ≡ map (goal_term f) gs)
goals_of f [] all = ([], refl)
goals_of f (t ∷ ts) all =
    let first = All-head (IsGoalTerm f) t ts all in
    let rest = goals_of f ts (All-tail (IsGoalTerm f) t ts all) in
    (first.0 ∷ rest.0, ap₂ (λ u us. u ∷ us) (sym first.1) rest.1)

-- a rule of this form, head, guard and goals, with the variables of its clause
abbrev bare : Form → EventOp → Tree → List GuardTest → List Goal → Rule
bare f o a guard gs = record { vars = 0; form = f; op = o; head = a; guard = guard; goals = gs }

abbrev whole : Form → EventOp → Tree → List GuardTest → List Goal → Rule
whole f o a guard gs = record {
  vars = length (variables (clause_term (bare f o a guard gs)));
  form = f;
  op = o;
  head = a;
  guard = guard;
  goals = gs;
}

-- a clause that spells a rule
spelt_gap : (t : Tree) (f : Form) (o : EventOp) (a : Tree) (guard : List GuardTest) (b : Tree) (gs : List Goal)
    → IsShaped t f (of_one (op_name o) a) guard b → leaves b ≡ map (goal_term f) gs
    → ((r : Rule) → IsWrittenAs t r → ⊥) → ((why : SpecCause) → IsCausedBy t why → ⊥) → ⊥
spelt_gap t f o a guard b gs parts goals unwritten uncaused =
    let r : Rule = whole f o a guard gs in
    let spells : SpellsRule t r = record { body = b; parts = parts; goals = goals } in
    let some : 1 ≤ length gs = omega (arith, leaves-some b, ap length goals, length-map gs (goal_term f)) in
    let tests = few_tests t f (of_one (op_name o) a) guard b parts in
    ⊎_elim
    (λ (many : MOST_GOALS < length gs). uncaused cause.Count (r, spells, many))
    (λ (few : length gs ≤ MOST_GOALS).
    uncaused cause.Size (
      r,
      spells,
      few,
      λ (readable : IsReadable (clause_term r)).
          unwritten r (record {
            spells = spells;
            rule = record { some = some; most = few; guard = tests; clause = readable; vars = refl };
          }),
    ))
    (cases_lt MOST_GOALS (length gs))

pub term_gap : (t : Tree) → ((r : Rule) → IsWrittenAs t r → ⊥) → ((why : SpecCause) → IsCausedBy t why → ⊥) → ⊥
term_gap t unwritten uncaused =
    uncaused cause.Shape (λ f h guard b shaped.
    uncaused cause.Head (record {
      form = f;
      head = h;
      guard = guard;
      body = b;
      shaped = shaped;
      none = λ o a head.
          let parts : IsShaped t f (of_one (op_name o) a) guard b = subst (λ u. IsShaped t f u guard b) head shaped in
          uncaused cause.Goal (record {
            form = f;
            op = o;
            term = a;
            guard = guard;
            body = b;
            shaped = parts;
            bad = λ all.
                let goals = goals_of f (leaves b) all in
                spelt_gap t f o a guard b goals.0 parts goals.1 unwritten uncaused;
          });
    }))

-- a clause behind so many others, where its term has a cause
cause_gap : (count : ℕ) (t : Tree) (why : SpecCause) → IsCausedBy t why → ((c : SpecCause) → IsClauseRefused count t c → ⊥) → ⊥
cause_gap count t cause.Syntax h unrefused = h
cause_gap count t cause.Shape h unrefused = unrefused cause.Shape h
cause_gap count t cause.Head h unrefused = unrefused cause.Head h
cause_gap count t cause.Goal h unrefused = unrefused cause.Goal h
cause_gap count t cause.Count h unrefused = unrefused cause.Count (h.0, h.1, inl h.2)
cause_gap count t cause.Size h unrefused =
    ⊎_elim
    (λ (room : count < MOST_CLAUSES). unrefused cause.Size (room, h))
    (λ (full : MOST_CLAUSES ≤ count). unrefused cause.Count (h.0, h.1, inr full))
    (cases_lt count MOST_CLAUSES)

clause_gap : HasNoGap rules_language
clause_gap rules t unled unrefused =
    term_gap t
    (λ r written.
    ⊎_elim
    (λ (room : length rules < MOST_CLAUSES).
    unled (rules ++ r ∷ []) (record { rule = r; written = written; room = room; added = refl }))
    (λ (full : MOST_CLAUSES ≤ length rules). unrefused cause.Count (r, written.spells, inr full))
    (cases_lt (length rules) MOST_CLAUSES))
    (λ why h. cause_gap (length rules) t why h unrefused)

pub text_gap : (text : List ℕ) → ((rules : List Rule) → IsSpelt text rules → ⊥) → ((bad : BadSpec) → HasBadSpec text bad → ⊥) → ⊥
text_gap text unspelt faultless =
    some_end rules_language clause_gap text [] unspelt
    (λ number why faulty. faultless (record { clause = number; cause = why }) faulty)
