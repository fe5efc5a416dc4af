-- A term has one cause at most, and none where it is written as a rule.
use Rattle.std.proofs.Common.{◌≡◌, List, [], ◌∷◌, All, Result, Ok, Err, IfOk, IfErr, length, map, refl, ap, sym, subst, ◌∙◌, arith}
use Rattle.std.proofs.lemmas.List.{length-map}
use Rattle.std.proofs.lemmas.List.Elements.{All-nil, All-cons}
use Rattle.tc_term.specs.Tree.{Tree}
use Rattle.tc_term.specs.Readable.{IsReadable}
use Rattle.tc_model.specs.Events.{op_name}
use Rattle.tc_model.specs.Reactions.{Rule, of_one, guard_term, goal_term, body_term, clause_term}
use Rattle.tc_model.specs.declared.faults.SpecCause.{SpecCause}
use Rattle.tc_model.specs.declared.faults.SpecCause.TheVariants as cause
use Rattle.tc_model.specs.declared.goals.Goal.{Goal}
use Rattle.tc_model.specs.declared.reactions.Form.{Form}
use Rattle.tc_spec.proofs.Nesting.{body-nested}
use Rattle.tc_spec.proofs.Shapes.{AreSame, one_shape, same_parts}
use Rattle.tc_spec.specs.Answers.{IsReactionFault, IsThisCause, IsReactionWant}
use Rattle.tc_spec.specs.Written.{IsGoalTerm, IsCausedBy, IsWrittenAs, SpellsRule, leaves, nested}
use Rattle.tc_spec.specs.declared.faults.ReactionFault.{ReactionFault}
use Rattle.tc_spec.specs.declared.faults.ReactionFault.TheVariants as fault

-- what is spelt is shaped as a clause, in one way
abbrev pub AreOneShape : Tree → Rule → Rule → (b d : Tree) → Type 0
AreOneShape t r q b d =
    AreSame r.form q.form (of_one (op_name r.op) r.head) (of_one (op_name q.op) q.head) r.guard q.guard b d

pub one_way : (t : Tree) (r q : Rule) (s : SpellsRule t r) (p : SpellsRule t q) → AreOneShape t r q s.body p.body
one_way t r q s p =
    one_shape t r.form q.form (of_one (op_name r.op) r.head) (of_one (op_name q.op) q.head) r.guard q.guard s.body p.body s.parts p.parts

pub shape_spells : (t : Tree) (r : Rule) → SpellsRule t r → IsCausedBy t cause.Shape → ⊥
shape_spells t r s none = none r.form (of_one (op_name r.op) r.head) r.guard s.body s.parts

pub head_spells : (t : Tree) (r : Rule) → SpellsRule t r → IsCausedBy t cause.Head → ⊥
head_spells t r s why =
    why.none r.op r.head
    (one_shape t why.form r.form why.head (of_one (op_name r.op) r.head) why.guard r.guard why.body s.body why.shaped s.parts).head

goal_terms : (f : Form) (gs : List Goal) → All (IsGoalTerm f) (map (goal_term f) gs)
goal_terms f [] = All-nil (IsGoalTerm f)
goal_terms f (g ∷ gs) = All-cons (IsGoalTerm f) (goal_term f g) (map (goal_term f) gs) (g, refl) (goal_terms f gs)

pub goal_spells : (t : Tree) (r : Rule) → SpellsRule t r → IsCausedBy t cause.Goal → ⊥
goal_spells t r s why =
    let same =
    one_shape t r.form why.form (of_one (op_name r.op) r.head) (of_one (op_name why.op) why.term) r.guard why.guard s.body why.body
    s.parts why.shaped in
    why.bad
    (subst (λ (f : Form). All (IsGoalTerm f) (leaves why.body)) same.form
    (subst (All (IsGoalTerm r.form)) (sym s.goals ∙ ap leaves same.body) (goal_terms r.form r.goals)))

-- two rules that it spells have the same clause
pub same_goals : (t : Tree) (r q : Rule) → SpellsRule t r → SpellsRule t q
    → map (goal_term r.form) r.goals ≡ map (goal_term q.form) q.goals
same_goals t r q s p = sym s.goals ∙ ap leaves (one_way t r q s p).body ∙ p.goals

same_length : (t : Tree) (r q : Rule) → SpellsRule t r → SpellsRule t q → length r.goals ≡ length q.goals
same_length t r q s p =
    omega (arith, ap length (same_goals t r q s p), length-map r.goals (goal_term r.form), length-map q.goals (goal_term q.form))

pub same_clause : (t : Tree) (r q : Rule) → SpellsRule t r → SpellsRule t q → clause_term r ≡ clause_term q
same_clause t r q s p =
    let same = one_way t r q s p in
    same_parts r.form q.form (of_one (op_name r.op) r.head) (of_one (op_name q.op) q.head) (guard_term r.guard) (guard_term q.guard)
    (body_term r.form r.goals) (body_term q.form q.goals) same.form same.head (ap guard_term same.guard)
    (body-nested r.form r.goals ∙ ap nested (same_goals t r q s p) ∙ sym (body-nested q.form q.goals))

-- no term is written as a rule and has a cause
pub excluded : (t : Tree) (r : Rule) (why : SpecCause) → IsWrittenAs t r → IsCausedBy t why → ⊥
excluded t r cause.Syntax w h = h
excluded t r cause.Shape w h = shape_spells t r w.spells h
excluded t r cause.Head w h = head_spells t r w.spells h
excluded t r cause.Goal w h = goal_spells t r w.spells h
excluded t r cause.Count w h = absurd (omega (arith, h.2, w.rule.most, same_length t r h.0 w.spells h.1))
excluded t r cause.Size w h = h.3 (subst IsReadable (same_clause t r h.0 w.spells h.1) w.rule.clause)

-- no term has two causes
count_size : (t : Tree) → IsCausedBy t cause.Count → IsCausedBy t cause.Size → ⊥
count_size t h k = absurd (omega (arith, h.2, k.2, same_length t h.0 k.0 h.1 k.1))

shape_head : (t : Tree) → IsCausedBy t cause.Shape → IsCausedBy t cause.Head → ⊥
shape_head t h k = h k.form k.head k.guard k.body k.shaped

shape_goal : (t : Tree) → IsCausedBy t cause.Shape → IsCausedBy t cause.Goal → ⊥
shape_goal t h k = h k.form (of_one (op_name k.op) k.term) k.guard k.body k.shaped

head_goal : (t : Tree) → IsCausedBy t cause.Head → IsCausedBy t cause.Goal → ⊥
head_goal t h k =
    h.none k.op k.term
    (one_shape t h.form k.form h.head (of_one (op_name k.op) k.term) h.guard k.guard h.body k.body h.shaped k.shaped).head

pub same_cause : (t : Tree) (c d : SpecCause) → IsCausedBy t c → IsCausedBy t d → c ≡ d
same_cause t cause.Syntax d h k = absurd h
same_cause t cause.Shape cause.Syntax h k = absurd k
same_cause t cause.Shape cause.Shape h k = refl
same_cause t cause.Shape cause.Head h k = absurd (shape_head t h k)
same_cause t cause.Shape cause.Goal h k = absurd (shape_goal t h k)
same_cause t cause.Shape cause.Count h k = absurd (shape_spells t k.0 k.1 h)
same_cause t cause.Shape cause.Size h k = absurd (shape_spells t k.0 k.1 h)
same_cause t cause.Head cause.Syntax h k = absurd k
same_cause t cause.Head cause.Shape h k = absurd (shape_head t k h)
same_cause t cause.Head cause.Head h k = refl
same_cause t cause.Head cause.Goal h k = absurd (head_goal t h k)
same_cause t cause.Head cause.Count h k = absurd (head_spells t k.0 k.1 h)
same_cause t cause.Head cause.Size h k = absurd (head_spells t k.0 k.1 h)
same_cause t cause.Goal cause.Syntax h k = absurd k
same_cause t cause.Goal cause.Shape h k = absurd (shape_goal t k h)
same_cause t cause.Goal cause.Head h k = absurd (head_goal t k h)
same_cause t cause.Goal cause.Goal h k = refl
same_cause t cause.Goal cause.Count h k = absurd (goal_spells t k.0 k.1 h)
same_cause t cause.Goal cause.Size h k = absurd (goal_spells t k.0 k.1 h)
same_cause t cause.Count cause.Syntax h k = absurd k
same_cause t cause.Count cause.Shape h k = absurd (shape_spells t h.0 h.1 k)
same_cause t cause.Count cause.Head h k = absurd (head_spells t h.0 h.1 k)
same_cause t cause.Count cause.Goal h k = absurd (goal_spells t h.0 h.1 k)
same_cause t cause.Count cause.Count h k = refl
same_cause t cause.Count cause.Size h k = absurd (count_size t h k)
same_cause t cause.Size cause.Syntax h k = absurd k
same_cause t cause.Size cause.Shape h k = absurd (shape_spells t h.0 h.1 k)
same_cause t cause.Size cause.Head h k = absurd (head_spells t h.0 h.1 k)
same_cause t cause.Size cause.Goal h k = absurd (goal_spells t h.0 h.1 k)
same_cause t cause.Size cause.Count h k = absurd (count_size t k h)
same_cause t cause.Size cause.Size h k = refl

-- so each answer comes where it is due
pub written_by : (t : Tree) (x : Result Rule ReactionFault) → IfErr x (IsReactionFault t)
    → (r : Rule) → IsWrittenAs t r → IfErr x IsReactionWant
written_by t (Ok q) why r w = tt
written_by t (Err (fault.Bad cause)) why r w = excluded t r cause w why
written_by t (Err fault.NoMemory) why r w = tt

pub refused_by : (t : Tree) (x : Result Rule ReactionFault) → IfOk x (IsWrittenAs t)
    → (why : SpecCause) → IsCausedBy t why → IfOk x (λ (q : Rule). ⊥)
refused_by t (Ok q) w why h = excluded t q why w h
refused_by t (Err f) w why h = tt

pub caused_by : (t : Tree) (x : Result Rule ReactionFault) → IfErr x (IsReactionFault t)
    → (why : SpecCause) → IsCausedBy t why → IfErr x (IsThisCause why)
caused_by t (Ok q) told why h = tt
caused_by t (Err (fault.Bad other)) told why h = same_cause t other why told h
caused_by t (Err fault.NoMemory) told why h = tt
