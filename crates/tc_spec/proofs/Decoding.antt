-- A goal is told by the term that it is written as, and a rule by its clause.
use Rattle.std.proofs.Common.{◌≡◌, ℕ, List, [], ◌∷◌, Result, Ok, Err, IfOk, if◌then◌else◌, length, map, refl, ap, ap₂, sym, ◌∙◌, codes}
use Rattle.std.specs.Str.{bytes_eq}
use Rattle.tc_term.specs.Tree.{Tree, Atomic, Compound, Last, More}
use Rattle.tc_term.specs.TreeView.{tree_of}
use Rattle.tc_term.specs.Variables.{variables}
use Rattle.tc_term.specs.declared.comparison.Cmp.TheVariants as cmp
use Rattle.tc_term.specs.declared.terms.Term.{Term}
use Rattle.tc_term.proofs.TreeTerms.{term_of, term_of-tree_of}
use Rattle.tc_model.specs.Events.{op_name}
use Rattle.tc_model.specs.Reactions.{Rule, goal_op_name, goal_term, of_one}
use Rattle.tc_model.specs.declared.events.EventOp.{EventOp}
use Rattle.tc_model.specs.declared.events.EventOp.TheVariants as op
use Rattle.tc_model.specs.declared.goals.Goal.{Goal}
use Rattle.tc_model.specs.declared.reactions.Form.{Form}
use Rattle.tc_model.specs.declared.reactions.Form.TheVariants.{Two, Three}
use Rattle.tc_model.specs.declared.reactions.GuardTest.{GuardTest}
use Rattle.tc_spec.proofs.Exact.{one_way, same_clause, same_goals}
use Rattle.tc_spec.specs.Written.{IsWrittenAs}
use Rattle.tc_spec.specs.declared.faults.ReactionFault.{ReactionFault}
use Rattle.tc_model.specs.declared.goals.Goal.TheVariants.{OutR, InR, RdR, NoR, Pre, Post, Success, Failure, True, Agent, Centre, Operation, Tuple, Equal, Differ, Is, Compare}

-- the goal of a name, of a name and one term, of a name and two, in a clause of a form
abbrev atom_goal : List ℕ → Goal
atom_goal name =
    if bytes_eq name (codes "pre") then Pre
    else (if bytes_eq name (codes "post") then Post
    else (if bytes_eq name (codes "success") then Success
    else (if bytes_eq name (codes "failure") then Failure else True)))

abbrev one_goal : Form → List ℕ → Term → Goal
one_goal f name t =
    if bytes_eq name (goal_op_name f op.OutR) then OutR t
    else (if bytes_eq name (goal_op_name f op.InR) then InR t
    else (if bytes_eq name (goal_op_name f op.RdR) then RdR t
    else (if bytes_eq name (goal_op_name f op.NoR) then NoR t
    else (if bytes_eq name (codes "current_agent") then Agent t
    else (if bytes_eq name (codes "current_tc") then Centre t
    else (if bytes_eq name (codes "current_op") then Operation t else Tuple t))))))

abbrev two_goal : List ℕ → Term → Term → Goal
two_goal name s t =
    if bytes_eq name (codes "=") then Equal s t
    else (if bytes_eq name (codes "\\=") then Differ s t
    else (if bytes_eq name (codes "is") then Is s t
    else (if bytes_eq name (codes "=:=") then Compare cmp.Eq s t
    else (if bytes_eq name (codes "=\\=") then Compare cmp.Ne s t
    else (if bytes_eq name (codes "<") then Compare cmp.Lt s t
    else (if bytes_eq name (codes ">") then Compare cmp.Gt s t
    else (if bytes_eq name (codes "=<") then Compare cmp.Le s t else Compare cmp.Ge s t)))))))

abbrev goal_of : Form → Tree → Goal
goal_of f (Atomic name) = atom_goal name
goal_of f (Compound name (Last t)) = one_goal f name (term_of t)
goal_of f (Compound name (More s (Last t))) = two_goal name (term_of s) (term_of t)
goal_of f _ = True

two_terms : (f : Term → Term → Goal) (s t : Term) → f (term_of (tree_of s)) (term_of (tree_of t)) ≡ f s t
two_terms f s t = ap (λ x. f x (term_of (tree_of t))) (term_of-tree_of s) ∙ ap (f s) (term_of-tree_of t)

goal_of-term : (f : Form) (g : Goal) → goal_of f (goal_term f g) ≡ g
goal_of-term Two (OutR t) = ap OutR (term_of-tree_of t)
goal_of-term Two (InR t) = ap InR (term_of-tree_of t)
goal_of-term Two (RdR t) = ap RdR (term_of-tree_of t)
goal_of-term Two (NoR t) = ap NoR (term_of-tree_of t)
goal_of-term Two (Agent t) = ap Agent (term_of-tree_of t)
goal_of-term Two (Centre t) = ap Centre (term_of-tree_of t)
goal_of-term Two (Operation t) = ap Operation (term_of-tree_of t)
goal_of-term Two (Tuple t) = ap Tuple (term_of-tree_of t)
goal_of-term Three (OutR t) = ap OutR (term_of-tree_of t)
goal_of-term Three (InR t) = ap InR (term_of-tree_of t)
goal_of-term Three (RdR t) = ap RdR (term_of-tree_of t)
goal_of-term Three (NoR t) = ap NoR (term_of-tree_of t)
goal_of-term Three (Agent t) = ap Agent (term_of-tree_of t)
goal_of-term Three (Centre t) = ap Centre (term_of-tree_of t)
goal_of-term Three (Operation t) = ap Operation (term_of-tree_of t)
goal_of-term Three (Tuple t) = ap Tuple (term_of-tree_of t)
goal_of-term f Pre = refl
goal_of-term f Post = refl
goal_of-term f Success = refl
goal_of-term f Failure = refl
goal_of-term f True = refl
goal_of-term f (Equal s t) = two_terms Equal s t
goal_of-term f (Differ s t) = two_terms Differ s t
goal_of-term f (Is s t) = two_terms Is s t
goal_of-term f (Compare cmp.Eq s t) = two_terms (Compare cmp.Eq) s t
goal_of-term f (Compare cmp.Ne s t) = two_terms (Compare cmp.Ne) s t
goal_of-term f (Compare cmp.Lt s t) = two_terms (Compare cmp.Lt) s t
goal_of-term f (Compare cmp.Gt s t) = two_terms (Compare cmp.Gt) s t
goal_of-term f (Compare cmp.Le s t) = two_terms (Compare cmp.Le) s t
goal_of-term f (Compare cmp.Ge s t) = two_terms (Compare cmp.Ge) s t

-- goals that are written the same are the same
goals_of-terms : (f : Form) (gs : List Goal) → map (goal_of f) (map (goal_term f) gs) ≡ gs
goals_of-terms f [] = refl
goals_of-terms f (g ∷ gs) =
    ap (λ h. h ∷ map (goal_of f) (map (goal_term f) gs)) (goal_of-term f g) ∙ ap (λ hs. g ∷ hs) (goals_of-terms f gs)

pub goal_terms-injective : (f : Form) (gs hs : List Goal) → map (goal_term f) gs ≡ map (goal_term f) hs → gs ≡ hs
goal_terms-injective f gs hs same = sym (goals_of-terms f gs) ∙ ap (map (goal_of f)) same ∙ goals_of-terms f hs

-- the operation of a name
abbrev op_of : List ℕ → EventOp
op_of name =
    if bytes_eq name (codes "out") then op.Out
    else (if bytes_eq name (codes "in") then op.In
    else (if bytes_eq name (codes "rd") then op.Rd
    else (if bytes_eq name (codes "inp") then op.Inp
    else (if bytes_eq name (codes "rdp") then op.Rdp
    else (if bytes_eq name (codes "out_r") then op.OutR
    else (if bytes_eq name (codes "in_r") then op.InR
    else (if bytes_eq name (codes "no") then op.No
    else (if bytes_eq name (codes "nop") then op.Nop
    else (if bytes_eq name (codes "rd_r") then op.RdR else op.NoR)))))))))

op_of-name : (o : EventOp) → op_of (op_name o) ≡ o
op_of-name op.Out = refl
op_of-name op.In = refl
op_of-name op.Rd = refl
op_of-name op.Inp = refl
op_of-name op.Rdp = refl
op_of-name op.No = refl
op_of-name op.Nop = refl
op_of-name op.OutR = refl
op_of-name op.InR = refl
op_of-name op.RdR = refl
op_of-name op.NoR = refl

pub op_name-injective : (o p : EventOp) → op_name o ≡ op_name p → o ≡ p
op_name-injective o p same = sym (op_of-name o) ∙ ap op_of same ∙ op_of-name p

-- a term is written as one rule at most
one_op : (o p : List ℕ) (a b : Tree) → of_one o a ≡ of_one p b → o ≡ p
one_op o p a b same = cc

one_argument : (o p : List ℕ) (a b : Tree) → of_one o a ≡ of_one p b → a ≡ b
one_argument o p a b same = cc

abbrev rule : ℕ → Form → EventOp → Tree → List GuardTest → List Goal → Rule
rule vars form op head guard goals = record { vars = vars; form = form; op = op; head = head; guard = guard; goals = goals }

rule_parts : (r q : Rule) → r.vars ≡ q.vars → r.form ≡ q.form → r.op ≡ q.op → r.head ≡ q.head → r.guard ≡ q.guard
    → r.goals ≡ q.goals → r ≡ q
rule_parts r q vars form op head guard goals =
    ap (λ n. rule n r.form r.op r.head r.guard r.goals) vars ∙ ap (λ f. rule q.vars f r.op r.head r.guard r.goals) form
    ∙ ap (λ o. rule q.vars q.form o r.head r.guard r.goals) op ∙ ap (λ h. rule q.vars q.form q.op h r.guard r.goals) head
    ∙ ap₂ (rule q.vars q.form q.op q.head) guard goals

pub one_rule : (t : Tree) (r q : Rule) → IsWrittenAs t r → IsWrittenAs t q → r ≡ q
one_rule t r q w v =
    let same = one_way t r q w.spells v.spells in
    rule_parts r q
    (w.rule.vars ∙ ap (λ u. length (variables u)) (same_clause t r q w.spells v.spells) ∙ sym v.rule.vars) same.form
    (op_name-injective r.op q.op (one_op (op_name r.op) (op_name q.op) r.head q.head same.head))
    (one_argument (op_name r.op) (op_name q.op) r.head q.head same.head) same.guard
    (goal_terms-injective r.form r.goals q.goals
    (same_goals t r q w.spells v.spells ∙ ap (λ (f : Form). map (goal_term f) q.goals) (sym same.form)))

pub same_by : (t : Tree) (x : Result Rule ReactionFault) → IfOk x (IsWrittenAs t)
    → (r : Rule) → IsWrittenAs t r → IfOk x (λ q. q ≡ r)
same_by t (Ok q) written r w = one_rule t q r written w
same_by t (Err f) written r w = tt
