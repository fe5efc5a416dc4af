-- What stands in a clause is within its limits.
use Rattle.std.proofs.Common.{ℕ, IfSome, List, [], ◌∷◌, All, codes}
use Rattle.std.proofs.lemmas.List.Elements.{All-cons, All-nil}
use Rattle.tc_term.specs.Tree.{Atomic}
use Rattle.tc_term.specs.TreeView.{tree_of}
use Rattle.tc_model.specs.Asks.{operand_of}
use Rattle.tc_model.specs.Within.{HasVarsBelow}
use Rattle.tc_model.specs.declared.asks.Ask.{Ask}
use Rattle.tc_model.specs.declared.asks.Ask.TheVariants.{Out, In, Rd, Inp, Rdp, No, Nop, SetSpec, GetSpec}
use Rattle.tc_model.proofs.Rules.{HasVarsBelow-one, HasVarsBelow-first, HasVarsBelow-second}
use Rattle.tc_model.specs.Lines.{ask_term, line_term}
use Rattle.tc_config.specs.Forms.{lines_term}
use Rattle.tc_model.specs.declared.lines.Line.{Line}

operand-within : (vars : ℕ) (a : Ask) → HasVarsBelow vars (ask_term a) → IfSome (operand_of a) (HasVarsBelow vars)
operand-within vars (Out t) h = HasVarsBelow-one vars (codes "out") (tree_of t) h
operand-within vars (In t) h = HasVarsBelow-one vars (codes "in") (tree_of t) h
operand-within vars (Rd t) h = HasVarsBelow-one vars (codes "rd") (tree_of t) h
operand-within vars (Inp t) h = HasVarsBelow-one vars (codes "inp") (tree_of t) h
operand-within vars (Rdp t) h = HasVarsBelow-one vars (codes "rdp") (tree_of t) h
operand-within vars (No t) h = HasVarsBelow-one vars (codes "no") (tree_of t) h
operand-within vars (Nop t) h = HasVarsBelow-one vars (codes "nop") (tree_of t) h
operand-within vars (SetSpec t) h = HasVarsBelow-one vars (codes "set_spec") (tree_of t) h
operand-within vars GetSpec h = tt

-- so is what the lines of a script ask
pub lines-within : (vars : ℕ) (ls : List Line) → HasVarsBelow vars (lines_term ls)
    → All (λ (l : Line). IfSome (operand_of l.ask) (HasVarsBelow vars)) ls
lines-within vars [] h = All-nil (λ (l : Line). IfSome (operand_of l.ask) (HasVarsBelow vars))
lines-within vars (l ∷ ls) h =
    let line = HasVarsBelow-first vars (codes ".") (line_term l) (lines_term ls) h in
    let asked = HasVarsBelow-second vars (codes "?") (Atomic l.centre) (ask_term l.ask) line in
    All-cons (λ (k : Line). IfSome (operand_of k.ask) (HasVarsBelow vars)) l ls (operand-within vars l.ask asked)
    (lines-within vars ls (HasVarsBelow-second vars (codes ".") (line_term l) (lines_term ls) h))
