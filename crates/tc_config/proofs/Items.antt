-- Items of a script and the lines that they stand for.
use Rattle.std.proofs.Common.{◌≡◌, ◌<◌, ℕ, Some, IfSome, List, [], ◌∷◌, ◌++◌, All, length, refl, sym, ap, subst, arith}
use Rattle.std.proofs.lemmas.List.Elements.{All-cons, All-head, All-nil, All-same, All-tail}
use Rattle.tc_model.specs.Asks.{operand_of}
use Rattle.tc_model.specs.Within.{HasVarsBelow}
use Rattle.tc_model.specs.declared.scripts.ScriptItem.{ScriptItem}
use Rattle.tc_config.specs.Meanings.{AreItems}
use Rattle.tc_names.specs.Names.{place_of}
use Rattle.tc_model.specs.declared.lines.Line.{Line}
use Rattle.tc_names.proofs.Declared.{place-within}

-- one more
pub AreItems-push : (names : List (List ℕ)) (ls : List Line) (is : List ScriptItem) (l : Line) (i : ScriptItem)
    → AreItems names ls is → place_of names l.centre ≡ Some i.centre → i.ask ≡ l.ask
    → AreItems names (ls ++ l ∷ []) (is ++ i ∷ [])
AreItems-push names [] [] l i are at same = (at, same, refl)
AreItems-push names [] (j ∷ js) l i are at same = absurd (cc)
AreItems-push names (k ∷ ks) [] l i are at same = absurd are
AreItems-push names (k ∷ ks) (j ∷ js) l i are at same = (are.0, are.1, AreItems-push names ks js l i are.2 at same)

pub length-items : (names : List (List ℕ)) (ls : List Line) (is : List ScriptItem) → AreItems names ls is → length is ≡ length ls
length-items names [] is are = ap length are
length-items names (l ∷ ls) [] are = absurd are
length-items names (l ∷ ls) (i ∷ is) are = omega (arith, length-items names ls is are.2)

-- their centres are there
pub centres-within : (names : List (List ℕ)) (ls : List Line) (is : List ScriptItem) → AreItems names ls is
    → All (λ (i : ScriptItem). i.centre < length names) is
centres-within names [] is are = All-same (λ (i : ScriptItem). i.centre < length names) is [] are (All-nil (λ (i : ScriptItem). i.centre < length names))
centres-within names (l ∷ ls) [] are = absurd are
centres-within names (l ∷ ls) (i ∷ is) are =
    All-cons (λ (j : ScriptItem). j.centre < length names) i is (place-within names l.centre i.centre are.0)
    (centres-within names ls is are.2)

-- and what is asked is what is written
pub operands-within : (vars : ℕ) (names : List (List ℕ)) (ls : List Line) (is : List ScriptItem) → AreItems names ls is
    → All (λ (l : Line). IfSome (operand_of l.ask) (HasVarsBelow vars)) ls
    → All (λ (i : ScriptItem). IfSome (operand_of i.ask) (HasVarsBelow vars)) is
operands-within vars names [] is are all =
    All-same (λ (i : ScriptItem). IfSome (operand_of i.ask) (HasVarsBelow vars)) is [] are
    (All-nil (λ (i : ScriptItem). IfSome (operand_of i.ask) (HasVarsBelow vars)))
operands-within vars names (l ∷ ls) [] are all = absurd are
operands-within vars names (l ∷ ls) (i ∷ is) are all =
    All-cons (λ (j : ScriptItem). IfSome (operand_of j.ask) (HasVarsBelow vars)) i is
    (subst (λ a. IfSome (operand_of a) (HasVarsBelow vars)) (sym are.1)
    (All-head (λ (k : Line). IfSome (operand_of k.ask) (HasVarsBelow vars)) l ls all))
    (operands-within vars names ls is are.2 (All-tail (λ (k : Line). IfSome (operand_of k.ask) (HasVarsBelow vars)) l ls all))
