-- What is written, and what it tells of what is asked.
use Rattle.std.proofs.Common.{◌≡◌, ◌≢◌, ◌<◌, ℕ, List, [], ◌∷◌, if◌then◌else◌, length, refl, sym, ap, ◌∙◌, arith}
use Rattle.std.specs.Str.{bytes_eq}
use Rattle.tc_term.specs.Tree.{Tree, Atomic, Compound, Last, More}
use Rattle.tc_term.specs.TreeView.{trees_of}
use Rattle.tc_term.specs.declared.terms.Term.{Term}
use Rattle.tc_term.proofs.TreeTerms.{term_of, term_of-tree_of}
use Rattle.tc_model.specs.Asks.{primitive_name}
use Rattle.tc_model.specs.Lines.{ask_term, line_term}
use Rattle.tc_model.specs.Reactions.{of_one}
use Rattle.tc_model.specs.declared.asks.Ask.{Ask}
use Rattle.tc_model.specs.declared.asks.Ask.TheVariants as ask
use Rattle.tc_model.specs.declared.asks.Primitive.{Primitive}
use Rattle.tc_model.specs.declared.asks.Primitive.TheVariants as primitive
use Rattle.tc_model.specs.declared.lines.Line.{Line}

-- one argument, and two
pub many_are_not_one : (ts : List Term) (a : Tree) → 2 < length ts → trees_of ts ≡ Last a → ⊥
many_are_not_one [] a many e = omega (arith, many)
many_are_not_one (t ∷ []) a many e = omega (arith, many)
many_are_not_one (t ∷ u ∷ ts) a many e = cc

pub many_are_not_two : (ts : List Term) (a b : Tree) → 2 < length ts → trees_of ts ≡ More a (Last b) → ⊥
many_are_not_two [] a b many e = omega (arith, many)
many_are_not_two (t ∷ []) a b many e = omega (arith, many)
many_are_not_two (t ∷ u ∷ []) a b many e = omega (arith, many)
many_are_not_two (t ∷ u ∷ v ∷ ts) a b many e = cc

-- what is asked with an operand is a compound of a primitive's name
pub not_a_primitive : (name : List ℕ) (t : Tree) → ((p : Primitive) → primitive_name p ≢ name) → (a : Ask)
    → of_one name t ≡ ask_term a → ⊥
not_a_primitive name t other (ask.Out u) e = other primitive.Out (cc)
not_a_primitive name t other (ask.In u) e = other primitive.In (cc)
not_a_primitive name t other (ask.Rd u) e = other primitive.Rd (cc)
not_a_primitive name t other (ask.Inp u) e = other primitive.Inp (cc)
not_a_primitive name t other (ask.Rdp u) e = other primitive.Rdp (cc)
not_a_primitive name t other (ask.No u) e = other primitive.No (cc)
not_a_primitive name t other (ask.Nop u) e = other primitive.Nop (cc)
not_a_primitive name t other (ask.SetSpec u) e = other primitive.SetSpec (cc)
not_a_primitive name t other ask.GetSpec e = cc

-- the name of an atom
abbrev pub name_at : Tree → List ℕ
name_at (Atomic name) = name
name_at _ = []

-- the primitive of a name
abbrev pub primitive_at : List ℕ → Primitive
primitive_at name =
    if bytes_eq name (primitive_name primitive.Out) then primitive.Out
    else (if bytes_eq name (primitive_name primitive.In) then primitive.In
    else (if bytes_eq name (primitive_name primitive.Rd) then primitive.Rd
    else (if bytes_eq name (primitive_name primitive.Inp) then primitive.Inp
    else (if bytes_eq name (primitive_name primitive.Rdp) then primitive.Rdp
    else (if bytes_eq name (primitive_name primitive.No) then primitive.No
    else (if bytes_eq name (primitive_name primitive.Nop) then primitive.Nop
    else (if bytes_eq name (primitive_name primitive.SetSpec) then primitive.SetSpec else primitive.GetSpec)))))))

pub primitive_at-name : (p : Primitive) → primitive_at (primitive_name p) ≡ p
primitive_at-name primitive.Out = refl
primitive_at-name primitive.In = refl
primitive_at-name primitive.Rd = refl
primitive_at-name primitive.Inp = refl
primitive_at-name primitive.Rdp = refl
primitive_at-name primitive.No = refl
primitive_at-name primitive.Nop = refl
primitive_at-name primitive.SetSpec = refl
primitive_at-name primitive.GetSpec = refl

-- what a primitive asks of a term; without one
abbrev ask_by : Primitive → Term → Ask
ask_by primitive.Out t = ask.Out t
ask_by primitive.In t = ask.In t
ask_by primitive.Rd t = ask.Rd t
ask_by primitive.Inp t = ask.Inp t
ask_by primitive.Rdp t = ask.Rdp t
ask_by primitive.No t = ask.No t
ask_by primitive.Nop t = ask.Nop t
ask_by primitive.SetSpec t = ask.SetSpec t
ask_by primitive.GetSpec t = ask.GetSpec

-- what a tree asks
abbrev ask_at : Tree → Ask
ask_at (Compound name (Last t)) = ask_by (primitive_at name) (term_of t)
ask_at _ = ask.GetSpec

ask_at-term : (a : Ask) → ask_at (ask_term a) ≡ a
ask_at-term (ask.Out t) = ap ask.Out (term_of-tree_of t)
ask_at-term (ask.In t) = ap ask.In (term_of-tree_of t)
ask_at-term (ask.Rd t) = ap ask.Rd (term_of-tree_of t)
ask_at-term (ask.Inp t) = ap ask.Inp (term_of-tree_of t)
ask_at-term (ask.Rdp t) = ap ask.Rdp (term_of-tree_of t)
ask_at-term (ask.No t) = ap ask.No (term_of-tree_of t)
ask_at-term (ask.Nop t) = ap ask.Nop (term_of-tree_of t)
ask_at-term (ask.SetSpec t) = ap ask.SetSpec (term_of-tree_of t)
ask_at-term ask.GetSpec = refl

-- the line of a tree
abbrev line : List ℕ → Ask → Line
line centre ask = record { centre = centre; ask = ask }

abbrev pub line_at : Tree → Line
line_at (Compound name (More c (Last a))) = line (name_at c) (ask_at a)
line_at _ = line [] ask.GetSpec

pub line_at-term : (l : Line) → line_at (line_term l) ≡ l
line_at-term l = ap (line l.centre) (ask_at-term l.ask)

-- so each stands for one at most
pub one_primitive : (p q : Primitive) → primitive_name p ≡ primitive_name q → p ≡ q
one_primitive p q same = sym (primitive_at-name p) ∙ ap primitive_at same ∙ primitive_at-name q

pub one_ask : (a b : Ask) → ask_term a ≡ ask_term b → a ≡ b
one_ask a b same = sym (ask_at-term a) ∙ ap ask_at same ∙ ask_at-term b

pub one_line : (l m : Line) → line_term l ≡ line_term m → l ≡ m
one_line l m same = sym (line_at-term l) ∙ ap line_at same ∙ line_at-term m
