use Rattle.std.proofs.Common.{◌≡◌, ap, sym, ◌∙◌, arith, true≢false, ℕ, ◌<◌, [], ◌∷◌, length, get_or, subst, subst₂, of_z, w64}
use Rattle.std.proofs.lemmas.Int.{ints}
use Rattle.std.proofs.lemmas.List.Elements.{All-cons, All-head, All-nil}
use Rattle.tc_unify.specs.declared.nodes.Node.TheVariants.{Atom, Int, Apply}
use Rattle.tc_unify.specs.Arena.{shape_of, IsArena, IsNodeOf, node_shape}
use Rattle.tc_unify.specs.declared.nodes.Node.{Node}
use Rattle.tc_unify.specs.declared.nodes.Arena.{Arena}
use Rattle.tc_unify.specs.Solutions.{Clashes, Joins}
use Rattle.tc_unify.specs.Nodes.{AtomNode, NumberNode}
use Rattle.tc_unify.proofs.Arenas.{shape_of-read, names_decided, named_nodes}
use Rattle.tc_unify.proofs.Steps.{KindsDiffer, joins_same, joins_apply, joins_last, clash_atoms, clash_numbers, clash_kinds}
use Rattle.tc_unify.proofs.nodes.Arena.heads.Goals as goal

clash_of : (a : Arena) (j k : ℕ) (x y m n : Node) → IsArena a → j < length a.nodes.items → k < length a.nodes.items → x ≡ get_or a.nodes.items j x → y ≡ get_or a.nodes.items k y → x ≡ m → y ≡ n → KindsDiffer (node_shape a.text.items m) (node_shape a.text.items n) → Clashes (shape_of a) j k
clash_of a j k x y m n arena h i d e f g differ =
    clash_kinds (shape_of a) j k arena.order
    (subst₂ KindsDiffer (sym (shape_of-read a j x m arena h d f)) (sym (shape_of-read a k y n arena i e g)) differ)

pub returns-then-eq : goal.returns-then-eq
returns-then-eq c =
    let a = c.args.self.now in
    let left = shape_of-read a c.args.a _ (Atom c.in-Atom-Atom.from c.in-Atom-Atom.len) c.requires.arena c.requires.left c.index.ensures c.in-Atom-Atom.is-0 in
    let right = shape_of-read a c.args.b _ (Atom c.in-Atom-Atom.start c.in-Atom-Atom.size) c.requires.arena c.requires.right c.index-2.ensures c.in-Atom-Atom.is-1 in
    let same = names_decided a.text.items _ _ c.in-Atom-Atom.from c.in-Atom-Atom.len c.in-Atom-Atom.start c.in-Atom-Atom.size c.eq.result c.deref.ensures.value c.deref-in-Atom-Atom.ensures.value c.eq.ensures in
    joins_same (shape_of a) c.args.a c.args.b (left ∙ ap AtomNode (same.0 c.if-eq.true) ∙ sym right)

pub returns-else-eq : goal.returns-else-eq
returns-else-eq c =
    let a = c.args.self.now in
    let left = shape_of-read a c.args.a _ (Atom c.in-Atom-Atom.from c.in-Atom-Atom.len) c.requires.arena c.requires.left c.index.ensures c.in-Atom-Atom.is-0 in
    let right = shape_of-read a c.args.b _ (Atom c.in-Atom-Atom.start c.in-Atom-Atom.size) c.requires.arena c.requires.right c.index-2.ensures c.in-Atom-Atom.is-1 in
    let same = names_decided a.text.items _ _ c.in-Atom-Atom.from c.in-Atom-Atom.len c.in-Atom-Atom.start c.in-Atom-Atom.size c.eq.result c.deref.ensures.value c.deref-in-Atom-Atom.ensures.value c.eq.ensures in
    clash_atoms (shape_of a) c.args.a c.args.b _ _ c.requires.arena.order left right (λ e. true≢false (sym (same.1 e) ∙ c.if-eq.false))

pub returns-then-m-n : goal.returns-then-m-n
returns-then-m-n c =
    let a = c.args.self.now in
    let left = shape_of-read a c.args.a _ (Int c.in-Int-Int.m) c.requires.arena c.requires.left c.index.ensures c.in-Int-Int.is-0 in
    let right = shape_of-read a c.args.b _ (Int c.in-Int-Int.n) c.requires.arena c.requires.right c.index-2.ensures c.in-Int-Int.is-1 in
    let same : c.in-Int-Int.m ≡ c.in-Int-Int.n = omega (arith, ints) in
    joins_same (shape_of a) c.args.a c.args.b (left ∙ ap NumberNode same ∙ sym right)

pub returns-else-m-n : goal.returns-else-m-n
returns-else-m-n c =
    let a = c.args.self.now in
    let left = shape_of-read a c.args.a _ (Int c.in-Int-Int.m) c.requires.arena c.requires.left c.index.ensures c.in-Int-Int.is-0 in
    let right = shape_of-read a c.args.b _ (Int c.in-Int-Int.n) c.requires.arena c.requires.right c.index-2.ensures c.in-Int-Int.is-1 in
    clash_numbers (shape_of a) c.args.a c.args.b _ _ c.requires.arena.order left right (λ e. c.if-m-n.false (ap (of_z w64) e))

pub returns-then-head-other : goal.returns-then-head-other
returns-then-head-other c =
    let a = c.args.self.now in
    let x = c.in-Apply-Apply.argument in
    let y = c.in-Apply-Apply.last in
    let head = c.in-Apply-Apply.head in
    let same : head ≡ c.in-Apply-Apply.other = c.if-head-other.true in
    let left = shape_of-read a c.args.a _ (Apply head x) c.requires.arena c.requires.left c.index.ensures c.in-Apply-Apply.is-0 in
    let right = shape_of-read a c.args.b _ (Apply c.in-Apply-Apply.other y) c.requires.arena c.requires.right c.index-2.ensures c.in-Apply-Apply.is-1 in (
      joins_last (shape_of a) c.args.a c.args.b x y head
          (subst (λ g. Joins (shape_of a) c.args.a c.args.b ((x, y) ∷ (head, g) ∷ [])) (sym same)
          (joins_apply (shape_of a) c.args.a c.args.b _ _ _ _ c.requires.arena.order left right)),
      All-cons (λ p. IsNodeOf a p.0 × IsNodeOf a p.1) (x, y) []
          (All-head (λ p. IsNodeOf a p.0 × IsNodeOf a p.1) (x, y) ((head, c.in-Apply-Apply.other) ∷ [])
          (named_nodes a c.args.a c.args.b _ _ _ _ c.requires.arena c.requires.left c.requires.right left right))
          (All-nil (λ p. IsNodeOf a p.0 × IsNodeOf a p.1)),
    )

pub returns-else-head-other : goal.returns-else-head-other
returns-else-head-other c =
    let a = c.args.self.now in
    let left = shape_of-read a c.args.a _ (Apply c.in-Apply-Apply.head c.in-Apply-Apply.argument) c.requires.arena c.requires.left c.index.ensures c.in-Apply-Apply.is-0 in
    let right = shape_of-read a c.args.b _ (Apply c.in-Apply-Apply.other c.in-Apply-Apply.last) c.requires.arena c.requires.right c.index-2.ensures c.in-Apply-Apply.is-1 in (
      joins_apply (shape_of a) c.args.a c.args.b _ _ _ _ c.requires.arena.order left right,
      named_nodes a c.args.a c.args.b _ _ _ _ c.requires.arena c.requires.left c.requires.right left right,
    )

pub returns-in-Atom-Int : goal.returns-in-Atom-Int
returns-in-Atom-Int c =
    clash_of c.args.self.now c.args.a c.args.b _ _ (Atom c.in-Atom-Int.from-0 c.in-Atom-Int.len-0) (Int c.in-Atom-Int.field-0-1) c.requires.arena c.requires.left c.requires.right
    c.index.ensures c.index-2.ensures c.in-Atom-Int.is-0 c.in-Atom-Int.is-1 (tt, tt)

pub returns-in-Atom-Apply : goal.returns-in-Atom-Apply
returns-in-Atom-Apply c =
    clash_of c.args.self.now c.args.a c.args.b _ _ (Atom c.in-Atom-Apply.from-0 c.in-Atom-Apply.len-0) (Apply c.in-Atom-Apply.head-1 c.in-Atom-Apply.argument-1) c.requires.arena c.requires.left c.requires.right
    c.index.ensures c.index-2.ensures c.in-Atom-Apply.is-0 c.in-Atom-Apply.is-1 (tt, tt)

pub returns-in-Int-Atom : goal.returns-in-Int-Atom
returns-in-Int-Atom c =
    clash_of c.args.self.now c.args.a c.args.b _ _ (Int c.in-Int-Atom.field-0-0) (Atom c.in-Int-Atom.from-1 c.in-Int-Atom.len-1) c.requires.arena c.requires.left c.requires.right
    c.index.ensures c.index-2.ensures c.in-Int-Atom.is-0 c.in-Int-Atom.is-1 (tt, tt)

pub returns-in-Int-Apply : goal.returns-in-Int-Apply
returns-in-Int-Apply c =
    clash_of c.args.self.now c.args.a c.args.b _ _ (Int c.in-Int-Apply.field-0-0) (Apply c.in-Int-Apply.head-1 c.in-Int-Apply.argument-1) c.requires.arena c.requires.left c.requires.right
    c.index.ensures c.index-2.ensures c.in-Int-Apply.is-0 c.in-Int-Apply.is-1 (tt, tt)

pub returns-in-Apply-Atom : goal.returns-in-Apply-Atom
returns-in-Apply-Atom c =
    clash_of c.args.self.now c.args.a c.args.b _ _ (Apply c.in-Apply-Atom.head-0 c.in-Apply-Atom.argument-0) (Atom c.in-Apply-Atom.from-1 c.in-Apply-Atom.len-1) c.requires.arena c.requires.left c.requires.right
    c.index.ensures c.index-2.ensures c.in-Apply-Atom.is-0 c.in-Apply-Atom.is-1 (tt, tt)

pub returns-in-Apply-Int : goal.returns-in-Apply-Int
returns-in-Apply-Int c =
    clash_of c.args.self.now c.args.a c.args.b _ _ (Apply c.in-Apply-Int.head-0 c.in-Apply-Int.argument-0) (Int c.in-Apply-Int.field-0-1) c.requires.arena c.requires.left c.requires.right
    c.index.ensures c.index-2.ensures c.in-Apply-Int.is-0 c.in-Apply-Int.is-1 (tt, tt)
