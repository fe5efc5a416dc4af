use Rattle.std.proofs.Common.{◌≡◌, ◌<◌, ◌+◌, ◌-◌, ℕ, List, ap, ap₂, sym, ◌∙◌, arith, length, take, drop}
use Rattle.tc_unify.specs.declared.nodes.Node.TheVariants.{Atom}
use Rattle.tc_unify.specs.Nodes.{AtomNode}
use Rattle.tc_unify.specs.Arena.{shape_of}
use Rattle.tc_unify.proofs.Arenas.{shape_of-read, shape_in-name, name_length}
use Rattle.tc_unify.proofs.Spines.{term_inside, atom_below, atom_is_read}
use Rattle.tc_unify.proofs.nodes.Arena.atom_name.Goals.{In-Atom}
use Rattle.tc_unify.proofs.nodes.Arena.atom_name.Goals as goal

pub name_of-requires : goal.name_of-requires
name_of-requires c =
    let below = atom_below c.args.self.now c.args.atom c.if-atom-ge-FIRST_NAME.true c.requires.atom in
    omega arith

pub returns-then-atom-ge-FIRST_NAME : goal.returns-then-atom-ge-FIRST_NAME
returns-then-atom-ge-FIRST_NAME c =
    let a = c.args.self.now in
    record {
      name =
          shape_in-name a.nodes.items a.text.items c.args.atom c.if-atom-ge-FIRST_NAME.true (atom_below a c.args.atom c.if-atom-ge-FIRST_NAME.true c.requires.atom)
          ∙ ap AtomNode (sym (c.in_ok-name.ensures ∙ c.in_ok-name_of.ensures));
      longer = tt;
    }

pub unreachable-requires : goal.unreachable-requires
unreachable-requires c =
    let a = c.args.self.now in
    atom_is_read a c.args.atom c.index.result.now c.requires.arena (term_inside a c.args.atom c.requires.node c.if-atom-ge-FIRST_NAME.false) c.index.ensures c.requires.atom c.in_default.not-Atom

-- the bytes of a name that was read
abbrev bytes : (c : In-Atom) → List ℕ
bytes c = take c.in-Atom.len (drop c.in-Atom.from c.args.self.now.text.items)

inside : (c : In-Atom) → c.args.atom < length c.args.self.now.nodes.items
inside c = term_inside c.args.self.now c.args.atom c.requires.node c.if-atom-ge-FIRST_NAME.false

shape : (c : In-Atom) → shape_of c.args.self.now c.args.atom ≡ AtomNode (bytes c)
shape c =
    shape_of-read c.args.self.now c.args.atom c.index.result.now (Atom c.in-Atom.from c.in-Atom.len) c.requires.arena
    (inside c) c.index.ensures c.in-Atom.is

pub returns-then-len-most-clause-longer : goal.returns-then-len-most-clause-longer
returns-then-len-most-clause-longer c =
    let read = (goal.at.returns-then-len-most-clause-longer c).In-Atom in
    let long : length (bytes read) ≡ c.in-Atom.len =
    name_length c.args.self.now c.args.atom c.index.result.now c.in-Atom.from c.in-Atom.len c.requires.arena
    (inside read) c.index.ensures c.in-Atom.is in
    (bytes read, shape read, omega (arith, long, c.if-len-most.true))

pub returns-clause-name : goal.returns-clause-name
returns-clause-name c =
    let read = (goal.at.returns-clause-name c).In-Atom in
    let len : (c.in-Atom.from + c.in-Atom.len) - c.in-Atom.from ≡ c.in-Atom.len = omega arith in
    shape read
    ∙ ap AtomNode (sym (c.in_ok-new.ensures ∙ ap₂ (λ n text. take n (drop c.in-Atom.from text)) len c.deref.ensures.value))
