use Rattle.std.proofs.Common.{sym, ap, ◌∙◌, subst, arith, take, drop, All}
use Rattle.std.proofs.lemmas.List.Elements.{All-weaker}
use Rattle.tc_unify.specs.Tables.{link_of, rewound, HasNode}
use Rattle.tc_lists.proofs.Elements.{All-drop_popped}
use Rattle.tc_lists.proofs.Parts.{length-popped, take-popped}
use Rattle.tc_unify.proofs.Tables.{HasNode-same, rewound-popped}
use Rattle.tc_unify.proofs.links.Links.rewind.Goals as goal

pub set-requires : goal.set-requires
set-requires c = (All-drop_popped (HasNode c.loop-self.self) c.loop-self.self.trail.items c.pop.new.self.items c.in-Some.node c.args.len c.in-Some.ensures.items (length-popped c.loop-self.self.trail.items c.pop.new.self.items c.in-Some.node c.args.len c.loop-self.self.trail.len c.in-Some.ensures.items c.loop-self.self.trail.ok.0 (omega arith)) c.loop-self.invariant.places).1

pub loop-self-preserved-in-Some : goal.loop-self-preserved-in-Some
loop-self-preserved-in-Some c =
    let trail = c.set.ensures.trail in
    record {
      places =
          subst (λ ns. All (HasNode c.set.new.self) (drop c.args.len ns)) (sym trail)
          (All-weaker (HasNode c.loop-self.self) (HasNode c.set.new.self) (HasNode-same c.loop-self.self c.set.new.self c.set.ensures.terms c.set.ensures.variables) (drop c.args.len c.pop.new.self.items)
          (All-drop_popped (HasNode c.loop-self.self) c.loop-self.self.trail.items c.pop.new.self.items c.in-Some.node c.args.len c.in-Some.ensures.items (length-popped c.loop-self.self.trail.items c.pop.new.self.items c.in-Some.node c.args.len c.loop-self.self.trail.len c.in-Some.ensures.items c.loop-self.self.trail.ok.0 (omega arith)) c.loop-self.invariant.places).0);
      link = λ k.
          ap (λ ns. rewound (link_of c.set.new.self) (drop c.args.len ns) k) trail
          ∙ rewound-popped (link_of c.loop-self.self) (link_of c.set.new.self) c.loop-self.self.trail.items c.pop.new.self.items c.in-Some.node c.args.len c.in-Some.ensures.items (length-popped c.loop-self.self.trail.items c.pop.new.self.items c.in-Some.node c.args.len c.loop-self.self.trail.len c.in-Some.ensures.items c.loop-self.self.trail.ok.0 (omega arith)) c.set.ensures.link k
          ∙ c.loop-self.invariant.link k;
      trail = ap (take c.args.len) trail ∙ take-popped c.loop-self.self.trail.items c.pop.new.self.items c.in-Some.node c.args.len c.in-Some.ensures.items (length-popped c.loop-self.self.trail.items c.pop.new.self.items c.in-Some.node c.args.len c.loop-self.self.trail.len c.in-Some.ensures.items c.loop-self.self.trail.ok.0 (omega arith)) ∙ c.loop-self.invariant.trail;
      terms = c.set.ensures.terms ∙ c.loop-self.invariant.terms;
      variables = c.set.ensures.variables ∙ c.loop-self.invariant.variables;
    }
