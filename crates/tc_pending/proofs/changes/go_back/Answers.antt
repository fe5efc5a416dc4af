use Rattle.std.proofs.Common.{◌≤◌, ◌∷◌, [], length, drop, ap, subst, sym, ◌∙◌, length-append, arith}
use Rattle.tc_pending.specs.Changes.{rewound, rewound_serials, Fits, AllFit}
use Rattle.tc_pending.proofs.Log.{Fits-last, AllFit-last, rewound-last, take-last, length-earlier}
use Rattle.tc_pending.proofs.Filed.{rewound_serials-last}
use Rattle.tc_pending.proofs.changes.go_back.Goals as goal

pub take_back-requires-clause-fits : goal.take_back-requires-clause-fits
take_back-requires-clause-fits c =
    Fits-last c.loop-changes.changes.items c.pop.new.self.items c.in-Some.change c.loop-changes.requests.items
    c.in-Some.ensures.items c.loop-changes.invariant.0.fit

pub take_back-requires-clause-each : goal.take_back-requires-clause-each
take_back-requires-clause-each c =
    omega (arith, c.loop-changes.invariant.0.each, c.loop-changes.serials.ok.0, c.loop-changes.requests.ok.0)

pub take_back-requires-clause-serials_room : goal.take_back-requires-clause-serials_room
take_back-requires-clause-serials_room c =
    omega (
      arith,
      c.requires.serials_room,
      c.requires.each,
      c.loop-changes.invariant.0.each,
      c.loop-changes.invariant.0.fewer,
      c.loop-changes.invariant.3,
      ap length c.in-Some.ensures.items,
      length-append c.pop.new.self.items (c.in-Some.change ∷ []),
      c.loop-changes.serials.ok.0,
      c.loop-changes.requests.ok.0,
      c.args.serials.now.ok.0,
      c.args.requests.now.ok.0,
      c.args.changes.now.ok.0,
    )

pub loop-changes-preserved-in-Some : goal.loop-changes-preserved-in-Some
loop-changes-preserved-in-Some c =
    let requests = c.loop-changes.requests.items in
    let changes = c.loop-changes.changes.items in
    let front = c.pop.new.self.items in
    let change = c.in-Some.change in
    let on_way = c.loop-changes.invariant.0 in
    let last = c.in-Some.ensures.items in
    let is = c.take_back.ensures.earlier in
    let above : c.args.count ≤ length front = omega (arith, ap length last, length-append front (change ∷ [])) in
    let fits : Fits change requests = Fits-last changes front change requests last on_way.fit in
    let step = rewound-last c.args.count changes front change requests last above in
    let kept = take-last c.args.count changes front change requests last above in (
      record {
        fit = subst (AllFit front) (sym is) (AllFit-last changes front change requests last on_way.fit);
        requests_left = ap (rewound (drop c.args.count front)) is ∙ sym step ∙ on_way.requests_left;
        serials_left =
            ap (rewound_serials (drop c.args.count front)) c.take_back.ensures.serials
            ∙ sym (rewound_serials-last c.args.count changes front change c.loop-changes.serials.items last above)
            ∙ on_way.serials_left;
        each = omega (arith, c.take_back.ensures.each, c.take_back.new.serials.ok.0, c.take_back.new.requests.ok.0);
        changes_left = sym kept ∙ on_way.changes_left;
        fewer = omega (arith, ap length is, length-earlier change requests fits, ap length last, length-append front (change ∷ []), on_way.fewer);
      },
      c.take_back.ensures.codes,
      omega arith,
      omega arith,
      omega arith,
      omega arith,
    )
