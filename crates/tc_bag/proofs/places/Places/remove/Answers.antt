use Rattle.std.proofs.Common.{filter, ap, ◌∙◌, arith}
use Rattle.tc_bag.specs.Slots.{is_not_of}
use Rattle.tc_bag.proofs.Kept.{rise-cleared, had_tuple, one_fewer, slots-removed, kept-removed}
use Rattle.tc_bag.proofs.places.Places.remove.Goals as goal

pub overflow_sub-self : goal.overflow_sub-self
overflow_sub-self c =
    let own = c.self.inside in
    omega (
      arith,
      c.self.invariant.count,
      one_fewer own.rows c.args.age c.in_ok-row.row own.places.items c.clear.new.places.items own.filled c.in_ok-row.ensures.cleared c.self.invariant,
    )

pub settle-requires : goal.settle-requires
settle-requires c =
    let own = c.self.inside in
    rise-cleared own.rows c.args.age c.in_ok-row.row own.places.items c.clear.new.places.items own.filled c.in_ok-row.ensures.cleared c.self.invariant

pub remove-requires : goal.remove-requires
remove-requires c =
    let own = c.self.inside in
    had_tuple own.rows c.args.age c.in_ok-row.row own.places.items c.clear.new.places.items own.filled c.in_ok-row.ensures.cleared c.self.invariant

pub invariant_of-self-2 : goal.invariant_of-self-2
invariant_of-self-2 c =
    let own = c.self.inside in
    let left = c.settle.ensures in
    kept-removed own.rows c.args.age c.in_ok-row.row own.places.items c.clear.new.places.items own.filled c.in_ok-row.ensures.cleared c.self.invariant
    c.remove.new.self c.settle.new.places.items c.remove.ensures.gone left.slots left.rise left.ends left.within

pub returns : goal.returns
returns c =
    let own = c.self.inside in
    let left = c.settle.ensures in
    slots-removed own.rows c.args.age c.in_ok-row.row own.places.items c.clear.new.places.items own.filled c.in_ok-row.ensures.cleared c.self.invariant
    c.remove.new.self c.settle.new.places.items c.remove.ensures.gone left.slots left.rise left.ends left.within
    ∙ ap (filter (is_not_of c.args.age)) c.self.view_is
