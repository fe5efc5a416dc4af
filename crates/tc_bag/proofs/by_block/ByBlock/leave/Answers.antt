use Rattle.std.proofs.Common.{rules, ℕ, ◌-◌, ◌/◌, ◌%◌, ◌^◌, ◌<◌, ap, sym, subst, refl, ◌∙◌, bit_and}
use Rattle.std.specs.Int.{bit_at}
use Rattle.std.specs.Option.{IsSome}
use Rattle.tc_bag.specs.Pairs.{HasPair}
use Rattle.tc_bag.specs.Words.{word}
use Rattle.tc_bag.proofs.Masks.{clear_keeps}
use Rattle.tc_bag.proofs.by_block.ByBlock.leave.Goals as goal

pub returns-then-mask-eq0 : goal.returns-then-mask-eq0
returns-then-mask-eq0 c =
    let mask = c.in-Some.mask.now in
    let m : ℕ = bit_and mask (65535 - c.bit.result) in
    let some = subst IsSome c.in-Some.ensures.value refl in
    let writes = ((c.get_mut.follows.holds m).3 some).0 in
    let fits : c.bit.result < 2 ^ 16 = search rules in record {
      kept = λ d a other has. (
        λ near. ap (λ x. bit_at x (a % 16)) (c.note_emptied.ensures.kept (word d (a / 16)))
            ∙ clear_keeps c.args.self.now.masks (c.get_mut.follows.lender m) c.args.code c.args.age c.word-word.result mask c.bit.result
            c.word-word.ensures c.bit.ensures c.in-Some.ensures.value writes fits c.if-age-ge-FAR.false d a other near (has.0 near),
        λ far. subst (λ p. HasPair p d a) (sym c.note_emptied.ensures.far) (has.1 far),
      );
    }

pub returns-else-mask-eq0 : goal.returns-else-mask-eq0
returns-else-mask-eq0 c =
    let mask = c.in-Some.mask.now in
    let m : ℕ = bit_and mask (65535 - c.bit.result) in
    let some = subst IsSome c.in-Some.ensures.value refl in
    let writes = ((c.get_mut.follows.holds m).3 some).0 in
    let fits : c.bit.result < 2 ^ 16 = search rules in record {
      kept = λ d a other has. (
        λ near. clear_keeps c.args.self.now.masks (c.get_mut.follows.lender m) c.args.code c.args.age c.word-word.result mask c.bit.result
            c.word-word.ensures c.bit.ensures c.in-Some.ensures.value writes fits c.if-age-ge-FAR.false d a other near (has.0 near),
        λ far. has.1 far,
      );
    }
