use Rattle.std.proofs.Common.{ℕ, ◌%◌, ◌/◌, subst, refl, arith, bit_or}
use Rattle.std.specs.Option.{IsSome}
use Rattle.tc_bag.specs.Words.{word}
use Rattle.tc_bag.proofs.Masks.{entered, set_keeps}
use Rattle.tc_bag.proofs.by_block.ByBlock.enter.Goals as goal

pub returns-in-Some-clause-entered : goal.returns-in-Some-clause-entered
returns-in-Some-clause-entered c =
    let mask = c.in-Some.mask.now in
    let m : ℕ = bit_or mask c.bit.result in
    let some = subst IsSome c.in-Some.ensures.value refl in
    let writes = ((c.get_mut.follows.holds m).3 some).0 in (
      λ near. entered c.args.self.now.masks (c.get_mut.follows.lender m) c.args.code c.args.age c.word-word.result mask c.bit.result
          c.word-word.ensures c.bit.ensures c.in-Some.ensures.value writes,
      λ far. absurd (omega (arith, far, c.if-age-ge-FAR.false)),
    )

pub returns-in-Some-clause-kept : goal.returns-in-Some-clause-kept
returns-in-Some-clause-kept c = λ d a has.
    let mask = c.in-Some.mask.now in
    let m : ℕ = bit_or mask c.bit.result in
    let some = subst IsSome c.in-Some.ensures.value refl in
    let writes = ((c.get_mut.follows.holds m).3 some).0 in (
      λ near. set_keeps c.args.self.now.masks (c.get_mut.follows.lender m) c.args.code c.args.age c.word-word.result mask c.bit.result
          c.word-word.ensures c.bit.ensures c.in-Some.ensures.value writes (word d (a / 16)) (a % 16) (has.0 near),
      λ far. has.1 far,
    )
