use Rattle.std.proofs.Common.{rules, ◌≡◌, ◌+◌, ◌/◌, ◌^◌, ◌<◌, ◌≤◌, ◌∙◌, arith, w16}
use Rattle.std.specs.Int.{trailing_zeros}
use Rattle.tc_bag.specs.Blocks.{mask_at}
use Rattle.tc_bag.specs.Words.{word, short_code}
use Rattle.tc_bag.proofs.Masks.{first_from, first_there, none_before, none_between}
use Rattle.tc_bag.proofs.by_block.ByBlock.+next_behind.Goals as goal

-- the block that is found stands behind the one that is given
pub next_behind-requires : goal.next_behind-requires
next_behind-requires t c =
    let map = c.args.self.now.masks in
    let after = c.in_ok-after.after in
    let found = c.in_ok-found.found.now in
    let split = c.in_ok-found.ensures.steps in
    let range = c.range.ensures.in_range tt in
    let short : found / 4294967296 ≡ short_code c.args.code = c.if-found-short_code.false ∙ c.short_code.ensures.short in
    let above : after ≡ word c.args.code c.args.block + 1 = search rules in
    let start : after ≤ found = first_from map after c.range.result c.next.new.self (found, c.in_ok-found.mask.now) split range in (
      omega (arith, short, above, start, c.requires, c.decreases),
      omega arith,
    )

pub returns-clause-found : goal.returns-clause-found
returns-clause-found t c =
    let map = c.args.self.now.masks in
    let after = c.in_ok-after.after in
    let found = c.in_ok-found.found.now in
    let mask = c.in_ok-found.mask.now in
    let split = c.in_ok-found.ensures.steps in
    let range = c.range.ensures.in_range tt in
    let short : found / 4294967296 ≡ short_code c.args.code = c.if-found-short_code.false ∙ c.short_code.ensures.short in
    let above : after ≡ word c.args.code c.args.block + 1 = search rules in
    let fits : mask < 2 ^ 16 = search rules in
    let zeros : c.from.result ≡ trailing_zeros w16 mask = c.from.ensures in
    let start : after ≤ found = first_from map after c.range.result c.next.new.self (found, mask) split range in (
      omega (arith, short, above, start, c.requires),
      λ a behind below has. absurd (omega (
        arith,
        has,
        none_between (mask_at c.args.self.now) (short_code c.args.code) c.args.block found mask a
            (first_there map after c.range.result c.next.new.self (found, mask) split range) fits short
            (λ w up less. none_before map after c.range.result c.next.new.self (found, mask) split range w (omega (arith, above, up)) less)
            behind (omega (arith, below, zeros)),
      )),
    )
