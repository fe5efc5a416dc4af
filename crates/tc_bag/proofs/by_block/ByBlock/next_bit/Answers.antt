use Rattle.std.proofs.Common.{rules, ℕ, ◌≡◌, ◌/◌, ◌%◌, ◌^◌, ◌<◌, inl, inr, ap, sym, ◌∙◌, arith, w16}
use Rattle.std.proofs.lemmas.Bool.{cases_lt}
use Rattle.std.specs.Int.{trailing_zeros}
use Rattle.tc_bag.specs.Blocks.{mask_at}
use Rattle.tc_bag.specs.Words.{word}
use Rattle.tc_bag.proofs.Bits.{later_within}
use Rattle.tc_bag.proofs.Masks.{IfSome-weaker, IfNone-weaker, none_left, none_first}
use Rattle.tc_bag.proofs.by_block.ByBlock.next_bit.Goals as goal

pub returns-then-later-eq0-clause-found : goal.returns-then-later-eq0-clause-found
returns-then-later-eq0-clause-found c =
    let from = c.args.from in
    let masks : ℕ → ℕ = λ b. mask_at c.args.self.now (word c.args.code b) in
    let at : masks (from / 16) ≡ c.mask.result = sym (c.mask.ensures ∙ ap (mask_at c.args.self.now) c.word.ensures) in
    IfSome-weaker _ _ c.next_behind.result (λ age h. (
      omega (arith, h.0),
      λ a up below has. elim (cases_lt (from / 16) (a / 16)) [
        | inl behind ↦ h.1 a behind below has
        | inr within ↦ absurd (omega (
          arith,
          has,
          none_left masks c.mask.result from a at c.if-later-eq0.true up (omega (arith, up, within)),
        ))
      ],
    )) c.next_behind.ensures.found

pub returns-then-later-eq0-clause-none : goal.returns-then-later-eq0-clause-none
returns-then-later-eq0-clause-none c =
    let from = c.args.from in
    let masks : ℕ → ℕ = λ b. mask_at c.args.self.now (word c.args.code b) in
    let at : masks (from / 16) ≡ c.mask.result = sym (c.mask.ensures ∙ ap (mask_at c.args.self.now) c.word.ensures) in
    IfNone-weaker _ _ c.next_behind.result (λ h a up near has. elim (cases_lt (from / 16) (a / 16)) [
      | inl behind ↦ h a behind near has
      | inr within ↦ absurd (omega (
        arith,
        has,
        none_left masks c.mask.result from a at c.if-later-eq0.true up (omega (arith, up, within)),
      ))
    ]) c.next_behind.ensures.none

pub returns-else-later-eq0-clause-near : goal.returns-else-later-eq0-clause-near
returns-else-later-eq0-clause-near c =
    let from = c.args.from in
    let mask = c.mask.result in
    let fits : mask < 2 ^ 16 = search rules in
    let near : from / 16 < 4294967296 = search rules in
    let zeros : c.from.result ≡ trailing_zeros w16 (mask / 2 ^ (from % 16)) = c.from.ensures in
    omega (arith, near, zeros, later_within mask (from % 16) fits c.if-later-eq0.false)

pub returns-else-later-eq0-clause-found : goal.returns-else-later-eq0-clause-found
returns-else-later-eq0-clause-found c =
    let from = c.args.from in
    let mask = c.mask.result in
    let masks : ℕ → ℕ = λ b. mask_at c.args.self.now (word c.args.code b) in
    let at : masks (from / 16) ≡ mask = sym (c.mask.ensures ∙ ap (mask_at c.args.self.now) c.word.ensures) in
    let fits : mask < 2 ^ 16 = search rules in
    let zeros : c.from.result ≡ trailing_zeros w16 (mask / 2 ^ (from % 16)) = c.from.ensures in (
      omega arith,
      λ a up below has. absurd (omega (
        arith,
        has,
        none_first masks mask from a at fits c.if-later-eq0.false up (omega (arith, below, zeros)),
      )),
    )
