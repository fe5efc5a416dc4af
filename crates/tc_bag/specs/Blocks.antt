-- Codes and ages in blocks.
use Rattle.std.specs.Prelude.{ℕ, ◌≡◌, ◌/◌, ◌%◌, ◌<◌, ◌≤◌}
use Rattle.std.specs.BTreeMap.{get}
use Rattle.std.specs.Int.{bit_at}
use Rattle.std.specs.Option.{unwrap_or}
use Rattle.std.specs.Ordering.{nat_cmp}
use Rattle.tc_bag.specs.declared.by_block.ByBlock.{ByBlock}
use Rattle.tc_bag.specs.declared.by_block.TheConstants.{BLOCK}
use Rattle.tc_bag.specs.declared.by_code.TheConstants.{FAR}
use Rattle.tc_bag.specs.Pairs.{HasPair}
use Rattle.tc_bag.specs.Words.{word}

-- the mask of the block with a word: 0 where there is none
abbrev pub mask_at : ByBlock → ℕ → ℕ
mask_at ages w = unwrap_or (get nat_cmp ages.masks w) 0

-- the age has a bit in the block of its code
abbrev pub HasBit : ByBlock → ℕ → ℕ → Type 0
HasBit ages code age = bit_at (mask_at ages (word code (age / BLOCK))) (age % BLOCK) ≡ 1

-- the age is there by this code: by its bit, or in a pair where its block has no word
abbrev pub HasAgeByBlock : ByBlock → ℕ → ℕ → Type 0
HasAgeByBlock ages code age =
    (age / BLOCK < FAR → HasBit ages code age) × (FAR ≤ age / BLOCK → HasPair ages.far code age)
