use Rattle.std.proofs.Common.{ℕ, List, Option, Bor, sym, subst, option_map}
use Rattle.tc_lists.proofs.Options.{IfSome-seen, IfNone-seen}
use Rattle.tc_lists.proofs.Decimals.{IsNumberRead, number_at-read}
use Rattle.tc_lists.proofs.numbers.read_number.Goals as goal

read : (c : goal.After-exact_number) → IsNumberRead c.args.limit c.args.bytes.now (option_map (λ (r : ℕ × Bor (List ℕ)). (r.0, r.1.now)) c.exact_number.result)
read c = subst (λ (r : Option (ℕ × List ℕ)). IsNumberRead c.args.limit c.args.bytes.now r) (sym c.exact_number.ensures) (number_at-read c.args.limit c.args.bytes.now c.requires c.ranges.limit.fits)

pub returns-clause-found : goal.returns-clause-found
returns-clause-found c = IfSome-seen (λ (r : ℕ × Bor (List ℕ)). (r.0, r.1.now)) c.exact_number.result _ _ (read c)

pub returns-clause-none : goal.returns-clause-none
returns-clause-none c = IfNone-seen (λ (r : ℕ × Bor (List ℕ)). (r.0, r.1.now)) c.exact_number.result _ _ (read c)
