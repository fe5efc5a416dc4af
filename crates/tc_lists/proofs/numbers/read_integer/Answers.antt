use Rattle.std.proofs.Common.{ℕ, ℤ, List, Option, Bor, sym, subst, option_map}
use Rattle.tc_lists.proofs.Options.{IfSome-seen, IfNone-seen}
use Rattle.tc_lists.proofs.Decimals.{IsIntegerRead, integer_at-read}
use Rattle.tc_lists.proofs.numbers.read_integer.Goals as goal

read : (c : goal.After-exact_integer) → IsIntegerRead c.args.bytes.now (option_map (λ (r : ℤ × Bor (List ℕ)). (r.0, r.1.now)) c.exact_integer.result)
read c = subst (λ (r : Option (ℤ × List ℕ)). IsIntegerRead c.args.bytes.now r) (sym c.exact_integer.ensures) (integer_at-read c.args.bytes.now)

pub returns-clause-found : goal.returns-clause-found
returns-clause-found c = IfSome-seen (λ (r : ℤ × Bor (List ℕ)). (r.0, r.1.now)) c.exact_integer.result _ _ (read c)

pub returns-clause-none : goal.returns-clause-none
returns-clause-none c = IfNone-seen (λ (r : ℤ × Bor (List ℕ)). (r.0, r.1.now)) c.exact_integer.result _ _ (read c)
