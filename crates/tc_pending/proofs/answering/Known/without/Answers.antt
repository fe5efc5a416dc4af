use Rattle.std.proofs.Common.{◌-◌, refl, arith}
use Rattle.tc_pending.proofs.Next.{known-without}
use Rattle.tc_pending.proofs.answering.Known.without.Goals as goal

pub returns-then-place-self-clause-known : goal.returns-then-place-self-clause-known
returns-then-place-self-clause-known c begun rows left requests stay inside is =
    known-without c.args.self (record { requests = c.args.self.requests - 1; age = c.args.self.age }) c.args.place begun rows left requests
    refl (omega arith) (λ below. omega (arith, below)) stay inside is

pub returns-else-place-self-clause-known : goal.returns-else-place-self-clause-known
returns-else-place-self-clause-known c begun rows left requests stay inside is =
    known-without c.args.self c.args.self c.args.place begun rows left requests
    refl (omega arith) (λ below. absurd (omega (arith, below, c.if-place-self.false))) stay inside is
