use Rattle.tc_bag.proofs.ByAge.{map-revived, map-not_revived}
use Rattle.std.proofs.Common.{◌≡◌, All, subst, ◌∙◌, arith}
use Rattle.tc_bag.specs.Slots.{Slot}
use Rattle.tc_bag.proofs.held.Held.revive.Goals as goal

pub returns-then-taken-n : goal.returns-then-taken-n
returns-then-taken-n c =
    c.set_there.ensures ∙ map-revived c.args.age c.args.n c.taken.result c.args.self.now c.if-taken-n.true (subst (All (λ (s : Slot). s.age ≡ c.args.age → s.taken ≡ c.taken.result)) c.self.view_is c.taken.ensures)

pub returns-else-taken-n : goal.returns-else-taken-n
returns-else-taken-n c =
    map-not_revived c.args.age c.args.n c.taken.result c.args.self.now (λ more. absurd (omega (arith, more, c.if-taken-n.false))) (subst (All (λ (s : Slot). s.age ≡ c.args.age → s.taken ≡ c.taken.result)) c.self.view_is c.taken.ensures)
