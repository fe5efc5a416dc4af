use Rattle.std.proofs.Common.{◌≡◌, ◌<◌, Some, length, get_or, ap, arith, sym, ◌∙◌, subst}
use Rattle.std.specs.List.{slice_get}
use Rattle.std.proofs.lemmas.Option.{slice_get-get_or}
use Rattle.tc_lists.proofs.Options.{IfSome-at}
use Rattle.tc_asks.specs.Bindings.{AreKnown}
use Rattle.tc_asks.specs.Places.{IsItemAt}
use Rattle.tc_asks.specs.Progress.{Progress}
use Rattle.tc_asks.proofs.Taken.{next_found, unpending}
use Rattle.tc_asks.proofs.asker.Asker.next_ask.Goals as goal

pub loop-self-preserved : goal.loop-self-preserved
loop-self-preserved c =
    let scripts = c.args.scripts.now in
    let log = c.args.log.now in
    let p = c.reach.new.self in
    let row = c.index-log-self.result in
    let rows : c.take_in.inside.rows ≡ p.rows = ap (λ (p : Progress). p.rows) c.take_in.view_is in
    let old : c.self.inside.rows ≡ c.loop-self.self.rows = ap (λ (p : Progress). p.rows) c.self.view_is in
    let within : p.rows < length log = omega (arith, c.loop-self-test.true, c.reach.ensures.rows, old) in
    let came : slice_get log p.rows ≡ Some row =
    slice_get-get_or log p.rows row within ∙ ap Some (sym (c.index-log-self.is ∙ ap (λ k. get_or log k row) rows)) in
    let at =
    IfSome-at (λ i. IsItemAt scripts p.script p.item i.now) c.in_ok-item.field-0 c.in-Some.item c.in-Some.is c.in_ok-item.ensures.item in
    c.in_ok-take_in.ensures.taken scripts log at came (unpending log p.rows row c.requires.settled came)
    (c.reach.ensures.taken log c.loop-self.invariant)

pub returns-clause-some : goal.returns-clause-some
returns-clause-some c =
    let scripts = c.args.scripts.now in
    let log = c.args.log.now in
    let p = c.reach-2.new.self in
    let old : c.self.inside.rows ≡ c.loop-self.self.rows = ap (λ (p : Progress). p.rows) c.self.view_is in
    let known : c.self-2.inside.bindings ≡ p.known = ap (λ (p : Progress). p.known) c.self-2.view_is in
    let at =
    IfSome-at (λ i. IsItemAt scripts p.script p.item i.now) c.in_ok-item-2.field-0 c.in-Some-2.item c.in-Some-2.is c.in_ok-item-2.ensures.item in
    next_found scripts log p c.in-Some-2.item.now c.in_ok-filled_ask.field-0 (c.reach-2.ensures.taken log c.loop-self.invariant)
    (omega (arith, c.loop-self-test.false, c.loop-self.invariant.rows, c.reach-2.ensures.rows, old)) at
    (λ vars es is. c.has_values.ensures vars es (subst (AreKnown vars es) (sym known) is))
    (λ vars es values is exact. c.in_ok-filled_ask.ensures vars es values (subst (AreKnown vars es) (sym known) is) exact)
