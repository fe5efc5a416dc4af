use Rattle.std.proofs.Common.{◌≡◌, ◌<◌, ◌≤◌, ◌+◌, ℕ, Some, length, slice_get, refl, sym, subst, ap, ◌∙◌, ⊎_elim, arith}
use Rattle.std.proofs.lemmas.Bool.{cases_lt, false≢true}
use Rattle.std.proofs.lemmas.Option.{same_Some, slice_get_read}
use Rattle.tc_histline.specs.declared.lines.TextRow.{TextRow}
use Rattle.tc_rows.specs.ServedRows.{IsServedRow}
use Rattle.tc_rows.proofs.Serving.{all-served, unserved-end, unserved-row}
use Rattle.tc_rows.proofs.Sounding.{index-made}
use Rattle.tc_rows.proofs.served_rows.first_unserved.Goals as goal

pub returns-then-not-may_stand-clause-unserved : goal.returns-then-not-may_stand-clause-unserved
returns-then-not-may_stand-clause-unserved c = λ a ata.
    let rows = c.args.rows.now in
    let i = c.loop-place.place in
    let x = c.index-rows-place.result in
    let at = slice_get_read rows (length rows) i x refl (omega arith) c.index-rows-place.is in
    unserved-row c.args.version c.args.config.now c.args.histories.now c.args.agent a rows i x (i + 1) refl at
    (λ is. false≢true (sym c.if-not-may_stand.true ∙ (c.may_stand.ensures a ata).1 is))
    (λ j r below here. c.loop-place.invariant.before a j r ata below here)

pub loop-place-preserved : goal.loop-place-preserved
loop-place-preserved c =
    let rows = c.args.rows.now in
    let i = c.loop-place.place in
    let x = c.index-rows-place.result in
    let at : slice_get rows i ≡ Some x = slice_get_read rows (length rows) i x refl (omega arith) c.index-rows-place.is in
    record {
      last = c.last_with-last.ensures rows x at refl c.loop-place.invariant.last;
      before = λ a k r ata below here.
          ⊎_elim (λ (less : k < i). c.loop-place.invariant.before a k r ata less here)
          (λ (from : i ≤ k).
          let same : i ≡ k = omega (arith, below, from) in
          let is : x ≡ r = same_Some x r (sym at ∙ (ap (slice_get rows) same ∙ here)) in
          subst (λ (z : TextRow). IsServedRow c.args.version c.args.config.now c.args.histories.now c.args.agent a rows k z) is
          (subst (λ n. IsServedRow c.args.version c.args.config.now c.args.histories.now c.args.agent a rows n x) same
          ((c.may_stand.ensures a ata).0 c.if-not-may_stand.false)))
          (cases_lt k i);
    }

pub have_rows-requires-clause-made : goal.have_rows-requires-clause-made
have_rows-requires-clause-made c =
    index-made c.args.config.now c.args.histories.now c.args.index.now c.requires.quiet c.requires.index

pub returns-then-have_rows-clause-served : goal.returns-then-have_rows-clause-served
returns-then-have_rows-clause-served c = λ a ata.
    all-served c.args.version c.args.config.now c.args.histories.now c.args.agent a c.args.rows.now
    (c.have_rows.ensures.0 c.if-have_rows.true)
    (λ j r below here. c.loop-place.invariant.before a j r ata (omega (arith, below)) here)

pub returns-else-have_rows-clause-unserved : goal.returns-else-have_rows-clause-unserved
returns-else-have_rows-clause-unserved c = λ a ata.
    unserved-end c.args.version c.args.config.now c.args.histories.now c.args.agent a c.args.rows.now
    (λ have. false≢true (sym c.if-have_rows.false ∙ c.have_rows.ensures.1 have))
    (λ j r below here. c.loop-place.invariant.before a j r ata (omega (arith, below)) here)
