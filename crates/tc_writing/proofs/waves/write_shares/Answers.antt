use Rattle.std.proofs.Common.{◌≡◌, ◌∙◌, Err, ap, min, subst, sym, rules}
use Rattle.tc_writing.specs.Lines.{ArePrinted, texts}
use Rattle.tc_writing.proofs.Begun.{begun-amid, begun-more, begun-none, begun-whole, parted}
use Rattle.tc_writing.proofs.ByShare.{behind_share, none_printed}
use Rattle.tc_writing.proofs.waves.write_shares.Goals as goal

pub loop-printed-init : goal.loop-printed-init
loop-printed-init g c = record {
  named = c.requires.named;
  printed = subst (ArePrinted c.args.size (texts c.args.wave)) (sym c.into_iter-printed-iterator.ensures.into_iter_gives.0) c.requires.shares;
  begun = begun-none (texts c.args.wave) _;
}

pub loop-printed-preserved : goal.loop-printed-preserved
loop-printed-preserved g c =
    let rest = texts c.loop-printed.rest in
    let share = texts c.split_at.result.0 in
    let behind = texts c.split_at.result.1 in
    let these = subst (ArePrinted c.args.size rest) c.in-Some.ensures.steps.0 c.loop-printed.invariant.printed in
    record {
      named = c.split_at.ensures.rest_named;
      printed = subst (λ ts. ArePrinted c.args.size ts c.next.new.self.rest.items)
          (sym (c.split_at.ensures.rest ∙ behind_share c.args.size c.min.result rest (c.min.ensures ∙ ap (min c.args.size) c.len.ensures))) these.1;
      begun = begun-more (texts c.args.wave) rest share behind _ _ _ c.write_share.result c.loop-printed.invariant.begun
          (parted rest share behind _ c.split_at.ensures.first c.split_at.ensures.rest) c.write_share.ensures c.in_ok-write_share.was;
    }

pub returns-in_err-write_share : goal.returns-in_err-write_share
returns-in_err-write_share g c =
    let rest = texts c.loop-printed.rest in
    let share = texts c.split_at.result.0 in
    let behind = texts c.split_at.result.1 in
    let told : c.from_residual.result ≡ Err c.in_err-write_share.field-0.0 = search rules in
    begun-amid (texts c.args.wave) rest share behind _ _ _ c.write_share.result c.loop-printed.invariant.begun
    (parted rest share behind _ c.split_at.ensures.first c.split_at.ensures.rest) c.write_share.ensures
    c.from_residual.result c.in_err-write_share.field-0.0 c.in_err-write_share.was told

pub returns : goal.returns
returns g c =
    let rest = texts c.loop-printed.rest in
    let left = c.loop-printed.printed-iterator.rest in
    begun-whole (texts c.args.wave) rest _ _
    (none_printed c.args.size left.items rest (sym left.ok.0 ∙ c.in-None.ensures.steps.0) c.loop-printed.invariant.printed)
    c.loop-printed.invariant.begun
