use Rattle.std.proofs.Common.{All, arith, subst}
use Rattle.std.proofs.lemmas.List.Elements.{All-tail}
use Rattle.tc_config.specs.Pieces.{ArePiecesOf}
use Rattle.tc_config.proofs.reading.add_wave.Goals as goal

pub loop-share-preserved : goal.loop-share-preserved
loop-share-preserved c =
    let text = c.args.text.now in record {
      progress = c.in_ok-add_share.ensures.progress;
      onward = omega (arith, c.loop-share.invariant.onward, c.in_ok-add_share.ensures.onward);
      shares = All-tail (λ share. ArePiecesOf text share.items) c.in-Some.share c.next.new.self.rest.items
          (subst (All (λ share. ArePiecesOf text share.items)) c.in-Some.ensures.steps.0 c.loop-share.invariant.shares);
    }
