use Rattle.std.proofs.Common.{arith, subst}
use Rattle.std.proofs.lemmas.List.Elements.{All-tail}
use Rattle.tc_config.specs.Pieces.{ArePiecesOf, IsPieceOf}
use Rattle.tc_config.proofs.reading.add_share.Goals as goal

pub loop-piece-preserved : goal.loop-piece-preserved
loop-piece-preserved c =
    let text = c.args.text.now in record {
      progress = c.in_ok-add_due.ensures.progress;
      onward = omega (arith, c.loop-piece.invariant.onward, c.in_ok-add_due.ensures.onward);
      pieces = All-tail (IsPieceOf text) c.in-Some.piece c.next.new.self.rest.items
          (subst (ArePiecesOf text) c.in-Some.ensures.steps.0 c.loop-piece.invariant.pieces);
    }
