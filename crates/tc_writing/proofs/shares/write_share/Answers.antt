use Rattle.std.proofs.Common.{◌≡◌, ◌∙◌, [], ◌++◌, Err, take, drop, ap, refl, sym, subst, rules, take-append-drop}
use Rattle.tc_io.specs.Flow.{HandsOn}
use Rattle.tc_writing.specs.Lines.{texts, whole}
use Rattle.tc_writing.proofs.Begun.{begun-amid, begun-last, begun-more, parted}
use Rattle.tc_writing.proofs.LineByLine.{printed}
use Rattle.tc_writing.proofs.shares.write_share.Goals as goal

pub returns-in_err-write_kept-2 : goal.returns-in_err-write_kept-2
returns-in_err-write_kept-2 g c =
    let told : c.from_residual-in_err-write_kept-2.result ≡ Err c.in_err-write_kept-2.field-0.0 = search rules in
    let ts = texts c.args.share in
    let lines = c.args.printed.lines in
    let text = whole (take lines ts) in
    let written = printed text _ _ _ _ c.write_kept-2.result
    (c.requires.printed.text ∙ ap (λ l. l ++ text) (sym c.in_ok-write_kept.ensures.empty)) c.write_kept-2.ensures.hands in
    begun-amid ts ts (take lines ts) (drop lines ts) _ _ _ c.write_kept-2.result
    (record { front = []; parted = refl; handed = subst (HandsOn [] _ _) c.in_ok-write_kept.was c.write_kept.ensures.hands })
    (sym (take-append-drop lines ts)) written
    c.from_residual-in_err-write_kept-2.result c.in_err-write_kept-2.field-0.0 c.in_err-write_kept-2.was told

pub returns : goal.returns
returns g c =
    let ts = texts c.args.share in
    let lines = c.args.printed.lines in
    let text = whole (take lines ts) in
    let rest = texts c.split_at.result.1 in
    let written = printed text _ _ _ _ c.write_kept-2.result
    (c.requires.printed.text ∙ ap (λ l. l ++ text) (sym c.in_ok-write_kept.ensures.empty)) c.write_kept-2.ensures.hands in
    begun-last ts rest _ _ _ c.write_lines.result
    (begun-more ts ts (take lines ts) rest _ _ _ c.write_kept-2.result
    (record { front = []; parted = refl; handed = subst (HandsOn [] _ _) c.in_ok-write_kept.was c.write_kept.ensures.hands })
    (parted ts (take lines ts) rest lines refl c.split_at.ensures.rest) written c.in_ok-write_kept-2.was)
    c.write_lines.ensures
