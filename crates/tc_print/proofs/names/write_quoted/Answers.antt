use Rattle.std.proofs.Common.{append-nil, append_assoc, codes, ap, sym, ◌∙◌, ◌++◌, slice_index_or, take}
use Rattle.std.proofs.lemmas.List.{flat_map_more, take_all, take_more}
use Rattle.std.specs.List.{flat_map}
use Rattle.tc_term.specs.Text.{quoted_byte}
use Rattle.tc_print.proofs.names.write_quoted.Goals as goal

pub loop-byte-init : goal.loop-byte-init
loop-byte-init c = c.in_ok-push.ensures.items ∙ sym (append-nil (c.args.into.now.items ++ codes "'"))

pub loop-byte-preserved : goal.loop-byte-preserved
loop-byte-preserved c =
    let bytes = c.args.bytes.now in
    let opened = c.args.into.now.items ++ codes "'" in
    let byte = slice_index_or bytes c.loop-byte.byte-index 0 in
    c.in_ok-append_quoted_byte.ensures.appended ∙ ap (λ text. text ++ quoted_byte byte) c.loop-byte.invariant
    ∙ flat_map_more quoted_byte opened (take c.loop-byte.byte-index bytes) byte
    ∙ ap (λ first. opened ++ flat_map quoted_byte first) (sym (take_more bytes c.loop-byte.byte-index 0 c.loop-byte-test.true))

pub returns-in_err-append_quoted_byte-clause-kept : goal.returns-in_err-append_quoted_byte-clause-kept
returns-in_err-append_quoted_byte-clause-kept c =
    let old = c.args.into.now.items in
    let text = flat_map quoted_byte (take c.loop-byte.byte-index c.args.bytes.now) in
    (codes "'" ++ text, sym (c.in_err-append_quoted_byte.ensures.same ∙ c.loop-byte.invariant ∙ append_assoc old (codes "'") text))

pub returns-in_err-push-2-clause-kept : goal.returns-in_err-push-2-clause-kept
returns-in_err-push-2-clause-kept c =
    let old = c.args.into.now.items in
    let text = flat_map quoted_byte (take c.loop-byte.byte-index c.args.bytes.now) in
    (codes "'" ++ text, sym (c.in_err-push-2.ensures.items ∙ c.loop-byte.invariant ∙ append_assoc old (codes "'") text))

pub returns-clause-appended : goal.returns-clause-appended
returns-clause-appended c =
    let bytes = c.args.bytes.now in
    let old = c.args.into.now.items in
    let opened = old ++ codes "'" in
    let all = take_all c.loop-byte.byte-index bytes c.loop-byte-test.false in
    c.in_ok-push-2.ensures.items
    ∙ ap (λ text. text ++ codes "'") (c.loop-byte.invariant ∙ ap (λ first. opened ++ flat_map quoted_byte first) all)
    ∙ append_assoc opened (flat_map quoted_byte bytes) (codes "'")
    ∙ append_assoc old (codes "'") (flat_map quoted_byte bytes ++ codes "'")

pub returns-clause-kept : goal.returns-clause-kept
returns-clause-kept c =
    let old = c.args.into.now.items in
    let text = flat_map quoted_byte (take c.loop-byte.byte-index c.args.bytes.now) in (
      codes "'" ++ text ++ codes "'",
      sym (c.in_ok-push-2.ensures.items ∙ ap (λ l. l ++ codes "'") (c.loop-byte.invariant ∙ append_assoc old (codes "'") text)
          ∙ append_assoc old (codes "'" ++ text) (codes "'")),
    )
