use Rattle.std.proofs.Common.{ap, sym, ◌∙◌, rules}
use Rattle.std.specs.List.{insert}
use Rattle.tc_pending.specs.Codes.{codes_of}
use Rattle.tc_pending.proofs.Coded.{codes-insert}
use Rattle.tc_pending.proofs.changes.take_back.Goals as goal

pub returns-in-Removed-clause-codes : goal.returns-in-Removed-clause-codes
returns-in-Removed-clause-codes c =
    c.put_back.ensures.items
    ∙ ap (λ cs. insert cs c.in-Removed.place c.request_code-code.result) c.requires.codes
    ∙ ap (insert (codes_of c.args.requests.now.items) c.in-Removed.place) c.request_code-code.ensures
    ∙ codes-insert c.args.requests.now.items c.in-Removed.place c.in-Removed.request
    ∙ ap codes_of (sym (search (rules, c.insert.ensures.items)))
