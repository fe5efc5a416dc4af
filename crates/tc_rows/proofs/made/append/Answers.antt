use Rattle.std.proofs.Common.{◌≡◌, ◌++◌, ◌∷◌, [], sym, ap, ◌∙◌}
use Rattle.std.proofs.Math.ListN.{set}
use Rattle.std.proofs.lemmas.List.{get_or-map, map-set}
use Rattle.tc_rows.specs.Made.{lists_of, made_by}
use Rattle.tc_rows.proofs.made.append.Goals as goal

pub returns-clause-noted : goal.returns-clause-noted
returns-clause-noted c =
    let all = c.args.makers.now.items in
    let agent = c.args.id.agent in
    let made = c.index_mut-made.result.now in
    let there : made_by (lists_of all) agent ≡ made.items =
    get_or-map (λ v. v.items) all agent made [] c.requires ∙ ap (λ v. v.items) (sym c.index_mut-made.ensures.value) in
    map-set (λ v. v.items) all agent c.push.new.self
    ∙ ap (λ made. set (lists_of all) agent made)
    (c.in_ok-push.ensures.items ∙ ap (λ made. made ++ record { number = c.args.id.number; place = c.args.place } ∷ []) (sym there))
