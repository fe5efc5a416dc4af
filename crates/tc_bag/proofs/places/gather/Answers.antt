use Rattle.std.proofs.Common.{◌≡◌, All, Contains, filter, ap, sym, subst, ◌∙◌, rules}
use Rattle.std.proofs.lemmas.Fn.{filter_same}
use Rattle.std.proofs.lemmas.List.Elements.{filter_passes, All-filter, All-contains_itself}
use Rattle.tc_bag.specs.Places.{slots_of, AgesRise, EndsFilled}
use Rattle.tc_bag.proofs.Gaps.{is_filled, slots-together, rise-filter, ends-all}
use Rattle.tc_bag.proofs.places.gather.Goals as goal

pub returns : goal.returns
returns c =
    let ps = c.args.places.now.items in
    let left : c.retain.new.self.items ≡ filter is_filled ps = filter_same _ _ _ (λ x b f' k. search rules) _ _ c.retain.ensures.filtered in
    record {
      slots = λ rows. ap (slots_of rows) left ∙ slots-together rows ps;
      rise = subst AgesRise (sym left) (rise-filter is_filled ps c.requires);
      within = subst (All (Contains ps)) (sym left) (All-filter is_filled (Contains ps) ps (All-contains_itself ps));
      ends = subst EndsFilled (sym left) (ends-all (filter is_filled ps) (filter_passes is_filled ps));
    }
