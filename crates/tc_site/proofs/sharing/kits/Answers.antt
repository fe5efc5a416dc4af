use Rattle.std.proofs.Common.{◌≡◌, ◌+◌, ◌<◌, [], ◌∷◌, ◌++◌, Some, length, sym, ap, ◌∙◌, refl, subst, arith}
use Rattle.std.specs.List.{slice_get}
use Rattle.std.proofs.lemmas.List.{length-append, length_push}
use Rattle.tc_site.specs.Sites.{KitState, SiteState, AreFresh}
use Rattle.tc_site.proofs.Dealt.{fresh-next, kits-more}
use Rattle.tc_lists.proofs.Parts.{append_onward}
use Rattle.tc_site.proofs.sharing.kits.Goals as goal

pub invariant_of-push : goal.invariant_of-push
invariant_of-push g c =
    let before = c.loop-passes.invariant in
    let s = c.args.site.now in
    let so_far = c.loop-passes.yielded in
    let passes = c.in-Some.passes in
    let next = c.next.new.self.rest.items in
    let step = c.in-Some.ensures.steps.0 in
    let count : c.len-agent.result ≡ length so_far = c.len-agent.ensures ∙ c.loop-passes.kits.ok.0 ∙ before.many in
    let long : length c.args.columns.items ≡ length so_far + 1 + length next =
    ap length (append_onward c.args.columns.items so_far c.loop-passes.passes-iterator.rest.items passes next before.from step)
    ∙ length-append (so_far ++ passes ∷ []) next ∙ ap (λ n. n + length next) (length_push so_far passes) in
    let below : length so_far < length s.roles = let whole = c.requires.whole in omega (arith, long, whole) in
    subst (λ (t : SiteState g.row.W.Denot). (c.len-agent.result < length t.roles) × AreFresh c.len-agent.result t.centres passes.items) (sym c.of.ensures)
    (subst (λ n. (n < length s.roles) × AreFresh n s.centres passes.items) (sym count)
    (below, fresh-next s.centres c.args.columns.items so_far c.loop-passes.passes-iterator.rest.items next passes before.from step c.requires.fresh))

pub loop-passes-preserved : goal.loop-passes-preserved
loop-passes-preserved g c =
    let before = c.loop-passes.invariant in
    let so_far = c.loop-passes.yielded in
    let passes = c.in-Some.passes in
    let next = c.next.new.self.rest.items in
    let kits = c.loop-passes.kits.items in
    let kit : KitState g.row.W.Denot = record { site = c.of.result.value; agent = c.len-agent.result } in
    let pushed : c.push.new.self.items ≡ kits ++ kit ∷ [] = c.in_ok-push.ensures.items in
    record {
      from = append_onward c.args.columns.items so_far c.loop-passes.passes-iterator.rest.items passes next before.from c.in-Some.ensures.steps.0;
      many = ap length pushed ∙ length_push kits kit ∙ ap (λ n. n + 1) before.many ∙ sym (length_push so_far passes);
      are = λ k x at.
          kits-more c.args.site.now kits kit (length kits) refl before.are c.of.ensures (c.len-agent.ensures ∙ c.loop-passes.kits.ok.0) k x
          (subst (λ ks. slice_get ks k ≡ Some x) pushed at);
    }
