use Rattle.std.proofs.Common.{◌≡◌, [], ◌∷◌, ◌++◌, All, Vec, length, take, drop, sym, ap, ◌∙◌, subst}
use Rattle.std.specs.Global.{Global}
use Rattle.std.proofs.lemmas.List.{length-map}
use Rattle.std.proofs.lemmas.List.Elements.{All-head, All-tail}
use Rattle.tc_lists.proofs.Parts.{take-append_all}
use Rattle.tc_centre.specs.Centre.{Centre}
use Rattle.tc_model.specs.State.{Origin}
use Rattle.tc_model.specs.declared.entries.Entry.{Entry}
use Rattle.tc_turn.specs.Passes.{PassState}
use Rattle.tc_site.specs.Columns.{AreDealt, AreOpened, columns_of}
use Rattle.tc_site.specs.Sites.{TURNS}
use Rattle.tc_site.proofs.Dealt.{AreOpened-more, length-new_passes}
use Rattle.tc_site.proofs.sharing.open_all.Goals as goal

pub deal-requires : goal.deal-requires
deal-requires c =
    let x = c.in-Some.core in
    let count : length x.origin.agents ≡ c.args.agents =
    All-head (λ (y : Centre). length y.origin.agents ≡ c.args.agents) x c.next.new.self.rest.items
    (subst (All (λ (y : Centre). length y.origin.agents ≡ c.args.agents)) c.in-Some.ensures.steps.0 c.loop-core.invariant.agents_are) in
    let made = c.in_ok-centre.ensures.passes in
    ap length made ∙ length-new_passes c.in_ok-centre.centre x.origin TURNS 0 (length x.origin.agents) ∙ count
    ∙ sym c.loop-core.invariant.opened.whole
    ∙ length-map c.loop-core.columns.items (λ (v : Vec (PassState Entry Origin) Global). v.items)
    ∙ sym (ap length c.deref_mut.ensures.value)

pub loop-core-preserved : goal.loop-core-preserved
loop-core-preserved c =
    let before = c.loop-core.invariant in
    let x = c.in-Some.core in
    let t = c.in_ok-centre.centre in
    let next = c.next.new.self.rest.items in
    let step = c.in-Some.ensures.steps.0 in
    let vecs = c.loop-core.columns.items in
    let news = c.deal.new.columns in
    let counts = subst (All (λ (y : Centre). length y.origin.agents ≡ c.args.agents)) step before.agents_are in
    let dealt : AreDealt (columns_of vecs) c.in_ok-centre.passes.items (columns_of news) =
    subst (λ vs. AreDealt (columns_of vs) c.in_ok-centre.passes.items (columns_of news)) c.deref_mut.ensures.value c.in_ok-deal.ensures in
    let many : length news ≡ length vecs =
    sym (length-map news (λ (v : Vec (PassState Entry Origin) Global). v.items)) ∙ dealt.whole
    ∙ length-map vecs (λ (v : Vec (PassState Entry Origin) Global). v.items) in
    let back : take c.loop-core.columns.len (news ++ drop (length news) vecs) ≡ news =
    take-append_all news vecs c.loop-core.columns.len many c.loop-core.columns.ok.0 in
    record {
      opened = subst (λ vs. AreOpened c.args.agents (c.loop-core.yielded ++ x ∷ []) c.push.new.self.items (columns_of vs)) (sym back)
          (subst (λ ts. AreOpened c.args.agents (c.loop-core.yielded ++ x ∷ []) ts (columns_of news)) (sym c.in_ok-push.ensures.items)
          (AreOpened-more c.args.agents c.loop-core.yielded c.loop-core.centres.items (columns_of vecs) (columns_of news) x t c.in_ok-centre.passes.items
          before.opened (All-head (λ (y : Centre). length y.origin.agents ≡ c.args.agents) x next counts) c.in_ok-centre.ensures.centre
          c.in_ok-centre.ensures.passes c.in_ok-centre.ensures.fresh dealt));
      unserved = All-tail (λ (y : Centre). y.history ≡ []) x next (subst (All (λ (y : Centre). y.history ≡ [])) step before.unserved);
      agents_are = All-tail (λ (y : Centre). length y.origin.agents ≡ c.args.agents) x next counts;
    }
