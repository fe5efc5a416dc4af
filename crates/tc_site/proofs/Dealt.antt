-- Passes that are dealt out to columns, and the site that comes of them.
use Rattle.std.proofs.Common.{◌≡◌, ℕ, zero, suc, ◌+◌, ◌<◌, ◌≤◌, List, [], ◌∷◌, ◌++◌, Some, All, Vec, length, map, refl, sym, ap, ◌∙◌, subst, arith, ⊎_elim}
use Rattle.std.specs.Global.{Global}
use Rattle.std.specs.List.{slice_get}
use Rattle.std.proofs.lemmas.List.{length-append, map_push}
use Rattle.std.proofs.lemmas.List.Elements.{All-push}
use Rattle.std.proofs.lemmas.Option.{none-some, same_Some}
use Rattle.tc_centre.specs.Centre.{Centre}
use Rattle.tc_lists.proofs.Elements.{All-slice_get}
use Rattle.tc_lists.proofs.Places.{slice_get_push, slice_get_seam}
use Rattle.tc_model.specs.State.{Origin}
use Rattle.tc_model.specs.declared.entries.Entry.{Entry}
use Rattle.tc_shared.specs.Passes.{IsFreshPassOf, IsPassOf}
use Rattle.tc_turn.specs.Passes.{TurnstileState, PassState, new_pass, new_passes}
use Rattle.tc_site.specs.Columns.{AreDealt, AreFreshColumns, AreOpened, columns_of}
use Rattle.tc_site.specs.Sites.{KitState, SiteState, AreFresh, HasPasses, IsOwnPass, TURNS}
use Rattle.tc_lists.proofs.Sets.{slice_get-as_long, slice_get-map_at}
use Rattle.tc_lists.proofs.Zips.{slice_get-push_both}
use Rattle.tc_lists.proofs.Parts.{append_onward}
use Rattle.tc_site.proofs.Sweeps.{Swept, swept-all}

-- the pass at a place of a new turnstile's
pub new-pass-at : (t : TurnstileState Origin) (origin : Origin) (turns k n agent : ℕ) (p : PassState Entry Origin)
    → slice_get (new_passes t.table origin turns k n) agent ≡ Some p → p ≡ new_pass t.table origin turns (k + agent)
new-pass-at t origin turns k zero agent p at = absurd (none-some p at)
new-pass-at t origin turns k (suc n) zero p at =
    let here : k ≡ k + 0 = omega arith in
    sym (same_Some (new_pass t.table origin turns k) p at) ∙ ap (λ j. new_pass t.table origin turns j) here
new-pass-at t origin turns k (suc n) (suc agent) p at =
    let here : k + 1 + agent ≡ k + suc agent = omega arith in
    new-pass-at t origin turns (k + 1) n agent p at ∙ ap (λ j. new_pass t.table origin turns j) here

-- a column of fresh passes, with the pass of one centre more
pub AreFresh-push : (agent : ℕ) (centres : List (TurnstileState Origin)) (column : List (PassState Entry Origin)) (t : TurnstileState Origin) (p : PassState Entry Origin)
    → AreFresh agent centres column → IsPassOf t p → p ≡ new_pass t.table t.origin TURNS agent
    → AreFresh agent (centres ++ t ∷ []) (column ++ p ∷ [])
AreFresh-push agent centres column t p fresh own is = record {
  are = record {
    wide = length-append column (p ∷ []) ∙ ap (λ n. n + 1) fresh.are.wide ∙ sym (length-append centres (t ∷ []));
    each = slice_get-push_both (IsOwnPass agent) centres column t p fresh.are.wide fresh.are.each
        (record { own = own; number = ap (λ (q : PassState Entry Origin). q.number) is });
  };
  fresh = slice_get-push_both (λ (s : TurnstileState Origin) (q : PassState Entry Origin). q ≡ new_pass s.table s.origin TURNS agent)
      centres column t p fresh.are.wide fresh.fresh is;
}

-- one centre more
pub AreOpened-more : (agents : ℕ) (cores : List Centre) (centres : List (TurnstileState Origin)) (olds news : List (List (PassState Entry Origin)))
    (x : Centre) (t : TurnstileState Origin) (passes : List (PassState Entry Origin))
    → AreOpened agents cores centres olds → length x.origin.agents ≡ agents → (t.origin ≡ x.origin) × (t.passes ≡ length x.origin.agents)
    → passes ≡ new_passes t.table x.origin TURNS 0 (length x.origin.agents) → All (IsFreshPassOf t) passes → AreDealt olds passes news
    → AreOpened agents (cores ++ x ∷ []) (centres ++ t ∷ []) news
AreOpened-more agents cores centres olds news x t passes opened count is made fresh dealt = record {
  origins = map_push (λ (s : TurnstileState Origin). s.origin) centres t
      ∙ ap (λ os. os ++ t.origin ∷ []) opened.origins
      ∙ ap (λ (o : Origin). map (λ (y : Centre). y.origin) cores ++ o ∷ []) is.0
      ∙ sym (map_push (λ (y : Centre). y.origin) cores x);
  passes = All-push (HasPasses agents) centres t opened.passes
      (record { passes = is.1 ∙ count; agents_are = ap (λ (o : Origin). length o.agents) is.0 ∙ count });
  whole = dealt.whole ∙ opened.whole;
  fresh = λ agent column at.
      let old = slice_get-as_long news olds agent column (sym dealt.whole) at in
      let got = dealt.each agent old.0 column old.1 at in
      let pass_is : got.0 ≡ new_pass t.table x.origin TURNS agent =
      new-pass-at t x.origin TURNS 0 (length x.origin.agents) agent got.0 (subst (λ ps. slice_get ps agent ≡ Some got.0) made got.1)
      ∙ ap (λ j. new_pass t.table x.origin TURNS j) (omega arith) in
      let own : IsFreshPassOf t got.0 = All-slice_get (IsFreshPassOf t) passes agent got.0 fresh got.1 in
      subst (λ c. AreFresh agent (centres ++ t ∷ []) c) (sym got.2)
      (AreFresh-push agent centres old.0 t got.0 (opened.fresh agent old.0 old.1) own.own
      (pass_is ∙ ap (λ (o : Origin). new_pass t.table o TURNS agent) (sym is.0)));
}

-- a column got the pass of its place
abbrev pub HasGot : List (PassState Entry Origin) → ℕ → List (PassState Entry Origin) → List (PassState Entry Origin) → Type 0
HasGot passes agent old new = (p : PassState Entry Origin) × (slice_get passes agent ≡ Some p) × (new ≡ old ++ p ∷ [])

-- so many passes are dealt out, and these are left
pub record IsDealing (passes left : List (PassState Entry Origin)) (index : ℕ) : Type 0 where
  pub dealt : List (PassState Entry Origin)
  pub whole : passes ≡ dealt ++ left
  pub count : length dealt ≡ index

pub dealing-more : (passes left next : List (PassState Entry Origin)) (p : PassState Entry Origin) (index : ℕ) → IsDealing passes left index → left ≡ p ∷ next
    → IsDealing passes next (index + 1)
dealing-more passes left next p index dealing is = record {
  dealt = dealing.dealt ++ p ∷ [];
  whole = append_onward passes dealing.dealt left p next dealing.whole is;
  count = length-append dealing.dealt (p ∷ []) ∙ ap (λ n. n + 1) dealing.count;
}

-- the next pass is that of this place
pub dealing-at : (passes left next : List (PassState Entry Origin)) (p : PassState Entry Origin) (index : ℕ) → IsDealing passes left index → left ≡ p ∷ next
    → slice_get passes index ≡ Some p
dealing-at passes left next p index dealing is =
    subst (λ n. slice_get passes n ≡ Some p) dealing.count
    (ap (λ ps. slice_get ps (length dealing.dealt)) (dealing.whole ∙ ap (λ ps. dealing.dealt ++ ps) is) ∙ slice_get_seam dealing.dealt p next)

pub AreDealt-all : (olds : List (List (PassState Entry Origin))) (passes : List (PassState Entry Origin)) (news : List (List (PassState Entry Origin))) (index : ℕ)
    → Swept (HasGot passes) olds news index → length olds ≤ index → AreDealt olds passes news
AreDealt-all olds passes news index swept past = record { whole = swept.whole; each = swept-all (HasGot passes) olds news index swept past }

pub length-new_passes : (t : TurnstileState Origin) (origin : Origin) (turns k n : ℕ) → length (new_passes {E = Entry} t.table origin turns k n) ≡ n
length-new_passes t origin turns k zero = refl
length-new_passes t origin turns k (suc n) = ap suc (length-new_passes t origin turns (k + 1) n)

-- the next column has fresh passes of the agent who is next
pub fresh-next : (centres : List (TurnstileState Origin)) (vecs so_far rest next : List (Vec (PassState Entry Origin) Global)) (v : Vec (PassState Entry Origin) Global)
    → vecs ≡ so_far ++ rest → rest ≡ v ∷ next → AreFreshColumns centres (columns_of vecs) → AreFresh (length so_far) centres v.items
fresh-next centres vecs so_far rest next v from is fresh =
    fresh (length so_far) v.items
    (slice_get-map_at (λ (w : Vec (PassState Entry Origin) Global). w.items) vecs (length so_far) v
    (ap (λ ws. slice_get ws (length so_far)) (from ∙ ap (λ ws. so_far ++ ws) is) ∙ slice_get_seam so_far v next))

-- a kit more, of the agent who is next
pub kits-more : {W : Type 0} (s : SiteState W) (kits : List (KitState W)) (kit : KitState W) (n : ℕ) → length kits ≡ n
    → ((k : ℕ) (x : KitState W) → slice_get kits k ≡ Some x → (x.site ≡ s) × (x.agent ≡ k)) → kit.site ≡ s → kit.agent ≡ n
    → (k : ℕ) (x : KitState W) → slice_get (kits ++ kit ∷ []) k ≡ Some x → (x.site ≡ s) × (x.agent ≡ k)
kits-more s kits kit n many are site agent k x at =
    ⊎_elim
    (λ (before : (k < length kits) × (slice_get kits k ≡ Some x)). are k x before.1)
    (λ (last : (k ≡ length kits) × (x ≡ kit)).
    (ap (λ (y : KitState _). y.site) last.1 ∙ site, ap (λ (y : KitState _). y.agent) last.1 ∙ agent ∙ sym many ∙ sym last.0))
    (slice_get_push kits kit k x at)
