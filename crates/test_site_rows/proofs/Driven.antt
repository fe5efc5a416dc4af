-- The agents once they were driven.
use Rattle.std.proofs.Common.{◌≡◌, ◌∙◌, ℕ, ◌+◌, ◌*◌, List, Option, Some, All, length, sym, subst, arith}
use Rattle.std.specs.List.{slice_get}
use Rattle.tc_config.specs.declared.configs.AgentConf.{AgentConf}
use Rattle.tc_lists.proofs.Elements.{All-slice_get, All-from_slice_get}
use Rattle.tc_lists.proofs.Zips.{AllZip-slice_get}
use Rattle.tc_model.specs.declared.asks.Primitive.{Primitive}
use Rattle.tc_sched.specs.Clients.{Client}
use Rattle.tc_sched.specs.Steps.{AllWent, ArePlaced, IsReady, Went, left_in}
use Rattle.tc_site.specs.Desks.{AgentState, IsDecidedLog, desk_of}
use Rattle.tc_site.specs.Sites.{SiteState}
use Rattle.tc_workers.specs.Crews.{AreAtDesks, CanDrive}
use Rattle.tc_workers.proofs.Driven.{ready}

module _ {W : Type 0} (permits : W → ℕ → ℕ → Primitive → Option ℕ) (s : SiteState W) (agents : List AgentConf)
    (olds news : List (Client (AgentState W))) (can : CanDrive s agents) (at : AreAtDesks permits s agents olds)
    (went : AllWent {B = SiteState W × ℕ} desk_of (λ (d : AgentState W). (d.site, d.agent)) (λ (d : AgentState W). IsDecidedLog permits d.site d.agent d.log)
    (3 * left_in desk_of olds + 2) olds news) where
  ready-at : (k : ℕ) (e : Client (AgentState W)) → slice_get news k ≡ Some e → IsReady desk_of 1 s.names e
  ready-at k e here =
      let c = AllZip-slice_get (Went {B = SiteState W × ℕ} desk_of (λ (d : AgentState W). (d.site, d.agent)) (λ (d : AgentState W). IsDecidedLog permits d.site d.agent d.log) (3 * left_in desk_of olds + 2)) olds news k e went here in
      let was = at.each k c.0 c.1 in
      let old = All-slice_get (IsReady desk_of (3 * left_in desk_of olds + 2) s.names) olds k c.0 (ready permits s agents olds can at) c.1 in
      record {
        free = c.2.kept.free;
        names = c.2.kept.names ∙ old.names;
        placed = subst (ArePlaced (length s.names)) (sym c.2.scripts) old.placed;
        turns_left = λ j within.
            let all = was.new.turns_are j within in
            let some = old.turns_left j within in
            let most = c.2.spent.most j in
            omega (arith, all, some, most);
      }

  -- each can make a step more
  pub ready-again : All (IsReady desk_of 1 s.names) news
  ready-again = All-from_slice_get (IsReady desk_of 1 s.names) news ready-at
