-- The agents before they are driven, and afterwards.
use Rattle.std.proofs.Common.{◌≡◌, ◌∙◌, ℕ, suc, ◌+◌, ◌-◌, ◌*◌, ◌≤◌, true, if◌then◌else◌, List, [], ◌∷◌, Option, Some, All, length, map, sum_by, refl, sym, ap, subst, arith, length-append}
use Rattle.std.specs.List.{slice_get}
use Rattle.std.proofs.lemmas.List.{length-map}
use Rattle.std.proofs.lemmas.List.Sums.{sum_by-cons}
use Rattle.std.proofs.lemmas.Option.{same_Some}
use Rattle.tc_config.specs.Configurations.{items_of}
use Rattle.tc_config.specs.declared.configs.AgentConf.{AgentConf}
use Rattle.tc_desk.specs.Asks.{ScriptStep, steps_at, steps_from, steps_of}
use Rattle.tc_desk.specs.Logs.{any_pending}
use Rattle.tc_desk.specs.declared.rows.LogRow.{LogRow}
use Rattle.tc_lists.proofs.Elements.{All-slice_get, All-from_slice_get}
use Rattle.tc_lists.proofs.Parts.{cons_head, cons_tail}
use Rattle.tc_model.specs.Scripts.{Lines}
use Rattle.tc_model.specs.declared.asks.Primitive.{Primitive}
use Rattle.tc_model.specs.declared.scripts.ScriptItem.{ScriptItem}
use Rattle.tc_lists.proofs.Sets.{slice_get-map_at, slice_get-map_from}
use Rattle.tc_lists.proofs.Zips.{AllZip-slice_get}
use Rattle.tc_sched.specs.Clients.{Client, IsOfScripts}
use Rattle.tc_sched.specs.Steps.{AllWent, ArePlaced, IsReady, Went, left_in, left_of}
use Rattle.tc_site.specs.Desks.{AgentState, IsDecidedLog, desk_of}
use Rattle.tc_site.specs.Sites.{EndedDeskState, SiteState, TURNS}
use Rattle.tc_workers.specs.Crews.{AreAtDesks, AreLeft, CanDrive, HasRows, IsLeft, ended_of}
use Rattle.tc_workers.proofs.Seating.{scripts_in, scripts_of}

-- the items of scripts, counted
items-counted : (place : ℕ) (scripts : List Lines) → length (steps_from place scripts) ≡ sum_by (λ (s : Lines). length s.items) scripts
items-counted place [] = refl
items-counted place (s ∷ ss) =
    let make : ScriptItem → ScriptStep = λ i. record { script = place; vars = s.vars; item = i } in
    let rest = items-counted (place + 1) ss in
    let front = length-map s.items make in
    let both = length-append (steps_at place s) (steps_from (place + 1) ss) in
    omega (arith, rest, front, both, sum_by-cons (λ (t : Lines). length t.items) s ss)

module _ {W : Type 0} (permits : W → ℕ → ℕ → Primitive → Option ℕ) (s : SiteState W) where
  abbrev Member : Type 0
  Member = Client (AgentState W)

  abbrev bond_of : AgentState W → SiteState W × ℕ
  bond_of d = (d.site, d.agent)

  abbrev IsSoundDesk : AgentState W → Type 0
  IsSoundDesk d = IsDecidedLog permits d.site d.agent d.log

  abbrev WentAll : ℕ → List Member → List Member → Type 0
  WentAll turns olds news = AllWent desk_of bond_of IsSoundDesk turns olds news

  abbrev WentOne : ℕ → Member → Member → Type 0
  WentOne turns c e = Went desk_of bond_of IsSoundDesk turns c e

  -- so often agents may move that have made no call
  left-fresh : (agents : List AgentConf) (crew : List Member) → map scripts_of crew ≡ map scripts_in agents
      → ((k : ℕ) (c : Member) → slice_get crew k ≡ Some c → c.desk.log ≡ []) → left_in desk_of crew ≡ 2 * sum_by items_of agents
  left-fresh [] [] same fresh = refl
  left-fresh [] (c ∷ crew) same fresh = absurd (cc)
  left-fresh (a ∷ agents) [] same fresh = absurd (cc)
  left-fresh (a ∷ agents) (c ∷ crew) same fresh =
      let rest = left-fresh agents crew (cons_tail same) (λ k x at. fresh (suc k) x at) in
      let none : c.desk.log ≡ [] = fresh 0 c refl in
      let here : left_of desk_of c ≡ 2 * (length (steps_of c.scripts) - 0) + 0 =
      ap (λ (log : List LogRow). 2 * (length (steps_of c.scripts) - length log) + (if any_pending log then 1 else 0)) none in
      let mine : length (steps_of c.scripts) ≡ items_of a = ap (λ ss. length (steps_of ss)) (cons_head same) ∙ items-counted 0 a.scripts in
      omega (arith, rest, here, mine, sum_by-cons (left_of desk_of) c crew, sum_by-cons items_of a agents)

  module _ (agents : List AgentConf) (olds : List Member) (can : CanDrive s agents) (at : AreAtDesks permits s agents olds) where
    fresh-at : (k : ℕ) (c : Member) → slice_get olds k ≡ Some c → c.desk.log ≡ []
    fresh-at k c here = (at.each k c here).new.log_is

    placed-at : (k : ℕ) (c : Member) → slice_get olds k ≡ Some c → ArePlaced (length s.names) c.scripts
    placed-at k c here =
        let same : slice_get (map scripts_in agents) k ≡ Some c.scripts = ap (λ ss. slice_get ss k) (sym at.scripts) ∙ slice_get-map_at scripts_of olds k c here in
        let a = slice_get-map_from scripts_in agents k c.scripts same in
        subst (ArePlaced (length s.names)) a.2
        (All-slice_get (λ (b : AgentConf). ArePlaced (length s.names) b.scripts) agents k a.0 can.placed a.1)

    ready-at : (turns : ℕ) → turns ≤ TURNS → (k : ℕ) (c : Member) → slice_get olds k ≡ Some c → IsReady desk_of turns s.names c
    ready-at turns few k c here =
        let new = (at.each k c here).new in
        record {
          free = new.is_free;
          names = new.names_are;
          placed = placed-at k c here;
          turns_left = λ j within. let all = new.turns_are j within in omega (arith, all, few);
        }

    -- each agent can make its steps, with turns for all of them
    pub ready : All (IsReady desk_of (3 * left_in desk_of olds + 2) s.names) olds
    ready =
        let left = left-fresh agents olds at.scripts fresh-at in
        let few = can.few_items in
        All-from_slice_get (IsReady desk_of (3 * left_in desk_of olds + 2) s.names) olds
        (ready-at (3 * left_in desk_of olds + 2) (omega (arith, left, few)))

  -- after they were driven
  module _ (agents : List AgentConf) (olds news : List Member) (turns : ℕ) (can : CanDrive s agents)
      (at : AreAtDesks permits s agents olds) (went : WentAll turns olds news) where
    went-at : (k : ℕ) (e : Member) → slice_get news k ≡ Some e → (c : Member) × (slice_get olds k ≡ Some c) × WentOne turns c e
    went-at k e here = AllZip-slice_get (WentOne turns) olds news k e went here

    scripts-kept : (cs es : List Member) → WentAll turns cs es → map scripts_of es ≡ map scripts_of cs
    scripts-kept [] [] zip = refl
    scripts-kept [] (e ∷ es) zip = absurd zip
    scripts-kept (c ∷ cs) [] zip = absurd zip
    scripts-kept (c ∷ cs) (e ∷ es) zip = ap (λ x. x ∷ map scripts_of es) zip.0.scripts ∙ ap (λ xs. c.scripts ∷ xs) (scripts-kept cs es zip.1)

    same-scripts : map scripts_of news ≡ map scripts_in agents
    same-scripts = scripts-kept olds news went ∙ at.scripts

    pub driven-whole : length agents ≡ length news
    driven-whole =
        let count = ap length same-scripts in
        omega (arith, count, length-map news scripts_of, length-map agents scripts_in)

    pub driven-free : All (λ (e : Member). (desk_of e.desk).free ≡ true) news
    driven-free =
        All-from_slice_get (λ (e : Member). (desk_of e.desk).free ≡ true) news
        (λ k e here. let c = went-at k e here in c.2.kept.free)

    of-site : (k : ℕ) (e : Member) → slice_get news k ≡ Some e → (e.desk.site ≡ s) × (e.desk.agent ≡ k)
    of-site k e here =
        let c = went-at k e here in
        let was = at.each k c.0 c.1 in
        (ap (λ (b : SiteState W × ℕ). b.0) c.2.bound ∙ was.site, ap (λ (b : SiteState W × ℕ). b.1) c.2.bound ∙ was.agent)

    left-at : (k : ℕ) (a : AgentConf) (e : Member) → slice_get agents k ≡ Some a → slice_get news k ≡ Some e → HasRows e → IsLeft permits s k a (ended_of e)
    left-at k a e stands here has =
        let c = went-at k e here in
        let is = of-site k e here in
        let mine : e.scripts ≡ a.scripts =
        same_Some e.scripts a.scripts
        (sym (slice_get-map_at scripts_of news k e here) ∙ ap (λ xs. slice_get xs k) same-scripts ∙ slice_get-map_at scripts_in agents k a stands) in
        let sound : IsDecidedLog permits e.desk.site e.desk.agent e.desk.log = c.2.sound (at.each k c.0 c.1).sound in
        record {
          rows =
              subst (λ ns. IsOfScripts ns a.scripts e.desk.log) (ap (λ (t : SiteState W). t.names) is.0)
              (subst (λ ss. IsOfScripts e.desk.site.names ss e.desk.log) mine has);
          sound = subst (λ j. IsDecidedLog permits s j e.desk.log) is.1 (subst (λ t. IsDecidedLog permits t e.desk.agent e.desk.log) is.0 sound);
        }

    ended-at : (k : ℕ) (v : EndedDeskState W) → slice_get (map ended_of news) k ≡ Some v → (e : Member) × (slice_get news k ≡ Some e) × (ended_of e ≡ v)
    ended-at k v here = slice_get-map_from ended_of news k v here

    -- each agent's desk has ended with the rows of its scripts
    pub driven-left : All HasRows news → AreLeft permits s agents (map ended_of news)
    driven-left rows = record {
      are = record {
        whole =
            let roles = ap length can.roles_are in
            omega (arith, roles, length-map news ended_of, driven-whole, length-map agents (λ (a : AgentConf). a.role));
        each = λ k v here.
            let e = ended-at k v here in
            let is = of-site k e.0 e.1 in
            (ap (λ (x : EndedDeskState W). x.site) (sym e.2) ∙ is.0, ap (λ (x : EndedDeskState W). x.agent) (sym e.2) ∙ is.1);
      };
      each = λ k a v stands here.
          let e = ended-at k v here in
          subst (IsLeft permits s k a) e.2 (left-at k a e.0 stands e.1 (All-slice_get HasRows news k e.0 rows e.1));
    }
