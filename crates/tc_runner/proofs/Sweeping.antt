-- One step of each agent, in order.
use Rattle.std.proofs.Common.{◌≡◌, ℕ, ◌+◌, ◌<◌, ◌≤◌, Bool, true, false, List, Some, length, get_or, sym, ap, ◌∙◌, subst, arith, ⊎_elim}
use Rattle.std.proofs.Math.ListN.{set}
use Rattle.std.specs.List.{slice_get}
use Rattle.std.proofs.lemmas.Bool.{cases_eq}
use Rattle.std.proofs.lemmas.List.{length-set, set-get_or}
use Rattle.std.proofs.lemmas.Option.{same_Some, get_or_from_slice_get, slice_get-get_or, slice_get_within}
use Rattle.tc_centre.specs.Centre.{Centre}
use Rattle.tc_config.specs.Configurations.{Configuration}
use Rattle.tc_config.specs.Good.{Follows, IsEnded, IsGood}
use Rattle.tc_config.specs.declared.configs.AgentConf.{AgentConf}
use Rattle.tc_desk.specs.declared.rows.LogRow.{LogRow}
use Rattle.tc_model.specs.Choices.{TheFirst}
use Rattle.tc_model.specs.declared.entries.Entry.{Entry}
use Rattle.tc_runner.specs.Clients.{AreClients, IsClient, left_in}
use Rattle.tc_runner.specs.Cores.{Goes, histories}
use Rattle.tc_runner.specs.Steps.{GoesOn, Moves, ServesAt, Touches}
use Rattle.tc_runner.specs.declared.clients.Client.{Client}
use Rattle.tc_runner.proofs.Left.{left_in-set}
use Rattle.tc_runner.proofs.Cores.{Follows-other}
use Rattle.tc_lists.proofs.Sets.{slice_get-set_other, slice_get-set_same}

-- the agents below this one have ended
pub record EndedBelow (n : ℕ) (c : Configuration) (hs : List (List Entry)) (logs : List (List LogRow)) : Type 0 where
  pub each : (k : ℕ) (a : AgentConf) (log : List LogRow) → k < n → slice_get c.agents k ≡ Some a → slice_get logs k ≡ Some log → IsEnded hs k a log

-- a sweep up to an agent; it tells who has ended where it goes through all
pub record Sweeping (Whole : Type 0) (c : Configuration) (start : List (List LogRow)) (n : ℕ) (cores : List Centre) (logs : List (List LogRow))
    (clients : List Client) (moved : Bool) : Type 0 where
  pub goes : Goes c cores logs
  pub are : AreClients c.agents logs clients
  pub most : left_in c.agents logs ≤ left_in c.agents start
  pub less : moved ≡ true → left_in c.agents logs < left_in c.agents start
  pub ended : Whole → moved ≡ false → EndedBelow n c (histories c cores) logs

pub Sweeping-none : (Whole : Type 0) (c : Configuration) (cores : List Centre) (logs : List (List LogRow)) (clients : List Client) → Goes c cores logs
    → AreClients c.agents logs clients → Sweeping Whole c logs 0 cores logs clients false
Sweeping-none Whole c cores logs clients goes are = record {
  goes = goes;
  are = are;
  most = omega arith;
  less = λ moved. absurd (cc);
  ended = λ whole still. record { each = λ k a log below. absurd (omega (arith, below)) };
}

-- agents are passed over, where it doesn't go through all
pub Sweeping-skip : (Whole : Type 0) (c : Configuration) (start : List (List LogRow)) (n m : ℕ) (cores : List Centre) (logs : List (List LogRow))
    (clients : List Client) (moved : Bool) → Sweeping Whole c start n cores logs clients moved → (Whole → m ≡ n)
    → Sweeping Whole c start m cores logs clients moved
Sweeping-skip Whole c start n m cores logs clients moved so same = record {
  goes = so.goes;
  are = so.are;
  most = so.most;
  less = so.less;
  ended = λ whole still. subst (λ k. EndedBelow k c (histories c cores) logs) (sym (same whole)) (so.ended whole still);
}

-- an agent's part of a run that may go on
pub GoesOn-of : (c : Configuration) (cores : List Centre) (logs : List (List LogRow)) (k : ℕ) (a : AgentConf) (log : List LogRow) → Goes c cores logs
    → slice_get c.agents k ≡ Some a → slice_get logs k ≡ Some log → GoesOn c k a cores log
GoesOn-of c cores logs k a log goes stands at = record {
  stands = stands;
  are = goes.are;
  runs = goes.going.runs;
  follows = goes.going.follow.each k a log stands at;
}

module _ (c : Configuration) (cores : List Centre) (logs : List (List LogRow)) (k : ℕ) (a : AgentConf) (log : List LogRow)
    (stands : slice_get c.agents k ≡ Some a) (at : slice_get logs k ≡ Some log) (new : List Centre) (log' : List LogRow) where
  -- what follows for others
  others : Goes c cores logs → Touches k cores new → (j : ℕ) (b : AgentConf) (l : List LogRow) → (j ≡ k → ⊥)
      → Follows c (histories c cores) j b l → Follows c (histories c new) j b l
  others goes touches j b l apart follows =
      ⊎_elim
      (λ (same : new ≡ cores). subst (λ xs. Follows c (histories c xs) j b l) (sym same) follows)
      (λ (s : ServesAt k cores new).
      let within = slice_get_within c.agents k a stands in
      subst (λ xs. Follows c (histories c xs) j b l) (sym s.changed)
      (Follows-other c (omega (arith, within)) cores goes.are k s.number s.place s.before s.after s.stands s.served j b l
      (λ same. apart (sym same)) follows))
      touches

  -- the whole run goes on after the step of one agent
  pub Goes-step : Goes c cores logs → Touches k cores new → GoesOn c k a new log' → Goes c new (set logs k log')
  Goes-step goes touches on = record {
    are = on.are;
    going = record {
      runs = on.runs;
      follow = record {
        whole = length-set logs k log' ∙ goes.going.follow.whole;
        each = λ j b l who what.
            ⊎_elim
            (λ (here : j ≡ k).
            let same-agent : a ≡ b = same_Some a b (sym stands ∙ ap (slice_get c.agents) (sym here) ∙ who) in
            let same-log : log' ≡ l =
            same_Some log' l (sym (slice_get-set_same logs k log' log at) ∙ ap (slice_get (set logs k log')) (sym here) ∙ what) in
            subst (λ i. Follows c (histories c new) i b l) (sym here)
            (subst (λ x. Follows c (histories c new) k x l) same-agent (subst (Follows c (histories c new) k a) same-log on.follows)))
            (λ (apart : j ≡ k → ⊥).
            others goes touches j b l apart
            (goes.going.follow.each j b l who (sym (slice_get-set_other logs k j log' apart) ∙ what)))
            (cases_eq j k);
      };
    };
  }

  -- so do the clients
  pub AreClients-step : (clients : List Client) (client' : Client) → k < length clients → AreClients c.agents logs clients → IsClient k a.scripts log' client'
      → AreClients c.agents (set logs k log') (set clients k client')
  AreClients-step clients client' within are is = record {
    whole = length-set clients k client' ∙ are.whole;
    each = λ j b l client who what which.
        ⊎_elim
        (λ (here : j ≡ k).
        let same-agent : a ≡ b = same_Some a b (sym stands ∙ ap (slice_get c.agents) (sym here) ∙ who) in
        let same-log : log' ≡ l =
        same_Some log' l (sym (slice_get-set_same logs k log' log at) ∙ ap (slice_get (set logs k log')) (sym here) ∙ what) in
        let same-client : client' ≡ client =
        same_Some client' client (sym (slice_get-set_same clients k client' (get_or clients k client') (slice_get-get_or clients k client' within))
        ∙ ap (slice_get (set clients k client')) (sym here) ∙ which) in
        subst (λ i. IsClient i b.scripts l client) (sym here)
        (subst (λ (x : AgentConf). IsClient k x.scripts l client) same-agent
        (subst (λ x. IsClient k a.scripts x client) same-log (subst (IsClient k a.scripts log') same-client is))))
        (λ (apart : j ≡ k → ⊥).
        are.each j b l client who (sym (slice_get-set_other logs k j log' apart) ∙ what)
        (sym (slice_get-set_other clients k j client' apart) ∙ which))
        (cases_eq j k);
  }

  -- the step moved
  pub Sweeping-moved : (Whole : Type 0) (start : List (List LogRow)) (clients : List Client) (client' : Client) (moved : Bool) → k < length clients
      → Sweeping Whole c start k cores logs clients moved → Touches k cores new → GoesOn c k a new log' → IsClient k a.scripts log' client'
      → Moves c k a cores new log log' true → Sweeping Whole c start (k + 1) new (set logs k log') (set clients k client') true
  Sweeping-moved Whole start clients client' moved within so touches on is less =
      let fallen = left_in-set c.agents logs k a log log' stands at less in
      record {
        goes = Goes-step so.goes touches on;
        are = AreClients-step clients client' within so.are is;
        most = omega (arith, fallen, so.most);
        less = λ yes. omega (arith, fallen, so.most);
        ended = λ whole still. absurd (cc);
      }

  -- the step didn't move
  pub Sweeping-still : (Whole : Type 0) (start : List (List LogRow)) (clients : List Client) (client' : Client) (moved : Bool) → k < length clients
      → Sweeping Whole c start k cores logs clients moved → Touches k cores new → GoesOn c k a new log' → IsClient k a.scripts log' client'
      → Moves c k a cores new log log' false → Sweeping Whole c start (k + 1) new (set logs k log') (set clients k client') moved
  Sweeping-still Whole start clients client' moved within so touches on is still =
      let kept : set logs k log' ≡ logs = ap (set logs k) (still.1 ∙ sym (get_or_from_slice_get logs k log log at)) ∙ set-get_or logs k log in
      record {
        goes = Goes-step so.goes touches on;
        are = AreClients-step clients client' within so.are is;
        most = subst (λ ls. left_in c.agents ls ≤ left_in c.agents start) (sym kept) so.most;
        less = λ yes. subst (λ ls. left_in c.agents ls < left_in c.agents start) (sym kept) (so.less yes);
        ended = λ whole no. record {
          each = λ j b l below who what.
              ⊎_elim
              (λ (here : j ≡ k).
              let same-agent : a ≡ b = same_Some a b (sym stands ∙ ap (slice_get c.agents) (sym here) ∙ who) in
              let same-log : log' ≡ l =
              same_Some log' l (sym (slice_get-set_same logs k log' log at) ∙ ap (slice_get (set logs k log')) (sym here) ∙ what) in
              subst (λ i. IsEnded (histories c new) i b l) (sym here)
              (subst (λ x. IsEnded (histories c new) k x l) same-agent (subst (IsEnded (histories c new) k a) same-log still.2)))
              (λ (apart : j ≡ k → ⊥).
              subst (λ xs. IsEnded (histories c xs) j b l) (sym still.0)
              ((so.ended whole no).each j b l (omega (arith, below, apart)) who (ap (λ ls. slice_get ls j) (sym kept) ∙ what)))
              (cases_eq j k);
        };
      }

-- a sweep in which none has moved is the last
pub IsGood-still : (Whole : Type 0) (c : Configuration) (start logs : List (List LogRow)) (cores : List Centre) (clients : List Client) (n : ℕ) (moved : Bool) → length c.agents ≤ n
    → Sweeping Whole c start n cores logs clients moved → Whole → moved ≡ false → IsGood TheFirst c (histories c cores) logs
IsGood-still Whole c start logs cores clients n moved all so whole still = record {
  going = so.goes.going;
  ended = λ k a log who what.
      let within = slice_get_within c.agents k a who in (so.ended whole still).each k a log (omega (arith, within, all)) who what;
}
