-- How a seat stands after its session has gone on.
use Rattle.std.proofs.Common.{◌≡◌, ◌∙◌, ◌&&◌, ℕ, Bool, true, false, IsTrue, List, [], Option, Some, None, IfSome, IsSomeAnd, refl, sym, ap, subst}
use Rattle.tc_desk.specs.Desks.{DeskState}
use Rattle.tc_io.specs.Links.{connection_of}
use Rattle.tc_io.specs.Sinks.{sink_of}
use Rattle.tc_io.specs.Sources.{source_of}
use Rattle.tc_model.specs.declared.asks.Primitive.{Primitive}
use Rattle.tc_policy.specs.declared.grants.Grant.{Grant}
use Rattle.tc_session.specs.SoFar.{IsOver, Moment, moment}
use Rattle.tc_session.specs.Underway.{GoesOn, IsUnderway, Sitting}
use Rattle.tc_session.specs.declared.endings.SessionEnd.{SessionEnd}
use Rattle.tc_session.specs.declared.going.Step.{Step}
use Rattle.tc_session.specs.declared.going.Step.TheVariants.{Answered, Over, Paused, Read}
use Rattle.tc_site.specs.Desks.{AgentState, IsDecidedLog, IsNewDesk, desk_of}
use Rattle.tc_site.specs.Sites.{EndedDeskState, KitState, SiteState}
use Rattle.tc_visits.specs.Seats.{IsLeft, IsSeat, IsSitting}
use Rattle.tc_visits.specs.declared.seats.Left.{Left}

-- what two hold, each does
both-left : (a b : Bool) → IsTrue (a && b) → IsTrue a
both-left true b both = refl
both-left false b both = both

both-right : (a b : Bool) → IsTrue (a && b) → IsTrue b
both-right true b both = both
both-right false b both = cc

-- the desk is the same agent's
abbrev pub SameBond : AgentState (List Grant) → AgentState (List Grant) → Type 0
SameBond d e = ◌≡◌ {A = SiteState (List Grant) × ℕ} (e.site, e.agent) (d.site, d.agent)

module _ {L : Type 0} (left : L → Option (List ℕ)) (read_faults : L → ℕ) (read_sure : L → Bool)
    (taken : L → Option (List ℕ)) (write_faults : L → ℕ) (write_sure : L → Bool)
    (permits : List Grant → ℕ → ℕ → Primitive → Option ℕ) (kit : KitState (List Grant)) (opened : L)
    (s t : Sitting (AgentState (List Grant)) L) (sits : IsSitting left read_faults read_sure taken write_faults write_sure permits kit opened s)
    (bond : SameBond s.desk t.desk)
    (sound : IsDecidedLog permits s.desk.site s.desk.agent s.desk.log → IsDecidedLog permits t.desk.site t.desk.agent t.desk.log) where
  same-site : t.desk.site ≡ kit.site
  same-site = ap (λ (p : SiteState (List Grant) × ℕ). p.0) bond ∙ sits.site

  same-agent : t.desk.agent ≡ kit.agent
  same-agent = ap (λ (p : SiteState (List Grant) × ℕ). p.1) bond ∙ sits.agent

  -- a session that goes on
  pub sits-on : ((from : Moment) → IsUnderway desk_of left read_faults read_sure taken write_faults write_sure from s
      → IsUnderway desk_of left read_faults read_sure taken write_faults write_sure from t)
      → IsSitting left read_faults read_sure taken write_faults write_sure permits kit opened t
  sits-on on = record {
    desk = sits.desk;
    new = sits.new;
    underway = on _ sits.underway;
    site = same-site;
    agent = same-agent;
    decided = sound sits.decided;
  }

  -- and one that is over
  pub is-left : (e : EndedDeskState (List Grant)) (end : SessionEnd)
      → ((from : Moment) → IsUnderway desk_of left read_faults read_sure taken write_faults write_sure from s
      → GoesOn desk_of left read_faults read_sure taken write_faults write_sure from (Over end) t)
      → e ≡ record { site = t.desk.site; agent = t.desk.agent; log = t.desk.log }
      → IsLeft permits kit (connection_of left read_sure write_sure opened) e end
  is-left e end over is =
      let from : Moment = moment left read_faults read_sure taken write_faults write_sure opened [] [] sits.desk in
      let o : IsOver from end (source_of left read_faults read_sure t.link) (sink_of taken write_faults write_sure t.link) (desk_of t.desk) =
      over from sits.underway in
      subst (λ (d : EndedDeskState (List Grant)). IsLeft permits kit (connection_of left read_sure write_sure opened) d end) (sym is)
      (record {
        kit_is = λ i. record { site = same-site i; agent = same-agent i };
        visit = record {
          decided = sound sits.decided;
          session = record {
            desk = sits.desk;
            new = subst (λ (site : SiteState (List Grant)). IsNewDesk site.names sits.desk) (sym same-site) sits.new;
            after = desk_of t.desk;
            log_is = refl;
            session = record {
              source = from.source;
              source_after = source_of left read_faults read_sure t.link;
              sink = from.sink;
              sink_after = sink_of taken write_faults write_sure t.link;
              left = refl;
              session = o.session;
              read_sure = λ sure. o.read_sure (both-left (read_sure opened) (write_sure opened) sure);
              write_sure = λ sure. o.write_sure (both-right (read_sure opened) (write_sure opened) sure);
            };
          };
        };
      })

-- a session that goes on with the same desk
module _ {L : Type 0} (left : L → Option (List ℕ)) (read_faults : L → ℕ) (read_sure : L → Bool)
    (taken : L → Option (List ℕ)) (write_faults : L → ℕ) (write_sure : L → Bool)
    (permits : List Grant → ℕ → ℕ → Primitive → Option ℕ) (kit : KitState (List Grant)) (opened : L) where
  pub sits-same : (s t : Sitting (AgentState (List Grant)) L)
      → IsSitting left read_faults read_sure taken write_faults write_sure permits kit opened s → t.desk ≡ s.desk
      → ((from : Moment) → IsUnderway desk_of left read_faults read_sure taken write_faults write_sure from s
      → IsUnderway desk_of left read_faults read_sure taken write_faults write_sure from t)
      → IsSitting left read_faults read_sure taken write_faults write_sure permits kit opened t
  sits-same s t sits same =
      sits-on left read_faults read_sure taken write_faults write_sure permits kit opened s t sits
      (ap (λ (d : AgentState (List Grant)). (d.site, d.agent)) same)
      (subst (λ (d : AgentState (List Grant)). IsDecidedLog permits d.site d.agent d.log) (sym same))

-- a session that begins
module _ {L : Type 0} (left : L → Option (List ℕ)) (read_faults : L → ℕ) (read_sure : L → Bool)
    (taken : L → Option (List ℕ)) (write_faults : L → ℕ) (write_sure : L → Bool)
    (permits : List Grant → ℕ → ℕ → Primitive → Option ℕ) where
  pub sits-first : (site : SiteState (List Grant)) (given kit : KitState (List Grant)) (link opened : L) (desk : AgentState (List Grant)) (s : Sitting (AgentState (List Grant)) L)
      → given.site ≡ site → kit ≡ given → opened ≡ link → IsNewDesk site.names (desk_of desk) → desk.site ≡ site → desk.agent ≡ given.agent
      → IsDecidedLog permits desk.site desk.agent desk.log → s.desk ≡ desk
      → IsUnderway desk_of left read_faults read_sure taken write_faults write_sure
      (moment left read_faults read_sure taken write_faults write_sure link [] [] (desk_of desk)) s
      → IsSitting left read_faults read_sure taken write_faults write_sure permits kit opened s
  sits-first site given kit link opened desk s of same opens new at agent decided is begins = record {
    desk = desk_of desk;
    new = subst (λ (t : SiteState (List Grant)). IsNewDesk t.names (desk_of desk)) (sym of ∙ sym (ap (λ (k : KitState (List Grant)). k.site) same)) new;
    underway = subst (λ (l : L). IsUnderway desk_of left read_faults read_sure taken write_faults write_sure
        (moment left read_faults read_sure taken write_faults write_sure l [] [] (desk_of desk)) s) (sym opens) begins;
    site = ap (λ (d : AgentState (List Grant)). d.site) is ∙ at ∙ sym of ∙ sym (ap (λ (k : KitState (List Grant)). k.site) same);
    agent = ap (λ (d : AgentState (List Grant)). d.agent) is ∙ agent ∙ sym (ap (λ (k : KitState (List Grant)). k.agent) same);
    decided = subst (λ (d : AgentState (List Grant)). IsDecidedLog permits d.site d.agent d.log) (sym is) decided;
  }

module _ {L : Type 0} (left : L → Option (List ℕ)) (read_faults : L → ℕ) (read_sure : L → Bool)
    (taken : L → Option (List ℕ)) (write_faults : L → ℕ) (write_sure : L → Bool)
    (permits : List Grant → ℕ → ℕ → Primitive → Option ℕ) (kit : KitState (List Grant)) (opened : L) where
  -- the session that goes on
  pub sits-in : (session : Option (Sitting (AgentState (List Grant)) L)) (rest : Option (Left L)) (s : Sitting (AgentState (List Grant)) L) → session ≡ Some s
      → IsSeat left read_faults read_sure taken write_faults write_sure permits kit opened session rest
      → IsSitting left read_faults read_sure taken write_faults write_sure permits kit opened s
  sits-in session rest s is =
      subst (λ (o : Option (Sitting (AgentState (List Grant)) L)). IsSeat left read_faults read_sure taken write_faults write_sure permits kit opened o rest) is

  -- or what is left of it
  pub left-in : (session : Option (Sitting (AgentState (List Grant)) L)) (rest : Option (Left L)) (l : Left L) → session ≡ None → rest ≡ Some l
      → IsSeat left read_faults read_sure taken write_faults write_sure permits kit opened session rest
      → IsLeft permits kit (connection_of left read_sure write_sure opened) l.desk l.end
  left-in session rest l none is seat =
      subst (λ (r : Option (Left L)). IsSeat left read_faults read_sure taken write_faults write_sure permits kit opened None r) is
      (subst (λ (o : Option (Sitting (AgentState (List Grant)) L)). IsSeat left read_faults read_sure taken write_faults write_sure permits kit opened o rest) none seat)

  pub seat-left : (session : Option (Sitting (AgentState (List Grant)) L)) (l : Left L) → session ≡ None
      → IsLeft permits kit (connection_of left read_sure write_sure opened) l.desk l.end
      → IsSeat left read_faults read_sure taken write_faults write_sure permits kit opened session (Some l)
  seat-left session l none =
      subst (λ (o : Option (Sitting (AgentState (List Grant)) L)). IsSeat left read_faults read_sure taken write_faults write_sure permits kit opened o (Some l)) (sym none)

  -- what is left keeps its desk and how the session has ended
  pub left-same : (d e : EndedDeskState (List Grant)) (end last : SessionEnd) → e ≡ d → last ≡ end
      → IsLeft permits kit (connection_of left read_sure write_sure opened) d end
      → IsLeft permits kit (connection_of left read_sure write_sure opened) e last
  left-same d e end last desk is one =
      subst (λ (x : SessionEnd). IsLeft permits kit (connection_of left read_sure write_sure opened) e x) (sym is)
      (subst (λ (x : EndedDeskState (List Grant)). IsLeft permits kit (connection_of left read_sure write_sure opened) x end) (sym desk) one)

  -- where a session has ended and is taken, what it leaves is left
  pub seat-ended : (session : Option (Sitting (AgentState (List Grant)) L)) (rest : Option (Left L)) (d : EndedDeskState (List Grant)) (end : SessionEnd)
      → session ≡ None → IsSomeAnd rest (λ (l : Left L). l.desk ≡ d) → IfSome rest (λ (l : Left L). l.end ≡ end)
      → IsLeft permits kit (connection_of left read_sure write_sure opened) d end
      → IsSeat left read_faults read_sure taken write_faults write_sure permits kit opened session rest
  seat-ended session None d end none some is one = absurd some
  seat-ended session (Some l) d end none desk is one = seat-left session l none (left-same d l.desk end l.end desk is one)

-- a session that isn't over is underway
pub not-over : {D L : Type 0} (state : D → DeskState) (left : L → Option (List ℕ)) (read_faults : L → ℕ) (read_sure : L → Bool)
    (taken : L → Option (List ℕ)) (write_faults : L → ℕ) (write_sure : L → Bool) (from : Moment) (step : Step) (s : Sitting D L)
    → ((end : SessionEnd) → step ≡ Over end → ⊥) → GoesOn state left read_faults read_sure taken write_faults write_sure from step s
    → IsUnderway state left read_faults read_sure taken write_faults write_sure from s
not-over state left read_faults read_sure taken write_faults write_sure from Answered s on goes = goes
not-over state left read_faults read_sure taken write_faults write_sure from Read s on goes = goes
not-over state left read_faults read_sure taken write_faults write_sure from Paused s on goes = goes
not-over state left read_faults read_sure taken write_faults write_sure from (Over end) s on goes = absurd (on end refl)
