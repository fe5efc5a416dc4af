-- What is decided of a call before a turn is taken.
use Rattle.std.specs.Prelude.{◌≡◌, ℕ, Bool, true, false, List, Option, Some, Contains}
use Rattle.std.specs.Prelude.{slice_get}
use Rattle.tc_desk.specs.Operands.{OpOf, TooBig, NotGround, Faulty}
use Rattle.tc_desk.specs.declared.rows.Refusal.{Refusal}
use Rattle.tc_desk.specs.declared.rows.Refusal.TheVariants as refusal
use Rattle.tc_model.specs.Asks.{primitive_of}
use Rattle.tc_model.specs.declared.asks.Ask.{Ask}
use Rattle.tc_model.specs.declared.asks.Primitive.{Primitive}
use Rattle.tc_site.specs.Desks.{WardenPermits}
use Rattle.tc_site.specs.Sites.{SiteState}

module _ {W : Type 0} (permits : W → ℕ → ℕ → Primitive → Option ℕ) where
  -- the agent, of which no ask waits, may ask this of the centre at the place
  pub record IsAllowed (s : SiteState W) (agent : ℕ) (waits : Bool) (centre : List ℕ)
      (ask : Ask)
      (place : ℕ) : Type 0 where
    pub named : slice_get s.names place ≡ Some centre
    pub idle : waits ≡ false
    pub role : ℕ
    pub has : slice_get s.roles agent ≡ Some role
    pub may : WardenPermits permits s.warden role place (primitive_of ask)

  -- nothing permits it
  pub record IsDenied (s : SiteState W) (agent : ℕ) (waits : Bool) (centre : List ℕ) (ask : Ask)
      : Type 0 where
    pub place : ℕ
    pub named : slice_get s.names place ≡ Some centre
    pub idle : waits ≡ false
    pub role : ℕ
    pub has : slice_get s.roles agent ≡ Some role
    pub may_not : WardenPermits permits s.warden role place (primitive_of ask) → ⊥

  -- the ask may be made, but its operand isn't one
  pub record IsFaulty (s : SiteState W) (agent : ℕ) (waits : Bool) (centre : List ℕ) (ask : Ask)
      (why : Type 0) : Type 0 where
    pub place : ℕ
    pub allowed : IsAllowed s agent waits centre ask place
    pub is : why

  -- why it is refused before a turn is taken
  abbrev pub IsRefusedFor : SiteState W → ℕ → Bool → List ℕ → Ask → Refusal → Type 0
  IsRefusedFor s agent waits centre ask refusal.UnknownCentre = Contains s.names centre → ⊥
  IsRefusedFor s agent waits centre ask refusal.Waiting =
      Contains s.names centre × (waits ≡ true)
  IsRefusedFor s agent waits centre ask refusal.Denied = IsDenied s agent waits centre ask
  IsRefusedFor s agent waits centre ask refusal.TooBig =
      IsFaulty s agent waits centre ask (OpOf ask TooBig)
  IsRefusedFor s agent waits centre ask refusal.NotGround =
      IsFaulty s agent waits centre ask (OpOf ask NotGround)
  IsRefusedFor s agent waits centre ask (refusal.BadSpec bad) =
      IsFaulty s agent waits centre ask (OpOf ask (Faulty bad))
  IsRefusedFor s agent waits centre ask refusal.TurnsSpent = ⊥
  IsRefusedFor s agent waits centre ask (refusal.Full weight pending) = ⊥
  IsRefusedFor s agent waits centre ask refusal.NoMemory = Unit {0}
