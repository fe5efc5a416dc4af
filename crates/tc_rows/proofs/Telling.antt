-- What a text tells of a result, and which results it may tell of.
use Rattle.std.proofs.Common.{◌≡◌, ℕ, Bool, true, false, not, List, Option, Some, None, ◌⊎◌, inl, inr, refl, sym, ap, subst, ◌∙◌, ⊎_elim}
use Rattle.std.proofs.lemmas.Bool.{cases_Bool, true≢false}
use Rattle.tc_asks.specs.Operands.{IsFaultOf, refusal_of}
use Rattle.tc_asks.specs.declared.operands.OperandFault.{OperandFault}
use Rattle.tc_asks.specs.declared.operands.OperandFault.TheVariants as fault
use Rattle.tc_desk.specs.Operands.{Operand, Faulty, NotGround, OpOf, Sound, TooBig}
use Rattle.tc_desk.specs.Served.{HasCalled, IsResult, IsServedAs, WasFull}
use Rattle.tc_desk.specs.declared.rows.LogResult.{LogResult}
use Rattle.tc_desk.specs.declared.rows.LogResult.TheVariants.{Replied, Pending, Refused, Polled}
use Rattle.tc_desk.specs.declared.rows.Refusal.{Refusal}
use Rattle.tc_desk.specs.declared.rows.Refusal.TheVariants as refusal
use Rattle.tc_desk.proofs.Operations.{one_operand}
use Rattle.tc_histline.specs.declared.versions.Version.{Version}
use Rattle.tc_histline.specs.declared.versions.Version.TheVariants.{One, Two}
use Rattle.tc_model.specs.Replies.{reply_in}
use Rattle.tc_model.specs.State.{Origin}
use Rattle.tc_model.specs.declared.asks.Ask.{Ask}
use Rattle.tc_model.specs.declared.calls.CallId.{CallId}
use Rattle.tc_model.specs.declared.calls.Op.{Op}
use Rattle.tc_model.specs.declared.entries.Entry.{Entry}
use Rattle.tc_model.specs.declared.outcomes.Reply.{Reply}
use Rattle.tc_rows.specs.Rows.{told, told_refusal}
use Rattle.tc_rows.specs.Told.{IsToldFull, IsToldResult, IsToldServed, IsUntold}
use Rattle.tc_rows.specs.Gaps.{WasFullSomehow}
use Rattle.tc_rows.specs.declared.fulls.Load.{Load}

-- whether a refusal says that the centre was full
abbrev pub says_full : Refusal → Bool
says_full (refusal.Full weight pending) = true
says_full refusal.UnknownCentre = false
says_full refusal.Waiting = false
says_full refusal.Denied = false
says_full refusal.TooBig = false
says_full refusal.NotGround = false
says_full (refusal.BadSpec bad) = false
says_full refusal.TurnsSpent = false
says_full refusal.NoMemory = false

-- any other refusal is told as it is
pub told-other : (version : Version) (why : Refusal) → says_full why ≡ false → told_refusal version why ≡ why
told-other One (refusal.Full weight pending) other = absurd (true≢false other)
told-other One refusal.UnknownCentre other = refl
told-other One refusal.Waiting other = refl
told-other One refusal.Denied other = refl
told-other One refusal.TooBig other = refl
told-other One refusal.NotGround other = refl
told-other One (refusal.BadSpec bad) other = refl
told-other One refusal.TurnsSpent other = refl
told-other One refusal.NoMemory other = refl
told-other Two why other = refl

-- what is told says that it was full just where that was so
pub told-full : (version : Version) (why : Refusal) → says_full (told_refusal version why) ≡ says_full why
told-full One (refusal.Full weight pending) = refl
told-full One refusal.UnknownCentre = refl
told-full One refusal.Waiting = refl
told-full One refusal.Denied = refl
told-full One refusal.TooBig = refl
told-full One refusal.NotGround = refl
told-full One (refusal.BadSpec bad) = refl
told-full One refusal.TurnsSpent = refl
told-full One refusal.NoMemory = refl
told-full Two why = refl

-- a refusal that is told, but that the centre was full, is the one that it was
pub refused-same : (version : Version) (why : Refusal) → says_full why ≡ false → (whole : LogResult)
    → told version whole ≡ Refused why → whole ≡ Refused why
refused-same version why other (Replied reply) tells = absurd (cc)
refused-same version why other Pending tells = absurd (cc)
refused-same version why other (Refused old) tells =
    let same : told_refusal version old ≡ why = cc in
    ap Refused (sym (told-other version old (sym (told-full version old) ∙ (ap says_full same ∙ other))) ∙ same)
refused-same version why other (Polled reply) tells = absurd (cc)

pub replied-same : (version : Version) (reply : Reply) (whole : LogResult) → told version whole ≡ Replied reply
    → whole ≡ Replied reply
replied-same version reply (Replied other) tells = tells
replied-same version reply Pending tells = absurd (cc)
replied-same version reply (Refused why) tells = absurd (cc)
replied-same version reply (Polled other) tells = absurd (cc)

pub pending-same : (version : Version) (whole : LogResult) → told version whole ≡ Pending → whole ≡ Pending
pending-same version (Replied reply) tells = absurd (cc)
pending-same version Pending tells = refl
pending-same version (Refused why) tells = absurd (cc)
pending-same version (Polled reply) tells = absurd (cc)

-- nothing that is served is told as a poll
pub polled-none : (version : Version) (origin : Origin) (history : List Entry) (id : CallId) (ask : Ask) (whole : LogResult)
    (told_reply : Option Reply) → IsServedAs origin history id ask whole → told version whole ≡ Polled told_reply → ⊥
polled-none version origin history id ask (Replied reply) other is tells = cc
polled-none version origin history id ask Pending other is tells = cc
polled-none version origin history id ask (Refused why) other is tells = cc
polled-none version origin history id ask (Polled reply) other is tells = is

module _ (version : Version) (origin : Origin) (history : List Entry) (id : CallId) (ask : Ask) where
  -- an ask is one operation
  one-op : (op other : Op) → OpOf ask (Sound op) → OpOf ask (Sound other) → op ≡ other
  one-op op other is also = let same : Sound op ≡ Sound other = one_operand ask (Sound op) (Sound other) is also in cc

  -- of an operation a reply may be told that the history gives to its call
  pub replied-told : (op : Op) → OpOf ask (Sound op) → (reply : Reply)
      → (HasCalled id op history × (reply_in history id ≡ Some reply) → IsToldServed version origin history id ask (Replied reply))
      × (IsToldServed version origin history id ask (Replied reply) → HasCalled id op history × (reply_in history id ≡ Some reply))
  replied-told op is reply = (
    λ both. record {
      whole = Replied reply;
      tells = refl;
      is = (record { op = op; is = is; called = both.0 }, both.1);
      waits = λ same. absurd (cc);
    },
    λ told_is.
        let served : IsServedAs origin history id ask (Replied reply) =
        subst (IsServedAs origin history id ask) (replied-same version reply told_is.whole told_is.tells) told_is.is in
        (subst (λ o. HasCalled id o history) (one-op served.0.op op served.0.is is) served.0.called, served.1),
  )

  -- and that it waits, where the history gives none
  pub pending-told : (op : Op) → OpOf ask (Sound op)
      → (HasCalled id op history × (reply_in history id ≡ None) → IsToldServed version origin history id ask Pending)
      × (IsToldServed version origin history id ask Pending → HasCalled id op history × (reply_in history id ≡ None))
  pending-told op is = (
    λ both. record {
      whole = Pending;
      tells = refl;
      is = record { op = op; is = is; called = both.0 };
      waits = λ same. both.1;
    },
    λ told_is.
        let served : IsServedAs origin history id ask Pending =
        subst (IsServedAs origin history id ask) (pending-same version told_is.whole told_is.tells) told_is.is in
        (subst (λ o. HasCalled id o history) (one-op served.op op served.is is) served.called, told_is.waits refl),
  )

  -- what a result says of the operand of its ask
  abbrev Tells : Operand → LogResult → Type 0
  Tells (Sound op) whole = Unit {0}
  Tells TooBig whole = whole ≡ Refused refusal.TooBig
  Tells NotGround whole = whole ≡ Refused refusal.NotGround
  Tells (Faulty bad) whole = whole ≡ Refused (refusal.BadSpec bad)

  served-operand : (whole : LogResult) → IsServedAs origin history id ask whole → (o : Operand) × OpOf ask o × Tells o whole
  served-operand (Replied reply) is = (Sound is.0.op, is.0.is, tt)
  served-operand Pending is = (Sound is.op, is.is, tt)
  served-operand (Refused (refusal.Full weight pending)) is = (Sound is.op, is.is, tt)
  served-operand (Refused refusal.TooBig) is = (TooBig, is, refl)
  served-operand (Refused refusal.NotGround) is = (NotGround, is, refl)
  served-operand (Refused (refusal.BadSpec bad)) is = (Faulty bad, is, refl)
  served-operand (Refused refusal.UnknownCentre) is = absurd is
  served-operand (Refused refusal.Waiting) is = absurd is
  served-operand (Refused refusal.Denied) is = absurd is
  served-operand (Refused refusal.TurnsSpent) is = absurd is
  served-operand (Refused refusal.NoMemory) is = absurd is
  served-operand (Polled reply) is = absurd is

  -- of an operation nothing but a full centre may be told as a refusal
  full-only : (op : Op) → OpOf ask (Sound op) → (why : Refusal) → IsServedAs origin history id ask (Refused why)
      → (heavy : ℕ) × (waiting : ℕ) × (why ≡ refusal.Full heavy waiting) × WasFull origin history id heavy waiting
  full-only op is (refusal.Full weight pending) served = (weight, pending, refl, served.full)
  full-only op is refusal.TooBig served = absurd (let same : Sound op ≡ TooBig = one_operand ask (Sound op) TooBig is served in cc)
  full-only op is refusal.NotGround served = absurd (let same : Sound op ≡ NotGround = one_operand ask (Sound op) NotGround is served in cc)
  full-only op is (refusal.BadSpec bad) served = absurd (let same : Sound op ≡ Faulty bad = one_operand ask (Sound op) (Faulty bad) is served in cc)
  full-only op is refusal.UnknownCentre served = absurd served
  full-only op is refusal.Waiting served = absurd served
  full-only op is refusal.Denied served = absurd served
  full-only op is refusal.TurnsSpent served = absurd served
  full-only op is refusal.NoMemory served = absurd served

  full-back : (op : Op) → OpOf ask (Sound op) → (why : Refusal) → (whole : LogResult) → told version whole ≡ Refused why
      → IsServedAs origin history id ask whole → IsToldFull version origin history id why
  full-back op is why (Replied reply) tells served = absurd (cc)
  full-back op is why Pending tells served = absurd (cc)
  full-back op is why (Polled reply) tells served = absurd (cc)
  full-back op is why (Refused old) tells served =
      let full = full-only op is old served in
      let same : told_refusal version old ≡ why = cc in
      record {
        heavy = full.0;
        waiting = full.1;
        tells = ap (told_refusal version) (sym full.2) ∙ same;
        full = full.3;
      }

  pub refused-told : (op : Op) → OpOf ask (Sound op) → (why : Refusal)
      → (IsToldFull version origin history id why → IsToldServed version origin history id ask (Refused why))
      × (IsToldServed version origin history id ask (Refused why) → IsToldFull version origin history id why)
  refused-told op is why = (
    λ full. record {
      whole = Refused (refusal.Full full.heavy full.waiting);
      tells = ap Refused full.tells;
      is = record { op = op; is = is; full = full.full };
      waits = λ same. absurd (cc);
    },
    λ told_is. full-back op is why told_is.whole told_is.tells told_is.is,
  )

  pub polled-told : (reply : Option Reply) → IsToldServed version origin history id ask (Polled reply) → ⊥
  polled-told reply told_is = polled-none version origin history id ask told_is.whole reply told_is.is told_is.tells

  -- of an operand that no operation takes, its fault alone may be told
  fault-same : (why : OperandFault) → IsFaultOf ask why → (why ≡ fault.NoMemory → ⊥) → (whole : LogResult)
      → IsServedAs origin history id ask whole → whole ≡ Refused (refusal_of why)
  fault-same fault.TooBig is known whole served =
      let o = served-operand whole served in subst (λ p. Tells p whole) (one_operand ask o.0 TooBig o.1 is) o.2
  fault-same fault.NotGround is known whole served =
      let o = served-operand whole served in subst (λ p. Tells p whole) (one_operand ask o.0 NotGround o.1 is) o.2
  fault-same (fault.BadSpec bad) is known whole served =
      let o = served-operand whole served in subst (λ p. Tells p whole) (one_operand ask o.0 (Faulty bad) o.1 is) o.2
  fault-same fault.NoMemory is known whole served = absurd (known refl)

  fault-served : (why : OperandFault) → IsFaultOf ask why → (why ≡ fault.NoMemory → ⊥)
      → IsServedAs origin history id ask (Refused (refusal_of why))
  fault-served fault.TooBig is known = is
  fault-served fault.NotGround is known = is
  fault-served (fault.BadSpec bad) is known = is
  fault-served fault.NoMemory is known = absurd (known refl)

  fault-says : (why : OperandFault) → says_full (refusal_of why) ≡ false
  fault-says fault.TooBig = refl
  fault-says fault.NotGround = refl
  fault-says (fault.BadSpec bad) = refl
  fault-says fault.NoMemory = refl

  pub fault-told : (why : OperandFault) → IsFaultOf ask why → (why ≡ fault.NoMemory → ⊥) → (became : LogResult)
      → (became ≡ Refused (refusal_of why) → IsToldServed version origin history id ask became)
      × (IsToldServed version origin history id ask became → became ≡ Refused (refusal_of why))
  fault-told why is known became =
      let kept : told version (Refused (refusal_of why)) ≡ Refused (refusal_of why) =
      ap Refused (told-other version (refusal_of why) (fault-says why)) in (
        λ same. record {
          whole = Refused (refusal_of why);
          tells = kept ∙ sym same;
          is = fault-served why is known;
          waits = λ pending. absurd (cc);
        },
        λ told_is.
            sym told_is.tells ∙ (ap (told version) (fault-same why is known told_is.whole told_is.is) ∙ kept),
      )

-- a result is a denial where nothing permits the ask, or one of an ask that is permitted
result-cases : (permits : Type 0) (origin : Origin) (history : List Entry) (id : CallId) (ask : Ask) (whole : LogResult)
    → IsResult permits origin history id ask whole
    → ((whole ≡ Refused refusal.Denied) × (permits → ⊥)) ⊎ (permits × IsServedAs origin history id ask whole)
result-cases permits origin history id ask (Replied reply) is = inr is
result-cases permits origin history id ask Pending is = inr is
result-cases permits origin history id ask (Polled reply) is = inr is
result-cases permits origin history id ask (Refused refusal.Denied) is = inl (refl, is)
result-cases permits origin history id ask (Refused (refusal.Full weight pending)) is = inr is
result-cases permits origin history id ask (Refused refusal.UnknownCentre) is = inr is
result-cases permits origin history id ask (Refused refusal.Waiting) is = inr is
result-cases permits origin history id ask (Refused refusal.TooBig) is = inr is
result-cases permits origin history id ask (Refused refusal.NotGround) is = inr is
result-cases permits origin history id ask (Refused (refusal.BadSpec bad)) is = inr is
result-cases permits origin history id ask (Refused refusal.TurnsSpent) is = inr is
result-cases permits origin history id ask (Refused refusal.NoMemory) is = inr is

result-served : (permits : Type 0) (origin : Origin) (history : List Entry) (id : CallId) (ask : Ask) (whole : LogResult)
    → permits → IsServedAs origin history id ask whole → IsResult permits origin history id ask whole
result-served permits origin history id ask (Replied reply) may is = (may, is)
result-served permits origin history id ask Pending may is = (may, is)
result-served permits origin history id ask (Polled reply) may is = (may, is)
result-served permits origin history id ask (Refused refusal.Denied) may is = absurd is
result-served permits origin history id ask (Refused (refusal.Full weight pending)) may is = (may, is)
result-served permits origin history id ask (Refused refusal.UnknownCentre) may is = (may, is)
result-served permits origin history id ask (Refused refusal.Waiting) may is = (may, is)
result-served permits origin history id ask (Refused refusal.TooBig) may is = (may, is)
result-served permits origin history id ask (Refused refusal.NotGround) may is = (may, is)
result-served permits origin history id ask (Refused (refusal.BadSpec bad)) may is = (may, is)
result-served permits origin history id ask (Refused refusal.TurnsSpent) may is = (may, is)
result-served permits origin history id ask (Refused refusal.NoMemory) may is = (may, is)

module _ (version : Version) (origin : Origin) (history : List Entry) (id : CallId) (ask : Ask) where
  -- a denial may be told just where nothing permits the ask
  pub denied-told : (permitted : Bool)
      → (permitted ≡ false → IsToldResult version (permitted ≡ true) origin history id ask (Refused refusal.Denied))
      × (IsToldResult version (permitted ≡ true) origin history id ask (Refused refusal.Denied) → permitted ≡ false)
  denied-told permitted = (
    λ never. record {
      whole = Refused refusal.Denied;
      tells = ap Refused (told-other version refusal.Denied refl);
      is = λ yes. true≢false (sym yes ∙ never);
      waits = λ same. absurd (cc);
    },
    λ told_is.
        let is : IsResult (permitted ≡ true) origin history id ask (Refused refusal.Denied) =
        subst (IsResult (permitted ≡ true) origin history id ask) (refused-same version refusal.Denied refl told_is.whole told_is.tells) told_is.is in
        ⊎_elim (λ (yes : permitted ≡ true). absurd (is yes)) (λ (never : permitted ≡ false). never) (cases_Bool permitted),
  )

  -- any other result may be told just where it may be told of an ask that is permitted
  pub other-told : (permitted : Bool) (became : LogResult) → (became ≡ Refused refusal.Denied → ⊥)
      → (permitted ≡ true → IsToldServed version origin history id ask became → IsToldResult version (permitted ≡ true) origin history id ask became)
      × (IsToldResult version (permitted ≡ true) origin history id ask became → (permitted ≡ true) × IsToldServed version origin history id ask became)
  other-told permitted became other = (
    λ yes served. record {
      whole = served.whole;
      tells = served.tells;
      is = result-served (permitted ≡ true) origin history id ask served.whole yes served.is;
      waits = served.waits;
    },
    λ told_is.
        ⊎_elim
        (λ (denied : (told_is.whole ≡ Refused refusal.Denied) × (permitted ≡ true → ⊥)).
        absurd (other (sym told_is.tells ∙ (ap (told version) denied.0 ∙ ap Refused (told-other version refusal.Denied refl)))))
        (λ (served : (permitted ≡ true) × IsServedAs origin history id ask told_is.whole).
        (served.0, record { whole = told_is.whole; tells = told_is.tells; is = served.1; waits = told_is.waits }))
        (result-cases (permitted ≡ true) origin history id ask told_is.whole told_is.is),
  )

-- the first version tells no load of a full centre
pub full-one : (version : Version) (origin : Origin) (history : List Entry) (id : CallId) (load : Load) → version ≡ One
    → (IsUntold load → WasFullSomehow origin history id → IsToldFull version origin history id (refusal.Full load.weight load.pending))
    × (IsToldFull version origin history id (refusal.Full load.weight load.pending) → IsUntold load × WasFullSomehow origin history id)
full-one version origin history id load is = (
  λ zero full. record {
    heavy = full.0;
    waiting = full.1;
    tells = subst (λ v. told_refusal v (refusal.Full full.0 full.1) ≡ refusal.Full load.weight load.pending) (sym is)
        (ap (λ n. refusal.Full n 0) (sym zero.weight) ∙ ap (λ n. refusal.Full load.weight n) (sym zero.pending));
    full = full.2;
  },
  λ told_is.
      let same : refusal.Full 0 0 ≡ refusal.Full load.weight load.pending =
      subst (λ v. told_refusal v (refusal.Full told_is.heavy told_is.waiting) ≡ refusal.Full load.weight load.pending) is told_is.tells in
      (record { weight = cc; pending = cc }, (told_is.heavy, told_is.waiting, told_is.full)),
)

-- the second one tells it
pub full-two : (version : Version) (origin : Origin) (history : List Entry) (id : CallId) (load : Load) → version ≡ Two
    → (WasFull origin history id load.weight load.pending → IsToldFull version origin history id (refusal.Full load.weight load.pending))
    × (IsToldFull version origin history id (refusal.Full load.weight load.pending) → WasFull origin history id load.weight load.pending)
full-two version origin history id load is = (
  λ full. record {
    heavy = load.weight;
    waiting = load.pending;
    tells = subst (λ v. told_refusal v (refusal.Full load.weight load.pending) ≡ refusal.Full load.weight load.pending) (sym is) refl;
    full = full;
  },
  λ told_is.
      let same : refusal.Full told_is.heavy told_is.waiting ≡ refusal.Full load.weight load.pending =
      subst (λ v. told_refusal v (refusal.Full told_is.heavy told_is.waiting) ≡ refusal.Full load.weight load.pending) is told_is.tells in
      let heavy : told_is.heavy ≡ load.weight = cc in
      let waiting : told_is.waiting ≡ load.pending = cc in
      subst (λ n. WasFull origin history id load.weight n) waiting
      (subst (λ n. WasFull origin history id n told_is.waiting) heavy told_is.full),
)

-- what is false is not true
pub not-back : (b : Bool) → (not b ≡ true → b ≡ false) × (b ≡ false → not b ≡ true)
not-back true = (λ e. sym e, λ e. sym e)
not-back false = (λ e. refl, λ e. refl)

-- a result stays one where as much is permitted
pub result-permits : (P Q : Type 0) (version : Version) (origin : Origin) (history : List Entry) (id : CallId) (ask : Ask)
    (became : LogResult) → (P → Q) → (Q → P) → IsToldResult version P origin history id ask became
    → IsToldResult version Q origin history id ask became
result-permits P Q version origin history id ask became to from is = record {
  whole = is.whole;
  tells = is.tells;
  is =
      ⊎_elim
      (λ (denied : (is.whole ≡ Refused refusal.Denied) × (P → ⊥)).
      subst (IsResult Q origin history id ask) (sym denied.0)
      (let never : IsResult Q origin history id ask (Refused refusal.Denied) = λ q. denied.1 (from q) in never))
      (λ (served : P × IsServedAs origin history id ask is.whole).
      result-served Q origin history id ask is.whole (to served.0) served.1)
      (result-cases P origin history id ask is.whole is.is);
  waits = is.waits;
}
