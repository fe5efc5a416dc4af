-- Which centre a row names.
use Rattle.std.proofs.Common.{◌≡◌, ℕ, List, Contains, Some, length, map, slice_get, refl, sym, subst, ap, ◌∙◌}
use Rattle.std.proofs.lemmas.Option.{same_Some}
use Rattle.tc_config.specs.Configurations.{Configuration, IsConfig, centre_names}
use Rattle.tc_config.specs.declared.configs.CentreConf.{CentreConf}
use Rattle.tc_desk.specs.Agreeing.{NamesCentre}
use Rattle.tc_desk.specs.declared.rows.LogResult.{LogResult}
use Rattle.tc_desk.specs.declared.rows.LogResult.TheVariants.{Replied, Pending, Refused, Polled}
use Rattle.tc_desk.specs.declared.rows.Refusal.TheVariants as refusal
use Rattle.tc_lists.proofs.Pairs.{AllPairs-one_place}
use Rattle.tc_lists.proofs.Places.{Contains-slice_get}
use Rattle.tc_lists.proofs.Sets.{slice_get-map_at}

-- the name of a centre is one of the names
pub centre-named : (c : Configuration) (place : ℕ) (s : CentreConf) (name : List ℕ) → slice_get c.centres place ≡ Some s → s.name ≡ name
    → slice_get (centre_names c) place ≡ Some name
centre-named c place s name at is =
    slice_get-map_at (λ (x : CentreConf). x.name) c.centres place s at ∙ ap Some is

-- one centre has it
pub one-centre : (c : Configuration) (i j : ℕ) (s t : CentreConf) (name : List ℕ) → IsConfig c
    → slice_get c.centres i ≡ Some s → s.name ≡ name → slice_get c.centres j ≡ Some t → t.name ≡ name → i ≡ j
one-centre c i j s t name config ats iss att ist =
    AllPairs-one_place (centre_names c) i j name config.centres_differ (centre-named c i s name ats iss) (centre-named c j t name att ist)

module _ (names : List (List ℕ)) (centre : List ℕ) where
  -- where the name is known, the row wasn't refused since it is not
  pub named-known : Contains names centre → (became : LogResult)
      → ((became ≡ Refused refusal.UnknownCentre → ⊥) → NamesCentre names centre became)
      × (NamesCentre names centre became → became ≡ Refused refusal.UnknownCentre → ⊥)
  named-known has (Replied reply) = (λ other. has, λ is same. absurd (cc))
  named-known has Pending = (λ other. has, λ is same. absurd (cc))
  named-known has (Refused refusal.UnknownCentre) = (λ other. absurd (other refl), λ is same. is has)
  named-known has (Refused refusal.Waiting) = (λ other. has, λ is same. absurd (cc))
  named-known has (Refused refusal.Denied) = (λ other. has, λ is same. absurd (cc))
  named-known has (Refused refusal.TooBig) = (λ other. has, λ is same. absurd (cc))
  named-known has (Refused refusal.NotGround) = (λ other. has, λ is same. absurd (cc))
  named-known has (Refused (refusal.BadSpec bad)) = (λ other. has, λ is same. absurd (cc))
  named-known has (Refused refusal.TurnsSpent) = (λ other. has, λ is same. absurd (cc))
  named-known has (Refused (refusal.Full weight pending)) = (λ other. has, λ is same. absurd (cc))
  named-known has (Refused refusal.NoMemory) = (λ other. has, λ is same. absurd (cc))
  named-known has (Polled told) = (λ other. has, λ is same. absurd (cc))

  -- and where it is unknown, it was
  pub named-unknown : (Contains names centre → ⊥) → (became : LogResult)
      → (became ≡ Refused refusal.UnknownCentre → NamesCentre names centre became)
      × (NamesCentre names centre became → became ≡ Refused refusal.UnknownCentre)
  named-unknown never (Replied reply) = (λ same. absurd (cc), λ is. absurd (never is))
  named-unknown never Pending = (λ same. absurd (cc), λ is. absurd (never is))
  named-unknown never (Refused refusal.UnknownCentre) = (λ same. never, λ is. refl)
  named-unknown never (Refused refusal.Waiting) = (λ same. absurd (cc), λ is. absurd (never is))
  named-unknown never (Refused refusal.Denied) = (λ same. absurd (cc), λ is. absurd (never is))
  named-unknown never (Refused refusal.TooBig) = (λ same. absurd (cc), λ is. absurd (never is))
  named-unknown never (Refused refusal.NotGround) = (λ same. absurd (cc), λ is. absurd (never is))
  named-unknown never (Refused (refusal.BadSpec bad)) = (λ same. absurd (cc), λ is. absurd (never is))
  named-unknown never (Refused refusal.TurnsSpent) = (λ same. absurd (cc), λ is. absurd (never is))
  named-unknown never (Refused (refusal.Full weight pending)) = (λ same. absurd (cc), λ is. absurd (never is))
  named-unknown never (Refused refusal.NoMemory) = (λ same. absurd (cc), λ is. absurd (never is))
  named-unknown never (Polled told) = (λ same. absurd (cc), λ is. absurd (never is))
