-- Lines, of which the first were handed on.
use Rattle.std.proofs.Common.{◌≡◌, ◌∙◌, ℕ, List, [], ◌∷◌, ◌++◌, Result, Ok, Err, map, take, drop, ap, ap₂, sym, subst, refl, append_assoc, append-nil, take-append-drop}
use Rattle.std.specs.List.{flat_map}
use Rattle.std.proofs.lemmas.Grind.{flat_map-append}
use Rattle.tc_io.specs.declared.sinks.SinkFault.{SinkFault}
use Rattle.tc_io.specs.Flow.{Flow, HandsOn}
use Rattle.tc_io.proofs.Flows.{amid, both, nothing_handed}
use Rattle.tc_writing.specs.Lines.{whole}

-- of these lines those before the rest were handed on
pub record Begun (all rest : List (List ℕ)) (old new : Flow) : Type 0 where
  pub front : List (List ℕ)
  pub parted : all ≡ front ++ rest
  pub handed : HandsOn (whole front) old new (Ok tt)

whole-append : (xs ys : List (List ℕ)) → whole (xs ++ ys) ≡ whole xs ++ whole ys
whole-append xs ys = flat_map-append (λ (t : List ℕ). t) xs ys

-- lines, parted behind so many
pub parted : (ts first rest : List (List ℕ)) (count : ℕ) → first ≡ take count ts → rest ≡ drop count ts → ts ≡ first ++ rest
parted ts first rest count is behind = sym (ap₂ (λ (xs ys : List (List ℕ)). xs ++ ys) is behind ∙ take-append-drop count ts)

-- none so far
pub begun-none : (all : List (List ℕ)) (f : Flow) → Begun all all f f
begun-none all f = record { front = []; parted = refl; handed = nothing_handed f }

module _ (all rest wave behind : List (List ℕ)) (old mid new : Flow) (result : Result (Unit {0}) SinkFault)
    (begun : Begun all rest old mid) (next : rest ≡ wave ++ behind) (hands : HandsOn (whole wave) mid new result) where
  all-parted : all ≡ (begun.front ++ wave) ++ behind
  all-parted = begun.parted ∙ ap (λ l. begun.front ++ l) next ∙ sym (append_assoc begun.front wave behind)

  both-handed : HandsOn (whole (begun.front ++ wave)) old new result
  both-handed = subst (λ t. HandsOn t old new result) (sym (whole-append begun.front wave))
      (both (whole begun.front) (whole wave) old mid new result begun.handed hands)

  -- and the next ones
  pub begun-more : result ≡ Ok tt → Begun all behind old new
  begun-more done = record {
    front = begun.front ++ wave;
    parted = all-parted;
    handed = subst (HandsOn (whole (begun.front ++ wave)) old new) done both-handed;
  }

  -- a fault came amid the next ones
  pub begun-amid : (told : Result (Unit {0}) SinkFault) (fault : SinkFault) → result ≡ Err fault → told ≡ Err fault
      → HandsOn (whole all) old new told
  begun-amid told fault was is =
      subst (λ t. HandsOn t old new told) (sym (ap whole all-parted ∙ whole-append (begun.front ++ wave) behind))
      (amid (whole (begun.front ++ wave)) (whole behind) old new result told fault was is both-handed)

-- and the rest
pub begun-last : (all rest : List (List ℕ)) (old mid new : Flow) (result : Result (Unit {0}) SinkFault)
    → Begun all rest old mid → HandsOn (whole rest) mid new result → HandsOn (whole all) old new result
begun-last all rest old mid new result begun hands =
    subst (λ t. HandsOn t old new result) (sym (ap whole begun.parted ∙ whole-append begun.front rest))
    (both (whole begun.front) (whole rest) old mid new result begun.handed hands)

-- and there is no rest
pub begun-whole : (all rest : List (List ℕ)) (old new : Flow) → rest ≡ [] → Begun all rest old new → HandsOn (whole all) old new (Ok tt)
begun-whole all rest old new none begun =
    subst (λ ts. HandsOn (whole ts) old new (Ok tt))
    (sym (begun.parted ∙ ap (λ l. begun.front ++ l) none ∙ append-nil begun.front)) begun.handed

-- the texts of lines, one behind another
whole-map : {X : Type 0} (line : X → List ℕ) (xs : List X) → whole (map line xs) ≡ flat_map line xs
whole-map line [] = refl
whole-map line (x ∷ xs) = ap (λ l. line x ++ l) (whole-map line xs)

-- a heading, and then lines
pub headed : {X : Type 0} (heading : List ℕ) (line : X → List ℕ) (xs : List X) (old mid new : Flow) (first result : Result (Unit {0}) SinkFault)
    → first ≡ Ok tt → HandsOn heading old mid first → HandsOn (whole (map line xs)) mid new result
    → HandsOn (heading ++ flat_map line xs) old new result
headed heading line xs old mid new first result done hands then =
    subst (λ text. HandsOn (heading ++ text) old new result) (whole-map line xs)
    (both heading (whole (map line xs)) old mid new result (subst (HandsOn heading old mid) done hands) then)
