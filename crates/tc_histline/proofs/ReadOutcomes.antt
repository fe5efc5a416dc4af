-- Outcomes, what agents are told, and effects: what is written is read again, and two of one text are
-- one.
use Rattle.std.proofs.Common.{◌≡◌, ℕ, List, ◌++◌, codes, Option, Some, None, IfSome, refl, sym, ap, ◌∙◌, append_assoc, arith}
use Rattle.std.proofs.lemmas.Option.{some_pair_parts}
use Rattle.tc_lists.specs.AtFront.{AlwaysTakes, Front, IsReadAgain, Takes, closed_by, made, word_for}
use Rattle.tc_lists.proofs.AtFront.{behind-again, behind-takes, closed_by-again, closed_by-takes, made-again, made-takes, or_else-first, or_else-takes, word_for-takes}
use Rattle.tc_term.specs.Tree.{Tree, IsTuple}
use Rattle.tc_term.specs.Text.{canonical, quoted}
use Rattle.tc_read.specs.Canonical.{EndsTerm}
use Rattle.tc_model.specs.Entries.{IsOutcomeWellFormed}
use Rattle.tc_model.specs.Typed.{IsTypedEffect, IsTypedOutcome, IsTypedReply}
use Rattle.tc_model.specs.declared.events.Phase.TheVariants.{Pre, Post}
use Rattle.tc_model.specs.declared.items.Effect.{Effect}
use Rattle.tc_model.specs.declared.items.Effect.TheVariants.{Put, Took, Read}
use Rattle.tc_model.specs.declared.outcomes.Outcome.{Outcome}
use Rattle.tc_model.specs.declared.outcomes.Outcome.TheVariants as outcome
use Rattle.tc_model.specs.declared.outcomes.Reply.{Reply}
use Rattle.tc_model.specs.declared.outcomes.Reply.TheVariants as reply
use Rattle.tc_histline.specs.Text.{effect_text, outcome_text, reply_text, told_text}
use Rattle.tc_histline.specs.Words.{tuple_at, quote_at}
use Rattle.tc_histline.specs.Outcomes.{IsOutcomeIn, IsReplyIn, IsToldIn, ended, ended_text, tuple_behind, quote_behind, over_with, common_outcome_at, further_outcome_at, outcome_at, common_reply_at, further_reply_at, reply_at, told_at, effect_at}
use Rattle.tc_histline.specs.declared.versions.Version.{Version}
use Rattle.tc_histline.specs.declared.versions.Version.TheVariants.{One, Two}
use Rattle.tc_histline.proofs.ReadWords.{tuple_at-again, tuple_at-takes, quote_at-again, quote_at-takes}

-- a line feed ends a term
line_ends : (rest : List ℕ) → EndsTerm (codes "\n" ++ rest)
line_ends rest = (refl, λ e. omega (arith, e))

tuple_behind-ends : (word : List ℕ) (t : Tree) (rest : List ℕ) → IsTuple t → EndsTerm rest
    → tuple_behind word ((word ++ canonical t) ++ rest) ≡ Some (t, rest)
tuple_behind-ends word t rest is ends = behind-again word (canonical t) rest tuple_at t (tuple_at-again t rest is ends)

-- a tuple, up to the end of the line
tuple_behind-again : (word : List ℕ) (t : Tree) (rest : List ℕ) → IsTuple t
    → tuple_behind word ((word ++ canonical t) ++ (codes "\n" ++ rest)) ≡ Some (t, codes "\n" ++ rest)
tuple_behind-again word t rest is = tuple_behind-ends word t (codes "\n" ++ rest) is (line_ends rest)

quote_behind-again : (word text rest : List ℕ) → quote_behind word ((word ++ quoted text) ++ rest) ≡ Some (text, rest)
quote_behind-again word text rest = behind-again word (quoted text) rest quote_at text (quote_at-again text rest)

-- what is read behind a word stands there

tuples : (word bytes : List ℕ) → Takes IsTuple (λ t. word ++ canonical t) bytes (tuple_behind word bytes)
tuples word bytes = behind-takes IsTuple canonical word bytes tuple_at tuple_at-takes

quotes : (word bytes : List ℕ) → Takes (λ text. Unit {0}) (λ text. word ++ quoted text) bytes (quote_behind word bytes)
quotes word bytes = behind-takes (λ text. Unit {0}) quoted word bytes quote_at quote_at-takes

-- outcomes

module _ (v : Version) where
  common_outcome_at-takes : AlwaysTakes (IsOutcomeIn v) outcome_text common_outcome_at
  common_outcome_at-takes bytes =
      or_else-takes G T bytes _ _ (word_for-takes G T outcome.Done (codes "done") bytes tt refl)
      (or_else-takes G T bytes _ _ (made-takes G T IsTuple (λ t. codes "tuple " ++ canonical t) outcome.Took bytes _ (λ t is. is) (λ t. refl) (tuples (codes "tuple ") bytes))
      (or_else-takes G T bytes _ _ (word_for-takes G T outcome.NoTuple (codes "none") bytes tt refl)
      (or_else-takes G T bytes _ _ (word_for-takes G T outcome.Pending (codes "pending") bytes tt refl)
      (or_else-takes G T bytes _ _ (made-takes G T (λ text. Unit {0}) (λ text. codes "spec " ++ quoted text) outcome.Spec bytes _ (λ text is. is) (λ text. refl) (quotes (codes "spec ") bytes))
      (or_else-takes G T bytes _ _ (word_for-takes G T (outcome.Over Pre None) (codes "over pre") bytes tt refl)
      (or_else-takes G T bytes _ _ (made-takes G T IsTuple (λ t. codes "over post " ++ canonical t) over_with bytes _ (λ t is. is) (λ t. refl) (tuples (codes "over post ") bytes))
      (word_for-takes G T (outcome.Over Post None) (codes "over post") bytes tt refl)))))))
    where
      G : Outcome → Type 0
      G = IsOutcomeIn v

      T : Outcome → List ℕ
      T = outcome_text

further_outcome_at-takes : AlwaysTakes (IsOutcomeIn Two) outcome_text further_outcome_at
further_outcome_at-takes bytes =
    or_else-takes (IsOutcomeIn Two) outcome_text bytes _ _ (word_for-takes (IsOutcomeIn Two) outcome_text outcome.Absent (codes "absent") bytes tt refl)
    (made-takes (IsOutcomeIn Two) outcome_text IsTuple (λ t. codes "found " ++ canonical t) outcome.Found bytes _ (λ t is. is) (λ t. refl) (tuples (codes "found ") bytes))

pub outcome_at-takes : (v : Version) → AlwaysTakes (IsOutcomeIn v) outcome_text (outcome_at v)
outcome_at-takes One bytes = common_outcome_at-takes One bytes
outcome_at-takes Two bytes =
    or_else-takes (IsOutcomeIn Two) outcome_text bytes (common_outcome_at bytes) (further_outcome_at bytes) (common_outcome_at-takes Two bytes) (further_outcome_at-takes bytes)

in_version : (v : Version) (bytes : List ℕ) (found : Outcome × List ℕ) → common_outcome_at bytes ≡ Some found → outcome_at v bytes ≡ Some found
in_version One bytes found e = e
in_version Two bytes found e = or_else-first (common_outcome_at bytes) (further_outcome_at bytes) found e

pub outcome_at-again : (v : Version) (o : Outcome) (rest : List ℕ) → IsOutcomeIn v o
    → outcome_at v (outcome_text o ++ (codes "\n" ++ rest)) ≡ Some (o, codes "\n" ++ rest)
outcome_at-again v outcome.Done rest is = in_version v _ _ refl
outcome_at-again v (outcome.Took t) rest is = in_version v _ _ (or_else-first _ _ _ (made-again outcome.Took _ t (codes "\n" ++ rest) (tuple_behind-again (codes "tuple ") t rest is)))
outcome_at-again v outcome.NoTuple rest is = in_version v _ _ refl
outcome_at-again v outcome.Pending rest is = in_version v _ _ refl
outcome_at-again v (outcome.Spec text) rest is = in_version v _ _ (or_else-first _ _ _ (made-again outcome.Spec _ text (codes "\n" ++ rest) (quote_behind-again (codes "spec ") text (codes "\n" ++ rest))))
outcome_at-again v (outcome.Over Pre None) rest is = in_version v _ _ refl
outcome_at-again v (outcome.Over Pre (Some t)) rest is = absurd is
outcome_at-again v (outcome.Over Post None) rest is = in_version v _ _ refl
outcome_at-again v (outcome.Over Post (Some t)) rest is = in_version v _ _ (or_else-first _ _ _ (made-again over_with _ t (codes "\n" ++ rest) (tuple_behind-again (codes "over post ") t rest is)))
outcome_at-again One outcome.Absent rest is = absurd is
outcome_at-again One (outcome.Found t) rest is = absurd is
outcome_at-again Two outcome.Absent rest is = refl
outcome_at-again Two (outcome.Found t) rest is = made-again outcome.Found _ t (codes "\n" ++ rest) (tuple_behind-again (codes "found ") t rest is)

-- up to the end of the line

module _ {X : Type 0} (good : X → Type 0) (text : X → List ℕ) (read : List ℕ → Front X) where
  pub ended-takes : AlwaysTakes good text read → AlwaysTakes good (ended_text text) (ended read)
  ended-takes takes bytes = closed_by-takes good text (codes "\n") bytes (read bytes) (takes bytes)

  pub ended-again : ((x : X) (rest : List ℕ) → good x → read (text x ++ (codes "\n" ++ rest)) ≡ Some (x, codes "\n" ++ rest)) → IsReadAgain good (ended_text text) (ended read)
  ended-again again x rest is =
      ap (λ bytes. closed_by (codes "\n") (read bytes)) (append_assoc (text x) (codes "\n") rest)
      ∙ closed_by-again (codes "\n") rest (read (text x ++ (codes "\n" ++ rest))) x (again x rest is)

pub outcome-ended : (v : Version) → IsReadAgain (IsOutcomeIn v) (ended_text outcome_text) (ended (outcome_at v))
outcome-ended v = ended-again (IsOutcomeIn v) outcome_text (outcome_at v) (outcome_at-again v)

-- version 2 has every outcome that is well formed
outcome-in : (o : Outcome) → IsTypedOutcome o → IsOutcomeWellFormed o → IsOutcomeIn Two o
outcome-in outcome.Done is formed = tt
outcome-in (outcome.Took t) is formed = is
outcome-in outcome.NoTuple is formed = tt
outcome-in outcome.Absent is formed = tt
outcome-in (outcome.Found t) is formed = is
outcome-in outcome.Pending is formed = tt
outcome-in (outcome.Spec text) is formed = tt
outcome-in (outcome.Over Pre None) is formed = tt
outcome-in (outcome.Over Pre (Some t)) is formed = absurd formed
outcome-in (outcome.Over Post None) is formed = tt
outcome-in (outcome.Over Post (Some t)) is formed = is

pub outcome-one : (o p : Outcome) (rest more : List ℕ) → IsTypedOutcome o → IsTypedOutcome p → IsOutcomeWellFormed o → IsOutcomeWellFormed p
    → outcome_text o ++ (codes "\n" ++ rest) ≡ outcome_text p ++ (codes "\n" ++ more) → (o ≡ p) × (codes "\n" ++ rest ≡ codes "\n" ++ more)
outcome-one o p rest more is other formed well same =
    some_pair_parts o p (codes "\n" ++ rest) (codes "\n" ++ more)
    (sym (outcome_at-again Two o rest (outcome-in o is formed)) ∙ (ap (outcome_at Two) same ∙ outcome_at-again Two p more (outcome-in p other well)))

-- replies

module _ (v : Version) where
  common_reply_at-takes : AlwaysTakes (IsReplyIn v) reply_text common_reply_at
  common_reply_at-takes bytes =
      or_else-takes G T bytes _ _ (word_for-takes G T reply.Done (codes "done") bytes tt refl)
      (or_else-takes G T bytes _ _ (made-takes G T IsTuple (λ t. codes "tuple " ++ canonical t) reply.Tuple bytes _ (λ t is. is) (λ t. refl) (tuples (codes "tuple ") bytes))
      (or_else-takes G T bytes _ _ (word_for-takes G T reply.NoTuple (codes "none") bytes tt refl)
      (or_else-takes G T bytes _ _ (made-takes G T (λ text. Unit {0}) (λ text. codes "spec " ++ quoted text) reply.Spec bytes _ (λ text is. is) (λ text. refl) (quotes (codes "spec ") bytes))
      (or_else-takes G T bytes _ _ (word_for-takes G T (reply.OverBudget Pre) (codes "over pre") bytes tt refl)
      (word_for-takes G T (reply.OverBudget Post) (codes "over post") bytes tt refl)))))
    where
      G : Reply → Type 0
      G = IsReplyIn v

      T : Reply → List ℕ
      T = reply_text

further_reply_at-takes : AlwaysTakes (IsReplyIn Two) reply_text further_reply_at
further_reply_at-takes bytes =
    or_else-takes (IsReplyIn Two) reply_text bytes _ _ (word_for-takes (IsReplyIn Two) reply_text reply.Absent (codes "absent") bytes tt refl)
    (made-takes (IsReplyIn Two) reply_text IsTuple (λ t. codes "found " ++ canonical t) reply.Found bytes _ (λ t is. is) (λ t. refl) (tuples (codes "found ") bytes))

pub reply_at-takes : (v : Version) → AlwaysTakes (IsReplyIn v) reply_text (reply_at v)
reply_at-takes One bytes = common_reply_at-takes One bytes
reply_at-takes Two bytes =
    or_else-takes (IsReplyIn Two) reply_text bytes (common_reply_at bytes) (further_reply_at bytes) (common_reply_at-takes Two bytes) (further_reply_at-takes bytes)

reply_in_version : (v : Version) (bytes : List ℕ) (found : Reply × List ℕ) → common_reply_at bytes ≡ Some found → reply_at v bytes ≡ Some found
reply_in_version One bytes found e = e
reply_in_version Two bytes found e = or_else-first (common_reply_at bytes) (further_reply_at bytes) found e

pub reply_at-again : (v : Version) (r : Reply) (rest : List ℕ) → IsReplyIn v r
    → reply_at v (reply_text r ++ (codes "\n" ++ rest)) ≡ Some (r, codes "\n" ++ rest)
reply_at-again v reply.Done rest is = reply_in_version v _ _ refl
reply_at-again v (reply.Tuple t) rest is = reply_in_version v _ _ (or_else-first _ _ _ (made-again reply.Tuple _ t (codes "\n" ++ rest) (tuple_behind-again (codes "tuple ") t rest is)))
reply_at-again v reply.NoTuple rest is = reply_in_version v _ _ refl
reply_at-again v (reply.Spec text) rest is = reply_in_version v _ _ (or_else-first _ _ _ (made-again reply.Spec _ text (codes "\n" ++ rest) (quote_behind-again (codes "spec ") text (codes "\n" ++ rest))))
reply_at-again v (reply.OverBudget Pre) rest is = reply_in_version v _ _ refl
reply_at-again v (reply.OverBudget Post) rest is = reply_in_version v _ _ refl
reply_at-again One reply.Absent rest is = absurd is
reply_at-again One (reply.Found t) rest is = absurd is
reply_at-again Two reply.Absent rest is = refl
reply_at-again Two (reply.Found t) rest is = made-again reply.Found _ t (codes "\n" ++ rest) (tuple_behind-again (codes "found ") t rest is)

-- what an agent is told

pub told_at-takes : (v : Version) → AlwaysTakes (IsToldIn v) told_text (told_at v)
told_at-takes v bytes =
    or_else-takes (IsToldIn v) told_text bytes (made Some (reply_at v bytes)) (word_for None (codes "pending") bytes)
    (made-takes (IsToldIn v) told_text (IsReplyIn v) reply_text Some bytes (reply_at v bytes) (λ r is. is) (λ r. refl) (reply_at-takes v bytes))
    (word_for-takes (IsToldIn v) told_text None (codes "pending") bytes tt refl)

pub told_at-again : (v : Version) (told : Option Reply) (rest : List ℕ) → IsToldIn v told
    → told_at v (told_text told ++ (codes "\n" ++ rest)) ≡ Some (told, codes "\n" ++ rest)
told_at-again v (Some r) rest is = or_else-first _ _ _ (made-again Some _ r (codes "\n" ++ rest) (reply_at-again v r rest is))
told_at-again One None rest is = refl
told_at-again Two None rest is = refl

pub told-ended : (v : Version) → IsReadAgain (IsToldIn v) (ended_text told_text) (ended (told_at v))
told-ended v = ended-again (IsToldIn v) told_text (told_at v) (told_at-again v)

-- version 2 has every reply
reply-in : (r : Reply) → IsTypedReply r → IsReplyIn Two r
reply-in reply.Done is = tt
reply-in (reply.Tuple t) is = is
reply-in reply.NoTuple is = tt
reply-in reply.Absent is = tt
reply-in (reply.Found t) is = is
reply-in (reply.Spec text) is = tt
reply-in (reply.OverBudget phase) is = tt

told-in : (told : Option Reply) → IfSome told IsTypedReply → IsToldIn Two told
told-in None is = tt
told-in (Some r) is = reply-in r is

pub told-one : (t u : Option Reply) (rest more : List ℕ) → IfSome t IsTypedReply → IfSome u IsTypedReply
    → told_text t ++ (codes "\n" ++ rest) ≡ told_text u ++ (codes "\n" ++ more) → (t ≡ u) × (codes "\n" ++ rest ≡ codes "\n" ++ more)
told-one t u rest more is other same =
    some_pair_parts t u (codes "\n" ++ rest) (codes "\n" ++ more)
    (sym (told_at-again Two t rest (told-in t is)) ∙ (ap (told_at Two) same ∙ told_at-again Two u more (told-in u other)))

-- effects

pub effect_at-takes : AlwaysTakes IsTypedEffect effect_text effect_at
effect_at-takes bytes =
    or_else-takes IsTypedEffect effect_text bytes _ _ (made-takes IsTypedEffect effect_text IsTuple (λ t. codes " put " ++ canonical t) Put bytes _ (λ t is. is) (λ t. refl) (tuples (codes " put ") bytes))
    (or_else-takes IsTypedEffect effect_text bytes _ _ (made-takes IsTypedEffect effect_text IsTuple (λ t. codes " took " ++ canonical t) Took bytes _ (λ t is. is) (λ t. refl) (tuples (codes " took ") bytes))
    (made-takes IsTypedEffect effect_text IsTuple (λ t. codes " read " ++ canonical t) Read bytes _ (λ t is. is) (λ t. refl) (tuples (codes " read ") bytes)))

pub effect_at-again : (e : Effect) (rest : List ℕ) → IsTypedEffect e → EndsTerm rest → effect_at (effect_text e ++ rest) ≡ Some (e, rest)
effect_at-again (Put t) rest is ends = or_else-first _ _ _ (made-again Put _ t rest (tuple_behind-ends (codes " put ") t rest is ends))
effect_at-again (Took t) rest is ends = or_else-first _ _ _ (made-again Took _ t rest (tuple_behind-ends (codes " took ") t rest is ends))
effect_at-again (Read t) rest is ends = made-again Read _ t rest (tuple_behind-ends (codes " read ") t rest is ends)

pub effect-one : (e f : Effect) (rest more : List ℕ) → IsTypedEffect e → IsTypedEffect f → EndsTerm rest → EndsTerm more
    → effect_text e ++ rest ≡ effect_text f ++ more → (e ≡ f) × (rest ≡ more)
effect-one e f rest more is other ends end same =
    some_pair_parts e f rest more (sym (effect_at-again e rest is ends) ∙ (ap effect_at same ∙ effect_at-again f more other end))
