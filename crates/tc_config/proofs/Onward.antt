-- Clauses that are read one behind another, and what they set up.
use Rattle.std.proofs.Common.{◌≡◌, ◌<◌, ◌≤◌, ◌+◌, ℕ, IfErr, IsErrAnd, Result, Ok, Err, inl, inr, List, [], ◌∷◌, All, length, length-append, sym, subst, arith}
use Rattle.std.proofs.lemmas.List.Elements.{All-nil, All-push, All-weaker}
use Rattle.tc_lists.proofs.Elements.{All-slice_get}
use Rattle.tc_term.specs.Faults.{Found, Nothing}
use Rattle.tc_term.specs.Tree.{Tree}
use Rattle.tc_term.specs.TreeView.{tree_of}
use Rattle.tc_model.specs.declared.limits.TheConstants.{MOST_TUPLES}
use Rattle.tc_policy.specs.Places.{grant}
use Rattle.tc_read.specs.Clauses.{AnswersAt, IsFaultyAt}
use Rattle.tc_read.specs.declared.clauses.Unread.{Unread}
use Rattle.tc_read.specs.declared.clauses.Unread.TheVariants as unread
use Rattle.tc_read.proofs.Onward as onward
use Rattle.tc_config.specs.Answers.{IsConfigFault, IsFaultAt}
use Rattle.tc_config.specs.Causes.{IsFaulty}
use Rattle.tc_config.specs.Configurations.{Configuration, nothing}
use Rattle.tc_config.specs.Drafts.{HasRoom, IsOfClauses}
use Rattle.tc_config.specs.Meanings.{ClauseMakes, Means, centre, changed, with_clause, with_tuple}
use Rattle.tc_config.specs.Pieces.{IsReadTo}
use Rattle.tc_config.specs.Texts.{HasFault, IsRefused, Spells, cause_unread, config_language}
use Rattle.tc_config.specs.declared.configs.CentreConf.{CentreConf}
use Rattle.tc_config.specs.declared.faults.ConfigCause.{ConfigCause}
use Rattle.tc_config.specs.declared.faults.ConfigCause.TheVariants as cause
use Rattle.tc_config.specs.declared.faults.ConfigFault.{ConfigFault}
use Rattle.tc_config.specs.declared.faults.ConfigFault.TheVariants.{Bad, NoMemory}
use Rattle.tc_config.specs.declared.forms.Form.{Form}
use Rattle.tc_config.specs.declared.forms.Form.TheVariants.{Centre, Tuple, Spec, Role, Grant, Agent, Script}
use Rattle.tc_config.specs.declared.limits.TheConstants.{MOST_BYTES}
use Rattle.tc_config.proofs.Changed.{All-changed}

-- what is true of a fault is true of the answer that hands it on
pub handed_on : {X : Type 0} (r : Result X ConfigFault) (P : ConfigFault → Type 0) (fault : ConfigFault)
    → IsErrAnd r (λ (y : ConfigFault). y ≡ fault) → P fault → IfErr r P
handed_on {X} (Ok x) P fault told is = tt
handed_on {X} (Err y) P fault told is = subst P (sym told) is

-- it adds one grant at most, and no more than one tuple to a centre
abbrev HasFew : ℕ → List CentreConf → Type 0
HasFew count centres = All (λ (s : CentreConf). length s.tuples ≤ count) centres

few-more : (count : ℕ) (centres : List CentreConf) → HasFew count centres → HasFew (count + 1) centres
few-more count centres few =
    All-weaker (λ (s : CentreConf). length s.tuples ≤ count) (λ (s : CentreConf). length s.tuples ≤ count + 1)
    (λ s less. omega (arith, less)) centres few

few-changed : (count : ℕ) (centres : List CentreConf) (f : CentreConf → CentreConf) (k : ℕ) → HasFew count centres
    → ((s : CentreConf) → length (f s).tuples ≤ length s.tuples + 1) → HasFew (count + 1) (changed k f centres)
few-changed count centres f k few adds =
    All-changed f (λ (s : CentreConf). length s.tuples ≤ count + 1) centres k (few-more count centres few)
    (λ s at less. omega (arith, All-slice_get (λ (x : CentreConf). length x.tuples ≤ count) centres k s few at, adds s))

of-clauses-more : (count : ℕ) (c : Configuration) (vars : ℕ) (x : Form) (e : Configuration) → IsOfClauses count c
    → ClauseMakes c vars x e → IsOfClauses (count + 1) e
of-clauses-more count c vars (Centre n b) e h makes = subst (IsOfClauses (count + 1)) (sym makes) (record {
  grants = omega (arith, h.grants);
  tuples =
      All-push (λ (s : CentreConf). length s.tuples ≤ count + 1) c.centres (centre n b) (few-more count c.centres h.tuples)
      (omega arith);
})
of-clauses-more count c vars (Tuple n t) e h makes = subst (IsOfClauses (count + 1)) (sym makes.2) (record {
  grants = omega (arith, h.grants);
  tuples =
      few-changed count c.centres (with_tuple (tree_of t)) makes.0 h.tuples
      (λ s. omega (arith, length-append s.tuples (tree_of t ∷ [])));
})
of-clauses-more count c vars (Spec n t) e h makes = subst (IsOfClauses (count + 1)) (sym makes.4) (record {
  grants = omega (arith, h.grants);
  tuples = few-changed count c.centres (with_clause makes.1) makes.0 h.tuples (λ s. omega arith);
})
of-clauses-more count c vars (Role r) e h makes = subst (IsOfClauses (count + 1)) (sym makes) (record {
  grants = omega (arith, h.grants);
  tuples = few-more count c.centres h.tuples;
})
of-clauses-more count c vars (Grant r n p) e h makes = subst (IsOfClauses (count + 1)) (sym makes.4) (record {
  grants = omega (arith, length-append c.roles (grant makes.0 makes.1 p ∷ []), h.grants);
  tuples = few-more count c.centres h.tuples;
})
of-clauses-more count c vars (Agent a r) e h makes = subst (IsOfClauses (count + 1)) (sym makes.2) (record {
  grants = omega (arith, h.grants);
  tuples = few-more count c.centres h.tuples;
})
of-clauses-more count c vars (Script a lines) e h makes = subst (IsOfClauses (count + 1)) (sym makes.4) (record {
  grants = omega (arith, h.grants);
  tuples = few-more count c.centres h.tuples;
})

-- what tc_read says of a text that is read up to a place
clauses-to : (text : List ℕ) (from count : ℕ) (c : Configuration) → IsReadTo text from count c
    → onward.IsReadTo config_language text nothing from count c
clauses-to text from count c h =
    record { terms = h.terms; clauses = h.clauses; counted = h.counted; few = h.few; inside = h.inside }

read-to : (text : List ℕ) (from count : ℕ) (c : Configuration) → onward.IsReadTo config_language text nothing from count c
    → IsOfClauses count c → IsReadTo text from count c
read-to text from count c h small =
    record { terms = h.terms; clauses = h.clauses; counted = h.counted; few = h.few; inside = h.inside; small = small }

pub read_none : (text : List ℕ) → IsReadTo text 0 0 nothing
read_none text =
    read-to text 0 0 nothing (onward.read_none config_language text nothing)
    (record { grants = omega arith; tuples = All-nil (λ (s : CentreConf). length s.tuples ≤ 0) })

pub read_more : (text : List ℕ) (from count behind : ℕ) (c e : Configuration) (t : Tree) → IsReadTo text from count c
    → AnswersAt text from (Found t behind) → Means c t e → from < behind → behind ≤ length text
    → IsReadTo text behind (count + 1) e
read_more text from count behind c e t h found means further inside =
    read-to text behind (count + 1) e
    (onward.read_more config_language text nothing from count behind c e t (clauses-to text from count c h) found means further inside)
    (of-clauses-more count c _ means.form e h.small means.makes)

-- there is room for a clause that is found behind them
pub room_behind : (text : List ℕ) (from count behind : ℕ) (c : Configuration) → IsReadTo text from count c → from < behind
    → behind ≤ length text → length text ≤ MOST_BYTES → HasRoom c
room_behind text from count behind c h further inside short = record {
  grants = omega (arith, h.small.grants, h.few, further, inside, short);
  tuples =
      All-weaker (λ (s : CentreConf). length s.tuples ≤ count) (λ (s : CentreConf). length s.tuples < MOST_TUPLES)
      (λ s less. omega (arith, less, h.few, further, inside, short)) c.centres h.small.tuples;
}

-- all clauses are read
pub read_all : (text : List ℕ) (from count : ℕ) (c : Configuration) → IsReadTo text from count c → length text ≤ MOST_BYTES
    → AnswersAt text from Nothing → Spells text c
read_all text from count c h short end =
    record { short = short; clauses = onward.read_all config_language text nothing from count c (clauses-to text from count c h) end }

-- what is wrong with the clause behind them is what is wrong with the text
has_fault : (text : List ℕ) (from count number : ℕ) (c : Configuration) (why : ConfigCause) → IsReadTo text from count c
    → length text ≤ MOST_BYTES → number ≡ count + 1 → IsFaultyAt config_language text from c why → HasFault text number why
has_fault text from count number c why h short counted faulty =
    record { short = short; faulty = onward.read_fault config_language text nothing from count number c why (clauses-to text from count c h) counted faulty }

-- no form is faulty by the length of the text
formless : (c : Configuration) (x : Form) → IsFaulty c x cause.Length → ⊥
formless c (Centre n b) h = h
formless c (Tuple n t) h = h
formless c (Spec n t) h = h
formless c (Role r) h = h
formless c (Grant r n p) h = h
formless c (Agent a r) h = h
formless c (Script a lines) h = h

not_length : (u : Unread) → cause_unread u ≡ cause.Length → ⊥
not_length unread.Syntax same = cc
not_length unread.Size same = cc

no_length : (text : List ℕ) (from : ℕ) (c : Configuration) → IsFaultyAt config_language text from c cause.Length → ⊥
no_length text from c (inl (u, h, same)) = not_length u same
no_length text from c (inr (t, behind, found, first)) = formless c first.has.0 first.has.2

refused : (text : List ℕ) (from count number : ℕ) (c : Configuration) (why : ConfigCause) → IsReadTo text from count c
    → length text ≤ MOST_BYTES → number ≡ count + 1 → IsFaultyAt config_language text from c why → IsRefused text number why
refused text from count number c cause.Length h short counted faulty = absurd (no_length text from c faulty)
refused text from count number c cause.Syntax h short counted faulty = has_fault text from count number c cause.Syntax h short counted faulty
refused text from count number c cause.Size h short counted faulty = has_fault text from count number c cause.Size h short counted faulty
refused text from count number c cause.Shape h short counted faulty = has_fault text from count number c cause.Shape h short counted faulty
refused text from count number c cause.Reaction h short counted faulty = has_fault text from count number c cause.Reaction h short counted faulty
refused text from count number c cause.UnknownCentre h short counted faulty = has_fault text from count number c cause.UnknownCentre h short counted faulty
refused text from count number c cause.UnknownRole h short counted faulty = has_fault text from count number c cause.UnknownRole h short counted faulty
refused text from count number c cause.UnknownAgent h short counted faulty = has_fault text from count number c cause.UnknownAgent h short counted faulty
refused text from count number c cause.Twice h short counted faulty = has_fault text from count number c cause.Twice h short counted faulty
refused text from count number c cause.NotGround h short counted faulty = has_fault text from count number c cause.NotGround h short counted faulty
refused text from count number c cause.Count h short counted faulty = has_fault text from count number c cause.Count h short counted faulty

pub told_refused : (text : List ℕ) (from count : ℕ) (c : Configuration) (fault : ConfigFault) → IsReadTo text from count c
    → length text ≤ MOST_BYTES → IsFaultAt text from count c fault → IsConfigFault text fault
told_refused text from count c (Bad number why) h short told = refused text from count number c why h short told.0 told.1
told_refused text from count c NoMemory h short told = tt
