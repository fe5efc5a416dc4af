-- Clauses with their numbers by operation, and in parts by the codes of their heads and by what
-- their guards allow.
use Rattle.std.specs.Prelude.{◌≡◌, ◌<◌, ℕ, IsTrue, List, AllPairs, Contains, length}
use Rattle.std.proofs.Common.{get_or}
use Rattle.tc_model.specs.Events.{Occurrence}
use Rattle.tc_model.specs.Reactions.{Rule}
use Rattle.tc_model.specs.Triggers.{IsClause, IsTriggered}
use Rattle.tc_model.specs.declared.events.EventOp.{EventOp}
use Rattle.tc_model.specs.declared.events.EventOp.TheVariants as op
use Rattle.tc_model.specs.declared.events.Phase.{Phase}
use Rattle.tc_model.specs.declared.events.Phase.TheVariants.{Pre, Post}
use Rattle.tc_model.specs.declared.events.Sign.{Sign}
use Rattle.tc_model.specs.declared.events.Sign.TheVariants.{Neither, Success, Failure}
use Rattle.tc_spec.specs.Codes.{is_in, rule_part}
use Rattle.tc_spec.specs.Guards.{Allows}
use Rattle.tc_spec.specs.Numbers.{AreThose}
use Rattle.tc_spec.specs.declared.parts.Part.{Part}
use Rattle.tc_spec.specs.declared.spec.Index.{Index}

-- some clause is of the operation
pub record HasOp (o : EventOp) (clauses : List Rule) : Type 0 where
  pub number : ℕ
  pub rule : Rule
  pub clause : IsClause clauses number rule
  pub op : rule.op ≡ o

-- the numbers of the clauses of an operation
abbrev pub AreOf : EventOp → List Rule → List ℕ → Type 0
AreOf o clauses numbers = AreThose (λ r. r.op ≡ o) clauses numbers

-- the numbers of the clauses that are in this part of so many
abbrev pub AreInPart : ℕ → ℕ → List Rule → List ℕ → Type 0
AreInPart count part clauses numbers =
    AreThose (λ r. IsTrue (is_in (rule_part count r) part)) clauses numbers

-- the numbers of the clauses in this part whose guards hold of an event of this phase and sign
abbrev pub AreInPartAt : ℕ → ℕ → Phase → Sign → List Rule → List ℕ → Type 0
AreInPartAt count part phase sign clauses numbers =
    AreThose (λ r. IsTrue (is_in (rule_part count r) part) × Allows phase sign r.guard)
    clauses numbers

-- the lists of a part have the numbers of its clauses that requests, that successes and that
-- failures may trigger
pub record IsPart (count part : ℕ) (clauses : List Rule) (p : Part) : Type 0 where
  pub requests : AreInPartAt count part Pre Neither clauses p.requests.items
  pub successes : AreInPartAt count part Post Success clauses p.successes.items
  pub failures : AreInPartAt count part Post Failure clauses p.failures.items

-- there is a part, and each has the numbers of its clauses
pub record AreParts (clauses : List Rule) (parts : List Part) : Type 0 where
  pub some : 0 < length parts
  pub each : (part : ℕ) (d : Part) → part < length parts
      → IsPart (length parts) part clauses (get_or parts part d)

-- numbers of clauses, rising, with those of all the clauses that the event triggers among them
pub record AreEnough (clauses : List Rule) (e : Occurrence) (numbers : List ℕ) : Type 0 where
  pub rising : AllPairs ◌<◌ numbers
  pub only : (n : ℕ) → Contains numbers n → (r : Rule) × IsClause clauses n r
  pub all : (n : ℕ) (r : Rule) → IsClause clauses n r → IsTriggered r e → Contains numbers n

-- each list has the numbers of its operation's clauses, and each part those of its own
pub record IsIndex (clauses : List Rule) (i : Index) : Type 0 where
  pub out : AreOf op.Out clauses i.out.items
  pub in_ : AreOf op.In clauses i.in_.items
  pub rd : AreOf op.Rd clauses i.rd.items
  pub inp : AreOf op.Inp clauses i.inp.items
  pub rdp : AreOf op.Rdp clauses i.rdp.items
  pub no : AreOf op.No clauses i.no.items
  pub nop : AreOf op.Nop clauses i.nop.items
  pub out_r : AreOf op.OutR clauses i.out_r.items
  pub in_r : AreOf op.InR clauses i.in_r.items
  pub rd_r : AreOf op.RdR clauses i.rd_r.items
  pub no_r : AreOf op.NoR clauses i.no_r.items
  pub parts : AreParts clauses i.parts.items
