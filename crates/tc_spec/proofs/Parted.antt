-- The numbers of clauses in parts.
use Rattle.std.proofs.Common.{◌≡◌, ◌<◌, ◌≤◌, ◌+◌, ◌++◌, ⊎_elim, ℕ, Bool, IsTrue, if◌then◌else◌, List, [], ◌∷◌, Option, Some, length, length-append, map, get_or, sym, ap, subst, ◌∙◌, arith}
use Rattle.std.proofs.lemmas.Bool.{cases_lt}
use Rattle.std.proofs.lemmas.List.{get_or-map, get_or_append_left, get_or_push, length-map}
use Rattle.tc_term.specs.Tree.{Tree, Atomic}
use Rattle.tc_model.specs.Events.{Occurrence}
use Rattle.tc_model.specs.Reactions.{Rule}
use Rattle.tc_model.specs.declared.events.EventOp.{EventOp}
use Rattle.tc_model.specs.declared.events.EventOp.TheVariants as op
use Rattle.tc_model.specs.declared.events.Phase.{Phase}
use Rattle.tc_model.specs.declared.events.Sign.{Sign}
use Rattle.tc_model.specs.declared.reactions.Form.TheVariants as form
use Rattle.tc_spec.proofs.Apart.{part-triggered}
use Rattle.tc_spec.proofs.Sifting.{HasClause, IsKept, all_numbers, clause_at, rule_kept}
use Rattle.tc_spec.specs.Codes.{is_in, part_in, rule_part}
use Rattle.tc_spec.proofs.Tests.{allows-held}
use Rattle.tc_spec.specs.Indexed.{AreEnough, AreInPart, AreInPartAt, AreParts, IsPart}
use Rattle.tc_spec.specs.declared.parts.Part.{Part}

-- the rule is in this part of so many
abbrev pub InPart : ℕ → ℕ → Rule → Type 0
InPart count part r = IsTrue (is_in (rule_part count r) part)

-- some rule
abbrev some_rule : Rule
some_rule = record { vars = 0; form = form.Two; op = op.Out; head = Atomic []; guard = []; goals = [] }

pub place_kept : (count part : ℕ) (clauses : List Rule) (places : List (Option ℕ)) (found new : List ℕ) (i : ℕ) (place d : Option ℕ)
    (keep : Bool) → places ≡ map (rule_part count) clauses → i < length places → place ≡ get_or places i d
    → IsKept (λ k. k + 1) (HasClause clauses (InPart count part)) i found → keep ≡ is_in place part
    → new ≡ (if keep then found ++ (i + 1) ∷ [] else found)
    → IsKept (λ k. k + 1) (HasClause clauses (InPart count part)) (i + 1) new
place_kept count part clauses places found new i place d keep are inside is h test kept =
    let within : i < length clauses = omega (arith, inside, ap length are, length-map clauses (rule_part count)) in
    let r = get_or clauses i some_rule in
    let same : place ≡ rule_part count r =
    is ∙ ap (λ ps. get_or ps i d) are ∙ get_or-map (rule_part count) clauses i some_rule d within in
    let tested : keep ≡ is_in (rule_part count r) part = test ∙ ap (λ p. is_in p part) same in
    rule_kept (InPart count part) clauses found new i r keep (clause_at clauses i some_rule within) h
    (λ holds. sym tested ∙ holds, λ holds. tested ∙ holds) kept

pub all_places : (count part : ℕ) (clauses : List Rule) (places : List (Option ℕ)) (numbers : List ℕ) (i : ℕ)
    → places ≡ map (rule_part count) clauses → i ≡ length places
    → IsKept (λ k. k + 1) (HasClause clauses (InPart count part)) i numbers → AreInPart count part clauses numbers
all_places count part clauses places numbers i are all h =
    all_numbers (InPart count part) clauses numbers
    (subst (λ n. IsKept (λ k. k + 1) (HasClause clauses (InPart count part)) n numbers)
    (all ∙ ap length are ∙ length-map clauses (rule_part count)) h)

-- the first parts of so many are made
pub record ArePartsTo (clauses : List Rule) (count : ℕ) (parts : List Part) (done : ℕ) : Type 0 where
  pub made : length parts ≡ done
  pub each : (part : ℕ) (d : Part) → part < done → IsPart count part clauses (get_or parts part d)

module _ (clauses : List Rule) (count : ℕ) where
  pub parts_none : (parts : List Part) → parts ≡ [] → ArePartsTo clauses count parts 0
  parts_none parts none = record {
    made = ap length none;
    each = λ part d before. absurd (omega (arith, before));
  }

  pub parts_more : (old new : List Part) (p : Part) (done : ℕ) → ArePartsTo clauses count old done
      → IsPart count done clauses p → new ≡ old ++ p ∷ [] → ArePartsTo clauses count new (done + 1)
  parts_more old new p done h this is = subst (λ parts. ArePartsTo clauses count parts (done + 1)) (sym is) (record {
    made = omega (arith, h.made, length-append old (p ∷ []));
    each = λ part d before.
        ⊎_elim
        (λ (less : part < done).
        subst (λ (v : Part). IsPart count part clauses v)
        (sym (get_or_append_left old (p ∷ []) d part (omega (arith, less, h.made)))) (h.each part d less))
        (λ (most : done ≤ part).
        let last : part ≡ done = omega (arith, most, before) in
        subst (λ (v : Part). IsPart count part clauses v)
        (sym (get_or_push old p d part (h.made ∙ sym last)))
        (subst (λ k. IsPart count k clauses p) (sym last) this))
        (cases_lt part done);
  })

  pub parts_all : (parts : List Part) (done : ℕ) → ArePartsTo clauses count parts done → done ≡ count → 0 < count
      → AreParts clauses parts
  parts_all parts done h all some =
      let same : count ≡ length parts = sym all ∙ sym h.made in
      record {
        some = subst (λ n. 0 < n) same some;
        each = λ part d inside.
            subst (λ n. IsPart n part clauses (get_or parts part d)) same (h.each part d (omega (arith, inside, h.made)));
      }

-- the numbers that an event finds in its part are enough for it
pub part_enough : (count part : ℕ) (phase : Phase) (sign : Sign) (clauses : List Rule) (e : Occurrence) (numbers : List ℕ)
    → AreInPartAt count part phase sign clauses numbers → part_in count e.op e.term ≡ Some part → phase ≡ e.phase → sign ≡ e.sign
    → AreEnough clauses e numbers
part_enough count part phase sign clauses e numbers those there ep es = record {
  rising = those.rising;
  only = those.only;
  all = λ n r clause triggered.
      (those.exact n r clause).1
      (part-triggered count part r e triggered there, allows-held phase sign r.guard e ep es triggered.guard);
}

pub part_found : (count n part : ℕ) (o : EventOp) (e : Occurrence) (t : Tree) → n ≡ count → o ≡ e.op → t ≡ e.term
    → Some part ≡ part_in n o t → part_in count e.op e.term ≡ Some part
part_found count n part o e t en eo et is =
    sym (is ∙ ap (λ k. part_in k o t) en ∙ ap (λ p. part_in count p t) eo ∙ ap (part_in count e.op) et)
