-- Operations: what is written is read again, and two operations with one text are one.
use Rattle.std.proofs.Common.{◌≡◌, ℕ, List, [], ◌++◌, codes, Some, refl, sym, ap, subst, ◌∙◌, arith}
use Rattle.std.proofs.lemmas.Option.{some_pair_parts}
use Rattle.tc_lists.specs.AtFront.{AlwaysTakes, IsReadAgain, between}
use Rattle.tc_lists.proofs.AtFront.{between-again, between-takes, made-again, made-takes, or_else-first, or_else-takes, word_for-takes}
use Rattle.tc_term.specs.Tree.{Tree, IsTuple}
use Rattle.tc_term.specs.Text.{canonical, quoted}
use Rattle.tc_term.specs.Variables.{IsPattern}
use Rattle.tc_read.specs.Canonical.{EndsTerm}
use Rattle.tc_model.specs.Reactions.{AreClauses, Rule, clauses_text}
use Rattle.tc_model.specs.Typed.{IsTypedOp}
use Rattle.tc_model.specs.declared.calls.Op.{Op}
use Rattle.tc_model.specs.declared.calls.Op.TheVariants.{Out, In, Rd, Inp, Rdp, No, Nop, SetSpec, GetSpec}
use Rattle.tc_histline.specs.Text.{op_text}
use Rattle.tc_histline.specs.Words.{template_at, tuple_at, quote_at}
use Rattle.tc_histline.specs.Operations.{IsWrittenIn, common_op_at, further_op_at, op_at, written_op, written_text}
use Rattle.tc_histline.specs.declared.read_operations.WrittenOp.{WrittenOp}
use Rattle.tc_histline.specs.declared.read_operations.WrittenOp.TheVariants.{Plain, Replaced}
use Rattle.tc_histline.specs.declared.versions.Version.{Version}
use Rattle.tc_histline.specs.declared.versions.Version.TheVariants.{One, Two}
use Rattle.tc_histline.proofs.ClauseTexts.{clauses_text-one}
use Rattle.tc_histline.proofs.ReadWords.{template_at-again, template_at-takes, tuple_at-again, tuple_at-takes, quote_at-again, quote_at-takes}

-- a closing bracket ends a term
bracket_ends : (rest : List ℕ) → EndsTerm (codes ")" ++ rest)
bracket_ends rest = (refl, λ e. omega (arith, e))

template_between : (first : List ℕ) (t : Tree) (rest : List ℕ) → IsPattern t
    → between first (codes ")") template_at ((first ++ (canonical t ++ codes ")")) ++ rest) ≡ Some (t, rest)
template_between first t rest is =
    between-again first (codes ")") (canonical t) rest template_at t (template_at-again t (codes ")" ++ rest) is (bracket_ends rest))

tuple_between : (first : List ℕ) (t : Tree) (rest : List ℕ) → IsTuple t
    → between first (codes ")") tuple_at ((first ++ (canonical t ++ codes ")")) ++ rest) ≡ Some (t, rest)
tuple_between first t rest is =
    between-again first (codes ")") (canonical t) rest tuple_at t (tuple_at-again t (codes ")" ++ rest) is (bracket_ends rest))

quote_between : (first text rest : List ℕ)
    → between first (codes ")") quote_at ((first ++ (quoted text ++ codes ")")) ++ rest) ≡ Some (text, rest)
quote_between first text rest =
    between-again first (codes ")") (quoted text) rest quote_at text (quote_at-again text (codes ")" ++ rest))

-- each version reads what all have
in_version : (v : Version) (bytes : List ℕ) (found : WrittenOp × List ℕ) → common_op_at bytes ≡ Some found → op_at v bytes ≡ Some found
in_version One bytes found e = e
in_version Two bytes found e = or_else-first (common_op_at bytes) (further_op_at bytes) found e

-- what is read stands there, and what is written is read again

templates : (first : List ℕ) → AlwaysTakes IsPattern (λ t. first ++ (canonical t ++ codes ")")) (between first (codes ")") template_at)
templates first = between-takes IsPattern canonical first (codes ")") template_at template_at-takes

tuples : (first : List ℕ) → AlwaysTakes IsTuple (λ t. first ++ (canonical t ++ codes ")")) (between first (codes ")") tuple_at)
tuples first = between-takes IsTuple canonical first (codes ")") tuple_at tuple_at-takes

quotes : (first : List ℕ) → AlwaysTakes (λ text. Unit {0}) (λ text. first ++ (quoted text ++ codes ")")) (between first (codes ")") quote_at)
quotes first = between-takes (λ text. Unit {0}) quoted first (codes ")") quote_at quote_at-takes

module _ (v : Version) where
  common_op_at-takes : AlwaysTakes (IsWrittenIn v) written_text common_op_at
  common_op_at-takes bytes =
      or_else-takes G T bytes _ _ (made-takes G T IsTuple (λ t. codes "out(" ++ (canonical t ++ codes ")")) (λ t. Plain (Out t)) bytes _ (λ t is. is) (λ t. refl) (tuples (codes "out(") bytes))
      (or_else-takes G T bytes _ _ (made-takes G T IsPattern (λ t. codes "in(" ++ (canonical t ++ codes ")")) (λ t. Plain (In t)) bytes _ (λ t is. is) (λ t. refl) (templates (codes "in(") bytes))
      (or_else-takes G T bytes _ _ (made-takes G T IsPattern (λ t. codes "rd(" ++ (canonical t ++ codes ")")) (λ t. Plain (Rd t)) bytes _ (λ t is. is) (λ t. refl) (templates (codes "rd(") bytes))
      (or_else-takes G T bytes _ _ (made-takes G T IsPattern (λ t. codes "inp(" ++ (canonical t ++ codes ")")) (λ t. Plain (Inp t)) bytes _ (λ t is. is) (λ t. refl) (templates (codes "inp(") bytes))
      (or_else-takes G T bytes _ _ (made-takes G T IsPattern (λ t. codes "rdp(" ++ (canonical t ++ codes ")")) (λ t. Plain (Rdp t)) bytes _ (λ t is. is) (λ t. refl) (templates (codes "rdp(") bytes))
      (or_else-takes G T bytes _ _ (made-takes G T (λ text. Unit {0}) (λ text. codes "set_spec(" ++ (quoted text ++ codes ")")) Replaced bytes _ (λ text is. is) (λ text. refl) (quotes (codes "set_spec(") bytes))
      (word_for-takes G T (Plain GetSpec) (codes "get_spec") bytes tt refl))))))
    where
      G : WrittenOp → Type 0
      G = IsWrittenIn v

      T : WrittenOp → List ℕ
      T = written_text

further_op_at-takes : AlwaysTakes (IsWrittenIn Two) written_text further_op_at
further_op_at-takes bytes =
    or_else-takes G T bytes _ _ (made-takes G T IsPattern (λ t. codes "no(" ++ (canonical t ++ codes ")")) (λ t. Plain (No t)) bytes _ (λ t is. is) (λ t. refl) (templates (codes "no(") bytes))
    (made-takes G T IsPattern (λ t. codes "nop(" ++ (canonical t ++ codes ")")) (λ t. Plain (Nop t)) bytes _ (λ t is. is) (λ t. refl) (templates (codes "nop(") bytes))
  where
    G : WrittenOp → Type 0
    G = IsWrittenIn Two

    T : WrittenOp → List ℕ
    T = written_text

pub op_at-takes : (v : Version) → AlwaysTakes (IsWrittenIn v) written_text (op_at v)
op_at-takes One bytes = common_op_at-takes One bytes
op_at-takes Two bytes = or_else-takes (IsWrittenIn Two) written_text bytes (common_op_at bytes) (further_op_at bytes) (common_op_at-takes Two bytes) (further_op_at-takes bytes)

pub op_at-again : (v : Version) → IsReadAgain (IsWrittenIn v) written_text (op_at v)
op_at-again v (Plain (Out t)) rest is = in_version v _ _ (or_else-first _ _ _ (made-again (λ u. Plain (Out u)) _ t rest (tuple_between (codes "out(") t rest is)))
op_at-again v (Plain (In t)) rest is = in_version v _ _ (or_else-first _ _ _ (made-again (λ u. Plain (In u)) _ t rest (template_between (codes "in(") t rest is)))
op_at-again v (Plain (Rd t)) rest is = in_version v _ _ (or_else-first _ _ _ (made-again (λ u. Plain (Rd u)) _ t rest (template_between (codes "rd(") t rest is)))
op_at-again v (Plain (Inp t)) rest is = in_version v _ _ (or_else-first _ _ _ (made-again (λ u. Plain (Inp u)) _ t rest (template_between (codes "inp(") t rest is)))
op_at-again v (Plain (Rdp t)) rest is = in_version v _ _ (or_else-first _ _ _ (made-again (λ u. Plain (Rdp u)) _ t rest (template_between (codes "rdp(") t rest is)))
op_at-again v (Plain (SetSpec cs)) rest is = absurd is
op_at-again v (Plain GetSpec) rest is = in_version v _ _ refl
op_at-again v (Replaced text) rest is = in_version v _ _ (or_else-first _ _ _ (made-again Replaced _ text rest (quote_between (codes "set_spec(") text rest)))
op_at-again One (Plain (No t)) rest is = absurd is
op_at-again One (Plain (Nop t)) rest is = absurd is
op_at-again Two (Plain (No t)) rest is = or_else-first _ _ _ (made-again (λ u. Plain (No u)) _ t rest (template_between (codes "no(") t rest is))
op_at-again Two (Plain (Nop t)) rest is = made-again (λ u. Plain (Nop u)) _ t rest (template_between (codes "nop(") t rest is)

-- an operation replaces the clauses, or is read as it is
data Kind (o : Op) : Type 0 where
  sets : (cs : List Rule) → o ≡ SetSpec cs → Kind o
  plain : written_op o ≡ Plain o → Kind o

kind : (o : Op) → Kind o
kind (Out t) = plain refl
kind (In t) = plain refl
kind (Rd t) = plain refl
kind (Inp t) = plain refl
kind (Rdp t) = plain refl
kind (No t) = plain refl
kind (Nop t) = plain refl
kind (SetSpec cs) = sets cs refl
kind GetSpec = plain refl

abbrev text_of_written : WrittenOp → List ℕ
text_of_written (Plain o) = []
text_of_written (Replaced text) = text

abbrev op_of_written : Op → WrittenOp → Op
op_of_written other (Plain o) = o
op_of_written other (Replaced text) = other

plain_sets : (o : Op) (text : List ℕ) → Plain o ≡ Replaced text → ⊥
plain_sets o text e = absurd cc

-- operations that are read as one are one
pub written_op-one : (o p : Op) → IsTypedOp o → IsTypedOp p → written_op o ≡ written_op p → o ≡ p
written_op-one o p is other same = by (kind o) (kind p)
  where
    by : Kind o → Kind p → o ≡ p
    by (sets cs e) (sets ds f) =
        let ours : AreClauses cs = subst IsTypedOp e is in
        let theirs : AreClauses ds = subst IsTypedOp f other in
        e ∙ (ap SetSpec (clauses_text-one cs ds ours theirs
        (ap text_of_written (sym (ap written_op e) ∙ (same ∙ ap written_op f)))) ∙ sym f)
    by (sets cs e) (plain f) = absurd (plain_sets p (clauses_text cs) (sym f ∙ (sym same ∙ ap written_op e)))
    by (plain e) (sets ds f) = absurd (plain_sets o (clauses_text ds) (sym e ∙ (same ∙ ap written_op f)))
    by (plain e) (plain f) = ap (op_of_written o) (sym e ∙ (same ∙ f))

-- version 2 has every operation
written-in : (o : Op) → IsTypedOp o → IsWrittenIn Two (written_op o)
written-in (Out t) is = is
written-in (In t) is = is
written-in (Rd t) is = is
written-in (Inp t) is = is
written-in (Rdp t) is = is
written-in (No t) is = is
written-in (Nop t) is = is
written-in (SetSpec cs) is = tt
written-in GetSpec is = tt

op_text-written : (o : Op) → op_text o ≡ written_text (written_op o)
op_text-written (Out t) = refl
op_text-written (In t) = refl
op_text-written (Rd t) = refl
op_text-written (Inp t) = refl
op_text-written (Rdp t) = refl
op_text-written (No t) = refl
op_text-written (Nop t) = refl
op_text-written (SetSpec cs) = refl
op_text-written GetSpec = refl

op-again : (o : Op) (rest : List ℕ) → IsTypedOp o → op_at Two (op_text o ++ rest) ≡ Some (written_op o, rest)
op-again o rest is = ap (λ t. op_at Two (t ++ rest)) (op_text-written o) ∙ op_at-again Two (written_op o) rest (written-in o is)

pub op-one : (o p : Op) (rest more : List ℕ) → IsTypedOp o → IsTypedOp p → op_text o ++ rest ≡ op_text p ++ more → (o ≡ p) × (rest ≡ more)
op-one o p rest more is other same =
    let both = some_pair_parts (written_op o) (written_op p) rest more (sym (op-again o rest is) ∙ (ap (op_at Two) same ∙ op-again p more other)) in
    (written_op-one o p is other both.0, both.1)
