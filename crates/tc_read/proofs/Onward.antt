-- Texts of clauses that are read one behind another, up to a place.
use Rattle.std.proofs.Common.{◌≡◌, ◌<◌, ◌≤◌, ◌+◌, ℕ, List, [], ◌∷◌, ◌++◌, length, length-append, refl, subst, arith}
use Rattle.tc_term.specs.Faults.{Found, Nothing}
use Rattle.tc_term.specs.Tree.{Tree}
use Rattle.tc_read.specs.Clauses.{AnswersAt, HasFaultyClause, IsFaultyAt, Language, LeadsTo, LeadsToEnd}

module _ {S C : Type 0} (l : Language S C) where
  -- one clause more
  LeadsTo-more : (text : List ℕ) (start from behind : ℕ) (s d e : S) (ts : List Tree) (t : Tree)
      → LeadsTo l text start s ts from d → AnswersAt text from (Found t behind) → l.leads d t e
      → LeadsTo l text start s (ts ++ t ∷ []) behind e
  LeadsTo-more text start from behind s d e [] t clauses found leads = (
    behind,
    e,
    subst (λ k. AnswersAt text k (Found t behind)) clauses.0 found,
    subst (λ x. l.leads x t e) clauses.1 leads,
    (refl, refl),
  )
  LeadsTo-more text start from behind s d e (u ∷ us) t clauses found leads = (
    clauses.0,
    clauses.1,
    clauses.2,
    clauses.3,
    LeadsTo-more text clauses.0 from behind clauses.1 d e us t clauses.4 found leads,
  )

  -- the text up to this place is so many clauses, and they lead from the first state to this one
  pub record IsReadTo (text : List ℕ) (first : S) (from count : ℕ) (s : S) : Type 0 where
    pub terms : List Tree
    pub clauses : LeadsTo l text 0 first terms from s
    pub counted : count ≡ length terms
    pub few : count ≤ from
    pub inside : from ≤ length text

  pub read_none : (text : List ℕ) (first : S) → IsReadTo text first 0 0 first
  read_none text first =
      record { terms = []; clauses = (refl, refl); counted = refl; few = omega arith; inside = omega arith }

  pub read_more : (text : List ℕ) (first : S) (from count behind : ℕ) (s e : S) (t : Tree) → IsReadTo text first from count s
      → AnswersAt text from (Found t behind) → l.leads s t e → from < behind → behind ≤ length text
      → IsReadTo text first behind (count + 1) e
  read_more text first from count behind s e t read found leads further inside = record {
    terms = read.terms ++ t ∷ [];
    clauses = LeadsTo-more text 0 from behind first s e read.terms t read.clauses found leads;
    counted = omega (arith, length-append read.terms (t ∷ []), read.counted);
    few = omega (arith, read.few, further);
    inside = inside;
  }

  -- all clauses are read
  pub read_all : (text : List ℕ) (first : S) (from count : ℕ) (s : S) → IsReadTo text first from count s
      → AnswersAt text from Nothing → LeadsToEnd l text first s
  read_all text first from count s read nothing =
      record { terms = read.terms; end = from; clauses = read.clauses; nothing = nothing }

  -- what stands behind them is faulty
  pub read_fault : (text : List ℕ) (first : S) (from count number : ℕ) (s : S) (why : C) → IsReadTo text first from count s
      → number ≡ count + 1 → IsFaultyAt l text from s why → HasFaultyClause l text first number why
  read_fault text first from count number s why read counted faulty = record {
    terms = read.terms;
    from = from;
    before = s;
    clauses = read.clauses;
    counted = omega (arith, counted, read.counted);
    faulty = faulty;
  }
