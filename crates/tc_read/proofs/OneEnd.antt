-- A text of clauses has one end: the state that it leads to, or its first faulty clause with its first
-- cause.
use Rattle.std.proofs.Common.{◌≡◌, ℕ, List, [], ◌∷◌, Option, Some, None, true, drop, length, inl, inr, refl, ap, sym, subst, ◌∙◌, arith}
use Rattle.tc_term.specs.Faults.{Answer, Found, Nothing, TooBig, TooMany, WideInt}
use Rattle.tc_term.specs.Faults as answer
use Rattle.tc_term.specs.Tree.{Tree}
use Rattle.tc_read.specs.Clauses.{AnswersAt, HasFaultyClause, IsExact, IsFaultyAt, IsUnread, Language, LeadsTo, LeadsToEnd}
use Rattle.tc_read.specs.declared.clauses.Unread.{Unread}
use Rattle.tc_read.specs.declared.clauses.Unread.TheVariants.{Syntax, Size}
use Rattle.tc_read.proofs.OneReading.{one_reading}

-- the reader answers one thing at a place
pub one_answer : (text : List ℕ) (from : ℕ) (a b : Answer) → AnswersAt text from a → AnswersAt text from b → a ≡ b
one_answer text from a b x y = one_reading true (length text) (drop from text) a b x y

found_term : (t u : Tree) (m n : ℕ) → Found t m ≡ Found u n → t ≡ u
found_term t u m n same = cc

found_place : (t u : Tree) (m n : ℕ) → Found t m ≡ Found u n → m ≡ n
found_place t u m n same = cc

one_found : (text : List ℕ) (from : ℕ) (t u : Tree) (m n : ℕ) → AnswersAt text from (Found t m) → AnswersAt text from (Found u n)
    → (t ≡ u) × (m ≡ n)
one_found text from t u m n x y =
    let same = one_answer text from (Found t m) (Found u n) x y in (found_term t u m n same, found_place t u m n same)

-- where a clause is read, text is left
found_left : (text : List ℕ) (from : ℕ) (t : Tree) (n : ℕ) → AnswersAt text from (Found t n) → AnswersAt text from Nothing → ⊥
found_left text from t n x y = let same = one_answer text from (Found t n) Nothing x y in cc

-- why the reader of clauses finds none, by what it answers
abbrev why_unread : Answer → Option Unread
why_unread (Found t n) = None
why_unread Nothing = None
why_unread (answer.Syntax place) = Some Syntax
why_unread _ = Some Size

record IsToldOf (text : List ℕ) (from : ℕ) (u : Unread) : Type 0 where
  told : Answer
  reads : AnswersAt text from told
  is : why_unread told ≡ Some u

told_of : (text : List ℕ) (from : ℕ) (u : Unread) → IsUnread text from u → IsToldOf text from u
told_of text from Syntax (place, h) = record { told = answer.Syntax place; reads = h; is = refl }
told_of text from Size (place, inl h) = record { told = WideInt place; reads = h; is = refl }
told_of text from Size (place, inr (inl h)) = record { told = TooMany place; reads = h; is = refl }
told_of text from Size (place, inr (inr h)) = record { told = TooBig place; reads = h; is = refl }

one_unread : (text : List ℕ) (from : ℕ) (u v : Unread) → IsUnread text from u → IsUnread text from v → u ≡ v
one_unread text from u v h k =
    let x = told_of text from u h in
    let y = told_of text from v k in
    let same : Some u ≡ Some v = sym x.is ∙ ap why_unread (one_answer text from x.told y.told x.reads y.reads) ∙ y.is in cc

-- where a clause or the end is read, it finds something
read_well : (text : List ℕ) (from : ℕ) (told : Answer) (u : Unread) → why_unread told ≡ None → AnswersAt text from told
    → IsUnread text from u → ⊥
read_well text from told u fine reads h =
    let x = told_of text from u h in
    let none : Some u ≡ None = sym x.is ∙ ap why_unread (one_answer text from x.told told x.reads reads) ∙ fine in cc

module _ {S C : Type 0} (l : Language S C) (exact : IsExact l) where
  one_step : (text : List ℕ) (from : ℕ) (s : S) (t u : Tree) (m n : ℕ) (a b : S) → AnswersAt text from (Found t m)
      → AnswersAt text from (Found u n) → l.leads s t a → l.leads s u b → (t ≡ u) × (m ≡ n) × (a ≡ b)
  one_step text from s t u m n a b x y h k =
      let same = one_found text from t u m n x y in
      (same.0, same.1, exact.one_state s u a b (subst (λ v. l.leads s v a) same.0 h) k)

  -- what stands at a place is faulty for one cause
  one_fault : (text : List ℕ) (from : ℕ) (s : S) (c d : C) → IsFaultyAt l text from s c → IsFaultyAt l text from s d → c ≡ d
  one_fault text from s c d (inl (u, h, is)) (inl (v, k, same)) =
      sym is ∙ ap l.unread (one_unread text from u v h k) ∙ same
  one_fault text from s c d (inl (u, h, is)) (inr (t, n, found, k)) =
      absurd (read_well text from (Found t n) u refl found h)
  one_fault text from s c d (inr (t, n, found, h)) (inl (v, k, same)) =
      absurd (read_well text from (Found t n) v refl found k)
  one_fault text from s c d (inr (t, m, found, h)) (inr (u, n, there, k)) =
      let same = one_found text from t u m n found there in
      exact.one_cause s u c d (subst (λ v. l.refuses s v c) same.0 h) k

  -- nothing is left here, or what stands here is faulty for this cause
  abbrev pub StopsAt : List ℕ → ℕ → S → Option C → Type 0
  StopsAt text from s None = AnswersAt text from Nothing
  StopsAt text from s (Some why) = IsFaultyAt l text from s why

  one_stop : (text : List ℕ) (from : ℕ) (s : S) (o p : Option C) → StopsAt text from s o → StopsAt text from s p → o ≡ p
  one_stop text from s None None h k = refl
  one_stop text from s (Some c) (Some d) h k = ap Some (one_fault text from s c d h k)
  one_stop text from s None (Some d) h (inl (u, k, same)) = absurd (read_well text from Nothing u refl h k)
  one_stop text from s None (Some d) h (inr (t, n, found, k)) = absurd (found_left text from t n found h)
  one_stop text from s (Some c) None (inl (u, h, is)) k = absurd (read_well text from Nothing u refl k h)
  one_stop text from s (Some c) None (inr (t, n, found, h)) k = absurd (found_left text from t n found k)

  -- where a clause leads on, nothing stops
  on : (text : List ℕ) (from : ℕ) (s : S) (t : Tree) (n : ℕ) (next : S) (o : Option C) → AnswersAt text from (Found t n)
      → l.leads s t next → StopsAt text from s o → ⊥
  on text from s t n next None found leads h = found_left text from t n found h
  on text from s t n next (Some why) found leads (inl (u, h, is)) = read_well text from (Found t n) u refl found h
  on text from s t n next (Some why) found leads (inr (u, m, there, h)) =
      let same = one_found text from u t m n there found in
      exact.not_both s t next why leads (subst (λ v. l.refuses s v why) same.0 h)

  -- behind no clause
  moved : (text : List ℕ) (from n : ℕ) (s e : S) (o : Option C) → n ≡ from → e ≡ s → StopsAt text n e o → StopsAt text from s o
  moved text from n s e o place same h = subst (λ z. StopsAt text from z o) same (subst (λ k. StopsAt text k e o) place h)

  -- two courses from one place and one state are one, and stop for one reason
  pub record AreOne (ts us : List Tree) (d e : S) (o p : Option C) : Type 0 where
    pub terms : ts ≡ us
    pub states : d ≡ e
    pub stops : o ≡ p

  pub one_course : (text : List ℕ) (from : ℕ) (s : S) (ts us : List Tree) (m n : ℕ) (d e : S) (o p : Option C)
      → LeadsTo l text from s ts m d → StopsAt text m d o → LeadsTo l text from s us n e → StopsAt text n e p
      → AreOne ts us d e o p
  one_course text from s [] [] m n d e o p x h y k = record {
    terms = refl;
    states = x.1 ∙ sym y.1;
    stops = one_stop text from s o p (moved text from m s d o x.0 x.1 h) (moved text from n s e p y.0 y.1 k);
  }
  one_course text from s [] (u ∷ us) m n d e o p x h y k =
      absurd (on text from s u y.0 y.1 o y.2 y.3 (moved text from m s d o x.0 x.1 h))
  one_course text from s (t ∷ ts) [] m n d e o p x h y k =
      absurd (on text from s t x.0 x.1 p x.2 x.3 (moved text from n s e p y.0 y.1 k))
  one_course text from s (t ∷ ts) (u ∷ us) m n d e o p x h y k =
      let same = one_step text from s u t y.0 x.0 y.1 x.1 y.2 x.2 y.3 x.3 in
      let rest = one_course text x.0 x.1 ts us m n d e o p x.4 h
      (subst (λ i. LeadsTo l text i x.1 us n e) same.1 (subst (λ z. LeadsTo l text y.0 z us n e) same.2 y.4)) k in
      record {
        terms = ap (λ v. v ∷ ts) (sym same.0) ∙ ap (λ vs. u ∷ vs) rest.terms;
        states = rest.states;
        stops = rest.stops;
      }

  pub one_last_state : (text : List ℕ) (first a b : S) → LeadsToEnd l text first a → LeadsToEnd l text first b → a ≡ b
  one_last_state text first a b x y =
      (one_course text 0 first x.terms y.terms x.end y.end a b None None x.clauses x.nothing y.clauses y.nothing).states

  pub end_or_fault : (text : List ℕ) (first last : S) (number : ℕ) (why : C) → LeadsToEnd l text first last
      → HasFaultyClause l text first number why → ⊥
  end_or_fault text first last number why x y =
      let both = one_course text 0 first x.terms y.terms x.end y.from last y.before None (Some why)
      x.clauses x.nothing y.clauses y.faulty in
      let never : None ≡ Some why = both.stops in cc

  pub one_first_fault : (text : List ℕ) (first : S) (k n : ℕ) (c d : C) → HasFaultyClause l text first k c
      → HasFaultyClause l text first n d → (k ≡ n) × (c ≡ d)
  one_first_fault text first k n c d x y =
      let both = one_course text 0 first x.terms y.terms x.from y.from x.before y.before (Some c) (Some d)
      x.clauses x.faulty y.clauses y.faulty in
      let causes : Some c ≡ Some d = both.stops in
      (omega (arith, x.counted, y.counted, ap length both.terms), cc)
