-- Texts of clauses that stand one behind another: what they lead to, or which of them is the first
-- that is faulty. What a clause does is told by a language.
use Rattle.std.specs.Prelude.{◌≡◌, ◌+◌, ◌⊎◌, ℕ, true, List, [], ◌∷◌, drop}
use Rattle.std.specs.Prelude.{length}
use Rattle.std.specs.Prelude.{Option, Some, None}
use Rattle.tc_term.specs.Faults.{Answer, Found, ReadsAs, Nothing, TooBig, TooMany, WideInt}
use Rattle.tc_term.specs.Faults as answer
use Rattle.tc_term.specs.Tree.{Tree}
use Rattle.tc_read.specs.declared.clauses.Unread.{Unread}
use Rattle.tc_read.specs.declared.clauses.Unread.TheVariants.{Syntax, Size}

-- the reader of clauses answers this at this place of the text
abbrev pub AnswersAt : List ℕ → ℕ → Answer → Type 0
AnswersAt text from answer = ReadsAs true (length text) (drop from text) answer

-- the reader finds no clause here: what stands here is none, or it is too big for a template
abbrev pub IsUnread : List ℕ → ℕ → Unread → Type 0
IsUnread text from Syntax = (place : ℕ) × AnswersAt text from (answer.Syntax place)
IsUnread text from Size =
    (place : ℕ) × (AnswersAt text from (WideInt place)
    ⊎ (AnswersAt text from (TooMany place) ⊎ AnswersAt text from (TooBig place)))

-- A language of clauses: to which state a clause leads from another, for which cause it is refused
-- there, and the cause where the reader finds none.
pub record Language (S C : Type 0) : Type 1 where
  pub leads : S → Tree → S → Type 0
  pub refuses : S → Tree → C → Type 0
  pub unread : Unread → C

-- a clause leads to one state at most, is refused for one cause at most, and not both
pub record IsExact {S C : Type 0} (l : Language S C) : Type 0 where
  pub one_state : (s : S) (t : Tree) (a b : S) → l.leads s t a → l.leads s t b → a ≡ b
  pub one_cause : (s : S) (t : Tree) (c d : C) → l.refuses s t c → l.refuses s t d → c ≡ d
  pub not_both : (s : S) (t : Tree) (a : S) (c : C) → l.leads s t a → l.refuses s t c → ⊥

-- no clause neither leads anywhere nor is refused
abbrev pub HasNoGap : {S C : Type 0} → Language S C → Type 0
HasNoGap {S} {C} l = (s : S) (t : Tree)
    → ((a : S) → l.leads s t a → ⊥) → ((c : C) → l.refuses s t c → ⊥) → ⊥

-- what stands here is faulty for this cause: the reader finds no clause, or one that is refused
abbrev pub IsFaultyBy : {C : Type 0}
    → (Unread → C) → (Tree → C → Type 0) → List ℕ → ℕ → C → Type 0
IsFaultyBy unread refuses text from why =
    ((u : Unread) × IsUnread text from u × (unread u ≡ why))
    ⊎ ((t : Tree) × (behind : ℕ) × AnswersAt text from (Found t behind) × refuses t why)

module _ {S C : Type 0} (l : Language S C) where
  -- clauses of these terms stand in the text one behind another, from one place to another, and
  -- lead from one state to another
  abbrev pub LeadsTo : List ℕ → ℕ → S → List Tree → ℕ → S → Type 0
  LeadsTo text from s [] end last = (end ≡ from) × (last ≡ s)
  LeadsTo text from s (t ∷ ts) end last =
      (behind : ℕ) × (next : S) × AnswersAt text from (Found t behind) × l.leads s t next
      × LeadsTo text behind next ts end last

  -- the text is clauses and nothing else, and they lead from the first state to the last
  pub record LeadsToEnd (text : List ℕ) (first last : S) : Type 0 where
    pub terms : List Tree
    pub end : ℕ
    pub clauses : LeadsTo text 0 first terms end last
    pub nothing : AnswersAt text end Nothing

  -- what stands here is faulty in this state, for this cause
  abbrev pub IsFaultyAt : List ℕ → ℕ → S → C → Type 0
  IsFaultyAt text from s why = IsFaultyBy l.unread (l.refuses s) text from why

  -- behind clauses that lead from the first state to another stands one that is faulty there: its
  -- number, counted from 1, and its cause
  pub record HasFaultyClause (text : List ℕ) (first : S) (number : ℕ) (why : C) : Type 0 where
    pub terms : List Tree
    pub from : ℕ
    pub before : S
    pub clauses : LeadsTo text 0 first terms from before
    pub counted : number ≡ length terms + 1
    pub faulty : IsFaultyAt text from before why

-- this is why the reader finds no clause here; nothing is told where memory has run out
abbrev pub IsUnreadOr : List ℕ → ℕ → Option Unread → Type 0
IsUnreadOr text from (Some u) = IsUnread text from u
IsUnreadOr text from None = Unit {0}
