use Rattle.std.proofs.Common.{◌≡◌, ℕ, ◌<◌, ◌≤◌, ◌⊎◌, inl, inr, Bool, true, false, if◌then◌else◌, List, [], ◌∷◌, Some, None, refl, sym, ◌∙◌, subst, arith, ◌↔◌}
use Rattle.std.specs.Prelude.{codes, bytes_eq}
use Rattle.tc_term.specs.Tokens.{Sign, EqColonEq, EqBackEq, EqLess, GreaterEq, BackEq, SlashSlash, Equal, Less, Greater, Plus, Minus, Star, Ask}
use Rattle.tc_term.specs.Grammar.{Token, Variable, Integer, Name, Symbol, Open, Close, OpenList, CloseList, Comma, Bar, Operator, infix_of, operator_of, functor_of, NotCalled, NotNumber, Meaning, nil, cell, negated, between, Derives, operand, prefix, infix_term, Operand, variable, integer, negative, atom, compound, no_items, items, group, Arguments, last_argument, more_arguments, Items, last_item, list_tail, more_items, xfx, yfx, xfy}
use Rattle.tc_read.specs.Machine.{turned, applied, cells}
use Rattle.std.proofs.lemmas.Option.{same_Some}

-- no list is closed here
abbrev pub NotClosed : List Token → Type 0
NotClosed (CloseList ∷ ts) = ⊥
NotClosed _ = Unit {0}

-- What every operator of the table meets, so no two of them leave a choice.
pub record IsSound (op : Operator) : Type 0 where
  pub left : op.left ≤ op.priority
  pub right : op.right ≤ op.priority
  pub above : op.priority ≤ 1000
  pub low : 200 ≤ op.right
  pub high : 200 < op.left
  pub one_side : (op.right < op.priority) ⊎ (op.priority ≡ 1000)
  pub other_side : (op.left < op.priority) ⊎ (op.priority < 1000)

sound_xfx : (name : List ℕ) (p : ℕ) → 400 ≤ p → p < 1000 → IsSound (xfx name p)
sound_xfx name p h k = record { left = omega arith; right = omega arith; above = omega arith; low = omega arith; high = omega arith; one_side = inl (omega arith); other_side = inl (omega arith) }

sound_yfx : (name : List ℕ) (p : ℕ) → 400 ≤ p → p < 1000 → IsSound (yfx name p)
sound_yfx name p h k = record { left = omega arith; right = omega arith; above = omega arith; low = omega arith; high = omega arith; one_side = inl (omega arith); other_side = inr (omega arith) }

sound_xfy : (name : List ℕ) → IsSound (xfy name 1000)
sound_xfy name = record { left = omega arith; right = omega arith; above = omega arith; low = omega arith; high = omega arith; one_side = inr refl; other_side = inl (omega arith) }

sound_sign : (s : Sign) → IsSound (operator_of s)
sound_sign Ask = sound_xfx _ _ (omega arith) (omega arith)
sound_sign Equal = sound_xfx _ _ (omega arith) (omega arith)
sound_sign BackEq = sound_xfx _ _ (omega arith) (omega arith)
sound_sign EqColonEq = sound_xfx _ _ (omega arith) (omega arith)
sound_sign EqBackEq = sound_xfx _ _ (omega arith) (omega arith)
sound_sign Less = sound_xfx _ _ (omega arith) (omega arith)
sound_sign Greater = sound_xfx _ _ (omega arith) (omega arith)
sound_sign EqLess = sound_xfx _ _ (omega arith) (omega arith)
sound_sign GreaterEq = sound_xfx _ _ (omega arith) (omega arith)
sound_sign Plus = sound_yfx _ _ (omega arith) (omega arith)
sound_sign Minus = sound_yfx _ _ (omega arith) (omega arith)
sound_sign Star = sound_yfx _ _ (omega arith) (omega arith)
sound_sign SlashSlash = sound_yfx _ _ (omega arith) (omega arith)

named_is : (b c : Bool) (op : Operator) → (if b then Some (xfx (codes "is") 700) else (if c then Some (yfx (codes "mod") 400) else None)) ≡ Some op → IsSound op
named_is true c op e = subst IsSound (same_Some _ _ e) (sound_xfx _ _ (omega arith) (omega arith))
named_is false true op e = subst IsSound (same_Some _ _ e) (sound_yfx _ _ (omega arith) (omega arith))
named_is false false op e = cc

pub table : (token : Token) (op : Operator) → infix_of token ≡ Some op → IsSound op
table Comma op e = subst IsSound (same_Some _ _ e) (sound_xfy _)
table (Symbol s) op e = subst IsSound (same_Some _ _ e) (sound_sign s)
table (Name true name) op e = named_is (bytes_eq name (codes "is")) (bytes_eq name (codes "mod")) op e
table (Name false name) op e = cc
table (Variable n) op e = cc
table (Integer g n p) op e = cc
table (Open g) op e = cc
table Close op e = cc
table OpenList op e = cc
table CloseList op e = cc
table Bar op e = cc

-- two operators side by side: the left one doesn't leave both ways open
pub apart : (op o : Operator) → IsSound op → IsSound o → op.priority ≤ o.right → o.priority ≤ op.left → ⊥
apart op o h k le back = omega (arith, h.left, h.above, k.right, k.one_side, h.other_side)

module _ {A : Type 0} (m : Meaning A) where
  -- First ts a pa rest: an operand, or a minus with its operand, and its priority
  pub data First : List Token → A → ℕ → List Token → Type 0 where
    plain : {ts rest : List Token} {a : A} → Operand m ts a rest → First ts a 0 rest
    minus : {ts rest : List Token} {a : A} → NotCalled ts → NotNumber ts → Derives m 200 ts a rest → First (Symbol Minus ∷ ts) (negated m a) 200 rest

  -- Goes p a pa ts t rest: behind the term a of priority pa stand ts, which make of it the term t of priority at most p
  pub data Goes : ℕ → A → ℕ → List Token → A → List Token → Type 0 where
    stop : {p : ℕ} {a : A} {pa : ℕ} {ts : List Token} → pa ≤ p → Goes p a pa ts a ts
    on : {p pa : ℕ} {a b t : A} {token : Token} {ts mid rest : List Token} (op : Operator) → infix_of token ≡ Some op → pa ≤ op.left
        → Derives m op.right ts b mid → Goes p (between m op a b) op.priority mid t rest → Goes p a pa (token ∷ ts) t rest

  -- one more operator at the end
  extended : {q px p : ℕ} {x a b : A} {token : Token} {ts mid rest : List Token} (op : Operator) → infix_of token ≡ Some op → q ≤ op.left → op.priority ≤ p
      → Derives m op.right mid b rest → Goes q x px ts a (token ∷ mid) → Goes p x px ts (between m op a b) rest
  extended op is le fits right (stop h) = on op is (omega arith) right (stop fits)
  extended op is le fits right (on o i h r g) = on o i h r (extended op is le fits right g)

  pub split : {p : ℕ} {ts rest : List Token} {t : A} → Derives m p ts t rest → (a : A) × (pa : ℕ) × (mid : List Token) × First ts a pa mid × Goes p a pa mid t rest
  split (operand o) = (_, _, _, plain o, stop (omega arith))
  split (prefix h c n d) = (_, _, _, minus c n d, stop h)
  split (infix_term op is le l r) =
      let s = split l in
      (s.0, s.1, s.2, s.3, extended op is (omega arith) le r s.4)

  goes_on : {p pa : ℕ} {ts mid rest : List Token} {a t : A} → ((q : ℕ) → pa ≤ q → Derives m q ts a mid) → Goes p a pa mid t rest → Derives m p ts t rest
  goes_on d (stop h) = d _ h
  goes_on d (on op is h r g) = goes_on (λ q le. infix_term op is le (d op.left h) r) g

  pub join : {p pa : ℕ} {ts mid rest : List Token} {a t : A} → First ts a pa mid → Goes p a pa mid t rest → Derives m p ts t rest
  join (plain o) g = goes_on (λ q h. operand o) g
  join (minus c n d) g = goes_on (λ q h. prefix h c n d) g

  pub bounded : {p pa : ℕ} {ts rest : List Token} {a t : A} → Goes p a pa ts t rest → pa ≤ p
  bounded (stop h) = h
  bounded (on {token = token} op is h r g) = omega (arith, (table token op is).left, bounded g)

  -- Behind a term comes what R says of it and of the tokens that are left.

  -- a term is awaited
  abbrev pub Wants : ℕ → (A → List Token → Type 0) → List Token → Type 0
  Wants p R ts = (b : A) × (rest : List Token) × Derives m p ts b rest × R b rest

  -- the term a of priority pa has been read
  abbrev pub Has : ℕ → (A → List Token → Type 0) → A → ℕ → List Token → Type 0
  Has p R a pa ts = (b : A) × (rest : List Token) × Goes p a pa ts b rest × R b rest

  -- the rest of the arguments, behind one of them
  pub data MoreArguments : List Token → List A → List Token → Type 0 where
    no_more : {rest : List Token} → MoreArguments (Close ∷ rest) [] rest
    one_more : {ts rest : List Token} {a : A} {more : List A} → Arguments m ts a more rest → MoreArguments (Comma ∷ ts) (a ∷ more) rest

  -- the rest of a list, behind one of its elements
  pub data MoreItems : List Token → A → List Token → Type 0 where
    no_more_items : {rest : List Token} → MoreItems (CloseList ∷ rest) (nil m) rest
    tail_only : {ts rest : List Token} {u : A} → Derives m 999 ts u (CloseList ∷ rest) → MoreItems (Bar ∷ ts) u rest
    one_more_item : {ts rest : List Token} {u : A} → Items m ts u rest → MoreItems (Comma ∷ ts) u rest

  abbrev pub InBetween : ℕ → (A → List Token → Type 0) → Operator → A → A → List Token → Type 0
  InBetween p R op left b ts = Has p R (between m op left b) op.priority ts

  abbrev pub InNegated : ℕ → (A → List Token → Type 0) → A → List Token → Type 0
  InNegated p R b ts = Has p R (negated m b) 200 ts

  abbrev pub InGroup : ℕ → (A → List Token → Type 0) → A → List Token → Type 0
  InGroup p R b ts = (mid : List Token) × (ts ≡ Close ∷ mid) × Has p R b 0 mid

  abbrev pub InArgs : ℕ → (A → List Token → Type 0) → List ℕ → List A → A → List Token → Type 0
  InArgs p R name done b ts = (more : List A) × (mid : List Token) × MoreArguments ts more mid × Has p R (applied m name (turned done (b ∷ more))) 0 mid

  abbrev pub InElements : ℕ → (A → List Token → Type 0) → List A → A → List Token → Type 0
  InElements p R done b ts = (u : A) × (mid : List Token) × MoreItems ts u mid × Has p R (cells m done (cell m b u)) 0 mid

  abbrev pub InTail : ℕ → (A → List Token → Type 0) → List A → A → List Token → Type 0
  InTail p R done b ts = (mid : List Token) × (ts ≡ CloseList ∷ mid) × Has p R (cells m done b) 0 mid

  not_first : {ts rest : List Token} {a : A} {q : ℕ} → First (CloseList ∷ ts) a q rest → ⊥
  not_first (plain (compound e x)) = cc

  not_derived : {ts rest : List Token} {a : A} {q : ℕ} → Derives m q (CloseList ∷ ts) a rest → ⊥
  not_derived d = let s = split d in not_first s.3

  pub none_empty : (a : A) (pa : ℕ) (mid : List Token) → First [] a pa mid → ⊥
  none_empty a pa mid (plain x) = nothing x
    where
      nothing : {mid : List Token} {a : A} → Operand m [] a mid → ⊥
      nothing x = elim x [ ]

  pub none_close : {ts : List Token} (a : A) (pa : ℕ) (mid : List Token) → First (Close ∷ ts) a pa mid → ⊥
  none_close a pa mid (plain (compound e x)) = cc

  pub none_close_list : {ts : List Token} (a : A) (pa : ℕ) (mid : List Token) → First (CloseList ∷ ts) a pa mid → ⊥
  none_close_list a pa mid (plain (compound e x)) = cc

  pub none_comma : {ts : List Token} (a : A) (pa : ℕ) (mid : List Token) → First (Comma ∷ ts) a pa mid → ⊥
  none_comma a pa mid (plain (compound e x)) = cc

  pub none_bar : {ts : List Token} (a : A) (pa : ℕ) (mid : List Token) → First (Bar ∷ ts) a pa mid → ⊥
  none_bar a pa mid (plain (compound e x)) = cc

  pub none_sign : {ts : List Token} (s : Sign) → NotCalled ts → (s ≡ Minus → ⊥) → (a : A) (pa : ℕ) (mid : List Token) → First (Symbol s ∷ ts) a pa mid → ⊥
  none_sign s n k a pa mid (plain negative) = k refl
  none_sign s n k a pa mid (plain (compound e x)) = absurd n
  none_sign s n k a pa mid (minus c l d) = k refl

  no_item : {ts rest : List Token} {a : A} → Items m (CloseList ∷ ts) a rest → ⊥
  no_item (last_item d) = not_derived d
  no_item (list_tail d e) = not_derived d
  no_item (more_items d x) = not_derived d

  module _ (p : ℕ) (R : A → List Token → Type 0) where
    -- a term begins with a first operand
    opened : {ts : List Token} → Wants p R ts → (a : A) × (pa : ℕ) × (mid : List Token) × First ts a pa mid × Has p R a pa mid
    opened w = let s = split w.2 in (s.0, s.1, s.2, s.3, (w.0, w.1, s.4, w.3))

    wants : {ts mid : List Token} {a : A} {pa : ℕ} → First ts a pa mid → Has p R a pa mid → Wants p R ts
    wants f h = (h.0, h.1, join f h.2, h.3)

    from_variable : {n pa : ℕ} {ts mid : List Token} {a : A} → First (Variable n ∷ ts) a pa mid → Has p R a pa mid → Has p R (m.variable n) 0 ts
    from_variable (plain variable) h = h
    from_variable (plain (compound e x)) h = cc

    pub at_variable : (n : ℕ) (ts : List Token) → Wants p R (Variable n ∷ ts) ↔ Has p R (m.variable n) 0 ts
    at_variable n ts = (λ w. let o = opened w in from_variable o.3 o.4, λ h. wants (plain variable) h)

    from_integer : {glued : Bool} {n place pa : ℕ} {ts mid : List Token} {a : A} → First (Integer glued n place ∷ ts) a pa mid → Has p R a pa mid → Has p R (m.number false n place) 0 ts
    from_integer (plain integer) h = h
    from_integer (plain (compound e x)) h = cc

    pub at_integer : (glued : Bool) (n place : ℕ) (ts : List Token) → Wants p R (Integer glued n place ∷ ts) ↔ Has p R (m.number false n place) 0 ts
    at_integer glued n place ts = (λ w. let o = opened w in from_integer o.3 o.4, λ h. wants (plain integer) h)

    from_atom : {b : Bool} {name : List ℕ} {pa : ℕ} {ts mid : List Token} {a : A} → NotCalled ts → First (Name b name ∷ ts) a pa mid → Has p R a pa mid → Has p R (m.atom name) 0 ts
    from_atom n (plain (atom k)) h = h
    from_atom n (plain (compound e x)) h = absurd n

    pub at_atom : (b : Bool) (name : List ℕ) (ts : List Token) → NotCalled ts → Wants p R (Name b name ∷ ts) ↔ Has p R (m.atom name) 0 ts
    at_atom b name ts n = (λ w. let o = opened w in from_atom n o.3 o.4, λ h. wants (plain (atom n)) h)

    from_negative : {n place pa : ℕ} {ts mid : List Token} {a : A} → First (Symbol Minus ∷ Integer true n place ∷ ts) a pa mid → Has p R a pa mid → Has p R (m.number true n place) 0 ts
    from_negative (plain negative) h = h
    from_negative (minus c n d) h = absurd n

    pub at_negative : (n place : ℕ) (ts : List Token) → Wants p R (Symbol Minus ∷ Integer true n place ∷ ts) ↔ Has p R (m.number true n place) 0 ts
    at_negative n place ts = (λ w. let o = opened w in from_negative o.3 o.4, λ h. wants (plain negative) h)

    from_prefix : {pa : ℕ} {ts mid : List Token} {a : A} → NotCalled ts → NotNumber ts → First (Symbol Minus ∷ ts) a pa mid → Has p R a pa mid → Wants 200 (InNegated p R) ts
    from_prefix c n (plain negative) h = absurd n
    from_prefix c n (plain (compound e x)) h = absurd c
    from_prefix c n (minus k l d) h = (_, _, d, h)

    pub at_prefix : (ts : List Token) → NotCalled ts → NotNumber ts → Wants p R (Symbol Minus ∷ ts) ↔ Wants 200 (InNegated p R) ts
    at_prefix ts c n = (λ w. let o = opened w in from_prefix c n o.3 o.4, λ w. wants (minus c n w.2) w.3)

    from_arguments : {name : List ℕ} {ts mid : List Token} {a : A} {more : List A} → Arguments m ts a more mid → Has p R (m.compound name a more) 0 mid → Wants 999 (InArgs p R name []) ts
    from_arguments (last_argument d) h = (_, _, d, ([], _, no_more, h))
    from_arguments (more_arguments d x) h = (_, _, d, (_, _, one_more x, h))

    to_arguments : {ts rest mid : List Token} {a : A} {more : List A} → Derives m 999 ts a rest → MoreArguments rest more mid → Arguments m ts a more mid
    to_arguments d no_more = last_argument d
    to_arguments d (one_more x) = more_arguments d x

    renamed : {name old : List ℕ} {mid : List Token} {a : A} {more : List A} → old ≡ name → Has p R (m.compound old a more) 0 mid → Has p R (m.compound name a more) 0 mid
    renamed {mid = mid} {a = a} {more = more} e h = subst (λ n. Has p R (m.compound n a more) 0 mid) e h

    from_compound : {token : Token} {name : List ℕ} {pa : ℕ} {ts mid : List Token} {a : A} → functor_of token ≡ Some name → First (token ∷ Open true ∷ ts) a pa mid → Has p R a pa mid → Wants 999 (InArgs p R name []) ts
    from_compound is (plain variable) h = cc
    from_compound is (plain integer) h = cc
    from_compound is (plain (atom n)) h = absurd n
    from_compound is (plain (compound e x)) h = from_arguments x (renamed (same_Some _ _ (sym e ∙ is)) h)
    from_compound is (plain (items x)) h = cc
    from_compound is (plain (group x)) h = cc
    from_compound is (minus c n d) h = absurd c

    pub at_compound : (token : Token) (name : List ℕ) (ts : List Token) → functor_of token ≡ Some name → Wants p R (token ∷ Open true ∷ ts) ↔ Wants 999 (InArgs p R name []) ts
    at_compound token name ts is = (λ w. let o = opened w in from_compound is o.3 o.4, λ w. let h = w.3 in wants (plain (compound is (to_arguments w.2 h.2))) h.3)

    from_group : {glued : Bool} {pa : ℕ} {ts mid : List Token} {a : A} → First (Open glued ∷ ts) a pa mid → Has p R a pa mid → Wants 1000 (InGroup p R) ts
    from_group (plain (group d)) h = (_, _, d, (_, refl, h))
    from_group (plain (compound e x)) h = cc

    pub at_group : (glued : Bool) (ts : List Token) → Wants p R (Open glued ∷ ts) ↔ Wants 1000 (InGroup p R) ts
    at_group glued ts = (λ w. let o = opened w in from_group o.3 o.4, λ w. let h = w.3 in wants (plain (group (subst (λ r. Derives m 1000 ts w.0 r) h.1 w.2))) h.2)

    from_no_items : {pa : ℕ} {ts mid : List Token} {a : A} → First (OpenList ∷ CloseList ∷ ts) a pa mid → Has p R a pa mid → Has p R (nil m) 0 ts
    from_no_items (plain no_items) h = h
    from_no_items (plain (items x)) h = absurd (no_item x)

    from_items : {ts mid : List Token} {a : A} → Items m ts a mid → Has p R a 0 mid → Wants 999 (InElements p R []) ts
    from_items (last_item d) h = (_, _, d, (_, _, no_more_items, h))
    from_items (list_tail d e) h = (_, _, d, (_, _, tail_only e, h))
    from_items (more_items d x) h = (_, _, d, (_, _, one_more_item x, h))

    from_list : {pa : ℕ} {ts mid : List Token} {a : A} → NotClosed ts → First (OpenList ∷ ts) a pa mid → Has p R a pa mid → Wants 999 (InElements p R []) ts
    from_list n (plain no_items) h = absurd n
    from_list n (plain (items x)) h = from_items x h
    from_list n (plain (compound e x)) h = cc

    to_items : {ts rest mid : List Token} {a u : A} → Derives m 999 ts a rest → MoreItems rest u mid → Items m ts (cell m a u) mid
    to_items d no_more_items = last_item d
    to_items d (tail_only e) = list_tail d e
    to_items d (one_more_item x) = more_items d x

    pub at_list : (ts : List Token) → NotClosed ts → Wants p R (OpenList ∷ ts) ↔ Wants 999 (InElements p R []) ts
    at_list ts n = (λ w. let o = opened w in from_list n o.3 o.4, λ w. let h = w.3 in wants (plain (items (to_items w.2 h.2))) h.3)

    pub at_no_items : (ts : List Token) → Wants p R (OpenList ∷ CloseList ∷ ts) ↔ Has p R (nil m) 0 ts
    at_no_items ts = (λ w. let o = opened w in from_no_items o.3 o.4, λ h. wants (plain no_items) h)

    -- these tokens begin no operand
    pub at_nothing : (ts : List Token) → ((a : A) (pa : ℕ) (mid : List Token) → First ts a pa mid → ⊥) → Wants p R ts → ⊥
    at_nothing ts n w = let o = opened w in n _ _ _ o.3

    -- an operator that fits follows, and no term ends before it
    pub at_infix : (token : Token) (op : Operator) (a : A) (pa : ℕ) (ts : List Token) → infix_of token ≡ Some op → pa ≤ op.left → op.priority ≤ p → (R a (token ∷ ts) → ⊥)
        → Has p R a pa (token ∷ ts) ↔ Wants op.right (InBetween p R op a) ts
    at_infix token op a pa ts is left fits back = (λ h. goes back is h.2 h.3, λ w. let h = w.3 in (h.0, h.1, on op is left w.2 h.2, h.3))
      where
        by_other : {o : Operator} {b c : A} {mid after : List Token} → o ≡ op → Derives m o.right ts b mid → Goes p (between m o a b) o.priority mid c after → R c after → Wants op.right (InBetween p R op a) ts
        by_other {b = b} {c = c} {mid = mid} {after = after} e d g r = (b, mid, subst (λ (q : Operator). Derives m q.right ts b mid) e d, (c, after, subst (λ (q : Operator). Goes p (between m q a b) q.priority mid c after) e g, r))

        goes : {c : A} {after : List Token} → (R a (token ∷ ts) → ⊥) → infix_of token ≡ Some op → Goes p a pa (token ∷ ts) c after → R c after → Wants op.right (InBetween p R op a) ts
        goes back is (stop k) r = absurd (back r)
        goes back is (on o is' le d g) r = by_other (same_Some _ _ (sym is' ∙ is)) d g r

    -- no operator that fits follows
    pub at_end : (a : A) (pa : ℕ) (ts : List Token) → pa ≤ p → ((token : Token) (after : List Token) (op : Operator) → ts ≡ token ∷ after → infix_of token ≡ Some op → pa ≤ op.left → op.priority ≤ p → ⊥)
        → Has p R a pa ts ↔ R a ts
    at_end a pa ts fits none = (λ h. ends none h.2 h.3, λ r. (a, ts, stop fits, r))
      where
        ends : {c : A} {ts after : List Token} → ((token : Token) (after : List Token) (op : Operator) → ts ≡ token ∷ after → infix_of token ≡ Some op → pa ≤ op.left → op.priority ≤ p → ⊥)
            → Goes p a pa ts c after → R c after → R a ts
        ends none (stop k) r = r
        ends none (on op is le d g) r = absurd (none _ _ op refl is le (bounded g))
