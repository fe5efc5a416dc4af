use Rattle.std.proofs.Common.{◌≡◌, ℕ, ◌+◌, ◌*◌, ◌<◌, ◌≤◌, Bool, true, false, if◌then◌else◌, ◌&&◌, nat_le, List, [], ◌∷◌, length, Option, Some, None, refl, sym, ◌∙◌, ap, subst, arith, ◌↔◌}
use Rattle.std.proofs.lemmas.Bool.{leb-true, and_parts}
use Rattle.std.proofs.lemmas.Bool.Decides.{nat_tests}
use Rattle.tc_term.specs.Tokens.{Sign, Minus, sign_bytes}
use Rattle.tc_term.specs.Grammar.{Token, Variable, Integer, Name, Symbol, Open, Close, OpenList, CloseList, Comma, Bar, Operator, infix_of, NotCalled, Meaning, nil, cell, between, Derives, Arguments, last_argument, more_arguments, Items, last_item, list_tail, more_items}
use Rattle.tc_read.specs.Machine.{Frame, Between, Negated, Group, Args, Elements, Tail, limit, Standing, Awaits, Holds, Ends, MachineStep, Refused, Goes_to, turned, applied, cells, named, minus, unbracketed, signed, listed, close_group, close_argument, close_element, close_tail, close_all, close, fitting_operator, go_on_by, go_on, start}
use Rattle.tc_read.proofs.Grammar.{IsSound, table, apart, Goes, stop, on, Wants, Has, MoreArguments, no_more, one_more, MoreItems, no_more_items, tail_only, one_more_item, InBetween, InNegated, InGroup, InArgs, InElements, InTail, none_empty, none_close, none_close_list, none_comma, none_bar, none_sign, at_variable, at_integer, at_atom, at_negative, at_prefix, at_compound, at_group, at_no_items, at_list, at_nothing, at_infix, at_end}
use Rattle.std.proofs.lemmas.Option.{same_Some}
use Rattle.tc_lists.proofs.Parts.{cons_head}

fits_not : (a b c d : ℕ) → (nat_le a b && nat_le c d) ≡ false → a ≤ b → c ≤ d → ⊥
fits_not a b c d e h k = grind (arith, nat_tests)

not_fits : (pa : ℕ) (op o : Operator) (p : ℕ) → (nat_le pa op.left && nat_le op.priority p) ≡ false → op ≡ o → pa ≤ o.left → o.priority ≤ p → ⊥
not_fits pa op o p e same h k = fits_not pa o.left o.priority p (subst (λ (q : Operator). (nat_le pa q.left && nat_le q.priority p) ≡ false) same e) h k

-- What stands open, and what the tokens that are left make of it.

module _ {A : Type 0} (m : Meaning A) where
  -- a whole term b in the innermost open place, with rest behind it, leads to the term t
  abbrev pub Returns : A → List (Frame A) → A → List Token → Type 0
  Returns t [] b rest = (b ≡ t) × (rest ≡ [])
  Returns t (Between op a ∷ s) b rest = InBetween m (limit s) (Returns t s) op a b rest
  Returns t (Negated ∷ s) b rest = InNegated m (limit s) (Returns t s) b rest
  Returns t (Group ∷ s) b rest = InGroup m (limit s) (Returns t s) b rest
  Returns t (Args name done ∷ s) b rest = InArgs m (limit s) (Returns t s) name done b rest
  Returns t (Elements done ∷ s) b rest = InElements m (limit s) (Returns t s) done b rest
  Returns t (Tail done ∷ s) b rest = InTail m (limit s) (Returns t s) done b rest

  abbrev pub Leads : A → List (Frame A) → Standing A → List Token → Type 0
  Leads t s Awaits ts = Wants m (limit s) (Returns t s) ts
  Leads t s (Holds a pa) ts = Has m (limit s) (Returns t s) a pa ts
  Leads t s (Ends a) ts = a ≡ t

  -- each operator that stands open fits into the place around it
  abbrev pub Sound : List (Frame A) → Type 0
  Sound [] = Unit {0}
  Sound (Between op a ∷ s) = IsSound op × (op.priority ≤ limit s) × Sound s
  Sound (Negated ∷ s) = Sound s
  Sound (Group ∷ s) = Sound s
  Sound (Args name done ∷ s) = Sound s
  Sound (Elements done ∷ s) = Sound s
  Sound (Tail done ∷ s) = Sound s

  abbrev pub IsPlaced : List (Frame A) → Standing A → Type 0
  IsPlaced s (Holds a pa) = pa ≤ limit s
  IsPlaced s Awaits = Unit {0}
  IsPlaced s (Ends a) = Unit {0}

  -- falls with each step
  abbrev pub left_over : List (Frame A) → Standing A → List Token → ℕ
  left_over s (Ends a) ts = 2 * length ts + length s
  left_over s Awaits ts = 2 * length ts + length s + 1
  left_over s (Holds a pa) ts = 2 * length ts + length s + 1

  -- one step keeps which terms the tokens can be
  pub record Follows (s : List (Frame A)) (old : Standing A) (ts : List Token) (s' : List (Frame A)) (new : Standing A) (ts' : List Token) : Type 0 where
    pub sound : Sound s'
    pub placed : IsPlaced s' new
    pub same : (t : A) → Leads t s old ts ↔ Leads t s' new ts'
    pub shorter : left_over s' new ts' < left_over s old ts

  abbrev pub Moves : List (Frame A) → Standing A → List Token → MachineStep A → Type 0
  Moves s old ts Refused = (t : A) → Leads t s old ts → ⊥
  Moves s old ts (Goes_to s' new ts') = Follows s old ts s' new ts'

  limit_low : (s : List (Frame A)) → Sound s → 200 ≤ limit s
  limit_low [] h = omega arith
  limit_low (Between op a ∷ s) h = h.0.low
  limit_low (Negated ∷ s) h = omega arith
  limit_low (Group ∷ s) h = omega arith
  limit_low (Args name done ∷ s) h = omega arith
  limit_low (Elements done ∷ s) h = omega arith
  limit_low (Tail done ∷ s) h = omega arith

  no_argument : {x : List A} {ts mid : List Token} (token : Token) (op : Operator) → infix_of token ≡ Some op → op.priority ≤ 999 → MoreArguments m (token ∷ ts) x mid → ⊥
  no_argument token op is le no_more = cc
  no_argument token op is le (one_more x) = let e : op.priority ≡ 1000 = ap (λ (o : Operator). o.priority) (sym (same_Some _ _ is)) in omega arith

  no_item : {x : A} {ts mid : List Token} (token : Token) (op : Operator) → infix_of token ≡ Some op → op.priority ≤ 999 → MoreItems m (token ∷ ts) x mid → ⊥
  no_item token op is le no_more_items = cc
  no_item token op is le (tail_only x) = cc
  no_item token op is le (one_more_item x) = let e : op.priority ≡ 1000 = ap (λ (o : Operator). o.priority) (sym (same_Some _ _ is)) in omega arith

  -- where an operator fits into the open place, no term ends before it
  not_back : (t : A) (s : List (Frame A)) (b : A) (token : Token) (ts : List Token) (op : Operator) → Sound s → infix_of token ≡ Some op → op.priority ≤ limit s → Returns t s b (token ∷ ts) → ⊥
  not_back t [] b token ts op h is le r = let e = r.1 in cc
  not_back t (Between o a ∷ s) b token ts op h is le r = ends r.2 r.3 (λ c back. not_back t s c token ts op h.2 is (omega (arith, h.0.right)) back)
    where
      ends : {c : A} {after : List Token} → Goes m (limit s) (between m o a b) o.priority (token ∷ ts) c after → Returns t s c after → ((c : A) → Returns t s c (token ∷ ts) → ⊥) → ⊥
      ends (stop k) back ih = ih _ back
      ends (on p is' le' d g) back ih = apart op o (table token op is) h.0 le (subst (λ (q : Operator). o.priority ≤ q.left) (same_Some _ _ (sym is' ∙ is)) le')
  not_back t (Negated ∷ s) b token ts op h is le r = let k = table token op is in omega (arith, k.low, k.high, k.left)
  not_back t (Group ∷ s) b token ts op h is le r = closed token is r.1
    where
      closed : {mid : List Token} (token : Token) → infix_of token ≡ Some op → token ∷ ts ≡ Close ∷ mid → ⊥
      closed token is e = let k : token ≡ Close = cc in let none : infix_of token ≡ None = ap infix_of k in cc
  not_back t (Args name done ∷ s) b token ts op h is le r = no_argument token op is le r.2
  not_back t (Elements done ∷ s) b token ts op h is le r = no_item token op is le r.2
  not_back t (Tail done ∷ s) b token ts op h is le r = closed token is r.1
    where
      closed : {mid : List Token} (token : Token) → infix_of token ≡ Some op → token ∷ ts ≡ CloseList ∷ mid → ⊥
      closed token is e = let k : token ≡ CloseList = cc in let none : infix_of token ≡ None = ap infix_of k in cc

  after_name : (s : List (Frame A)) → Sound s → (b : Bool) (name : List ℕ) (ts : List Token) → Moves s Awaits (Name b name ∷ ts) (named m s name ts)
  after_name s h b name (Open true ∷ ts) = record { sound = h; placed = tt; same = λ t. at_compound m (limit s) (Returns t s) (Name b name) name ts refl; shorter = omega arith }
  after_name s h b name ts = record { sound = h; placed = omega arith; same = λ t. at_atom m (limit s) (Returns t s) b name ts tt; shorter = omega arith }

  after_minus : (s : List (Frame A)) → Sound s → (ts : List Token) → NotCalled ts → Moves s Awaits (Symbol Minus ∷ ts) (minus m s ts)
  after_minus s h (Integer true n place ∷ ts) c = record { sound = h; placed = omega arith; same = λ t. at_negative m (limit s) (Returns t s) n place ts; shorter = omega arith }
  after_minus s h ts c = record { sound = h; placed = tt; same = λ t. at_prefix m (limit s) (Returns t s) ts c tt; shorter = omega arith }

  after_unbracketed : (s : List (Frame A)) → Sound s → (sign : Sign) (ts : List Token) → NotCalled ts → Moves s Awaits (Symbol sign ∷ ts) (unbracketed m s sign ts)
  after_unbracketed s h Minus ts c = after_minus s h ts c
  after_unbracketed s h sign ts c = λ t w. at_nothing m (limit s) (Returns t s) _ (none_sign m sign c (λ e. cc)) w

  after_sign : (s : List (Frame A)) → Sound s → (sign : Sign) (ts : List Token) → Moves s Awaits (Symbol sign ∷ ts) (signed m s sign ts)
  after_sign s h sign (Open true ∷ ts) = record { sound = h; placed = tt; same = λ t. at_compound m (limit s) (Returns t s) (Symbol sign) (sign_bytes sign) ts refl; shorter = omega arith }
  after_sign s h sign ts = after_unbracketed s h sign ts tt

  after_list : (s : List (Frame A)) → Sound s → (ts : List Token) → Moves s Awaits (OpenList ∷ ts) (listed m s ts)
  after_list s h (CloseList ∷ ts) = record { sound = h; placed = omega arith; same = λ t. at_no_items m (limit s) (Returns t s) ts; shorter = omega arith }
  after_list s h ts = record { sound = h; placed = tt; same = λ t. at_list m (limit s) (Returns t s) ts tt; shorter = omega arith }

  pub starts : (s : List (Frame A)) → Sound s → (ts : List Token) → Moves s Awaits ts (start m s ts)
  starts s h [] = λ t w. at_nothing m (limit s) (Returns t s) [] (none_empty m) w
  starts s h (Variable n ∷ ts) = record { sound = h; placed = omega arith; same = λ t. at_variable m (limit s) (Returns t s) n ts; shorter = omega arith }
  starts s h (Integer glued n place ∷ ts) = record { sound = h; placed = omega arith; same = λ t. at_integer m (limit s) (Returns t s) glued n place ts; shorter = omega arith }
  starts s h (Name plain name ∷ ts) = after_name s h plain name ts
  starts s h (Symbol sign ∷ ts) = after_sign s h sign ts
  starts s h (Open glued ∷ ts) = record { sound = h; placed = tt; same = λ t. at_group m (limit s) (Returns t s) glued ts; shorter = omega arith }
  starts s h (OpenList ∷ ts) = after_list s h ts
  starts s h (Close ∷ ts) = λ t w. at_nothing m (limit s) (Returns t s) _ (none_close m) w
  starts s h (CloseList ∷ ts) = λ t w. at_nothing m (limit s) (Returns t s) _ (none_close_list m) w
  starts s h (Comma ∷ ts) = λ t w. at_nothing m (limit s) (Returns t s) _ (none_comma m) w
  starts s h (Bar ∷ ts) = λ t w. at_nothing m (limit s) (Returns t s) _ (none_bar m) w

  -- the same of a step where the term b is whole
  pub record Comes (s : List (Frame A)) (b : A) (ts : List Token) (s' : List (Frame A)) (new : Standing A) (ts' : List Token) : Type 0 where
    pub sound : Sound s'
    pub placed : IsPlaced s' new
    pub same : (t : A) → Returns t s b ts ↔ Leads t s' new ts'
    pub shorter : left_over s' new ts' < 2 * length ts + length s + 1

  abbrev pub Closes : List (Frame A) → A → List Token → MachineStep A → Type 0
  Closes s b ts Refused = (t : A) → Returns t s b ts → ⊥
  Closes s b ts (Goes_to s' new ts') = Comes s b ts s' new ts'

  at_closing : (closing : Token) (ts : List Token) (B : List Token → Type 0) → ((mid : List Token) × (closing ∷ ts ≡ closing ∷ mid) × B mid) ↔ B ts
  at_closing closing ts B = (λ h. let e : h.0 ≡ ts = let was = h.1 in cc in subst B e h.2, λ b. (ts, refl, b))

  after_group : (s : List (Frame A)) → Sound s → (b : A) (ts : List Token) → Closes (Group ∷ s) b ts (close_group m s b ts)
  after_group s h b (Close ∷ ts) = record { sound = h; placed = omega arith; same = λ t. at_closing Close ts (λ mid. Has m (limit s) (Returns t s) b 0 mid); shorter = omega arith }
  after_group s h b ts = λ t r. let e = r.1 in cc

  after_tail : (s : List (Frame A)) → Sound s → (done : List A) (b : A) (ts : List Token) → Closes (Tail done ∷ s) b ts (close_tail m s done b ts)
  after_tail s h done b (CloseList ∷ ts) = record { sound = h; placed = omega arith; same = λ t. at_closing CloseList ts (λ mid. Has m (limit s) (Returns t s) (cells m done b) 0 mid); shorter = omega arith }
  after_tail s h done b ts = λ t r. let e = r.1 in cc

  module _ (p : ℕ) (R : A → List Token → Type 0) where
    from_close : (name : List ℕ) (done : List A) (b : A) {ts mid : List Token} {more : List A} → MoreArguments m (Close ∷ ts) more mid
        → Has m p R (applied m name (turned done (b ∷ more))) 0 mid → Has m p R (applied m name (turned done (b ∷ []))) 0 ts
    from_close name done b no_more h = h

    from_more : (name : List ℕ) (done : List A) (b : A) {ts mid : List Token} {a : A} {more : List A} → Arguments m ts a more mid
        → Has m p R (applied m name (turned done (b ∷ a ∷ more))) 0 mid → Wants m 999 (InArgs m p R name (b ∷ done)) ts
    from_more name done b (last_argument d) h = (_, _, d, ([], _, no_more, h))
    from_more name done b (more_arguments d x) h = (_, _, d, (_, _, one_more x, h))

    from_comma : (name : List ℕ) (done : List A) (b : A) {ts mid : List Token} {more : List A} → MoreArguments m (Comma ∷ ts) more mid
        → Has m p R (applied m name (turned done (b ∷ more))) 0 mid → Wants m 999 (InArgs m p R name (b ∷ done)) ts
    from_comma name done b (one_more x) h = from_more name done b x h

    to_comma : (name : List ℕ) (done : List A) (b : A) {ts rest mid : List Token} {a : A} {more : List A} → Derives m 999 ts a rest → MoreArguments m rest more mid
        → Has m p R (applied m name (turned done (b ∷ a ∷ more))) 0 mid → InArgs m p R name done b (Comma ∷ ts)
    to_comma name done b d no_more h = (_, _, one_more (last_argument d), h)
    to_comma name done b d (one_more x) h = (_, _, one_more (more_arguments d x), h)

    from_close_list : (done : List A) (b : A) {ts mid : List Token} {u : A} → MoreItems m (CloseList ∷ ts) u mid
        → Has m p R (cells m done (cell m b u)) 0 mid → Has m p R (cells m done (cell m b (nil m))) 0 ts
    from_close_list done b no_more_items h = h

    from_bar : (done : List A) (b : A) {ts mid : List Token} {u : A} → MoreItems m (Bar ∷ ts) u mid
        → Has m p R (cells m done (cell m b u)) 0 mid → Wants m 999 (InTail m p R (b ∷ done)) ts
    from_bar done b (tail_only d) h = (_, _, d, (_, refl, h))

    to_bar : (done : List A) (b : A) {ts rest mid : List Token} {u : A} → Derives m 999 ts u rest → rest ≡ CloseList ∷ mid
        → Has m p R (cells m done (cell m b u)) 0 mid → InElements m p R done b (Bar ∷ ts)
    to_bar done b {ts = ts} {u = u} d e h = (_, _, tail_only (subst (λ r. Derives m 999 ts u r) e d), h)

    from_item : (done : List A) (b : A) {ts mid : List Token} {u : A} → Items m ts u mid
        → Has m p R (cells m done (cell m b u)) 0 mid → Wants m 999 (InElements m p R (b ∷ done)) ts
    from_item done b (last_item d) h = (_, _, d, (_, _, no_more_items, h))
    from_item done b (list_tail d e) h = (_, _, d, (_, _, tail_only e, h))
    from_item done b (more_items d x) h = (_, _, d, (_, _, one_more_item x, h))

    from_next : (done : List A) (b : A) {ts mid : List Token} {u : A} → MoreItems m (Comma ∷ ts) u mid
        → Has m p R (cells m done (cell m b u)) 0 mid → Wants m 999 (InElements m p R (b ∷ done)) ts
    from_next done b (one_more_item x) h = from_item done b x h

    to_next : (done : List A) (b : A) {ts rest mid : List Token} {a u : A} → Derives m 999 ts a rest → MoreItems m rest u mid
        → Has m p R (cells m done (cell m b (cell m a u))) 0 mid → InElements m p R done b (Comma ∷ ts)
    to_next done b d no_more_items h = (_, _, one_more_item (last_item d), h)
    to_next done b d (tail_only e) h = (_, _, one_more_item (list_tail d e), h)
    to_next done b d (one_more_item x) h = (_, _, one_more_item (more_items d x), h)

  no_argument_end : {ts mid : List Token} {more : List A} → MoreArguments m ts more mid → ((mid : List Token) → ts ≡ Close ∷ mid → ⊥) → ((mid : List Token) → ts ≡ Comma ∷ mid → ⊥) → ⊥
  no_argument_end no_more f g = f _ refl
  no_argument_end (one_more x) f g = g _ refl

  no_item_end : {ts mid : List Token} {u : A} → MoreItems m ts u mid → ((mid : List Token) → ts ≡ CloseList ∷ mid → ⊥) → ((mid : List Token) → ts ≡ Bar ∷ mid → ⊥) → ((mid : List Token) → ts ≡ Comma ∷ mid → ⊥) → ⊥
  no_item_end no_more_items f g k = f _ refl
  no_item_end (tail_only d) f g k = g _ refl
  no_item_end (one_more_item x) f g k = k _ refl

  after_argument : (s : List (Frame A)) → Sound s → (name : List ℕ) (done : List A) (b : A) (ts : List Token) → Closes (Args name done ∷ s) b ts (close_argument m s name done b ts)
  after_argument s h name done b (Close ∷ ts) = record {
    sound = h;
    placed = omega arith;
    shorter = omega arith;
    same = λ t. (λ r. from_close (limit s) (Returns t s) name done b r.2 r.3, λ h. ([], ts, no_more, h));
  }
  after_argument s h name done b (Comma ∷ ts) = record {
    sound = h;
    placed = tt;
    shorter = omega arith;
    same = λ t. (λ r. from_comma (limit s) (Returns t s) name done b r.2 r.3, λ w. let r = w.3 in to_comma (limit s) (Returns t s) name done b w.2 r.2 r.3);
  }
  after_argument s h name done b ts = λ t r. no_argument_end r.2 (λ mid e. cc) (λ mid e. cc)

  after_element : (s : List (Frame A)) → Sound s → (done : List A) (b : A) (ts : List Token) → Closes (Elements done ∷ s) b ts (close_element m s done b ts)
  after_element s h done b (CloseList ∷ ts) = record {
    sound = h;
    placed = omega arith;
    shorter = omega arith;
    same = λ t. (λ r. from_close_list (limit s) (Returns t s) done b r.2 r.3, λ h. (_, ts, no_more_items, h));
  }
  after_element s h done b (Bar ∷ ts) = record {
    sound = h;
    placed = tt;
    shorter = omega arith;
    same = λ t. (λ r. from_bar (limit s) (Returns t s) done b r.2 r.3, λ w. let r = w.3 in to_bar (limit s) (Returns t s) done b w.2 r.1 r.2);
  }
  after_element s h done b (Comma ∷ ts) = record {
    sound = h;
    placed = tt;
    shorter = omega arith;
    same = λ t. (λ r. from_next (limit s) (Returns t s) done b r.2 r.3, λ w. let r = w.3 in to_next (limit s) (Returns t s) done b w.2 r.2 r.3);
  }
  after_element s h done b ts = λ t r. no_item_end r.2 (λ mid e. cc) (λ mid e. cc) (λ mid e. cc)

  after_all : (b : A) (ts : List Token) → Closes [] b ts (close_all m b ts)
  after_all b [] = record { sound = tt; placed = tt; same = λ t. (λ r. r.0, λ e. (e, refl)); shorter = omega arith }
  after_all b ts = λ t r. let e = r.1 in cc

  closes : (s : List (Frame A)) → Sound s → (b : A) (ts : List Token) → Closes s b ts (close m s b ts)
  closes [] h b ts = after_all b ts
  closes (Between op a ∷ s) h b ts = record { sound = h.2; placed = h.1; same = λ t. (λ r. r, λ r. r); shorter = omega arith }
  closes (Negated ∷ s) h b ts = record { sound = h; placed = limit_low s h; same = λ t. (λ r. r, λ r. r); shorter = omega arith }
  closes (Group ∷ s) h b ts = after_group s h b ts
  closes (Args name done ∷ s) h b ts = after_argument s h name done b ts
  closes (Elements done ∷ s) h b ts = after_element s h done b ts
  closes (Tail done ∷ s) h b ts = after_tail s h done b ts

  moved : (s : List (Frame A)) (a : A) (pa : ℕ) (ts : List Token) (move : MachineStep A) → ((t : A) → Has m (limit s) (Returns t s) a pa ts ↔ Returns t s a ts) → Closes s a ts move → Moves s (Holds a pa) ts move
  moved s a pa ts Refused same c = λ t h. c t ((same t).0 h)
  moved s a pa ts (Goes_to s' new ts') same c = record { sound = c.sound; placed = c.placed; shorter = c.shorter; same = λ t. (λ h. (c.same t).0 ((same t).0 h), λ l. (same t).1 ((c.same t).1 l)) }

  -- what follows is no operator that fits
  abbrev pub NoInfix : ℕ → ℕ → List Token → Type 0
  NoInfix p pa ts = (token : Token) (after : List Token) (op : Operator) → ts ≡ token ∷ after → infix_of token ≡ Some op → pa ≤ op.left → op.priority ≤ p → ⊥

  closes_at : (s : List (Frame A)) → Sound s → (a : A) (pa : ℕ) (ts : List Token) → pa ≤ limit s → NoInfix (limit s) pa ts → Moves s (Holds a pa) ts (close m s a ts)
  closes_at s h a pa ts placed none = moved s a pa ts (close m s a ts) (λ t. at_end m (limit s) (Returns t s) a pa ts placed none) (closes s h a ts)

  by_test : (s : List (Frame A)) → Sound s → (a : A) (pa : ℕ) (token : Token) (ts : List Token) (op : Operator) → pa ≤ limit s → infix_of token ≡ Some op
      → (b : Bool) → (nat_le pa op.left && nat_le op.priority (limit s)) ≡ b → Moves s (Holds a pa) (token ∷ ts) (go_on_by m (if b then Some op else None) s a (token ∷ ts))
  by_test s h a pa token ts op placed is true e =
      let both = and_parts (nat_le pa op.left) (nat_le op.priority (limit s)) e in
      let left : pa ≤ op.left = leb-true pa op.left both.0 in
      let fits : op.priority ≤ limit s = leb-true op.priority (limit s) both.1 in
      record {
        sound = (table token op is, fits, h);
        placed = tt;
        shorter = omega arith;
        same = λ t. at_infix m (limit s) (Returns t s) token op a pa ts is left fits (λ r. not_back t s a token ts op h is fits r);
      }
  by_test s h a pa token ts op placed is false e = closes_at s h a pa (token ∷ ts) placed (λ token' after op' same is' left fits. not_fits pa op op' (limit s) e (same_Some _ _ (sym is ∙ ap infix_of (cons_head same) ∙ is')) left fits)

  by_operator : (s : List (Frame A)) → Sound s → (a : A) (pa : ℕ) (token : Token) (ts : List Token) → pa ≤ limit s → (o : Option Operator) → infix_of token ≡ o
      → Moves s (Holds a pa) (token ∷ ts) (go_on_by m (fitting_operator (limit s) pa o) s a (token ∷ ts))
  by_operator s h a pa token ts placed None is = closes_at s h a pa (token ∷ ts) placed (λ token' after op' same is' left fits. let e = sym is ∙ ap infix_of (cons_head same) ∙ is' in cc)
  by_operator s h a pa token ts placed (Some op) is = by_test s h a pa token ts op placed is (nat_le pa op.left && nat_le op.priority (limit s)) refl

  pub goes : (s : List (Frame A)) → Sound s → (a : A) (pa : ℕ) (ts : List Token) → pa ≤ limit s → Moves s (Holds a pa) ts (go_on m s a pa ts)
  goes s h a pa [] placed = closes_at s h a pa [] placed (λ token after op e is left fits. cc)
  goes s h a pa (token ∷ ts) placed = by_operator s h a pa token ts placed (infix_of token) refl

  -- a step from a term that has been read leaves less, whatever stands open
  abbrev pub IsShorter : ℕ → MachineStep A → Type 0
  IsShorter n Refused = Unit {0}
  IsShorter n (Goes_to s now ts) = left_over s now ts < n

  close_shorter : (s : List (Frame A)) (a : A) (ts : List Token) → IsShorter (2 * length ts + length s + 1) (close m s a ts)
  close_shorter [] a [] = omega arith
  close_shorter [] a (t ∷ ts) = tt
  close_shorter (Between op left ∷ s) a ts = omega arith
  close_shorter (Negated ∷ s) a ts = omega arith
  close_shorter (Group ∷ s) a (Close ∷ ts) = omega arith
  close_shorter (Group ∷ s) a ts = tt
  close_shorter (Args name done ∷ s) a (Close ∷ ts) = omega arith
  close_shorter (Args name done ∷ s) a (Comma ∷ ts) = omega arith
  close_shorter (Args name done ∷ s) a ts = tt
  close_shorter (Elements done ∷ s) a (CloseList ∷ ts) = omega arith
  close_shorter (Elements done ∷ s) a (Bar ∷ ts) = omega arith
  close_shorter (Elements done ∷ s) a (Comma ∷ ts) = omega arith
  close_shorter (Elements done ∷ s) a ts = tt
  close_shorter (Tail done ∷ s) a (CloseList ∷ ts) = omega arith
  close_shorter (Tail done ∷ s) a ts = tt

  by_shorter : (o : Option Operator) (s : List (Frame A)) (a : A) (t : Token) (ts : List Token)
      → IsShorter (2 * length (t ∷ ts) + length s + 1) (go_on_by m o s a (t ∷ ts))
  by_shorter (Some op) s a t ts = omega arith
  by_shorter None s a t ts = close_shorter s a (t ∷ ts)

  pub go_on_shorter : (s : List (Frame A)) (a : A) (pa : ℕ) (ts : List Token) → IsShorter (left_over s (Holds a pa) ts) (go_on m s a pa ts)
  go_on_shorter s a pa [] = close_shorter s a []
  go_on_shorter s a pa (t ∷ ts) = by_shorter (fitting_operator (limit s) pa (infix_of t)) s a t ts
