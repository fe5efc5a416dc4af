-- What a term takes of the room: its nodes, its bytes of names and its new variables.
use Rattle.std.proofs.Common.{◌≡◌, ◌∙◌, ◌⊎◌, ◌<◌, ◌≤◌, ◌+◌, ◌-◌, ◌||◌, ℕ, zero, suc, Bool, true, false, nat_lt, nat_le, nat_eq, if◌then◌else◌, List, length, Some, None, refl, sym, ap, inl, inr, subst, arith}
use Rattle.std.proofs.lemmas.Bool.Decides.{nat_tests}
use Rattle.std.specs.declared.option.Option.{Option}
use Rattle.std.specs.List.{range_with_len}
use Rattle.std.proofs.lemmas.List.FromFn.{length-range_with_len}
use mathlib.Core.List.{IsPrefix}
use Rattle.tc_lists.proofs.Prefixes.{length-IsPrefix}
use Rattle.tc_term.specs.Tree.{HasIntegers, Tree, Variable, Atomic, Number, Compound, Trees, Last, More, nodes, nodes_of_all, depth, depth_of_all, name_bytes, name_bytes_of_all}
use Rattle.tc_term.specs.Variables.{variables_after, variables_after_all, variables, IsPattern}
use Rattle.tc_read.proofs.Ranges.{IsPrefix-variables_after_all, with_number-new, with_number-old, with_number-range}
use Rattle.tc_read.specs.Budget.{numbered, paid, spent, spent_all, then_in, whole}
use Rattle.tc_read.specs.declared.budget.Budget.{Budget}
use Rattle.std.proofs.lemmas.Option.{same_Some}
use Rattle.tc_lists.proofs.Ranges.{IsPrefix-range}

-- the room behind a node
pub record Paid (size : ℕ) (budget left : Budget) : Type 0 where
  pub some : 1 ≤ budget.room.nodes
  pub enough : size ≤ budget.room.name_bytes
  pub is : record budget { room = record { nodes = budget.room.nodes - 1; name_bytes = budget.room.name_bytes - size } } ≡ left

pub paid-some : (size : ℕ) (budget left : Budget) → paid size budget ≡ Some left → Paid size budget left
paid-some size budget left e = by (nat_eq budget.room.nodes 0) (nat_lt budget.room.name_bytes size) refl refl
  where
    next : Budget
    next = record budget { room = record { nodes = budget.room.nodes - 1; name_bytes = budget.room.name_bytes - size } }

    by : (p q : Bool) → nat_eq budget.room.nodes 0 ≡ p → nat_lt budget.room.name_bytes size ≡ q → Paid size budget left
    by true q i j = let none : None ≡ Some left = sym (ap (λ b. if b || nat_lt budget.room.name_bytes size then None else Some next) i) ∙ e in absurd (cc)
    by false true i j = let none : None ≡ Some left = sym (ap (λ b. if b || nat_lt budget.room.name_bytes size then None else Some next) i ∙ ap (λ b. if false || b then None else Some next) j) ∙ e in absurd (cc)
    by false false i j = record {
      some = grind (arith, nat_tests);
      enough = grind (arith, nat_tests);
      is = same_Some next left (sym (ap (λ b. if b || nat_lt budget.room.name_bytes size then None else Some next) i ∙ ap (λ b. if false || b then None else Some next) j) ∙ e);
    }

pub some-paid : (size : ℕ) (budget : Budget) → 1 ≤ budget.room.nodes → size ≤ budget.room.name_bytes →
    paid size budget ≡ Some (record budget { room = record { nodes = budget.room.nodes - 1; name_bytes = budget.room.name_bytes - size } })
some-paid size budget some enough =
    let i : nat_eq budget.room.nodes 0 ≡ false = grind (arith, nat_tests) in
    let j : nat_lt budget.room.name_bytes size ≡ false = grind (arith, nat_tests) in
    let next : Budget = record budget { room = record { nodes = budget.room.nodes - 1; name_bytes = budget.room.name_bytes - size } } in
    ap (λ b. if b || nat_lt budget.room.name_bytes size then None else Some next) i ∙ ap (λ b. if false || b then None else Some next) j

-- the room behind a variable
pub data Numbered (n : ℕ) (budget left : Budget) : Type 0 where
  old : n < budget.variables → n ≤ 255 → budget ≡ left → Numbered n budget left
  new : n ≡ budget.variables → n ≤ 255 → record budget { variables = n + 1 } ≡ left → Numbered n budget left

pub numbered-some : (n : ℕ) (budget left : Budget) → numbered n budget ≡ Some left → Numbered n budget left
numbered-some n budget left e = by (nat_le 256 n) (nat_lt budget.variables n) (nat_lt n budget.variables) refl refl refl
  where
    next : Budget
    next = record budget { variables = n + 1 }

    first : Bool → Bool → Bool → Option Budget
    first p q r = if p || q then None else (if r then Some budget else Some next)

    by : (p q r : Bool) → nat_le 256 n ≡ p → nat_lt budget.variables n ≡ q → nat_lt n budget.variables ≡ r → Numbered n budget left
    by true q r i j k = let none : None ≡ Some left = sym (ap (λ b. first b (nat_lt budget.variables n) (nat_lt n budget.variables)) i) ∙ e in absurd (cc)
    by false true r i j k = let none : None ≡ Some left = sym (ap (λ b. first b (nat_lt budget.variables n) (nat_lt n budget.variables)) i ∙ ap (λ b. first false b (nat_lt n budget.variables)) j) ∙ e in absurd (cc)
    by false false true i j k = old (grind (arith, nat_tests)) (grind (arith, nat_tests))
        (same_Some budget left (sym (ap (λ b. first b (nat_lt budget.variables n) (nat_lt n budget.variables)) i ∙ ap (λ b. first false b (nat_lt n budget.variables)) j ∙ ap (λ b. first false false b) k) ∙ e))
    by false false false i j k = new (grind (arith, nat_tests)) (grind (arith, nat_tests))
        (same_Some next left (sym (ap (λ b. first b (nat_lt budget.variables n) (nat_lt n budget.variables)) i ∙ ap (λ b. first false b (nat_lt n budget.variables)) j ∙ ap (λ b. first false false b) k) ∙ e))

pub numbered-few : (n : ℕ) (budget left : Budget) → numbered n budget ≡ Some left → n ≤ 255
numbered-few n budget left e = by (numbered-some n budget left e)
  where
    by : Numbered n budget left → n ≤ 255
    by (old below few is) = few
    by (new at few is) = few

old-numbered : (n : ℕ) (budget : Budget) → n < budget.variables → n ≤ 255 → numbered n budget ≡ Some budget
old-numbered n budget below few =
    let i : nat_le 256 n ≡ false = grind (arith, nat_tests) in
    let j : nat_lt budget.variables n ≡ false = grind (arith, nat_tests) in
    let k : nat_lt n budget.variables ≡ true = grind (arith, nat_tests) in
    let next : Budget = record budget { variables = n + 1 } in
    ap (λ b. if b || nat_lt budget.variables n then None else (if nat_lt n budget.variables then Some budget else Some next)) i
    ∙ ap (λ b. if false || b then None else (if nat_lt n budget.variables then Some budget else Some next)) j
    ∙ ap (λ b. if b then Some budget else Some next) k

new-numbered : (n : ℕ) (budget : Budget) → n ≡ budget.variables → n ≤ 255 → numbered n budget ≡ Some (record budget { variables = n + 1 })
new-numbered n budget at few =
    let i : nat_le 256 n ≡ false = grind (arith, nat_tests) in
    let j : nat_lt budget.variables n ≡ false = grind (arith, nat_tests) in
    let k : nat_lt n budget.variables ≡ false = grind (arith, nat_tests) in
    let next : Budget = record budget { variables = n + 1 } in
    ap (λ b. if b || nat_lt budget.variables n then None else (if nat_lt n budget.variables then Some budget else Some next)) i
    ∙ ap (λ b. if false || b then None else (if nat_lt n budget.variables then Some budget else Some next)) j
    ∙ ap (λ b. if b then Some budget else Some next) k

-- what is done in the room that is left
pub then_in-some : {X : Type 0} (o : Option Budget) (go : Budget → Option X) (x : X) → then_in o go ≡ Some x → (r : Budget) × (o ≡ Some r) × (go r ≡ Some x)
then_in-some None go x e = absurd (cc)
then_in-some (Some r) go x e = (r, refl, e)

-- the sizes and the variables of what was read are the room's that is gone
pub record Takes (d : ℕ) (budget : Budget) (nodes_taken bytes_taken deep : ℕ) (seen : List ℕ) (left : Budget) : Type 0 where
  pub nodes : left.room.nodes + nodes_taken ≡ budget.room.nodes
  pub name_bytes : left.room.name_bytes + bytes_taken ≡ budget.room.name_bytes
  pub depth : deep ≤ d
  pub variables : seen ≡ range_with_len 0 left.variables
  pub few : budget.variables ≤ 256 → left.variables ≤ 256

abbrev pub TakesTerm : ℕ → Budget → Tree → Budget → Type 0
TakesTerm d budget t left = Takes d budget (nodes t) (name_bytes t) (depth t) (variables_after (range_with_len 0 budget.variables) t) left

abbrev pub TakesAll : ℕ → Budget → Trees → Budget → Type 0
TakesAll d budget ts left = Takes d budget (nodes_of_all ts) (name_bytes_of_all ts) (depth_of_all ts) (variables_after_all (range_with_len 0 budget.variables) ts) left

leaf-takes : (d size : ℕ) (budget left : Budget) → paid size budget ≡ Some left → Takes (suc d) budget 1 size 1 (range_with_len 0 budget.variables) left
leaf-takes d size budget left e =
    let h = paid-some size budget left e in
    let v : budget.variables ≡ left.variables = ap (λ r. r.variables) h.is in
    record {
      nodes = omega (arith, h.some, ap (λ r. r.room.nodes) h.is);
      name_bytes = omega (arith, h.enough, ap (λ r. r.room.name_bytes) h.is);
      depth = omega arith;
      variables = ap (range_with_len 0) v;
      few = λ few. omega (arith, few, v);
    }

variable-takes : (d n : ℕ) (budget left : Budget) → then_in (numbered n budget) (paid 0) ≡ Some left → TakesTerm (suc d) budget (Variable n) left
variable-takes d n budget left e =
    let (mid, at, more) = then_in-some (numbered n budget) (paid 0) left e in by mid (numbered-some n budget mid at) (leaf-takes d 0 mid left more)
  where
    by : (mid : Budget) → Numbered n budget mid → Takes (suc d) mid 1 0 1 (range_with_len 0 mid.variables) left → TakesTerm (suc d) budget (Variable n) left
    by mid (old below few is) more = record {
      nodes = more.nodes ∙ sym (ap (λ r. r.room.nodes) is);
      name_bytes = more.name_bytes ∙ sym (ap (λ r. r.room.name_bytes) is);
      depth = more.depth;
      variables = with_number-old budget.variables n below ∙ ap (λ r. range_with_len 0 r.variables) is ∙ more.variables;
      few = λ small. more.few (omega (arith, small, ap (λ r. r.variables) is));
    }
    by mid (new at few is) more = record {
      nodes = more.nodes ∙ sym (ap (λ r. r.room.nodes) is);
      name_bytes = more.name_bytes ∙ sym (ap (λ r. r.room.name_bytes) is);
      depth = more.depth;
      variables = ap (λ k. variables_after (range_with_len 0 k) (Variable n)) (sym at) ∙ with_number-new n ∙ ap (λ r. range_with_len 0 r.variables) is ∙ more.variables;
      few = λ small. more.few (omega (arith, few, ap (λ r. r.variables) is));
    }

mutual
  pub spent-takes : (t : Tree) (d : ℕ) (budget left : Budget) → spent d budget t ≡ Some left → TakesTerm d budget t left
  spent-takes (Variable n) zero budget left e = absurd (cc)
  spent-takes (Variable n) (suc d) budget left e = variable-takes d n budget left e
  spent-takes (Atomic name) zero budget left e = absurd (cc)
  spent-takes (Atomic name) (suc d) budget left e = leaf-takes d (length name) budget left e
  spent-takes (Number z) zero budget left e = absurd (cc)
  spent-takes (Number z) (suc d) budget left e = leaf-takes d 0 budget left e
  spent-takes (Compound name args) zero budget left e = absurd (cc)
  spent-takes (Compound name args) (suc d) budget left e =
      let (mid, at, more) = then_in-some (paid (length name) budget) (λ now. spent_all d now args) left e in
      let first = paid-some (length name) budget mid at in
      let all = spent_all-takes args d mid left more in
      let v : budget.variables ≡ mid.variables = ap (λ r. r.variables) first.is in
      record {
        nodes = omega (arith, first.some, ap (λ r. r.room.nodes) first.is, all.nodes);
        name_bytes = omega (arith, first.enough, ap (λ r. r.room.name_bytes) first.is, all.name_bytes);
        depth = omega (arith, all.depth);
        variables = ap (λ k. variables_after_all (range_with_len 0 k) args) v ∙ all.variables;
        few = λ small. all.few (omega (arith, small, v));
      }

  pub spent_all-takes : (ts : Trees) (d : ℕ) (budget left : Budget) → spent_all d budget ts ≡ Some left → TakesAll d budget ts left
  spent_all-takes (Last t) d budget left e = spent-takes t d budget left e
  spent_all-takes (More t ts) d budget left e =
      let (mid, at, more) = then_in-some (spent d budget t) (λ now. spent_all d now ts) left e in
      let first = spent-takes t d budget mid at in
      let all = spent_all-takes ts d mid left more in
      record {
        nodes = omega (arith, first.nodes, all.nodes);
        name_bytes = omega (arith, first.name_bytes, all.name_bytes);
        depth = omega (arith, first.depth, all.depth);
        variables = ap (λ l. variables_after_all l ts) first.variables ∙ all.variables;
        few = λ small. all.few (first.few small);
      }

-- where there is room, it is spent
pub record HasRoom (d : ℕ) (budget : Budget) (nodes_taken bytes_taken deep : ℕ) (seen : List ℕ) (k : ℕ) : Type 0 where
  pub nodes : nodes_taken ≤ budget.room.nodes
  pub name_bytes : bytes_taken ≤ budget.room.name_bytes
  pub depth : deep ≤ d
  pub variables : seen ≡ range_with_len 0 k
  pub few : k ≤ 256

abbrev pub HasRoomFor : ℕ → Budget → Tree → ℕ → Type 0
HasRoomFor d budget t k = HasRoom d budget (nodes t) (name_bytes t) (depth t) (variables_after (range_with_len 0 budget.variables) t) k

abbrev pub HasRoomForAll : ℕ → Budget → Trees → ℕ → Type 0
HasRoomForAll d budget ts k = HasRoom d budget (nodes_of_all ts) (name_bytes_of_all ts) (depth_of_all ts) (variables_after_all (range_with_len 0 budget.variables) ts) k

variable-spent : (d n : ℕ) (budget : Budget) (k : ℕ) → HasRoomFor (suc d) budget (Variable n) k → (left : Budget) × (then_in (numbered n budget) (paid 0) ≡ Some left)
variable-spent d n budget k h = by (with_number-range budget.variables n k h.variables)
  where
    by : ((n < budget.variables) × (k ≡ budget.variables)) ⊎ ((n ≡ budget.variables) × (k ≡ budget.variables + 1)) → (left : Budget) × (then_in (numbered n budget) (paid 0) ≡ Some left)
    by (inl known) = (_, ap (λ o. then_in o (paid 0)) (old-numbered n budget known.0 (omega (arith, known.0, known.1, h.few))) ∙ some-paid 0 budget h.nodes (omega arith))
    by (inr next) = (_, ap (λ o. then_in o (paid 0)) (new-numbered n budget next.0 (omega (arith, next.0, next.1, h.few))) ∙ some-paid 0 (record budget { variables = n + 1 }) h.nodes (omega arith))

mutual
  pub room-spent : (t : Tree) (d : ℕ) (budget : Budget) (k : ℕ) → HasRoomFor d budget t k → (left : Budget) × (spent d budget t ≡ Some left)
  room-spent (Variable n) zero budget k h = absurd (omega (arith, h.depth))
  room-spent (Variable n) (suc d) budget k h = variable-spent d n budget k h
  room-spent (Atomic name) zero budget k h = absurd (omega (arith, h.depth))
  room-spent (Atomic name) (suc d) budget k h = (_, some-paid (length name) budget h.nodes h.name_bytes)
  room-spent (Number z) zero budget k h = absurd (omega (arith, h.depth))
  room-spent (Number z) (suc d) budget k h = (_, some-paid 0 budget h.nodes h.name_bytes)
  room-spent (Compound name args) zero budget k h = absurd (omega (arith, h.depth))
  room-spent (Compound name args) (suc d) budget k h =
      let mid : Budget = record budget { room = record { nodes = budget.room.nodes - 1; name_bytes = budget.room.name_bytes - length name } } in
      let all = room-spent_all args d mid k (record {
        nodes = omega (arith, h.nodes);
        name_bytes = omega (arith, h.name_bytes);
        depth = omega (arith, h.depth);
        variables = h.variables;
        few = h.few;
      }) in
      (all.0, ap (λ o. then_in o (λ now. spent_all d now args)) (some-paid (length name) budget (omega (arith, h.nodes)) (omega (arith, h.name_bytes))) ∙ all.1)

  pub room-spent_all : (ts : Trees) (d : ℕ) (budget : Budget) (k : ℕ) → HasRoomForAll d budget ts k → (left : Budget) × (spent_all d budget ts ≡ Some left)
  room-spent_all (Last t) d budget k h = room-spent t d budget k h
  room-spent_all (More t ts) d budget k h =
      let seen = variables_after (range_with_len 0 budget.variables) t in
      let front = subst (IsPrefix seen) h.variables (IsPrefix-variables_after_all ts seen) in
      let numbered_so_far : seen ≡ range_with_len 0 (length seen) = IsPrefix-range seen k front in
      let some : length seen ≤ k = omega (arith, length-IsPrefix seen (range_with_len 0 k) front, length-range_with_len 0 k) in
      let first = room-spent t d budget (length seen) (record {
        nodes = omega (arith, h.nodes);
        name_bytes = omega (arith, h.name_bytes);
        depth = omega (arith, h.depth);
        variables = numbered_so_far;
        few = omega (arith, some, h.few);
      }) in
      let taken = spent-takes t d budget first.0 first.1 in
      let all = room-spent_all ts d first.0 k (record {
        nodes = omega (arith, h.nodes, taken.nodes);
        name_bytes = omega (arith, h.name_bytes, taken.name_bytes);
        depth = omega (arith, h.depth);
        variables = ap (λ l. variables_after_all l ts) (sym taken.variables) ∙ h.variables;
        few = h.few;
      }) in
      (all.0, ap (λ o. then_in o (λ now. spent_all d now ts)) first.1 ∙ all.1)

-- a template is what the whole room has room for
pub pattern-spent : (t : Tree) → IsPattern t → (left : Budget) × (spent 1000 whole t ≡ Some left)
pattern-spent t pattern =
    let fits = pattern.template.fits in
    room-spent t 1000 whole (length (variables t)) (record {
      nodes = fits.nodes;
      name_bytes = fits.name_bytes;
      depth = fits.depth;
      variables = pattern.numbered;
      few = pattern.template.few;
    })

pub spent-pattern : (t : Tree) (d : ℕ) (left : Budget) → d ≤ 1000 → spent d whole t ≡ Some left → HasIntegers t → IsPattern t
spent-pattern t d left deep e integers =
    let taken = spent-takes t d whole left e in
    let count : length (variables t) ≡ left.variables = ap length taken.variables ∙ length-range_with_len 0 left.variables in
    record {
      template = record {
        fits = record { nodes = omega (arith, taken.nodes); depth = omega (arith, taken.depth, deep); name_bytes = omega (arith, taken.name_bytes); integers = integers };
        few = omega (arith, count, taken.few (omega arith));
      };
      numbered = taken.variables ∙ ap (range_with_len 0) (sym count);
    }

-- the first variable of a template is 0
pub first-variable : (n : ℕ) (left : Budget) → then_in (numbered n whole) (paid 0) ≡ Some left → n ≡ 0
first-variable n left e = let (mid, at, more) = then_in-some (numbered n whole) (paid 0) left e in by mid (numbered-some n whole mid at)
  where
    by : (mid : Budget) → Numbered n whole mid → n ≡ 0
    by mid (old below few is) = absurd (omega (arith, below))
    by mid (new at few is) = at
