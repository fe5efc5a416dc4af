use Rattle.std.proofs.Common.{◌≡◌, ◌<◌, ◌≤◌, List, [], subst, ◌↔◌, arith}
use Rattle.tc_term.specs.Grammar.{Token, IsTerm}
use Rattle.tc_read.specs.Kept.{Kept, kept}
use Rattle.tc_read.specs.Machine.{Frame, Standing, Awaits, Holds, Ends, Refused, Goes_to, step}
use Rattle.tc_read.specs.Settled.{Steps, none, further}
use Rattle.tc_read.proofs.Steps.{Leads, Sound, IsPlaced, left_over, Follows, Moves, starts, goes}
use Rattle.tc_read.proofs.Unique.{leads_of_term}

-- What the parser's loop keeps: the terms that all tokens can be are those that the tokens left lead to.

pub record Reads (all : List Token) (s : List (Frame Kept)) (now : Standing Kept) (ts : List Token) : Type 0 where
  pub sound : Sound kept s
  pub placed : IsPlaced kept s now
  pub same : (k : Kept) → IsTerm kept all k ↔ Leads kept k s now ts

pub reads_first : (all : List Token) → Reads all [] Awaits all
reads_first all = record { sound = tt; placed = tt; same = λ k. leads_of_term kept all k }

abbrev pub IsGoing : Standing Kept → Type 0
IsGoing (Ends k) = ⊥
IsGoing _ = Unit {0}

after_step : (all : List Token) (s : List (Frame Kept)) (now : Standing Kept) (ts : List Token) (s' : List (Frame Kept)) (now' : Standing Kept) (ts' : List Token)
    → Reads all s now ts → Follows kept s now ts s' now' ts' → Reads all s' now' ts'
after_step all s now ts s' now' ts' r f = record { sound = f.sound; placed = f.placed; same = λ k. (λ d. (f.same k).0 ((r.same k).0 d), λ l. (r.same k).1 ((f.same k).1 l)) }

follows : (s : List (Frame Kept)) (now : Standing Kept) (ts : List Token) (s' : List (Frame Kept)) (now' : Standing Kept) (ts' : List Token)
    → Sound kept s → IsPlaced kept s now → step kept s now ts ≡ Goes_to s' now' ts' → Follows kept s now ts s' now' ts'
follows s Awaits ts s' now' ts' h p e = subst (Moves kept s Awaits ts) e (starts kept s h ts)
follows s (Holds a pa) ts s' now' ts' h p e = subst (Moves kept s (Holds a pa) ts) e (goes kept s h a pa ts p)
follows s (Ends a) ts s' now' ts' h p e = cc

pub reads_next : (all : List Token) (s : List (Frame Kept)) (now : Standing Kept) (ts : List Token) (s' : List (Frame Kept)) (now' : Standing Kept) (ts' : List Token)
    → Reads all s now ts → step kept s now ts ≡ Goes_to s' now' ts' → Reads all s' now' ts'
reads_next all s now ts s' now' ts' r e = after_step all s now ts s' now' ts' r (follows s now ts s' now' ts' r.sound r.placed e)

pub step_shorter : (all : List Token) (s : List (Frame Kept)) (now : Standing Kept) (ts : List Token) (s' : List (Frame Kept)) (now' : Standing Kept) (ts' : List Token)
    → Reads all s now ts → step kept s now ts ≡ Goes_to s' now' ts' → left_over kept s' now' ts' < left_over kept s now ts
step_shorter all s now ts s' now' ts' r e = (follows s now ts s' now' ts' r.sound r.placed e).shorter

pub reads_refused : (all : List Token) (s : List (Frame Kept)) (now : Standing Kept) (ts : List Token)
    → Reads all s now ts → IsGoing now → step kept s now ts ≡ Refused → (k : Kept) → IsTerm kept all k → ⊥
reads_refused all s Awaits ts r g e k d = let none = subst (Moves kept s Awaits ts) e (starts kept s r.sound ts) in none k ((r.same k).0 d)
reads_refused all s (Holds a pa) ts r g e k d = let none = subst (Moves kept s (Holds a pa) ts) e (goes kept s r.sound a pa ts r.placed) in none k ((r.same k).0 d)
reads_refused all s (Ends a) ts r g e k d = g

-- the same behind several steps
pub reads_on : (all : List Token) {s : List (Frame Kept)} {now : Standing Kept} {ts : List Token} {s' : List (Frame Kept)} {now' : Standing Kept} {ts' : List Token}
    → Steps s now ts s' now' ts' → Reads all s now ts → Reads all s' now' ts'
reads_on all none r = r
reads_on all (further p e) r = reads_next all _ _ _ _ _ _ (reads_on all p r) e

pub steps_shorter : (all : List Token) {s : List (Frame Kept)} {now : Standing Kept} {ts : List Token} {s' : List (Frame Kept)} {now' : Standing Kept} {ts' : List Token}
    → Steps s now ts s' now' ts' → Reads all s now ts → left_over kept s' now' ts' ≤ left_over kept s now ts
steps_shorter all none r = omega arith
steps_shorter all (further p e) r = omega (arith, steps_shorter all p r, step_shorter all _ _ _ _ _ _ (reads_on all p r) e)
