-- Codes of terms and of lists of requests.
use Rattle.std.proofs.Common.{◌≡◌, ◌≢◌, ◌-◌, ◌⊎◌, ℕ, suc, inl, inr, Option, Some, None, List, [], ◌∷◌, ◌++◌, length, take, drop, refl, ap, sym, subst, ◌∙◌, arith}
use Rattle.std.specs.List.{fold, remove, insert, take-map, drop-map}
use Rattle.std.proofs.lemmas.List.{map-append, length-map, length-take}
use Rattle.tc_term.proofs.Instances.{instance-ground}
use Rattle.tc_term.specs.Equations.{at, under}
use Rattle.tc_term.specs.Tree.{Tree, Variable, Atomic, Number, Compound, Trees, IsTuple}
use Rattle.tc_term.specs.Variables.{instance, instances}
use Rattle.tc_lists.specs.Codes.{mixed}
use Rattle.tc_bag.specs.Codes.{top_code}
use Rattle.tc_bag.specs.Keys.{first_of}
use Rattle.tc_bag.proofs.Agreement.{arity-instances, first_of-instances}
use Rattle.tc_model.specs.State.{IsMatch}
use Rattle.tc_model.specs.declared.calls.Request.{Request}
use Rattle.tc_model.specs.State.{WantsTuple}
use Rattle.tc_model.specs.declared.calls.Wants.{Wants}
use Rattle.tc_model.specs.declared.calls.Wants.TheVariants.{Take, Look, Absence}
use Rattle.tc_pending.specs.declared.asking.Wanted.{Wanted}
use Rattle.tc_pending.specs.Answers.{AsksFor}
use Rattle.tc_pending.specs.Codes.{with_first, code_of, code_for, request_code, MayMatch, codes_of}
use Rattle.tc_pending.specs.Filed.{tuples_in, sought, Asks, IsWanted}

-- a term has its code without its arguments still once its variables are replaced
top-instance : (f : ℕ → Tree) (name : List ℕ) (args : Trees)
    → top_code (Compound name args) ≡ top_code (Compound name (instances f args))
top-instance f name args = ap (λ n. fold mixed (mixed 3 n) name) (sym (arity-instances f args))

first-instance : (f : ℕ → Tree) (name : List ℕ) (args : Trees) (first : Tree) → first_of args ≡ first
    → MayMatch (with_first (top_code (Compound name args)) first) (Compound name (instances f args))
first-instance f name args (Variable n) is = inr (inl (top-instance f name args))
first-instance f name args (Atomic other) is =
    let there : first_of (instances f args) ≡ Atomic other = first_of-instances f args ∙ ap (instance f) is in
    inr (inr (ap (λ top. with_first top (Atomic other)) (top-instance f name args)
    ∙ ap (with_first (top_code (Compound name (instances f args)))) (sym there)))
first-instance f name args (Number n) is =
    let there : first_of (instances f args) ≡ Number n = first_of-instances f args ∙ ap (instance f) is in
    inr (inr (ap (λ top. with_first top (Number n)) (top-instance f name args)
    ∙ ap (with_first (top_code (Compound name (instances f args)))) (sym there)))
first-instance f name args (Compound other more) is =
    let there : first_of (instances f args) ≡ Compound other (instances f more) =
    first_of-instances f args ∙ ap (instance f) is in
    inr (inr (ap (λ top. with_first top (Compound other more)) (top-instance f name args)
    ∙ ap (mixed (top_code (Compound name (instances f args)))) (top-instance f other more)
    ∙ ap (with_first (top_code (Compound name (instances f args)))) (sym there)))

code-instance : (f : ℕ → Tree) (t : Tree) → MayMatch (code_of t) (instance f t)
code-instance f (Variable n) = inl refl
code-instance f (Atomic name) = inr (inl refl)
code-instance f (Number n) = inr (inl refl)
code-instance f (Compound name args) = first-instance f name args (first_of args) refl

-- what a template matches, it may match by its code
pub code-match : (t u : Tree) → IsMatch t u → IsTuple u → MayMatch (code_of t) u
code-match t u match tuple =
    let v = match.valuation in
    let same : under v t ≡ under v u = match.solves.equal 0 (t, u) (omega arith) in
    subst (MayMatch (code_of t)) (same ∙ instance-ground (at v) u tuple.ground) (code-instance (at v) t)

-- what asks for a tuple is of what is sought, and matches the tuple
code-sought : (left : Option (List Tree)) (u : Tree) (r : Request) (c : ℕ) → AsksFor left u r
    → code_for r.wants c ≡ code_for (sought left) c
code-sought None u r c asks = go r.wants asks.0
  where
    go : (w : Wants) → WantsTuple w → code_for w c ≡ c
    go Take wants = refl
    go Look wants = refl
    go Absence wants = absurd wants
code-sought (Some left) u r c asks = go r.wants asks.0.wants
  where
    go : (w : Wants) → (WantsTuple w → ⊥) → code_for w c ≡ code_for Absence c
    go Take wants = absurd (wants tt)
    go Look wants = absurd (wants tt)
    go Absence wants = refl

asks-match : (left : Option (List Tree)) (u : Tree) (r : Request) → AsksFor left u r → IsMatch r.template u
asks-match None u r asks = asks.1
asks-match (Some left) u r asks = asks.1

-- a request that asks for a tuple has one of its codes
pub asks-coded : (wanted : Wanted) (r : Request) → IsWanted wanted → Asks wanted r
    → (request_code r ≡ wanted.any) ⊎ (request_code r ≡ wanted.top) ⊎ (request_code r ≡ wanted.whole)
asks-coded wanted r is asks =
    let left = tuples_in wanted.left in
    let u : Tree = wanted.tuple.now in
    let kind : request_code r ≡ code_for (sought left) (code_of r.template) = code-sought left u r (code_of r.template) asks in
    elim (code-match r.template u (asks-match left u r asks) is.tuple) [
      | inl same ↦ inl (kind ∙ ap (code_for (sought left)) same ∙ sym is.any)
      | inr (inl same) ↦ inr (inl (kind ∙ ap (code_for (sought left)) same ∙ sym is.top))
      | inr (inr same) ↦ inr (inr (kind ∙ ap (code_for (sought left)) same ∙ sym is.whole))
    ]

pub not-asks : (wanted : Wanted) (r : Request) (code : ℕ) → IsWanted wanted → code ≡ request_code r → code ≢ wanted.any
    → code ≢ wanted.top → code ≢ wanted.whole → Asks wanted r → ⊥
not-asks wanted r code is same any top whole asks =
    elim (asks-coded wanted r is asks) [
      | inl one ↦ any (same ∙ one)
      | inr (inl one) ↦ top (same ∙ one)
      | inr (inr one) ↦ whole (same ∙ one)
    ]

-- the codes of requests, as the list changes
pub codes-push : (requests : List Request) (r : Request) → codes_of requests ++ request_code r ∷ [] ≡ codes_of (requests ++ r ∷ [])
codes-push requests r = sym (map-append request_code requests (r ∷ []))

pub codes-remove : (requests : List Request) (i : ℕ) → remove (codes_of requests) i ≡ codes_of (remove requests i)
codes-remove requests i =
    ap (λ cs. cs ++ drop (suc i) (codes_of requests)) (take-map request_code i requests)
    ∙ ap (λ cs. codes_of (take i requests) ++ cs) (drop-map request_code (suc i) requests)
    ∙ sym (map-append request_code (take i requests) (drop (suc i) requests))

pub codes-insert : (requests : List Request) (i : ℕ) (r : Request) → insert (codes_of requests) i (request_code r) ≡ codes_of (insert requests i r)
codes-insert requests i r =
    ap (λ cs. cs ++ request_code r ∷ drop i (codes_of requests)) (take-map request_code i requests)
    ∙ ap (λ cs. codes_of (take i requests) ++ request_code r ∷ cs) (drop-map request_code i requests)
    ∙ sym (map-append request_code (take i requests) (r ∷ drop i requests))

pub codes-take : (requests new : List Request) → new ≡ take (length requests - 1) requests
    → take (length new) (codes_of requests) ≡ codes_of new
codes-take requests new is =
    let count : length new ≡ length requests - 1 = omega (arith, ap length is, length-take (length requests - 1) requests) in
    ap (λ n. take n (codes_of requests)) count ∙ take-map request_code (length requests - 1) requests ∙ ap codes_of (sym is)

pub length-codes : (requests : List Request) (codes : List ℕ) → codes ≡ codes_of requests → length codes ≡ length requests
length-codes requests codes are = ap length are ∙ length-map requests request_code
