-- What an agent's turn at a centre leaves of its pass, its log and its desk.
use Rattle.std.proofs.Common.{◌≡◌, ℕ, ◌+◌, ◌<◌, List, [], ◌∷◌, ◌++◌, Some, All, length, sym, ap, ◌∙◌, subst, arith, ⊎_elim}
use Rattle.std.specs.List.{slice_get}
use Rattle.std.proofs.Math.ListN.{set}
use Rattle.std.proofs.lemmas.Bool.{cases_eq}
use Rattle.std.proofs.lemmas.List.{append-nil, append_assoc, length-map, length-set}
use Rattle.std.proofs.lemmas.List.Elements.{All-nil, All-cons, filter-append}
use Rattle.std.proofs.lemmas.Option.{same_Some}
use Rattle.tc_lists.proofs.Parts.{append_parts}
use Rattle.tc_model.specs.Calls.{id_of, is_call_of, calls_of, call_of}
use Rattle.tc_model.specs.State.{Origin}
use Rattle.tc_model.specs.declared.calls.Op.{Op}
use Rattle.tc_model.specs.declared.entries.Entry.{Entry}
use Rattle.tc_model.specs.declared.entries.Entry.TheVariants.{Called}
use Rattle.tc_desk.specs.Agreeing.{IsLonger, AreLonger}
use Rattle.std.specs.Prelude.{Ok, Err, IfOk, IfErr, OnErr}
use Rattle.std.specs.declared.result.Result.{Result}
use Rattle.tc_centre.specs.declared.answers.Answer.{Answer}
use Rattle.tc_centre.specs.declared.answers.Answer.TheVariants as answer
use Rattle.tc_shared.specs.Passes.{IsPassOf, IsCallRefused, CallsInTurn, Sees, SeesRoom}
use Rattle.tc_shared.specs.declared.answers.CallFault.{CallFault}
use Rattle.tc_shared.specs.declared.answers.CallFault.TheVariants as call
use Rattle.tc_turn.specs.Passes.{TurnstileState, PassState}
use Rattle.tc_site.specs.Sites.{IsOwnPass, ArePasses, histories_of}
use Rattle.tc_site.specs.Turns.{HasGrown, IsTurn, became_of}
use Rattle.tc_lists.proofs.Sets.{slice_get-set_same, slice_get-set_other, slice_get-map_from}

-- a call's entry of the next number
module _ (t : TurnstileState Origin) (p q : PassState Entry Origin) (top : ℕ) where
  pub grown-makes : (op : Op) (told : Answer) → CallsInTurn t p (top + 1) op told q → HasGrown top p q
  grown-makes op told makes =
      let e : Entry = Called (call_of p.number (top + 1)) op makes.result makes.items in
      let known = makes.finds.known in
      record {
        more = known.0 ++ e ∷ makes.gaves;
        grown = ap (λ (x : PassState Entry Origin). x.seen) makes.after ∙ ap (λ es. es ++ e ∷ makes.gaves) (sym known.1) ∙ append_assoc p.seen known.0 (e ∷ makes.gaves);
        mine = e ∷ [];
        mine_is = ap (λ (x : PassState Entry Origin). x.mine) makes.after;
        above = All-cons (λ d. top < (id_of d).number) e [] (omega arith) (All-nil (λ d. top < (id_of d).number));
      }

  pub grown-sees : Sees t p q → HasGrown top p q
  grown-sees sees = record {
    more = sees.finds.known.0;
    grown = sym sees.finds.known.1;
    mine = [];
    mine_is = ap (λ (x : PassState Entry Origin). x.mine) sees.after ∙ sym (append-nil p.mine);
    above = All-nil (λ d. top < (id_of d).number);
  }

  pub grown-same : q ≡ p → HasGrown top p q
  grown-same same = record {
    more = [];
    grown = ap (λ (x : PassState Entry Origin). x.seen) same ∙ sym (append-nil p.seen);
    mine = [];
    mine_is = ap (λ (x : PassState Entry Origin). x.mine) same ∙ sym (append-nil p.mine);
    above = All-nil (λ d. top < (id_of d).number);
  }

  pub grown-call : (op : Op) (r : Result Answer CallFault) → IfOk r (λ told. CallsInTurn t p (top + 1) op told q) → IfErr r (λ fault. IsCallRefused t p fault q)
      → HasGrown top p q
  grown-call op (Ok told) makes refused = grown-makes op told makes
  grown-call op (Err call.TurnsSpent) makes refused = grown-same refused.1
  grown-call op (Err (call.Full weight pending)) makes refused = grown-sees refused.sees
  grown-call op (Err call.NoMemory) makes refused = grown-sees refused.sees

  -- the history has gone on, and the agent's new entries are those
  pub longer-grown : IsPassOf t p → IsPassOf t q → q.number ≡ p.number → HasGrown top p q → IsLonger p.number top p.seen q.seen
  longer-grown own own' same grown =
      let agent : ℕ = p.number in
      let whole : calls_of agent q.seen ≡ p.mine ++ grown.mine =
      ap (λ n. calls_of n q.seen) (sym same) ∙ own'.mine ∙ grown.mine_is in
      let split : calls_of agent q.seen ≡ calls_of agent p.seen ++ calls_of agent grown.more =
      ap (calls_of agent) grown.grown ∙ filter-append (is_call_of agent) p.seen grown.more in
      let parts = append_parts (calls_of agent p.seen) p.mine (calls_of agent grown.more) grown.mine (sym split ∙ whole) (ap length own.mine) in
      record {
        more = grown.more;
        grown = grown.grown;
        above = subst (All (λ e. top < (id_of e).number)) (sym parts.1) grown.above;
      }

-- a pass that has gone on, among the agent's
module _ (agent top place : ℕ) (centres : List (TurnstileState Origin)) (passes : List (PassState Entry Origin)) (are : ArePasses agent centres passes)
    (t : TurnstileState Origin) (p q : PassState Entry Origin) (at-t : slice_get centres place ≡ Some t) (at-p : slice_get passes place ≡ Some p)
    (own : IsPassOf t q) (same : q.number ≡ p.number) where
  abbrev has : IsOwnPass agent t p
  has = are.each place t p at-t at-p

  pub are-set : ArePasses agent centres (set passes place q)
  are-set = record {
    wide = length-set passes place q ∙ are.wide;
    each = λ k t' p' centre at.
        ⊎_elim
        (λ (here : k ≡ place).
        let is : p' ≡ q = same_Some p' q (sym at ∙ ap (slice_get (set passes place q)) here ∙ slice_get-set_same passes place q p at-p) in
        let of : t' ≡ t = same_Some t' t (sym centre ∙ ap (slice_get centres) here ∙ at-t) in
        subst (λ u. IsOwnPass agent u p') (sym of)
        (subst (IsOwnPass agent t) (sym is) (record { own = own; number = same ∙ has.number })))
        (λ (other : k ≡ place → ⊥). are.each k t' p' centre (sym (slice_get-set_other passes place k q other) ∙ at))
        (cases_eq k place);
  }

  pub longer-set : HasGrown top p q → AreLonger agent top (histories_of passes) (histories_of (set passes place q))
  longer-set grown =
      let f : PassState Entry Origin → List Entry = λ x. x.seen in
      record {
        whole = length-map (set passes place q) f ∙ length-set passes place q ∙ sym (length-map passes f);
        each = λ k old new was is.
            let before = slice_get-map_from f passes k old was in
            let after = slice_get-map_from f (set passes place q) k new is in
            ⊎_elim
            (λ (here : k ≡ place).
            let b : before.0 ≡ p = same_Some before.0 p (sym before.1 ∙ ap (slice_get passes) here ∙ at-p) in
            let a : after.0 ≡ q = same_Some after.0 q (sym after.1 ∙ ap (slice_get (set passes place q)) here ∙ slice_get-set_same passes place q p at-p) in
            let l : IsLonger agent top p.seen q.seen =
            subst (λ n. IsLonger n top p.seen q.seen) has.number (longer-grown t p q top has.own own same grown) in
            subst (λ x. IsLonger agent top x new) (ap f (sym b) ∙ before.2) (subst (IsLonger agent top p.seen) (ap f (sym a) ∙ after.2) l))
            (λ (other : k ≡ place → ⊥).
            let e : before.0 ≡ after.0 = same_Some before.0 after.0 (sym before.1 ∙ sym (slice_get-set_other passes place k q other) ∙ after.1) in
            let l : IsLonger agent top old old = record { more = []; grown = sym (append-nil old); above = All-nil (λ d. top < (id_of d).number) } in
            subst (IsLonger agent top old) (sym before.2 ∙ ap f e ∙ after.2) l)
            (cases_eq k place);
      }

module _ (t : TurnstileState Origin) (p q : PassState Entry Origin) (number : ℕ) (op : Op) where
  pub turn-call : (r : Result Answer CallFault) → IfOk r (λ told. CallsInTurn t p number op told q) → IfErr r (λ fault. IsCallRefused t p fault q)
      → IfOk (became_of r) (λ became. IsTurn t p number op became q)
  turn-call (Ok (answer.Replied reply)) makes refused = makes
  turn-call (Ok answer.Pending) makes refused = makes
  turn-call (Err call.TurnsSpent) makes refused = refused
  turn-call (Err (call.Full weight pending)) makes refused = refused
  turn-call (Err call.NoMemory) makes refused = tt

  pub room-call : (r : Result Answer CallFault) → IfErr r (λ fault. IsCallRefused t p fault q) → OnErr (became_of r) (SeesRoom t p q)
  room-call (Ok (answer.Replied reply)) refused = tt
  room-call (Ok answer.Pending) refused = tt
  room-call (Err call.TurnsSpent) refused = tt
  room-call (Err (call.Full weight pending)) refused = tt
  room-call (Err call.NoMemory) refused = refused
