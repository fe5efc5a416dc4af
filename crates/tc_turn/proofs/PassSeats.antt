-- What is known of a pass's seat where the pass leaves.
use Rattle.std.proofs.Common.{◌≡◌, ℕ, ◌+◌, ◌-◌, ◌<◌, List, [], ◌∷◌, ◌++◌, length, sym, ap, ◌∙◌, subst, arith, true, Option, Some, unwrap_or, length-append}
use Rattle.atomic_table.specs.Table.{Me}
use Rattle.atomic_table.specs.Seated.{TableId}
use Rattle.tc_turn.specs.declared.view.View.{View}
use Rattle.tc_turn.specs.Owners.{own_entries, OthersOwnNone}
use Rattle.tc_turn.specs.Seats.{KnowsItsOwn}
use Rattle.tc_turn.specs.Passes.{PassState, pass_state, IsPassSeat}

module _ {C E O : Type 0} (history : C → List E) (owner : E → Option ℕ) where
  -- the value that is put back goes on where the seat's knowledge ends
  pub value_to_publish : (table : TableId) (me put : Me (Option C) (View E O)) (p : PassState E O) (value : C) (n t k entries : ℕ)
      → IsPassSeat owner me n t k → pass_state table me.0 ≡ p → p.holds ≡ true → put ≡ (me.0, (0, Some value) ∷ [])
      → (new : List E) → history value ≡ p.seen ++ new → OthersOwnNone owner p.number new → entries ≡ length (history value) → entries < 18446744073709551616
      → (x : ℕ) × (x' : C) × (x'' : List E) × (put.0.number ≡ Some x) × (put.0.on_turn ≡ true) × (put.1 ≡ (0, Some x') ∷ []) × (history x' ≡ put.0.seen ++ x'') × OthersOwnNone owner x x'' × (length x'' ≡ entries - k) × (length (history x') < 18446744073709551616)
  value_to_publish table me put p value n t k entries is view holds same new grown own count short =
      let seen : me.0.seen ≡ p.seen = ap (λ (s : PassState E O). s.seen) view in
      let on : me.0.on_turn ≡ true = ap (λ (s : PassState E O). s.holds) view ∙ holds in
      let number : p.number ≡ n = sym (ap (λ (s : PassState E O). s.number) view) ∙ ap (λ (o : Option ℕ). unwrap_or o 0) is.own_number in
      let grown' : history value ≡ me.0.seen ++ new = grown ∙ ap (λ (l : List E). l ++ new) (sym seen) in
      let long : length (history value) ≡ k + length new = ap length grown' ∙ length-append me.0.seen new ∙ ap (λ (i : ℕ). i + length new) is.length_seen in
      let view_same : put.0 ≡ me.0 = ap (λ (m : Me (Option C) (View E O)). m.0) same in (
        n,
        value,
        new,
        ap (λ (v : View E O). v.number) view_same ∙ is.own_number,
        ap (λ (v : View E O). v.on_turn) view_same ∙ on,
        ap (λ (m : Me (Option C) (View E O)). m.1) same,
        grown' ∙ ap (λ (v : View E O). v.seen ++ new) (sym view_same),
        subst (λ (i : ℕ). OthersOwnNone owner i new) number own,
        omega (arith, long, count),
        omega (arith, count, short),
      )

module _ {C E O : Type 0} (owner : E → Option ℕ) where
  -- what a pass knows of its own entries is the same once the value is put back
  pub own_after_put : (me put : Me (Option C) (View E O)) (value : C) (n t k : ℕ) → IsPassSeat owner me n t k → put ≡ (me.0, (0, Some value) ∷ []) → KnowsItsOwn owner put
  own_after_put me put value n t k is same =
      let view_same : put.0 ≡ me.0 = ap (λ (m : Me (Option C) (View E O)). m.0) same in
      let own : own_entries owner me.0.number me.0.seen ≡ me.0.mine = ap (λ (o : Option ℕ). own_entries owner o me.0.seen) is.own_number ∙ is.mine in
      subst (λ (v : View E O). own_entries owner v.number v.seen ≡ v.mine) (sym view_same) own
