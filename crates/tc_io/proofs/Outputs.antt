-- What a sink has taken after several writes.
use Rattle.std.proofs.Common.{◌≡◌, ℕ, ◌+◌, List, [], ◌++◌, take, drop, Option, None, Some, sym, ap, ◌∙◌, refl, append_assoc, append-nil, take-add, take_all, length, ◌-◌, length-drop, arith}
use Rattle.tc_io.specs.Sinks.{appended}

pub appended-nil : (taken : Option (List ℕ)) → taken ≡ appended taken []
appended-nil None = refl
appended-nil (Some bytes) = ap Some (sym (append-nil bytes))

pub appended-append : (taken : Option (List ℕ)) (bytes more : List ℕ) → appended (appended taken bytes) more ≡ appended taken (bytes ++ more)
appended-append None bytes more = refl
appended-append (Some before) bytes more = ap Some (append_assoc before bytes more)

-- one more front is taken, of what stands behind the first
pub appended-take : (old mid new : Option (List ℕ)) (bytes : List ℕ) (at n : ℕ) → mid ≡ appended old (take at bytes) → new ≡ appended mid (take n (take (length bytes - at) (drop at bytes))) → new ≡ appended old (take (at + n) bytes)
appended-take old mid new bytes at n before more =
    let behind : take (length bytes - at) (drop at bytes) ≡ drop at bytes = take_all (length bytes - at) (drop at bytes) (omega (arith, length-drop at bytes)) in
    more ∙ ap (λ (l : List ℕ). appended mid (take n l)) behind
    ∙ ap (λ (t : Option (List ℕ)). appended t (take n (drop at bytes))) before
    ∙ appended-append old (take at bytes) (take n (drop at bytes))
    ∙ ap (λ (l : List ℕ). appended old l) (sym (take-add at n bytes))
