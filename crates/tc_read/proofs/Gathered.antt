use Rattle.std.proofs.Common.{◌≡◌, ℕ, max, List, [], ◌∷◌, ◌++◌, map, Option, Some, None, refl, sym, ◌∙◌, ap, subst, arith}
use Rattle.tc_term.specs.Layouts.{At}
use Rattle.tc_term.specs.Faults.{all_known, known_behind, first_wide, most_open, numbered, open_behind, or_else, token_of, wide_at}
use Rattle.tc_read.specs.Scanner.{first_at, open_after, Gathers}
use Rattle.tc_read.specs.declared.scanner.Scanner.{Scanner}
use Rattle.tc_read.specs.Brackets.{CountsTo}
use Rattle.tc_read.specs.Variables.{names_view}
use Rattle.tc_read.specs.Views.{token_view}

-- What one token more adds.

pub numbered_push : (known : List (List ℕ)) (ts : List At) (t : At) → numbered known (ts ++ t ∷ []) ≡ numbered known ts ++ token_of (all_known known ts) t.glued t.place t.lexeme ∷ []
numbered_push known [] t = refl
numbered_push known (u ∷ ts) t = ap (λ x. token_of known u.glued u.place u.lexeme ∷ x) (numbered_push (known_behind known u.lexeme) ts t)

pub known_push : (known : List (List ℕ)) (ts : List At) (t : At) → all_known known (ts ++ t ∷ []) ≡ known_behind (all_known known ts) t.lexeme
known_push known [] t = refl
known_push known (u ∷ ts) t = known_push (known_behind known u.lexeme) ts t

pub or_else_none : (o : Option ℕ) → or_else o None ≡ o
or_else_none None = refl
or_else_none (Some n) = refl

or_else_assoc : (a b c : Option ℕ) → or_else a (or_else b c) ≡ or_else (or_else a b) c
or_else_assoc None b c = refl
or_else_assoc (Some n) b c = refl

pub wide_push : (ts : List At) (t : At) → first_wide (ts ++ t ∷ []) ≡ or_else (first_wide ts) (wide_at t.place t.lexeme)
wide_push [] t = or_else_none (wide_at t.place t.lexeme)
wide_push (u ∷ ts) t = ap (or_else (wide_at u.place u.lexeme)) (wide_push ts t) ∙ or_else_assoc (wide_at u.place u.lexeme) (first_wide ts) (wide_at t.place t.lexeme)

pub open_push : (n : ℕ) (ts : List At) (t : At) → open_after n (ts ++ t ∷ []) ≡ open_behind (open_after n ts) t.lexeme
open_push n [] t = refl
open_push n (u ∷ ts) t = open_push (open_behind n u.lexeme) ts t

pub most_push : (n : ℕ) (ts : List At) (t : At) → most_open n (ts ++ t ∷ []) ≡ max (most_open n ts) (open_behind (open_after n ts) t.lexeme)
most_push n [] t = refl
most_push n (u ∷ ts) t = ap (max n) (most_push (open_behind n u.lexeme) ts t) ∙ (let a = most_open (open_behind n u.lexeme) ts in let b = open_behind (open_after (open_behind n u.lexeme) ts) t.lexeme in let e : max n (max a b) ≡ max (max n a) b = omega arith in e)

pub first_push : (ts : List At) (t : At) → first_at (ts ++ t ∷ []) ≡ or_else (first_at ts) (Some t.place)
first_push [] t = refl
first_push (u ∷ ts) t = refl

none_else : (a b : Option ℕ) → or_else a b ≡ None → (a ≡ None) × (b ≡ None)
none_else None b e = (refl, e)
none_else (Some n) b e = cc

-- one token more is gathered
pub gathers_more : (s s' : Scanner) (t : At) → names_view s'.variables ≡ known_behind (names_view s.variables) t.lexeme
    → ((n most : ℕ) → CountsTo s.brackets n most → CountsTo s'.brackets (open_behind n t.lexeme) (max most (open_behind n t.lexeme)))
    → s'.first ≡ or_else s.first (Some t.place) → s'.wide ≡ or_else s.wide (wide_at t.place t.lexeme)
    → (wide_at t.place t.lexeme ≡ None → map token_view s'.tokens.items ≡ map token_view s.tokens.items ++ token_of (names_view s.variables) t.glued t.place t.lexeme ∷ [])
    → (before : List At) → Gathers s before → Gathers s' (before ++ t ∷ [])
gathers_more s s' t names brackets first wide tokens before g = record {
  wide = wide ∙ ap (λ o. or_else o (wide_at t.place t.lexeme)) g.wide ∙ sym (wide_push before t);
  tokens = λ none.
      let n = none_else (first_wide before) (wide_at t.place t.lexeme) (sym (wide_push before t) ∙ none) in
      tokens n.1
      ∙ ap (λ x. x ++ token_of (names_view s.variables) t.glued t.place t.lexeme ∷ []) (g.tokens n.0)
      ∙ ap (λ k. numbered [] before ++ token_of k t.glued t.place t.lexeme ∷ []) g.names
      ∙ sym (numbered_push [] before t);
  names = names ∙ ap (λ k. known_behind k t.lexeme) g.names ∙ sym (known_push [] before t);
  brackets = subst (λ n. CountsTo s'.brackets n (most_open 0 (before ++ t ∷ []))) (sym (open_push 0 before t)) (subst (CountsTo s'.brackets (open_behind (open_after 0 before) t.lexeme)) (sym (most_push 0 before t)) (brackets (open_after 0 before) (most_open 0 before) g.brackets));
  first = first ∙ ap (λ o. or_else o (Some t.place)) g.first ∙ sym (first_push before t);
}
