-- Numbers that are read and aren't too wide have 64 bits.
use Rattle.std.proofs.Common.{◌≡◌, ℕ, Bool, true, false, List, [], ◌∷◌, map, Option, Some, None, refl, ◌∙◌, ap, subst, arith}
use Rattle.tc_term.specs.Tree.{HasIntegers, HaveIntegers}
use Rattle.tc_term.specs.Grammar.{Token, Meaning, IsTerm}
use Rattle.tc_term.specs.Faults.{Reading, reading, trees, terms, wide_of_all, or_else}
use Rattle.tc_read.proofs.Meanings.{Keeps, pull}

-- a reading whose numbers have 64 bits where none is too wide
record Sound : Type 0 where
  pub of : Reading
  pub has : of.wide ≡ None → HasIntegers of.term

no_first : (o p : Option ℕ) → or_else o p ≡ None → o ≡ None
no_first None p e = refl
no_first (Some n) p e = cc

no_second : (o p : Option ℕ) → or_else o p ≡ None → p ≡ None
no_second None p e = e
no_second (Some n) p e = absurd cc

have_all : (s : Sound) (more : List Sound) → or_else s.of.wide (wide_of_all (map (λ (x : Sound). x.of) more)) ≡ None
    → HaveIntegers (trees s.of.term (terms (map (λ (x : Sound). x.of) more)))
have_all s [] e = s.has (no_first s.of.wide None e)
have_all s (t ∷ more) e =
    let rest = wide_of_all (map (λ (x : Sound). x.of) (t ∷ more)) in
    (s.has (no_first s.of.wide rest e), have_all t more (no_second s.of.wide rest e))

of_number : (negative : Bool) (n place : ℕ) → (reading.number negative n place).wide ≡ None → HasIntegers (reading.number negative n place).term
of_number true n place e = search arith
of_number false n place e = search arith

abbrev sound : Meaning Sound
sound = record {
  variable = λ n. record { of = reading.variable n; has = λ _. tt };
  number = λ negative n place. record { of = reading.number negative n place; has = of_number negative n place };
  atom = λ name. record { of = reading.atom name; has = λ _. tt };
  compound = λ name s more. record {
    of = reading.compound name s.of (map (λ (x : Sound). x.of) more);
    has = have_all s more;
  };
}

keeps : Keeps sound reading (λ (s : Sound). s.of)
keeps = record {
  variable = λ v. refl;
  number = λ negative v place. refl;
  atom = λ name. refl;
  compound = λ name a more. refl;
}

pub integers_read : (ts : List Token) (r : Reading) → IsTerm reading ts r → r.wide ≡ None → HasIntegers r.term
integers_read ts r d narrow =
    let x = pull sound reading (λ (s : Sound). s.of) keeps d in
    subst HasIntegers (ap (λ (q : Reading). q.term) x.2) ((x.0).has (ap (λ (q : Reading). q.wide) x.2 ∙ narrow))
