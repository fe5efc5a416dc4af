-- Which request that has a code is next, and which is the oldest of three codes that has a property.
use Rattle.std.proofs.Common.{◌≡◌, ◌<◌, ◌≤◌, ◌+◌, ◌⊎◌, ℕ, inl, inr, List, Some, length, get_or, slice_get, take, ap, sym, subst, ◌∙◌, ⊎_elim, arith}
use Rattle.std.proofs.lemmas.Bool.{cases_lt}
use Rattle.std.proofs.lemmas.List.{length-take, get_or-take, get_or-map}
use Rattle.std.proofs.lemmas.Option.{slice_get-get_or, slice_get_within, get_or_from_slice_get, same_Some}
use Rattle.tc_lists.specs.Firsts.{NoneOf}
use Rattle.tc_model.specs.declared.calls.Request.{Request}
use Rattle.tc_pending.specs.declared.index.Index.{Index}
use Rattle.tc_pending.specs.Answers.{IsOldestSuch}
use Rattle.tc_pending.specs.Codes.{request_code, codes_of}
use Rattle.tc_pending.specs.Filed.{Has, HasFirst, HasNone, IsSuch, NoneSuch}
use Rattle.tc_pending.specs.Rising.{NumbersRise, IsAt}
use Rattle.tc_pending.proofs.Rising.{NumbersRise-le}

-- from a place on, none of the first requests of a code has a serial number below this one
abbrev pub IsPast : List ℕ → List ℕ → ℕ → ℕ → ℕ → ℕ → Type 0
IsPast codes serials count code at from =
    (k : ℕ) → at ≤ k → k < count → get_or serials k 0 < from → get_or codes k 0 ≡ code → ⊥

module _ (index : Index) (codes serials : List ℕ) (each : length serials ≡ length codes) (rises : NumbersRise serials) (count : ℕ)
    (within : count ≤ length serials) (has : HasFirst index codes serials count) (code at : ℕ) where
  pub past_first : IsPast codes serials count code at (get_or serials at 0)
  past_first k up inside less same =
      absurd (omega (arith, less, NumbersRise-le serials at k rises up (omega (arith, inside, within))))

  pub past_next : (from serial : ℕ) → IsPast codes serials count code at from
      → ((s : ℕ) → from ≤ s → s < serial → Has index code s → ⊥) → IsPast codes serials count code at serial
  past_next from serial past none k up inside less same = ⊎_elim
      (λ (low : get_or serials k 0 < from). past k up inside low same)
      (λ (high : from ≤ get_or serials k 0).
      none (get_or serials k 0) high less (subst (λ c. Has index c (get_or serials k 0)) same (has k inside)))
      (cases_lt (get_or serials k 0) from)

  pub past_more : (serial : ℕ) → IsPast codes serials count code at serial → ((k : ℕ) → IsAt serials serial k → ⊥)
      → IsPast codes serials count code at (serial + 1)
  past_more serial past none k up inside less same = ⊎_elim
      (λ (low : get_or serials k 0 < serial). past k up inside low same)
      (λ (high : serial ≤ get_or serials k 0). none k (omega (arith, inside, within), omega (arith, high, less)))
      (cases_lt (get_or serials k 0) serial)

  pub past_all : (from : ℕ) → IsPast codes serials count code at from → ((s : ℕ) → from ≤ s → Has index code s → ⊥)
      → HasNone codes code at count
  past_all from past none k up inside same = ⊎_elim
      (λ (low : get_or serials k 0 < from). past k up inside low same)
      (λ (high : from ≤ get_or serials k 0).
      none (get_or serials k 0) high (subst (λ c. Has index c (get_or serials k 0)) same (has k inside)))
      (cases_lt (get_or serials k 0) from)

  -- the place of a number that is not below the first
  pub at_least : (serial place : ℕ) → at < length serials → get_or serials at 0 ≤ serial → IsAt serials serial place → at ≤ place
  at_least serial place there up is = ⊎_elim
      (λ (before : place < at). absurd (omega (arith, up, is.1, rises place at before there)))
      (λ (behind : at ≤ place). behind)
      (cases_lt place at)

  pub none_between : (serial place to : ℕ) → IsPast codes serials count code at serial → IsAt serials serial place
      → to ≤ place → to ≤ count → HasNone codes code at to
  none_between serial place to past is first second k up before same =
      past k up (omega (arith, before, second))
      (omega (arith, is.1, rises k place (omega (arith, before, first)) is.0)) same

-- the code that stands beside a request
code_beside : (requests : List Request) (codes : List ℕ) (k : ℕ) (r : Request) → codes ≡ codes_of requests
    → slice_get requests k ≡ Some r → get_or codes k 0 ≡ request_code r
code_beside requests codes k r are at =
    let inside : k < length requests = slice_get_within requests k r at in
    ap (λ cs. get_or cs k 0) are ∙ get_or-map request_code requests k r 0 inside
    ∙ ap request_code (get_or_from_slice_get requests k r r at)

module _ (P : Request → Type 0) (requests : List Request) (codes : List ℕ) (are : codes ≡ codes_of requests) (c at : ℕ)
    (none : NoneSuch P requests c at) where
  -- the requests up to a place, where those from `at` on have another code
  pub none-up : (place : ℕ) → HasNone codes c at place → NoneSuch P requests c place
  none-up place other k r before stands same has = ⊎_elim
      (λ (low : k < at). none k r low stands same has)
      (λ (high : at ≤ k). other k high before (code_beside requests codes k r are stands ∙ same))
      (cases_lt k at)

  -- and one more, which is not such
  pub none-further : (place : ℕ) (r : Request) → slice_get requests place ≡ Some r → (P r → ⊥)
      → HasNone codes c at place → NoneSuch P requests c (place + 1)
  none-further place r is not other k q before stands same has = ⊎_elim
      (λ (low : k < place). none-up place other k q low stands same has)
      (λ (last : place ≤ k).
      let here : k ≡ place = omega (arith, last, before) in
      not (subst P (same_Some q r (sym stands ∙ ap (slice_get requests) here ∙ is)) has))
      (cases_lt k place)

module _ (P : Request → Type 0) (requests : List Request) where
  pub NoneSuch-less : (c m n : ℕ) → m ≤ n → NoneSuch P requests c n → NoneSuch P requests c m
  NoneSuch-less c m n less none k r before = none k r (omega (arith, before, less))

  -- where none of the three codes has such a one, there is none
  pub none-of : (any top whole place : ℕ)
      → ((r : Request) → P r → (request_code r ≡ any) ⊎ (request_code r ≡ top) ⊎ (request_code r ≡ whole))
      → NoneSuch P requests any place → NoneSuch P requests top place → NoneSuch P requests whole place
      → NoneOf P (take place requests)
  none-of any top whole place coded first second third r stands has =
      let k : ℕ = stands.0 in
      let before : k < place = omega (arith, stands.1, length-take place requests) in
      let within : k < length requests = omega (arith, stands.1, length-take place requests) in
      let at : slice_get requests k ≡ Some r =
      slice_get-get_or requests k r within ∙ ap Some (sym (get_or-take place requests k r before) ∙ stands.2) in
      elim (coded r has) [
        | inl same ↦ first k r before at same has
        | inr (inl same) ↦ second k r before at same has
        | inr (inr same) ↦ third k r before at same has
      ]

  pub oldest : (place : ℕ) → IsSuch P requests place → NoneOf P (take place requests) → IsOldestSuch P requests place
  oldest place such none = record {
    request = such.request;
    stands = such.stands;
    has = such.has;
    none_before = none;
  }
