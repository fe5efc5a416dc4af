-- Sweeps: some of the agents make a step each, in order.
use Rattle.std.proofs.Common.{◌≡◌, ℕ, ◌+◌, ◌-◌, ◌<◌, ◌≤◌, inl, inr, true, false, List, [], ◌∷◌, ◌++◌, All, Bool, length, get_or, take, drop, refl, sym, ap, ◌∙◌, subst, arith, length-append, append_assoc, append-nil}
use Rattle.std.specs.List.{AllZip}
use Rattle.std.specs.Prelude.{if◌then◌else◌}
use Rattle.std.proofs.Math.ListN.{set}
use Rattle.std.proofs.Math.Seq.{get_or-append_seam, set-append_seam}
use Rattle.std.proofs.lemmas.List.{length-take-le, take-append-drop}
use Rattle.std.proofs.lemmas.List.Elements.{All-cons, All-drop, All-head, All-nil, All-tail, All-take}
use Rattle.tc_desk.specs.Desks.{DeskState}
use Rattle.tc_desk.specs.Logs.{any_pending}
use Rattle.tc_sched.specs.Clients.{Client}
use Rattle.tc_sched.specs.Steps.{IsReady, Rests, Stays, Waits, Went, left_in, left_of, moves_of, turns_of}
use Rattle.tc_sched.specs.declared.actor.Step.{Step}
use Rattle.tc_sched.specs.declared.actor.Step.TheVariants as step
use Rattle.tc_sched.proofs.Crowds.{left-append, left-push, ready-after, ready-less, went-more, went-on, went-same}

-- what holds of the items of two lists, place by place
AllZip-append : {X Y : Type 0} (R : X → Y → Type 0) (xs vs : List X) (ys ws : List Y) → AllZip R xs ys → AllZip R vs ws → AllZip R (xs ++ vs) (ys ++ ws)
AllZip-append R [] vs [] ws a b = b
AllZip-append R [] vs (y ∷ ys) ws a b = absurd a
AllZip-append R (x ∷ xs) vs [] ws a b = absurd a
AllZip-append R (x ∷ xs) vs (y ∷ ys) ws a b = (a.0, AllZip-append R xs vs ys ws a.1 b)

AllZip-same : {X : Type 0} (R : X → X → Type 0) (P : X → Type 0) (xs : List X) → ((x : X) → P x → R x x) → All P xs → AllZip R xs xs
AllZip-same R P [] same all = tt
AllZip-same R P (x ∷ xs) same all = (same x (All-head P x xs all), AllZip-same R P xs same (All-tail P x xs all))

AllZip-right : {X Y : Type 0} (P : Y → Type 0) (xs : List X) (ys : List Y) → AllZip (λ (x : X) (y : Y). P y) xs ys → All P ys
AllZip-right P [] [] zip = All-nil P
AllZip-right P [] (y ∷ ys) zip = absurd zip
AllZip-right P (x ∷ xs) [] zip = absurd zip
AllZip-right P (x ∷ xs) (y ∷ ys) zip = All-cons P y ys zip.0 (AllZip-right P xs ys zip.1)

module _ {D B : Type 0} (state : D → DeskState) (bond : D → B) (is_sound : D → Type 0) (turns : Client D → ℕ) (Kept : Client D → Client D → Type 0) where
  -- the agent has taken at most as many turns as it may
  abbrev GoesBy : Client D → Client D → Type 0
  GoesBy c e = Went state bond is_sound (turns c) c e

  abbrev ReadyBy : List (List ℕ) → Client D → Type 0
  ReadyBy names c = IsReady state (turns c) names c

  -- the agents before a place have had their turn, and where none of them moved, each is kept so
  pub record Swept (names : List (List ℕ)) (old now : List (Client D)) (i moved : ℕ) : Type 0 where
    pub before : List (Client D)
    pub after : List (Client D)
    pub rest : List (Client D)
    pub was : old ≡ before ++ rest
    pub is : now ≡ after ++ rest
    pub long : length after ≡ i
    pub went : AllZip GoesBy before after
    pub ready : All (ReadyBy names) rest
    pub few : moved ≤ i
    pub moves : left_in state after + moved ≤ left_in state before
    pub kept : moved ≡ 0 → AllZip Kept before after

  pub swept-none : (names : List (List ℕ)) (old : List (Client D)) → All (ReadyBy names) old → Swept names old old 0 0
  swept-none names old r = record {
    before = [];
    after = [];
    rest = old;
    was = refl;
    is = refl;
    long = refl;
    went = tt;
    ready = r;
    few = omega arith;
    moves = omega arith;
    kept = λ e. tt;
  }

  same-by : (names : List (List ℕ)) (cs : List (Client D)) → All (ReadyBy names) cs → AllZip GoesBy cs cs
  same-by names cs r = AllZip-same GoesBy (ReadyBy names) cs (λ c ready. went-same state bond is_sound (turns c) (turns c) names c ready) r

  -- the agents up to a further place are passed over
  pub swept-skip : (names : List (List ℕ)) (old now : List (Client D)) (i j moved : ℕ) → ((c : Client D) → Kept c c) → Swept names old now i moved
      → i ≤ j → j ≤ length now → Swept names old now j moved
  swept-skip names old now i j moved same s le within =
      let k : ℕ = j - i in let part = take k s.rest in let rest' = drop k s.rest in
      let whole : part ++ rest' ≡ s.rest = take-append-drop k s.rest in
      let many : length now ≡ length s.after + length s.rest = ap length s.is ∙ length-append s.after s.rest in
      let size : length part ≡ k = length-take-le k s.rest (omega (arith, many, s.long, le, within)) in
      let a = left-append state bond is_sound s.before part in let b = left-append state bond is_sound s.after part in
      let long = length-append s.after part in record {
        before = s.before ++ part;
        after = s.after ++ part;
        rest = rest';
        was = s.was ∙ ap (λ (l : List (Client D)). s.before ++ l) (sym whole) ∙ sym (append_assoc s.before part rest');
        is = s.is ∙ ap (λ (l : List (Client D)). s.after ++ l) (sym whole) ∙ sym (append_assoc s.after part rest');
        long = omega (arith, long, size, s.long, le);
        went = AllZip-append GoesBy s.before part s.after part s.went (same-by names part (All-take (ReadyBy names) k s.rest s.ready));
        ready = All-drop (ReadyBy names) k s.rest s.ready;
        few = omega (arith, s.few, le);
        moves = omega (arith, s.moves, a, b);
        kept = λ none. AllZip-append Kept s.before part s.after part (s.kept none)
            (AllZip-same Kept (ReadyBy names) part (λ c ready. same c) (All-take (ReadyBy names) k s.rest s.ready));
      }

  rest-is : (after rest : List (Client D)) (x : Client D) → x ≡ get_or (after ++ rest) (length after) x → length after < length (after ++ rest)
      → (rs : List (Client D)) × (rest ≡ x ∷ rs)
  rest-is after [] x at below = absurd (let a = length-append after [] in omega (arith, a, below))
  rest-is after (r ∷ rs) x at below = (rs, ap (λ (y : Client D). y ∷ rs) (sym (at ∙ get_or-append_seam after r rs x)))

  -- the agent at the place is the next
  next-is : (names : List (List ℕ)) (old now : List (Client D)) (i moved : ℕ) (x : Client D) (s : Swept names old now i moved)
      → x ≡ get_or now i x → i < length now → (rs : List (Client D)) × (s.rest ≡ x ∷ rs)
  next-is names old now i moved x s at below =
      rest-is s.after s.rest x
      (at ∙ ap (λ (l : List (Client D)). get_or l i x) s.is ∙ ap (λ k. get_or (s.after ++ s.rest) k x) (sym s.long))
      (let long = ap length s.is in omega (arith, long, below, s.long))

  -- and it is ready
  pub swept-next : (names : List (List ℕ)) (old now : List (Client D)) (i moved : ℕ) (x : Client D) → Swept names old now i moved
      → x ≡ get_or now i x → i < length now → ReadyBy names x
  swept-next names old now i moved x s at below =
      let n = next-is names old now i moved x s at below in
      All-head (ReadyBy names) x n.0 (subst (All (ReadyBy names)) n.1 s.ready)

  set-next : (names : List (List ℕ)) (old now : List (Client D)) (i moved : ℕ) (x v : Client D) (s : Swept names old now i moved) (rs : List (Client D))
      → s.rest ≡ x ∷ rs → set now i v ≡ s.after ++ v ∷ rs
  set-next names old now i moved x v s rs next =
      ap (λ (l : List (Client D)). set l i v) (s.is ∙ ap (λ (l : List (Client D)). s.after ++ l) next)
      ∙ ap (λ k. set (s.after ++ x ∷ rs) k v) (sym s.long)
      ∙ set-append_seam s.after x rs v

  -- it has made a step
  pub swept-step : (names : List (List ℕ)) (old now : List (Client D)) (i moved b : ℕ) (x v : Client D) → Swept names old now i moved
      → x ≡ get_or now i x → i < length now → b ≤ 1 → GoesBy x v → left_of state v + b ≤ left_of state x → (b ≡ 0 → Kept x v)
      → Swept names old (set now i v) (i + 1) (moved + b)
  swept-step names old now i moved b x v s at below one w less kept =
      let n = next-is names old now i moved x s at below in let rs = n.0 in
      let p = left-push state bond is_sound s.before x in let q = left-push state bond is_sound s.after v in record {
        before = s.before ++ x ∷ [];
        after = s.after ++ v ∷ [];
        rest = rs;
        was = s.was ∙ ap (λ (l : List (Client D)). s.before ++ l) n.1 ∙ sym (append_assoc s.before (x ∷ []) rs);
        is = set-next names old now i moved x v s rs n.1 ∙ sym (append_assoc s.after (v ∷ []) rs);
        long = let l = length-append s.after (v ∷ []) in omega (arith, l, s.long);
        went = AllZip-append GoesBy s.before (x ∷ []) s.after (v ∷ []) s.went (w, tt);
        ready = All-tail (ReadyBy names) x rs (subst (All (ReadyBy names)) n.1 s.ready);
        few = omega (arith, s.few, one);
        moves = omega (arith, s.moves, less, p, q);
        kept = λ none. AllZip-append Kept s.before (x ∷ []) s.after (v ∷ []) (s.kept (omega (arith, none))) (kept (omega (arith, none)), tt);
      }

  -- memory has run out at it
  pub swept-failed : (names : List (List ℕ)) (old now : List (Client D)) (i moved : ℕ) (x v : Client D) → Swept names old now i moved
      → x ≡ get_or now i x → i < length now → GoesBy x v → AllZip GoesBy old (set now i v)
  swept-failed names old now i moved x v s at below w =
      let n = next-is names old now i moved x s at below in let rs = n.0 in
      let was : old ≡ s.before ++ x ∷ rs = s.was ∙ ap (λ (l : List (Client D)). s.before ++ l) n.1 in
      subst (λ (l : List (Client D)). AllZip GoesBy l (set now i v)) (sym was)
      (subst (λ (l : List (Client D)). AllZip GoesBy (s.before ++ x ∷ rs) l) (sym (set-next names old now i moved x v s rs n.1))
      (AllZip-append GoesBy s.before (x ∷ rs) s.after (v ∷ rs) s.went
      (w, same-by names rs (All-tail (ReadyBy names) x rs (subst (All (ReadyBy names)) n.1 s.ready)))))

  rest-none : (after rest : List (Client D)) → length (after ++ rest) ≤ length after → rest ≡ []
  rest-none after [] le = refl
  rest-none after (r ∷ rs) le = absurd (let a = length-append after (r ∷ rs) in omega (arith, a, le))

  -- all have had their turn
  pub record SweptAll (old now : List (Client D)) (moved : ℕ) : Type 0 where
    pub went : AllZip GoesBy old now
    pub moves : left_in state now + moved ≤ left_in state old
    pub kept : moved ≡ 0 → AllZip Kept old now

  pub swept-all : (names : List (List ℕ)) (old now : List (Client D)) (i moved : ℕ) → Swept names old now i moved → length now ≤ i → SweptAll old now moved
  swept-all names old now i moved s le =
      let none : s.rest ≡ [] = rest-none s.after s.rest (let long = ap length s.is in omega (arith, long, le, s.long)) in
      let was : old ≡ s.before = s.was ∙ (ap (λ (l : List (Client D)). s.before ++ l) none ∙ append-nil s.before) in
      let is : now ≡ s.after = s.is ∙ (ap (λ (l : List (Client D)). s.after ++ l) none ∙ append-nil s.after) in
      rw (was, is) record { went = s.went; moves = s.moves; kept = s.kept }

  -- the others are passed over
  pub swept-rest : (names : List (List ℕ)) (old now : List (Client D)) (i moved : ℕ) → ((c : Client D) → Kept c c) → Swept names old now i moved
      → SweptAll old now moved
  swept-rest names old now i moved same s =
      let within : i ≤ length now = let long = ap length s.is ∙ length-append s.after s.rest in omega (arith, long, s.long) in
      swept-all names old now (length now) moved (swept-skip names old now i (length now) moved same s within (omega arith)) (omega arith)

-- a step moves at most once
pub moves-few : (h : Step) → moves_of h ≤ 1
moves-few step.Moved = omega arith
moves-few step.Blocked = omega arith
moves-few step.Ended = omega arith

module _ {D B : Type 0} (state : D → DeskState) (bond : D → B) (is_sound : D → Type 0) where
  -- where all rest, they do so whatever they were
  pub all-rest : (cs es : List (Client D)) → AllZip (λ (c e : Client D). Rests state e) cs es → All (Rests state) es
  all-rest cs es zip = AllZip-right (Rests state) cs es zip

  pub waits-turns : (c : Client D) → Waits state c → turns_of state c ≡ 0
  waits-turns c waits = ap (λ (b : Bool). if b then 0 else 1) waits

  few-turns : (b : Bool) → (if b then 0 else 1) ≤ 1
  few-turns true = omega arith
  few-turns false = omega arith

  -- an agent that didn't move in the first pass can go on in the second
  second-ready : (names : List (List ℕ)) (c d : Client D) → IsReady state 1 names c → Went state bond is_sound 1 c d → Stays state c d
      → IsReady state (turns_of state d) names d
  second-ready names c d r w (inl same) =
      ready-less state bond is_sound 1 (turns_of state d) names d (few-turns (any_pending (state d.desk).log)) (subst (IsReady state 1 names) (sym same) r)
  second-ready names c d r w (inr waits) =
      subst (λ k. IsReady state k names d) (sym (waits-turns d waits)) (ready-after state bond is_sound 1 0 names c d r w)

  second-went : (c d e : Client D) → Went state bond is_sound 1 c d → Stays state c d → Went state bond is_sound (turns_of state d) d e
      → Went state bond is_sound 1 c e
  second-went c d e v (inl same) w =
      subst (λ (x : Client D). Went state bond is_sound 1 x e) same
      (went-more state bond is_sound (turns_of state d) 1 d e (few-turns (any_pending (state d.desk).log)) w)
  second-went c d e v (inr waits) w =
      went-on state bond is_sound 1 0 c d e v (subst (λ k. Went state bond is_sound k d e) (waits-turns d waits) w)

  pub others-ready : (names : List (List ℕ)) (cs ds : List (Client D)) → All (IsReady state 1 names) cs → AllZip (Went state bond is_sound 1) cs ds
      → AllZip (Stays state) cs ds → All (λ (c : Client D). IsReady state (turns_of state c) names c) ds
  others-ready names [] [] r w s = All-nil (λ (c : Client D). IsReady state (turns_of state c) names c)
  others-ready names [] (d ∷ ds) r w s = absurd w
  others-ready names (c ∷ cs) [] r w s = absurd w
  others-ready names (c ∷ cs) (d ∷ ds) r w s =
      All-cons (λ (x : Client D). IsReady state (turns_of state x) names x) d ds
      (second-ready names c d (All-head (IsReady state 1 names) c cs r) w.0 s.0)
      (others-ready names cs ds (All-tail (IsReady state 1 names) c cs r) w.1 s.1)

  -- each has taken at most one turn in both passes
  pub others-went : (cs ds es : List (Client D)) → AllZip (Went state bond is_sound 1) cs ds → AllZip (Stays state) cs ds
      → AllZip (λ (d e : Client D). Went state bond is_sound (turns_of state d) d e) ds es → AllZip (Went state bond is_sound 1) cs es
  others-went [] [] [] v s w = tt
  others-went [] [] (e ∷ es) v s w = absurd w
  others-went [] (d ∷ ds) es v s w = absurd v
  others-went (c ∷ cs) [] es v s w = absurd v
  others-went (c ∷ cs) (d ∷ ds) [] v s w = absurd w
  others-went (c ∷ cs) (d ∷ ds) (e ∷ es) v s w = (second-went c d e v.0 s.0 w.0, others-went cs ds es v.1 s.1 w.1)
