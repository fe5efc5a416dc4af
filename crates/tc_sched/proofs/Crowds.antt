-- Many agents, as they make steps.
use Rattle.std.proofs.Common.{◌≡◌, ℕ, ◌+◌, ◌-◌, ◌*◌, ◌<◌, ◌≤◌, List, [], ◌∷◌, ◌++◌, true, All, Some, length, get_or, refl, sym, ap, ◌∙◌, subst, arith}
use Rattle.std.proofs.lemmas.List.Elements.{All-nil, All-cons, All-head, All-tail}
use Rattle.std.proofs.lemmas.List.Sums.{sum_by-append}
use Rattle.std.proofs.lemmas.Map.Keys.{any_passes_from_place}
use Rattle.std.proofs.lemmas.Option.{slice_get-get_or}
use Rattle.tc_desk.specs.Desks.{DeskState, IsPendingRow, Looks}
use Rattle.tc_desk.specs.Logs.{any_pending, is_pending}
use Rattle.tc_desk.specs.declared.desks.Seen.TheVariants as seen
use Rattle.tc_desk.specs.declared.rows.LogRow.{LogRow}
use Rattle.tc_sched.specs.Clients.{Client}
use Rattle.tc_sched.specs.Steps.{AllWent, ArePlaced, IsReady, Moves, Settles, Went, left_in, left_of}

-- a log with a pending row
pub has-pending : (log : List LogRow) (row : LogRow) → IsPendingRow log row → any_pending log ≡ true
has-pending log row is =
    let at = slice_get-get_or log is.stands.0 row is.stands.1 ∙ ap Some is.stands.2 in
    any_passes_from_place (λ (r : LogRow). is_pending r.result) log is.stands.0 row at (ap is_pending is.pending)

-- where a look found the row still pending, it is
pub still-pending : (d e : DeskState) → Looks d seen.StillPending e → any_pending e.log ≡ true
still-pending d e looks = ap any_pending looks.0 ∙ has-pending d.log looks.2.row looks.2.is

module _ {D B : Type 0} (state : D → DeskState) (bond : D → B) (is_sound : D → Type 0) where
  abbrev Go : ℕ → Client D → Client D → Type 0
  Go n c e = Went state bond is_sound n c e

  abbrev AllGo : ℕ → List (Client D) → List (Client D) → Type 0
  AllGo n cs es = AllWent state bond is_sound n cs es

  abbrev AllReady : ℕ → List (List ℕ) → List (Client D) → Type 0
  AllReady n names cs = All (IsReady state n names) cs

  pub went-more : (n m : ℕ) (c e : Client D) → n ≤ m → Go n c e → Go m c e
  went-more n m c e le w = record {
    bound = w.bound;
    agent = w.agent;
    scripts = w.scripts;
    kept = w.kept;
    spent = record { wide = w.spent.wide; fell = w.spent.fell; most = λ k. let s = w.spent.most k in omega (arith, s, le) };
    sound = w.sound;
    left = w.left;
  }

  pub went-same : (n m : ℕ) (names : List (List ℕ)) (c : Client D) → IsReady state m names c → Go n c c
  went-same n m names c r = record {
    bound = refl;
    agent = refl;
    scripts = refl;
    kept = record { names = refl; free = r.free; seen = λ k. omega arith; read = λ h. h };
    spent = record { wide = refl; fell = λ k. omega arith; most = λ k. omega arith };
    sound = λ s. s;
    left = omega arith;
  }

  pub went-on : (n m : ℕ) (c d e : Client D) → Go n c d → Go m d e → Go (n + m) c e
  went-on n m c d e v w = record {
    bound = w.bound ∙ v.bound;
    agent = w.agent ∙ v.agent;
    scripts = w.scripts ∙ v.scripts;
    kept = record {
      names = w.kept.names ∙ v.kept.names;
      free = w.kept.free;
      seen = λ k. let a = v.kept.seen k in let b = w.kept.seen k in omega (arith, a, b);
      read = λ h. w.kept.read (v.kept.read h);
    };
    spent = record {
      wide = w.spent.wide ∙ v.spent.wide;
      fell = λ k. let a = v.spent.fell k in let b = w.spent.fell k in omega (arith, a, b);
      most = λ k. let a = v.spent.most k in let b = w.spent.most k in omega (arith, a, b);
    };
    sound = λ s. w.sound (v.sound s);
    left = let a = v.left in let b = w.left in omega (arith, a, b);
  }

  pub ready-less : (n m : ℕ) (names : List (List ℕ)) (c : Client D) → m ≤ n → IsReady state n names c → IsReady state m names c
  ready-less n m names c le r = record {
    free = r.free;
    names = r.names;
    placed = r.placed;
    turns_left = λ k below. let t = r.turns_left k below in omega (arith, t, le);
  }

  pub ready-after : (n m : ℕ) (names : List (List ℕ)) (c e : Client D) → IsReady state (n + m) names c → Go n c e → IsReady state m names e
  ready-after n m names c e r w = record {
    free = w.kept.free;
    names = w.kept.names ∙ r.names;
    placed = subst (ArePlaced (length names)) (sym w.scripts) r.placed;
    turns_left = λ k below. let t = r.turns_left k below in let s = w.spent.most k in omega (arith, t, s);
  }

  pub all-more : (n m : ℕ) (cs es : List (Client D)) → n ≤ m → AllGo n cs es → AllGo m cs es
  all-more n m [] [] le w = tt
  all-more n m [] (e ∷ es) le w = absurd w
  all-more n m (c ∷ cs) [] le w = absurd w
  all-more n m (c ∷ cs) (e ∷ es) le w = (went-more n m c e le w.0, all-more n m cs es le w.1)

  pub all-same : (n m : ℕ) (names : List (List ℕ)) (cs : List (Client D)) → AllReady m names cs → AllGo n cs cs
  all-same n m names [] r = tt
  all-same n m names (c ∷ cs) r =
      (went-same n m names c (All-head (IsReady state m names) c cs r), all-same n m names cs (All-tail (IsReady state m names) c cs r))

  pub all-on : (n m : ℕ) (cs ds es : List (Client D)) → AllGo n cs ds → AllGo m ds es → AllGo (n + m) cs es
  all-on n m [] [] [] v w = tt
  all-on n m [] [] (e ∷ es) v w = absurd w
  all-on n m [] (d ∷ ds) es v w = absurd v
  all-on n m (c ∷ cs) [] es v w = absurd v
  all-on n m (c ∷ cs) (d ∷ ds) [] v w = absurd w
  all-on n m (c ∷ cs) (d ∷ ds) (e ∷ es) v w = (went-on n m c d e v.0 w.0, all-on n m cs ds es v.1 w.1)

  pub all-less : (n m : ℕ) (names : List (List ℕ)) (cs : List (Client D)) → m ≤ n → AllReady n names cs → AllReady m names cs
  all-less n m names cs le r = λ k d below. ready-less n m names (get_or cs k d) le (r k d below)

  pub all-after : (n m : ℕ) (names : List (List ℕ)) (cs es : List (Client D)) → AllReady (n + m) names cs → AllGo n cs es → AllReady m names es
  all-after n m names [] [] r w = All-nil (IsReady state m names)
  all-after n m names [] (e ∷ es) r w = absurd w
  all-after n m names (c ∷ cs) [] r w = absurd w
  all-after n m names (c ∷ cs) (e ∷ es) r w =
      All-cons (IsReady state m names) e es
      (ready-after n m names c e (All-head (IsReady state (n + m) names) c cs r) w.0)
      (all-after n m names cs es (All-tail (IsReady state (n + m) names) c cs r) w.1)

  pub all-append : (n : ℕ) (cs es cs' es' : List (Client D)) → AllGo n cs es → AllGo n cs' es' → AllGo n (cs ++ cs') (es ++ es')
  all-append n [] [] cs' es' v w = w
  all-append n [] (e ∷ es) cs' es' v w = absurd v
  all-append n (c ∷ cs) [] cs' es' v w = absurd v
  all-append n (c ∷ cs) (e ∷ es) cs' es' v w = (v.0, all-append n cs es cs' es' v.1 w)

  -- what is left in all
  pub left-append : (cs es : List (Client D)) → left_in state (cs ++ es) ≡ left_in state cs + left_in state es
  left-append cs es = sum_by-append (left_of state) cs es

  left-cons : (c : Client D) (cs : List (Client D)) → left_in state (c ∷ cs) ≡ left_of state c + left_in state cs
  left-cons c cs = let a = left-append (c ∷ []) cs in omega (arith, a)

  pub left-push : (cs : List (Client D)) (c : Client D) → left_in state (cs ++ c ∷ []) ≡ left_in state cs + left_of state c
  left-push cs c = let a = left-append cs (c ∷ []) in omega (arith, a)

  pub all-left : (n : ℕ) (cs es : List (Client D)) → AllGo n cs es → left_in state es ≤ left_in state cs
  all-left n [] [] w = omega arith
  all-left n [] (e ∷ es) w = absurd w
  all-left n (c ∷ cs) [] w = absurd w
  all-left n (c ∷ cs) (e ∷ es) w =
      let a = w.0.left in let b = all-left n cs es w.1 in let x = left-cons c cs in let y = left-cons e es in omega (arith, a, b, x, y)

  pub settles-append : (cs es cs' es' : List (Client D)) → Settles state bond is_sound cs es → Settles state bond is_sound cs' es'
      → Settles state bond is_sound (cs ++ cs') (es ++ es')
  settles-append cs es cs' es' s t =
      let a = left-append cs cs' in let b = left-append es es' in let x = s.left in let y = t.left in record {
        left = omega (arith, a, b, x, y);
        went = all-append _ cs es cs' es'
            (all-more _ _ cs es (omega (arith, a, b, x, y)) s.went)
            (all-more _ _ cs' es' (omega (arith, a, b, x, y)) t.went);
      }

  -- so many sweeps were made, of which each moved an agent
  pub record Settling (names : List (List ℕ)) (cs es : List (Client D)) (made : ℕ) : Type 0 where
    pub moved : made + left_in state es ≤ left_in state cs
    pub went : AllGo (left_in state cs - left_in state es) cs es
    pub ready : AllReady (left_in state es + 1) names es

  pub settling-none : (names : List (List ℕ)) (cs : List (Client D)) → AllReady (left_in state cs + 1) names cs → Settling names cs cs 0
  settling-none names cs r = record { moved = omega arith; went = all-same _ _ names cs r; ready = r }

  -- the next sweep can be made
  pub settling-ready : (names : List (List ℕ)) (cs ds : List (Client D)) (made : ℕ) → Settling names cs ds made → AllReady 1 names ds
  settling-ready names cs ds made s = all-less (left_in state ds + 1) 1 names ds (omega arith) s.ready

  -- it was made, whatever it moved
  pub settling-last : (names : List (List ℕ)) (cs ds es : List (Client D)) (made : ℕ) → Settling names cs ds made → AllGo 1 ds es
      → Settles state bond is_sound cs es
  settling-last names cs ds es made s w =
      let m = s.moved in let l = all-left 1 ds es w in record {
        left = omega (arith, m, l);
        went = all-more (left_in state cs - left_in state ds + 1) _ cs es (omega (arith, m, l)) (all-on (left_in state cs - left_in state ds) 1 cs ds es s.went w);
      }

  -- it moved an agent
  pub settling-more : (names : List (List ℕ)) (cs ds es : List (Client D)) (made : ℕ) → Settling names cs ds made → AllGo 1 ds es
      → left_in state es < left_in state ds → Settling names cs es (made + 1)
  settling-more names cs ds es made s w fell =
      let m = s.moved in let V = left_in state es in record {
        moved = omega (arith, m, fell);
        went = all-more (left_in state cs - left_in state ds + 1) (left_in state cs - V) cs es (omega (arith, m, fell)) (all-on (left_in state cs - left_in state ds) 1 cs ds es s.went w);
        ready = all-after 1 (V + 1) names ds es (all-less (left_in state ds + 1) (1 + (V + 1)) names ds (omega (arith, fell)) s.ready) w;
      }

  -- no further one is made
  pub settling-moves : (names : List (List ℕ)) (cs es : List (Client D)) (made : ℕ) → 0 < made → Settling names cs es made → Moves state bond is_sound cs es
  settling-moves names cs es made some s = record { left = let m = s.moved in omega (arith, m, some); went = s.went }

  pub moves-settles : (cs es : List (Client D)) → Moves state bond is_sound cs es → Settles state bond is_sound cs es
  moves-settles cs es m = record { left = let l = m.left in omega (arith, l); went = all-more _ _ cs es (omega arith) m.went }

  -- so far the agents have taken at most three turns each time that one of them moved
  pub record Driving (names : List (List ℕ)) (cs es : List (Client D)) : Type 0 where
    pub left : left_in state es ≤ left_in state cs
    pub went : AllGo (3 * (left_in state cs - left_in state es)) cs es
    pub ready : AllReady (3 * left_in state es + 2) names es

  pub driving-none : (names : List (List ℕ)) (cs : List (Client D)) → AllReady (3 * left_in state cs + 2) names cs → Driving names cs cs
  driving-none names cs r = record { left = omega arith; went = all-same _ _ names cs r; ready = r }

  -- the next round can be made
  pub driving-ready : (names : List (List ℕ)) (cs es : List (Client D)) → Driving names cs es → AllReady (left_in state es + 1) names es
  driving-ready names cs es d = all-less (3 * left_in state es + 2) (left_in state es + 1) names es (omega arith) d.ready

  -- and after it the sweeps of this thread
  pub round-ready : (names : List (List ℕ)) (cs ds es : List (Client D)) → Driving names cs ds → Settles state bond is_sound ds es
      → AllReady (left_in state es + 1) names es
  round-ready names cs ds es d s =
      let U = left_in state ds in let V = left_in state es in let l = s.left in
      all-after (U - V + 1) (V + 1) names ds es (all-less (3 * U + 2) (U - V + 1 + (V + 1)) names ds (omega (arith, l)) d.ready) s.went

  -- how many turns were taken where the round is the last thing done, or the sweeps after it
  pub round-last : (names : List (List ℕ)) (cs ds es : List (Client D)) → Driving names cs ds → Settles state bond is_sound ds es
      → AllGo (3 * left_in state cs + 2) cs es
  round-last names cs ds es d s =
      let T = left_in state cs in let U = left_in state ds in let V = left_in state es in let a = d.left in let b = s.left in
      all-more (3 * (T - U) + (U - V + 1)) (3 * T + 2) cs es (omega (arith, a, b)) (all-on (3 * (T - U)) (U - V + 1) cs ds es d.went s.went)

  pub sweeps-last : (names : List (List ℕ)) (cs ds es fs : List (Client D)) → Driving names cs ds → Settles state bond is_sound ds es
      → Settles state bond is_sound es fs → AllGo (3 * left_in state cs + 2) cs fs
  sweeps-last names cs ds es fs d s t =
      let T = left_in state cs in let U = left_in state ds in let V = left_in state es in let W = left_in state fs in
      let a = d.left in let b = s.left in let e = t.left in
      all-more (3 * (T - U) + (U - V + 1) + (V - W + 1)) (3 * T + 2) cs fs (omega (arith, a, b, e))
      (all-on (3 * (T - U) + (U - V + 1)) (V - W + 1) cs es fs (all-on (3 * (T - U)) (U - V + 1) cs ds es d.went s.went) t.went)

  -- the sweeps moved an agent, so another round follows
  pub driving-more : (names : List (List ℕ)) (cs ds es fs : List (Client D)) → Driving names cs ds → Settles state bond is_sound ds es
      → Moves state bond is_sound es fs → Driving names cs fs
  driving-more names cs ds es fs d s t =
      let T = left_in state cs in let U = left_in state ds in let V = left_in state es in let W = left_in state fs in
      let a = d.left in let b = s.left in let e = t.left in record {
        left = omega (arith, a, b, e);
        went = all-more (3 * (T - U) + (U - V + 1) + (V - W)) (3 * (T - W)) cs fs (omega (arith, a, b, e))
            (all-on (3 * (T - U) + (U - V + 1)) (V - W) cs es fs (all-on (3 * (T - U)) (U - V + 1) cs ds es d.went s.went) t.went);
        ready = all-after (V - W) (3 * W + 2) names es fs
            (all-after (U - V + 1) (V - W + (3 * W + 2)) names ds es
            (all-less (3 * U + 2) (U - V + 1 + (V - W + (3 * W + 2))) names ds (omega (arith, b, e)) d.ready) s.went) t.went;
      }
