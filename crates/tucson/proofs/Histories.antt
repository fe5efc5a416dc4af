-- The history of each centre, by place.
use Rattle.std.proofs.Common.{◌≡◌, ◌<◌, ◌≤◌, ℕ, zero, suc, List, [], ◌∷◌, All, Some, length, get_or, sym, ap, refl, arith}
use Rattle.std.proofs.lemmas.List.Elements.{All-nil, All-cons, All-head, All-tail}
use Rattle.std.specs.Prelude.{slice_get}
use Rattle.tc_lists.proofs.Sets.{map_same-read}
use Rattle.tc_model.specs.State.{Origin}
use Rattle.tc_model.specs.Typed.{IsTyped}
use Rattle.tc_centre.specs.Centre.{Centre}
use Rattle.tc_config.specs.Configurations.{Configuration, agent_names}
use Rattle.tc_config.specs.Good.{origin_of}
use Rattle.tc_config.specs.declared.configs.CentreConf.{CentreConf}
use Rattle.tc_runner.specs.Cores.{AreCores, histories_of}

some_agent : {X : Type 0} (agents : List X) (cores : List Centre) (i : ℕ) → (length agents ≡ 0 → cores ≡ []) → i < length cores → 0 < length agents
some_agent [] cores i none within = absurd (omega (arith, within, ap length (none refl)))
some_agent (a ∷ agents) cores i none within = omega arith

-- where a core is there, an agent is
pub agents_there : (c : Configuration) (cores : List Centre) (i : ℕ) → (length c.agents ≡ 0 → cores ≡ []) → i < length cores
    → 0 < length c.agents
agents_there c cores i none within = some_agent c.agents cores i none within

-- a core has the names of the agents
pub names_at : (c : Configuration) (cores : List Centre) (i : ℕ) (x : Centre) → AreCores c cores
    → (length c.agents ≡ 0 → cores ≡ []) → i < length cores → x ≡ get_or cores i x → x.origin.agents ≡ agent_names c
names_at c cores i x are none within is =
    let there = map_same-read (λ (y : Centre). y.origin) (origin_of c) cores c.centres i x (are (agents_there c cores i none within)) within is in
    ap (λ (o : Origin). o.agents) there.1

-- the history of a centre that is opened
pub history_opened : (ss : List CentreConf) (cores : List Centre) (i : ℕ) (x : Centre) → i < length ss → i < length cores
    → x ≡ get_or cores i x → slice_get (histories_of ss cores) i ≡ Some x.history
history_opened [] cores i x within there is = absurd (omega arith)
history_opened (s ∷ ss) [] i x within there is = absurd (omega arith)
history_opened (s ∷ ss) (y ∷ ys) zero x within there is = sym (ap (λ (z : Centre). Some z.history) is)
history_opened (s ∷ ss) (y ∷ ys) (suc i) x within there is = history_opened ss ys i x (omega (arith, within)) (omega (arith, there)) is

-- the history of one that isn't
pub history_unopened : (ss : List CentreConf) (cores : List Centre) (i : ℕ) → i < length ss → length cores ≤ i
    → slice_get (histories_of ss cores) i ≡ Some []
history_unopened [] cores i within none = absurd (omega arith)
history_unopened (s ∷ ss) [] zero within none = refl
history_unopened (s ∷ ss) [] (suc i) within none = history_unopened ss [] i (omega (arith, within)) (omega arith)
history_unopened (s ∷ ss) (y ∷ ys) zero within none = absurd (omega (arith, none))
history_unopened (s ∷ ss) (y ∷ ys) (suc i) within none = history_unopened ss ys i (omega (arith, within)) (omega (arith, none))

-- the histories of cores are typed where each of these is
abbrev HasTyped : Centre → Type 0
HasTyped x = All IsTyped x.history

pub histories-typed : (ss : List CentreConf) (cores : List Centre) → All (λ (x : Centre). All IsTyped x.history) cores
    → All (All IsTyped) (histories_of ss cores)
histories-typed [] cores typed = All-nil (All IsTyped)
histories-typed (s ∷ ss) [] typed =
    All-cons (All IsTyped) [] (histories_of ss []) (All-nil IsTyped) (histories-typed ss [] typed)
histories-typed (s ∷ ss) (x ∷ xs) typed =
    All-cons (All IsTyped) x.history (histories_of ss xs) (All-head HasTyped x xs typed) (histories-typed ss xs (All-tail HasTyped x xs typed))
