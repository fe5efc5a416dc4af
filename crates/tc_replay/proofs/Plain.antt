-- What a goal without an effect does.
use Rattle.std.proofs.Common.{◌≡◌, ℤ, Some, false, sym, ap, ◌∙◌}
use Rattle.std.proofs.lemmas.Bool.{true≢false}
use Rattle.tc_term.specs.Tree.{Tree, Number}
use Rattle.tc_term.specs.TreeView.{tree_of}
use Rattle.tc_term.specs.Arithmetic.{evaluated}
use Rattle.tc_term.proofs.Solutions.{HasValue-unique}
use Rattle.tc_model.specs.Choices.{AnyOne}
use Rattle.tc_model.specs.Goals.{Scene, Moment, Move, Nothing, Equates, Does, moved, width, Evaluates}
use Rattle.tc_model.specs.declared.goals.Goal.{Goal}
use Rattle.tc_model.specs.declared.goals.Goal.TheVariants.{OutR, InR, RdR, NoR, Pre, Post, Success, Failure, True, Agent, Centre, Operation, Tuple, Equal, Differ, Is, Compare}
use Rattle.tc_replay.specs.Following.{has_effect}

-- two moves that are the same one
same_move : (m : Moment) (a b c : Move) → a ≡ c → b ≡ c → moved a m ≡ moved b m
same_move m a b c x y = ap (λ w. moved w m) (x ∙ sym y)

module _ (scene : Scene) where
  evaluates_same : (m : Moment) (t : Tree) (i j : ℤ) → Evaluates scene m t i → Evaluates scene m t j → i ≡ j
  evaluates_same m t i j h k =
      let same = HasValue-unique (width scene) m.pairs t h.value k.value h.is k.is in
      let some : Some i ≡ Some j = sym h.evaluates ∙ ap evaluated same ∙ k.evaluates in
      cc

  -- a goal without an effect does one thing
  pub plain_one : (g : Goal) → has_effect g ≡ false → (m : Moment) (a b : Move) → Does AnyOne scene g m a → Does AnyOne scene g m b → moved a m ≡ moved b m
  plain_one (OutR t) plain m a b x y = absurd (true≢false plain)
  plain_one (InR t) plain m a b x y = absurd (true≢false plain)
  plain_one (RdR t) plain m a b x y = absurd (true≢false plain)
  plain_one (NoR t) plain m a b x y = same_move m a b Nothing x.1 y.1
  plain_one Pre plain m a b x y = same_move m a b Nothing x.1 y.1
  plain_one Post plain m a b x y = same_move m a b Nothing x.1 y.1
  plain_one Success plain m a b x y = same_move m a b Nothing x.1 y.1
  plain_one Failure plain m a b x y = same_move m a b Nothing x.1 y.1
  plain_one True plain m a b x y = same_move m a b Nothing x y
  plain_one (Agent t) plain m a b x y = ap (λ w. moved w m) (x ∙ sym y)
  plain_one (Centre t) plain m a b x y = ap (λ w. moved w m) (x ∙ sym y)
  plain_one (Operation t) plain m a b x y = ap (λ w. moved w m) (x ∙ sym y)
  plain_one (Tuple t) plain m a b x y = ap (λ w. moved w m) (x ∙ sym y)
  plain_one (Equal s t) plain m a b x y = ap (λ w. moved w m) (x ∙ sym y)
  plain_one (Differ s t) plain m a b x y = same_move m a b Nothing x.1 y.1
  plain_one (Is s t) plain m a b x y =
      ap (λ w. moved w m) (x.2 ∙ (ap (λ i. Equates (tree_of s) (Number i)) (evaluates_same m (tree_of t) x.0 y.0 x.1 y.1) ∙ sym y.2))
  plain_one (Compare op s t) plain m a b x y = same_move m a b Nothing x.5 y.5
