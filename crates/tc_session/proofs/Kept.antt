-- What calls keep of a desk.
use Rattle.std.proofs.Common.{◌≡◌, true, refl, sym, subst, ◌∙◌, arith}
use Rattle.tc_desk.specs.Desks.{DeskState, Keeps, Spends, Waits}
use Rattle.tc_session.specs.Answers.{KeepsDesk}

-- a desk that is free keeps all of itself
pub kept_same : (d : DeskState) → d.free ≡ true → Keeps d d
kept_same d free = record {
  names = refl;
  free = free;
  seen = λ k. omega arith;
  read = λ read. read;
}

pub kept_both : (d mid e : DeskState) → Keeps d mid → Keeps mid e → Keeps d e
kept_both d mid e first second = record {
  names = second.names ∙ first.names;
  free = second.free;
  seen = λ k. let a = first.seen k in let b = second.seen k in omega arith;
  read = λ read. second.read (first.read read);
}

pub same_desk : (d e : DeskState) → e ≡ d → d.free ≡ true → KeepsDesk d e
same_desk d e is free = subst (λ (m : DeskState). KeepsDesk d m) (sym is) (record {
  kept = kept_same d free;
  turns = record { wide = refl; fell = λ k. omega arith; most = λ k. omega arith };
})

-- one turn at most is one more than the entries that are newly seen
pub one_turn : (d e : DeskState) → Keeps d e → Spends 1 d e → KeepsDesk d e
one_turn d e kept spends = record {
  kept = kept;
  turns = record {
    wide = spends.wide;
    fell = spends.fell;
    most = λ k. let a = kept.seen k in let b = spends.most k in omega arith;
  };
}

pub turns_waited : (d e : DeskState) → Keeps d e → Waits d e → KeepsDesk d e
turns_waited d e kept waits = record {
  kept = kept;
  turns = record { wide = waits.wide; fell = waits.fell; most = waits.most };
}
