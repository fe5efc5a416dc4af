-- The view of a seat after each step: each changes only the fields that its definition names.
use Rattle.std.specs.Prelude.{ℕ, ◌+◌, ◌-◌, ◌*◌, List, [], ◌∷◌, false, true, Option, None, Some, unwrap_or}
use Rattle.tc_turn.specs.declared.view.View.{View}
use Rattle.tc_turn.specs.declared.view.PassRecord.{PassRecord}

-- the number after this one
abbrev pub number_after : Option ℕ → Option ℕ
number_after None = None
number_after (Some n) = Some (n + 1)

module _ {E O : Type 0} where
  -- the view of a seat that is nobody's
  abbrev pub blank_view : View E O
  blank_view = record {
    origin = None;
    number = None;
    seen = [];
    mine = [];
    floor = 0;
    turns = 0;
    ticket = None;
    on_turn = false;
    next = None;
    share = 0;
    ended = [];
  }

  -- the maker's view at first: it has the turns of all passes
  abbrev pub maker_view : O → ℕ → ℕ → View E O
  maker_view origin passes share =
      record blank_view { origin = Some origin; turns = passes * share; next = Some 0; share = share }

  -- the maker's view after it has made a pass
  abbrev pub rest_view : View E O → View E O
  rest_view v = record v { turns = v.turns - v.share; next = number_after v.next }

  -- the view of the pass that the maker makes
  abbrev pub pass_view : View E O → View E O
  pass_view v = record blank_view { origin = v.origin; number = v.next; turns = v.share }

  -- the view with this ticket, for one of its turns
  abbrev pub with_ticket : View E O → ℕ → View E O
  with_ticket v t = record v { turns = v.turns - 1; ticket = Some t }

  -- the view on turn, which knows this history
  abbrev pub with_turn : View E O → List E → View E O
  with_turn v history = record v { seen = history; on_turn = true }

  -- the view that knows this history, of which these entries are its own
  abbrev pub with_entries : View E O → List E → List E → View E O
  with_entries v history own = record v { seen = history; mine = own }

  -- the view without a ticket and a turn
  abbrev pub without_turn : View E O → View E O
  without_turn v = record v { ticket = None; on_turn = false }

  -- the view that has read this count
  abbrev pub with_floor : View E O → ℕ → View E O
  with_floor v n = record v { floor = n }

  -- what is kept of a pass that ends with this view
  abbrev pub record_of : View E O → PassRecord E
  record_of v = record { number = unwrap_or v.number 0; seen = v.seen; mine = v.mine }

  -- the view v with the record and the turns of a pass that ends with the view w
  abbrev pub with_ended : View E O → View E O → View E O
  with_ended v w = record v { turns = v.turns + w.turns; ended = record_of w ∷ v.ended }
