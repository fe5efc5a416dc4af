use Rattle.std.proofs.Common.{◌≡◌, ℕ, false, if◌then◌else◌, List, length, None, ◌∙◌, ap}
use Rattle.std.specs.List.{position}
use Rattle.std.specs.Str.{bytes_eq}
use Rattle.std.proofs.lemmas.List.{length-map}
use Rattle.tc_term.specs.Faults.{is_anonymous, number_by, number_of}
use Rattle.tc_read.specs.declared.variables.Variables.{Variables}
use Rattle.tc_read.specs.Variables.{names_view}
use Rattle.tc_lists.proofs.Positions.{position-map}

pub position_known : (variables : Variables) (name : List ℕ) → position (bytes_eq name) (names_view variables) ≡ position (λ known. bytes_eq name known.now) variables.known.items
position_known variables name = position-map (λ known. known.now) (bytes_eq name) variables.known.items

pub number_new : (variables : Variables) (name : List ℕ) → is_anonymous name ≡ false → position (λ known. bytes_eq name known.now) variables.known.items ≡ None → number_of (names_view variables) name ≡ length variables.known.items
number_new variables name e f =
    ap (λ b. if b then length (names_view variables) else number_by (names_view variables) (position (bytes_eq name) (names_view variables))) e
    ∙ ap (number_by (names_view variables)) (position_known variables name ∙ f)
    ∙ length-map variables.known.items (λ known. known.now)
