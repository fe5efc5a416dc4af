-- Pieces of a text: what is added where the text is read to them, or why they are refused.
use Rattle.std.proofs.Common.{◌≡◌, ◌<◌, ◌+◌, ℕ, inr, Some, None, List, refl, subst, arith}
use Rattle.tc_term.specs.Faults.{Found}
use Rattle.tc_term.specs.Tree.{Tree}
use Rattle.tc_read.specs.Clauses.{AnswersAt}
use Rattle.tc_config.specs.Answers.{IsFaultAt}
use Rattle.tc_config.specs.Causes.{HasCause, rank}
use Rattle.tc_config.specs.Configurations.{Configuration}
use Rattle.tc_config.specs.Drafts.{AddsClause, config_of}
use Rattle.tc_config.specs.Forms.{IsFormOf, IsFormed}
use Rattle.tc_config.specs.Meanings.{ClauseMakes}
use Rattle.tc_config.specs.Pieces.{IsPieceOf, IsReadTo}
use Rattle.tc_config.specs.declared.draft.Draft.{Draft}
use Rattle.tc_config.specs.declared.faults.ConfigCause.{ConfigCause}
use Rattle.tc_config.specs.declared.faults.ConfigCause.TheVariants as cause
use Rattle.tc_config.specs.declared.faults.ConfigFault.TheVariants.{Bad}
use Rattle.tc_config.specs.declared.forms.Form.{Form}
use Rattle.tc_config.specs.declared.pieces.Piece.{Piece}
use Rattle.tc_config.proofs.Onward.{read_more}

-- where the text is read to the piece, this is its next clause
pub found_here : (text : List ℕ) (from : ℕ) (p : Piece) (piece : IsPieceOf text p) → p.from ≡ from
    → AnswersAt text from (Found piece.term p.behind)
found_here text from p piece here = subst (λ k. AnswersAt text k (Found piece.term p.behind)) here piece.found

-- a piece of some form is added
pub more_read : (text : List ℕ) (from count : ℕ) (p : Piece) (x : Form) (d e : Draft) → IsReadTo text from count (config_of d)
    → IsPieceOf text p → p.from ≡ from → p.form ≡ Some x → AddsClause p.vars x d e
    → IsReadTo text p.behind (count + 1) (config_of e)
more_read text from count p x d e read piece here is adds =
    read_more text from count p.behind (config_of d) (config_of e) piece.term read (found_here text from p piece here) (record {
      form = x;
      written = subst (IsFormed piece.term) is piece.formed;
      right = adds.right;
      makes = subst (λ vars. ClauseMakes (config_of d) vars x (config_of e)) piece.vars adds.makes;
    }) (subst (λ k. k < p.behind) here piece.further) piece.inside

-- a term of no form has no earlier cause
formless_first : (c : Configuration) (t : Tree) → ((x : Form) → IsFormOf x t → ⊥) → (other : ConfigCause)
    → rank other < rank cause.Shape → HasCause c t other → ⊥
formless_first c t none cause.Shape less h = absurd (omega (arith, less))
formless_first c t none cause.Syntax less h = none h.0 h.1
formless_first c t none cause.Size less h = none h.0 h.1
formless_first c t none cause.Reaction less h = none h.0 h.1
formless_first c t none cause.UnknownCentre less h = none h.0 h.1
formless_first c t none cause.UnknownRole less h = none h.0 h.1
formless_first c t none cause.UnknownAgent less h = none h.0 h.1
formless_first c t none cause.Twice less h = none h.0 h.1
formless_first c t none cause.NotGround less h = none h.0 h.1
formless_first c t none cause.Count less h = none h.0 h.1
formless_first c t none cause.Length less h = none h.0 h.1

-- a piece of no form is refused for its shape
pub shapeless : (text : List ℕ) (from count : ℕ) (c : Configuration) (p : Piece) → IsPieceOf text p → p.from ≡ from
    → p.form ≡ None → IsFaultAt text from count c (Bad (count + 1) cause.Shape)
shapeless text from count c p piece here is =
    let none : (x : Form) → IsFormOf x piece.term → ⊥ = subst (IsFormed piece.term) is piece.formed in (
      refl,
      inr (
        piece.term,
        p.behind,
        found_here text from p piece here,
        record {
          has = none;
          first = formless_first c piece.term none;
        },
      ),
    )
