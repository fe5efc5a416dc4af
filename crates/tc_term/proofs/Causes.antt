-- What is a template or a tuple is not refused.
use Rattle.std.proofs.Common.{◌≡◌, ap, arith}
use Rattle.tc_term.proofs.Numbered.{renumbered-pattern}
use Rattle.tc_term.specs.Ground.{HasTupleCause}
use Rattle.tc_term.specs.Limits.{most_depth}
use Rattle.tc_term.specs.Pattern.{HasExcess}
use Rattle.tc_term.specs.Room.{whole, IsWithin}
use Rattle.tc_term.specs.Tree.{Tree, Fits, IsTuple}
use Rattle.tc_term.specs.TreeView.{tree_of}
use Rattle.tc_term.specs.Variables.{renumbered, IsTemplate, IsPattern}
use Rattle.tc_term.specs.declared.template.NotPattern.{NotPattern}
use Rattle.tc_term.specs.declared.template.NotPattern.TheVariants as excess
use Rattle.tc_term.specs.declared.terms.Term.{Term}
use Rattle.tc_term.specs.declared.tuple.NotTuple.{NotTuple}
use Rattle.tc_term.specs.declared.tuple.NotTuple.TheVariants as cause

-- there is room for what fits
IsWithin-Fits : (t : Tree) → Fits t → IsWithin t most_depth whole
IsWithin-Fits t fits = record { nodes = fits.nodes; depth = fits.depth; name_bytes = fits.name_bytes }

-- a tuple has no cause to be none
pub HasTupleCause-tuple : (t : Term) (why : NotTuple) → IsTuple (tree_of t) → HasTupleCause t why → ⊥
HasTupleCause-tuple t (cause.TooBig u) tuple because = because.1 (IsWithin-Fits (tree_of t) tuple.fits)
HasTupleCause-tuple t (cause.NotGround u) tuple because = let ground = tuple.ground in let other = because.2 in absurd (cc)

-- a template has no cause to be none but want of memory, and then it isn't numbered by first appearance yet
pub HasExcess-template : (t : Term) (why : NotPattern) → IsTemplate (tree_of t) → HasExcess t why →
    (why ≡ excess.NoMemory t) × (renumbered (tree_of t) ≡ tree_of t → ⊥)
HasExcess-template t (excess.TooBig u) template because =
    absurd (because.1 (IsWithin-Fits (tree_of t) template.fits))
HasExcess-template t (excess.TooMany u) template because = absurd (omega (arith, because.2, template.few))
HasExcess-template t (excess.NoMemory u) template because = (ap excess.NoMemory because.0, because.2)

-- so what is numbered has none at all
pub HasExcess-pattern : (t : Term) (why : NotPattern) → IsPattern (tree_of t) → HasExcess t why → ⊥
HasExcess-pattern t why pattern because =
    (HasExcess-template t why pattern.template because).1 (renumbered-pattern (tree_of t) pattern)
