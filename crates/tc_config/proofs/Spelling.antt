-- What a term tells of the clause that it is written as.
use Rattle.std.proofs.Common.{◌≡◌, ◌≢◌, ℕ, List, Some, None}
use Rattle.tc_term.specs.Tree.{Trees, Compound}
use Rattle.tc_config.specs.Forms.{form_term}
use Rattle.tc_config.specs.Words.{word_name}
use Rattle.tc_config.specs.declared.forms.Form.{Form}
use Rattle.tc_config.specs.declared.forms.Form.TheVariants.{Centre, Tuple, Spec, Role, Grant, Agent, Script}
use Rattle.tc_config.specs.declared.words.Word.{Word}
use Rattle.tc_config.specs.declared.words.Word.TheVariants as word

-- a clause is a compound of a word
pub not_a_word : (name : List ℕ) (ts : Trees) → ((w : Word) → word_name w ≢ name) → (x : Form) → Compound name ts ≡ form_term x → ⊥
not_a_word name ts other (Centre n None) e = other word.Centre (cc)
not_a_word name ts other (Centre n (Some k)) e = other word.Centre (cc)
not_a_word name ts other (Tuple n t) e = other word.Tuple (cc)
not_a_word name ts other (Spec n t) e = other word.Spec (cc)
not_a_word name ts other (Role r) e = other word.Role (cc)
not_a_word name ts other (Grant r n p) e = other word.Grant (cc)
not_a_word name ts other (Agent n r) e = other word.Agent (cc)
not_a_word name ts other (Script n lines) e = other word.Script (cc)
