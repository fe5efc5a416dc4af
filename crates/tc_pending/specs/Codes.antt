-- Codes of templates, by which most requests that don't ask for a tuple are passed over.
use Rattle.std.specs.Prelude.{◌≡◌, ℕ, ◌⊎◌, List, map}
use Rattle.tc_lists.specs.Codes.{mixed}
use Rattle.tc_term.specs.Tree.{Tree, Variable, Atomic, Number, Compound}
use Rattle.tc_bag.specs.Codes.{top_code}
use Rattle.tc_bag.specs.Keys.{first_of}
use Rattle.tc_model.specs.declared.calls.Request.{Request}
use Rattle.tc_model.specs.declared.calls.Wants.{Wants}
use Rattle.tc_model.specs.declared.calls.Wants.TheVariants.{Take, Look, Absence}
use Rattle.tc_pending.specs.declared.codes.TheConstants.{CODE_OF_ABSENCE}

-- a code with that of a first argument, where this is no variable
abbrev pub with_first : ℕ → Tree → ℕ
with_first top (Variable n) = top
with_first top (Atomic name) = mixed top (top_code (Atomic name))
with_first top (Number n) = mixed top (top_code (Number n))
with_first top (Compound name args) = mixed top (top_code (Compound name args))

-- the code of a term with its first argument
abbrev pub code_of : Tree → ℕ
code_of (Variable n) = 0
code_of (Atomic name) = top_code (Atomic name)
code_of (Number n) = top_code (Number n)
code_of (Compound name args) = with_first (top_code (Compound name args)) (first_of args)

-- a template of this code may match the tuple
abbrev pub MayMatch : ℕ → Tree → Type 0
MayMatch code tuple = (code ≡ 0) ⊎ (code ≡ top_code tuple) ⊎ (code ≡ code_of tuple)

-- the code for what is wanted, of a template or a part of it: where absence is wanted it is
-- another
abbrev pub code_for : Wants → ℕ → ℕ
code_for Take code = code
code_for Look code = code
code_for Absence code = mixed CODE_OF_ABSENCE code

-- the code of a request
abbrev pub request_code : Request → ℕ
request_code r = code_for r.wants (code_of r.template)

-- the codes of requests
abbrev pub codes_of : List Request → List ℕ
codes_of requests = map request_code requests
