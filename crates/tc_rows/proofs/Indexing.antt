-- Indexes of histories, one after another.
use Rattle.std.proofs.Common.{◌≡◌, ℕ, ◌<◌, List, [], ◌∷◌, ◌++◌, Some, length, slice_get, sym, subst, ap, ◌∙◌, ⊎_elim}
use Rattle.std.proofs.lemmas.Option.{same_Some}
use Rattle.tc_lists.proofs.Places.{slice_get_push}
use Rattle.tc_config.specs.Configurations.{Configuration}
use Rattle.tc_config.specs.Good.{origin_of}
use Rattle.tc_config.specs.declared.configs.CentreConf.{CentreConf}
use Rattle.tc_model.specs.declared.entries.Entry.{Entry}
use Rattle.tc_rows.specs.Index.{IsIndexed}
use Rattle.tc_rows.specs.declared.index.CentreIndex.{CentreIndex}

-- each is that of the history at its place
abbrev pub AreIndexed : Configuration → List (List Entry) → List CentreIndex → Type 0
AreIndexed c histories indexes =
    (k : ℕ) (centre : CentreConf) (history : List Entry) (indexed : CentreIndex)
    → slice_get c.centres k ≡ Some centre → slice_get histories k ≡ Some history
    → slice_get indexes k ≡ Some indexed → IsIndexed (origin_of c centre) history indexed

-- the next one behind the others
pub indexed-more : (c : Configuration) (histories : List (List Entry)) (olds news : List CentreIndex) (x : CentreIndex)
    (centre : CentreConf) (history : List Entry) → AreIndexed c histories olds → news ≡ olds ++ x ∷ []
    → slice_get c.centres (length olds) ≡ Some centre → slice_get histories (length olds) ≡ Some history
    → IsIndexed (origin_of c centre) history x → AreIndexed c histories news
indexed-more c histories olds news x centre history are is atc ath here k other old indexed otherc otherh at =
    ⊎_elim
    (λ (before : (k < length olds) × (slice_get olds k ≡ Some indexed)). are k other old indexed otherc otherh before.1)
    (λ (last : (k ≡ length olds) × (indexed ≡ x)).
    let centre_is : centre ≡ other = same_Some centre other (sym atc ∙ (ap (slice_get c.centres) (sym last.0) ∙ otherc)) in
    let history_is : history ≡ old = same_Some history old (sym ath ∙ (ap (slice_get histories) (sym last.0) ∙ otherh)) in
    subst (λ (i : CentreIndex). IsIndexed (origin_of c other) old i) (sym last.1)
    (subst (λ (h : List Entry). IsIndexed (origin_of c other) h x) history_is
    (subst (λ (s : CentreConf). IsIndexed (origin_of c s) history x) centre_is here)))
    (slice_get_push olds x k indexed (subst (λ (is : List CentreIndex). slice_get is k ≡ Some indexed) is at))
