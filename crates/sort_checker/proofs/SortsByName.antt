-- The sorts of names in a signature.
use Rattle.std.proofs.Common.{◌≡◌, ◌<◌, Bool, true, false, cond, List, [], ◌∷◌, length, refl, ap, ◌∙◌, subst}
use Rattle.std.specs.Prelude.{None, Some, map, bytes_eq}
use Rattle.std.specs.List.{All, Contains}
use Rattle.std.proofs.lemmas.List.Elements.{All-head, All-tail, All-contains, Contains-get_or}
use Rattle.std.proofs.lemmas.Slice.Eq.{bytes_eq-Decides}
use Rattle.data_theory.specs.declared.ids.NameId.{NameId}
use Rattle.data_theory.specs.declared.ids.SortId.{SortId}
use Rattle.data_theory.specs.IdTerms.{sort_under}
use Rattle.data_theory.specs.Signature.{Sig}
use Rattle.data_theory.specs.SortNames.{IsSortName}
use Rattle.data_theory.specs.WholeSignatures.{IsSignature}
use Rattle.sort_table.specs.Expressions.{Name}
use Rattle.sort_table.specs.NamedLists.{first_named}
use Rattle.sort_table.specs.SignatureVocabularies.{text_under, sort_name_under}

abbrev IsNameWithin : Sig → NameId × SortId → Type 0
IsNameWithin g e = (e.0.0 < length g.texts) × (e.1.0 < length g.sorts)

pub sort_within : (g : Sig) → IsSignature g → (n : NameId) (s : SortId) → IsSortName g.sort_names n s → s.0 < length g.sorts
sort_within g is n s there = (All-contains (IsNameWithin g) g.sort_names (n, s) is.complete.within.sort_names there).1

none_of : (g : Sig) (n : Name) → ¬ (Contains g.texts n) → (es : List (NameId × SortId)) → All (IsNameWithin g) es → first_named n (map (sort_name_under g) es) ≡ None
none_of g n absent [] all = refl
none_of g n absent (e ∷ es) all = by_test (none_of g n absent es (All-tail (IsNameWithin g) e es all)) (bytes_eq (text_under g e.0) n) refl
  where
    by_test : first_named n (map (sort_name_under g) es) ≡ None → (b : Bool) → bytes_eq (text_under g e.0) n ≡ b → first_named n (map (sort_name_under g) (e ∷ es)) ≡ None
    by_test later true told = absurd (absent (subst (Contains g.texts) ((bytes_eq-Decides (text_under g e.0) n).0 told) (Contains-get_or g.texts e.0.0 [] (All-head (IsNameWithin g) e es all).0)))
    by_test later false told = ap (λ (b : Bool). cond b (Some (sort_under g e.1)) (first_named n (map (sort_name_under g) es))) told ∙ later

-- a name that isn't among the texts has no sort
pub no_text : (g : Sig) → IsSignature g → (n : Name) → ¬ (Contains g.texts n) → first_named n (map (sort_name_under g) g.sort_names) ≡ None
no_text g is n absent = none_of g n absent g.sort_names is.complete.within.sort_names
