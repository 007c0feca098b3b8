-- Names that are taken and are identifiers.
use Rattle.std.proofs.Common.{◌≡◌, ℕ, List, length, Some, sym, ap, subst, ◌∙◌}
use Rattle.std.specs.Prelude.{slice_get, Contains}
use Rattle.std.proofs.lemmas.Option.{same_Some}
use Rattle.data_theory.specs.declared.ids.NameId.{NameId}
use Rattle.data_theory.specs.declared.ids.SortId.{SortId}
use Rattle.data_theory.specs.declared.ids.VarId.{VarId}
use Rattle.data_theory.specs.declared.signature.Variable.{Variable}
use Rattle.data_theory.specs.Fresh.{IsFreshIn}
use Rattle.data_theory.specs.Signature.{Sig, with_variable}
use Rattle.data_theory.specs.IdTerms.{IsGrown}
use Rattle.term_pool.proofs.DeclaredConstants.{still_read}
use Rattle.lps_core.specs.Fitting.{HasTakenName}
use Rattle.lps_core.specs.Naming.{name_of}
use Rattle.lps_core.proofs.NamedSums.{last_variable}
use Rattle.greibach.specs.Surroundings.{IsIdentifier, HasUsableName}
use Rattle.greibach.proofs.FreshIdentifiers.{fresh_identifier}

-- a variable with the name that another one had
pub still_usable : (g h : Sig) (v w : VarId) → IsGrown g h → name_of h w ≡ name_of g v → HasTakenName h w → HasUsableName g v → HasUsableName h w
still_usable g h v w grown same taken u = record {
  taken = taken;
  text = u.text;
  named = subst (λ (n : NameId). slice_get h.texts n.0 ≡ Some u.text) (sym same) (still_read g.texts h.texts grown.new_texts grown.texts (name_of g v).0 u.text u.named);
  identifier = u.identifier;
}

-- a new one under the fresh name to the name of another one
pub fresh_usable : (g j : Sig) (x : VarId) (base : List ℕ) (name : NameId) (s : SortId) → slice_get g.texts (name_of g x).0 ≡ Some base → IsFreshIn g base name j → HasUsableName g x
    → HasTakenName (with_variable j (record { name = name; sort = s })) (record { 0 = length j.variables }) → HasUsableName (with_variable j (record { name = name; sort = s })) (record { 0 = length j.variables })
fresh_usable g j x base name s at f u taken =
    let v : Variable = record { name = name; sort = s } in
    let new_name : name_of (with_variable j v) (record { 0 = length j.variables }) ≡ name = ap (λ (y : Variable). y.name) (last_variable j v (record { name = record { 0 = 0 }; sort = record { 0 = 0 } })) in
    let same : u.text ≡ base = same_Some u.text base (sym u.named ∙ at) in
    record {
      taken = taken;
      text = f.text;
      named = subst (λ (n : NameId). slice_get j.texts n.0 ≡ Some f.text) (sym new_name) f.named;
      identifier = subst IsIdentifier (sym f.fresh.named) (fresh_identifier base (subst IsIdentifier same u.identifier) f.fresh.number);
    }
