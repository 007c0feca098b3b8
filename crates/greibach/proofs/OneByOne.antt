-- Variables that are renewed one after another.
use Rattle.std.proofs.Common.{◌≡◌, ◌<◌, ◌+◌, ℕ, List, [], ◌∷◌, ◌++◌, length, take, get_or, sym, ap, subst}
use Rattle.std.proofs.lemmas.List.{take_more}
use Rattle.data_theory.specs.declared.ids.NameId.{NameId}
use Rattle.data_theory.specs.declared.ids.SortId.{SortId}
use Rattle.data_theory.specs.declared.ids.VarId.{VarId}
use Rattle.data_theory.specs.Signature.{Sig, with_variable}
use Rattle.data_theory.specs.WholeSignatures.{IsSignature}
use Rattle.lps_core.specs.Fitting.{IsVariable, sort_of_variable}
use Rattle.lps_core.specs.Naming.{name_of, GrowsByNames}
use Rattle.lps_core.proofs.NamedSums.{names_none, names_then, names_variable}
use Rattle.lps_core.proofs.NamingLoops.{name_within}
use Rattle.lps_core.proofs.Staying.{sort_is_within}
use Rattle.greibach.specs.RenewedVariables.{IsRenewed, renewed, AreRenewed, none_renewed, one_more_renewed}

pub is_renewed : (g : Sig) (x : VarId) (n : NameId) (s : SortId) (h : Sig) (y : VarId) → name_of g x ≡ n → sort_of_variable g x ≡ s → h ≡ with_variable g (record { name = n; sort = s }) → y.0 ≡ length g.variables → IsRenewed g x h y
is_renewed g x n s h y p q e l =
    subst (λ z. IsRenewed g x z y) (sym e)
    (subst (λ z. IsRenewed g x (with_variable g (record { name = z; sort = s })) y) p
    (subst (λ z. IsRenewed g x (with_variable g (record { name = name_of g x; sort = z })) y) q
    (subst (λ (z : VarId). IsRenewed g x (with_variable g (record { name = name_of g x; sort = sort_of_variable g x })) z) (ap (λ m. record { 0 = m }) (sym l)) renewed)))

pub renewed_grows : (g : Sig) (x : VarId) (n : NameId) (s : SortId) (h : Sig) → IsSignature g → IsVariable g x → name_of g x ≡ n → sort_of_variable g x ≡ s → h ≡ with_variable g (record { name = n; sort = s }) → GrowsByNames g h
renewed_grows g x n s h is l p q e =
    subst (λ z. GrowsByNames g z) (sym e)
    (names_variable g (record { name = n; sort = s }) is
    (subst (λ (z : NameId). z.0 < length g.texts) p (name_within g x is l))
    (subst (λ (z : SortId). z.0 < length g.sorts) q (sort_is_within g x is.complete l)))

-- the first i of these are renewed
pub record IsRenewing (g : Sig) (vars : List VarId) (i : ℕ) (h : Sig) (others : List VarId) : Type 0 where
  pub on : GrowsByNames g h
  pub so_far : AreRenewed g (take i vars) h others

pub renewing_none : (g : Sig) (vars : List VarId) → IsSignature g → IsRenewing g vars 0 g []
renewing_none g vars s = record { on = names_none g s; so_far = none_renewed }

pub renewing_more : (g : Sig) (vars : List VarId) (i : ℕ) (h : Sig) (others : List VarId) (d : VarId) → IsRenewing g vars i h others → i < length vars
    → (k : Sig) (y : VarId) → GrowsByNames h k → IsRenewed h (get_or vars i d) k y → IsRenewing g vars (i + 1) k (others ++ y ∷ [])
renewing_more g vars i h others d r l k y w n = record {
  on = names_then g h k r.on w;
  so_far = subst (λ z. AreRenewed g z k (others ++ y ∷ [])) (sym (take_more vars i d l)) (one_more_renewed r.so_far n);
}
