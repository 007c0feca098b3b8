-- Signatures that grow by a name and by a variable.
use Rattle.std.proofs.Common.{◌≡◌, ◌<◌, ℕ, List, length, sym, ap, ◌∙◌, subst, arith}
use Rattle.std.proofs.lemmas.List.{length-append}
use Rattle.std.proofs.lemmas.Option.{slice_get_within}
use Rattle.data_theory.specs.declared.ids.NameId.{NameId}
use Rattle.data_theory.specs.declared.signature.Variable.{Variable}
use Rattle.data_theory.specs.Signature.{Sig, with_variable}
use Rattle.data_theory.specs.Fresh.{IsFreshIn}
use Rattle.data_theory.specs.IdTerms.{IsGrown}
use Rattle.term_pool.proofs.DeclaredConstants.{grown_itself}
use Rattle.data_theory.proofs.IdGrowthLemmas.{with_a_text_it_is_grown, with_a_variable_it_is_grown, growth_after_growth_is_growth}

pub grown_same : (g h : Sig) → h ≡ g → IsGrown g h
grown_same g h e = subst (λ k. IsGrown g k) (sym e) (grown_itself g)

module _ (g h : Sig) (base : List ℕ) (name : NameId) (f : IsFreshIn g base name h) where
  pub fresh_grown : IsGrown g h
  fresh_grown = subst (λ k. IsGrown g k) (sym f.taken) (with_a_text_it_is_grown g f.text)

  pub fresh_named : name.0 < length h.texts
  fresh_named = slice_get_within h.texts name.0 f.text f.named

  pub fresh_sorts : h.sorts ≡ g.sorts
  fresh_sorts = ap (λ (k : Sig). k.sorts) f.taken

  pub fresh_variables : h.variables ≡ g.variables
  fresh_variables = ap (λ (k : Sig). k.variables) f.taken

pub variable_grown : (g h k : Sig) (x : Variable) → IsGrown g h → k ≡ with_variable h x → IsGrown g k
variable_grown g h k x w e = growth_after_growth_is_growth g h k w (subst (λ z. IsGrown h z) (sym e) (with_a_variable_it_is_grown h x))

pub texts_longer : (g h : Sig) (n : ℕ) → IsGrown g h → n < length g.texts → n < length h.texts
texts_longer g h n w l = let e = ap length w.texts ∙ length-append g.texts w.new_texts in omega (arith, e, l)
