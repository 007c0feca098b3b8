use Rattle.std.proofs.Common.{◌∙◌, ap, subst}
use Rattle.data_theory.specs.Sorts.{IsAnyListOver}
use Rattle.data_theory.specs.SignatureView.{sig_of}
use Rattle.data_theory.specs.WholeSignatures.{IsSignature}
use Rattle.data_theory.specs.Signature.{Sig, with_list}
use Rattle.data_theory.proofs.CompleteLemmas.{list_rows_fit, list_added}
use Rattle.data_theory.proofs.WholeSignatureLemmas.{signature_as, list_stands}
use Rattle.data_theory.proofs.ListSortLemmas.{list_last}
use Rattle.data_theory.proofs.signature.Signature.add_list.Goals as goal

pub add_rows-requires : goal.add_rows-requires
add_rows-requires c =
    let fit = list_rows_fit (sig_of c.self.inside) c.self.invariant.complete c.args.element c.len.result c.len.ensures c.deref.result.now (c.deref.ensures.value ∙ c.in_ok-rows.ensures) in
    record { named = fit.0; new = fit.1 }

pub invariant_of-self-in-Ok-1 : goal.invariant_of-self-in-Ok-1
invariant_of-self-in-Ok-1 c =
    signature_as (with_list c.args.self.now c.args.element) _ (list_stands c.args.self.now c.args.element (subst IsSignature c.self.view_is c.self.invariant) c.requires (subst (λ (s : Sig). IsAnyListOver s.sorts c.args.element → ⊥) c.self.view_is c.in_default.ensures))
    (list_added (sig_of c.self.inside) c.args.element c.len.result c.deref.result.now c.push_list.new.self c.add_rows.new.functions c.len.ensures (c.deref.ensures.value ∙ c.in_ok-rows.ensures) c.in-Ok.ensures.pushed c.in_ok-add_rows.ensures.added
    ∙ ap (λ s. with_list s c.args.element) c.self.view_is)

pub returns-clause-list : goal.returns-clause-list
returns-clause-list c = list_last c.self.inside.sorts c.push_list.new.self c.args.element c.in-Ok.list c.in-Ok.ensures.pushed c.in-Ok.ensures.number
